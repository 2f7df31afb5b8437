-- Which ports of a recorder have just started: what the operations leave is what the events of a port alone do. Assumes nothing.
use Prim.Native.Nat.{ℕ}
use native.Mathlib.Omega.{arith}
use mathlib.Core.Path.{◌≡◌, refl, ◌∙◌}
use mathlib.Core.Bool.{Bool, true, false}
use mathlib.Core.List.{List}
use lib.ListN.{length}
use Rattle.std.specs.Prelude.{if◌then◌else◌}
use Rattle.tlv.specs.declared.Refusal.TheVariants.{InvalidSetting, NoPort}
use Rattle.tlv.specs.Refusals.{refusal_number}
use Rattle.parameters.specs.declared.Feature.{Feature}
use Rattle.port.specs.declared.Port.{Port}
use Rattle.feature.specs.declared.Switches.{Switches}
use Rattle.notices.specs.Notices.{PortNumber, is_port}
use Rattle.notices.proofs.PortLaws.{port_is}
use Rattle.port.specs.declared.Flag.{Flag}
use Rattle.port.specs.declared.Flag.TheVariants.{Several}
use Rattle.port.specs.declared.Versions.{Versions}
use Rattle.events.specs.PortEvents.{refused}
use Rattle.creation.specs.Creation.{made, created_port, settings_valid, versions_for, switches_for, parameters_for}
use Rattle.flags.specs.Flags.{flagged, peer_gone}
use Rattle.creation.specs.Creation as creation
use Rattle.port.specs.Replies.{event_reply}
use Rattle.invariants.proofs.Standing.{Standing}
use Rattle.recorder.specs.declared.Recorder.{Recorder}
use Rattle.recorder.specs.Recorder.{port_at, happens, changed, created}
use Rattle.calls.specs.Calls.{create, gone, flag, event_of, after_at, reply_at}
use Rattle.calls.specs.Sound.{InRange, SoundRecorder}
use Rattle.calls.proofs.Independent.{four_after, own_after}
use Rattle.calls.proofs.Reachable.{versions_small, reachable_sound}
use Rattle.exchange.specs.Demand3.{JustStarted}
use Rattle.exchange.specs.Starting.{Restarts, Starting}
use Rattle.exchange.proofs.Restarts.{gone_starts, flag_starts, several_starts, created_starts}

-- ---- what an operation leaves of its port

module _ (n : ℕ) (p : PortNumber n) (r : Recorder) (four : length r.ports ≡ 4) where
  gone_leaves : port_at (after_at r n gone) n ≡ (peer_gone (port_at r n)).port
  unfolding event_of changed happens
  gone_leaves = own_after r four n gone ∙ rw (port_is n p) refl

  gone_answers : reply_at r n gone ≡ event_reply (peer_gone (port_at r n)).answer
  unfolding reply_at event_of changed happens
  gone_answers = rw (port_is n p) refl

  flag_leaves : (x : Flag) (on : Bool) → port_at (after_at r n (flag x on)) n ≡ (flagged x on (port_at r n)).port
  unfolding event_of changed happens
  flag_leaves x on = own_after r four n (flag x on) ∙ rw (port_is n p) refl

-- ---- the theorem

module _ (r : Recorder) (h : SoundRecorder r) (n : ℕ) where
  stands : Standing (port_at r n)
  stands = record { sound = h.ports n; steps = h.steps n; stopped = h.stopped n }

  restarts_by : PortNumber n → (port_at r n).several ≡ false → Restarts r n
  restarts_by p single =
      record {
        gone = λ e. rw (gone_leaves n p r h.four) (gone_starts (port_at r n) stands single (rw (gone_answers n p r h.four) at e));
        flag = λ x on stopped e. rw (flag_leaves n p r h.four x on) (flag_starts (port_at r n) stands single x on stopped (rw (flag_leaves n p r h.four x on) at e));
        several = λ e.
            rw (flag_leaves n p (after_at r n (flag Several true)) (four_after r n (flag Several true) ∙ h.four) Several false, flag_leaves n p r h.four Several true)
            (several_starts (port_at r n) stands single e);
        fresh = λ e f. record { sound = h.ports n; runs = e; single = single; fresh = f };
      }

  created_by : (v : Versions) (w : Feature → Switches) (o : Feature → List ℕ) → InRange (create v w o) → (reply_at r n (create v w o)).number ≡ 0
      → JustStarted (port_at (after_at r n (create v w o)) n)
  unfolding reply_at event_of created creation.created creation.created_with refusal_number
  created_by v w o k e = rw (own_after r h.four n (create v w o)) (by (is_port n) (settings_valid taken) refl e)
    where
      taken : Feature → List ℕ
      taken = parameters_for v.revision o

      made_port : Port
      made_port = created_port (versions_for v) (switches_for v.revision w) taken

      by : (a b : Bool) → settings_valid taken ≡ b
          → (event_reply (if a then if b then made (port_at r n) made_port else refused InvalidSetting (port_at r n) else refused NoPort (port_at r n)).answer).number ≡ 0
          → JustStarted (if a then if b then made (port_at r n) made_port else refused InvalidSetting (port_at r n) else refused NoPort (port_at r n)).port
      by true true good e =
          created_starts (versions_for v) (switches_for v.revision w) taken k.0 (versions_small v k.1) good (λ t. (rw t refl, rw t refl, rw t refl))
      by true false good e = absurd (omega arith)
      by false b good e = absurd (omega arith)

pub starting : Starting
starting =
    record {
      created = λ r h n. created_by r (reachable_sound r h) n;
      again = λ r h n. restarts_by r (reachable_sound r h) n;
    }
