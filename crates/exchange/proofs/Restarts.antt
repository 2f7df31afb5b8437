-- Which ports have just started: one that is created, and one that goes to the fresh state, running and with one neighbour.
-- Assumes nothing.
use Prim.Native.Nat.{ℕ, ◌<◌}
use native.Mathlib.Omega.{arith}
use mathlib.Core.Path.{◌≡◌, refl, sym, ap, ◌∙◌}
use mathlib.Core.Bool.{Bool, true, false, not, beq, false≢true}
use mathlib.Core.List.{List, []}
use Rattle.std.specs.Prelude.{if◌then◌else◌}
use Rattle.tlv.specs.declared.Refusal.TheVariants.{NotRunning}
use Rattle.tlv.specs.Refusals.{refusal_number}
use Rattle.tlv.specs.Revisions.{has_applications}
use Rattle.parameters.specs.declared.Feature.{Feature}
use Rattle.parameters.specs.declared.Feature.TheVariants.{Applications}
use Rattle.feature.specs.declared.Switches.{Switches}
use Rattle.machine.specs.State.{next, stopped}
use Rattle.port.specs.declared.Flag.{Flag}
use Rattle.port.specs.declared.Flag.TheVariants.{Admin, Receive, Transmit, Several}
use Rattle.port.specs.declared.Port.{Port}
use Rattle.port.specs.declared.Versions.{Versions}
use Rattle.port.specs.Types.{Raised}
use Rattle.port.specs.Parts.{switched_off, feature_of, max_of, with_control, with_features, release, flag_of, with_flag, running}
use Rattle.sending.specs.Sending.{with_seq, raises_seq_no, sent, fresh_parts, fresh_port}
use Rattle.events.specs.PortEvents.{refused, unchanged, event}
use Rattle.creation.specs.Creation.{created_port, settings_valid}
use Rattle.flags.specs.Flags.{restarts, flag_notice, flag_set, flagged, peer_gone}
use Rattle.port.specs.Replies.{event_reply}
use Rattle.port.specs.Sound.{SoundPort}
use Rattle.invariants.proofs.Tests.{beq_not}
use Rattle.invariants.proofs.Fresh.{Alike, fresh_alike, runs_alike, fresh_kept, fresh_again}
use Rattle.invariants.proofs.Standing.{Standing, flagged_stands, created_runs, created_single, created_fresh, created_stands}
use Rattle.exchange.specs.Demand3.{JustStarted}

-- ---- the fresh state

module _ (p : Port) where
  gone_fresh : (event_reply (peer_gone p).answer).number ≡ 0 → (running p ≡ true) × ((peer_gone p).port ≡ fresh_port p)
  unfolding peer_gone refusal_number
  gone_fresh = by (running p) _
    where
      by : (b : Bool) (x : Raised) → (event_reply (if not b then refused NotRunning p else event x p (fresh_port p)).answer).number ≡ 0
          → (b ≡ true) × ((if not b then refused NotRunning p else event x p (fresh_port p)).port ≡ fresh_port p)
      by true x e = (refl, refl)
      by false x e = absurd (omega arith)

  -- a flag with which the port comes to run is none of the neighbours', and it restarts the port
  module _ (on : Bool) (r : running p ≡ false) where
    keeps_several : (x : Flag) → running (with_flag p x on) ≡ true → (with_flag p x on).several ≡ p.several
    keeps_several x n = grind arith

    stays_stopped : (x : Flag) → restarts x on p (with_flag p x on) ≡ false → running p ≡ running (with_flag p x on)
    unfolding restarts
    stays_stopped Admin e = beq_not (running p) (running (with_flag p Admin on)) e
    stays_stopped Receive e = beq_not (running p) (running (with_flag p Receive on)) e
    stays_stopped Transmit e = beq_not (running p) (running (with_flag p Transmit on)) e
    stays_stopped Several e = refl

    flag_fresh : (x : Flag) → running (flagged x on p).port ≡ true →
        (fresh_port (flagged x on p).port ≡ (flagged x on p).port) × ((flagged x on p).port.several ≡ p.several)
    unfolding flagged flag_set
    flag_fresh x = by (beq (flag_of p x) on) (restarts x on p (with_flag p x on)) refl
      where
        -- over its tests: is the flag so already, does it restart the port
        set : Bool → Bool → Port
        set a b = (if a then unchanged p else event (flag_notice x on) p (if b then fresh_port (with_flag p x on) else with_flag p x on)).port

        by : (a b : Bool) → restarts x on p (with_flag p x on) ≡ b → running (set a b) ≡ true → (fresh_port (set a b) ≡ set a b) × ((set a b).several ≡ p.several)
        by true b e n = absurd (false≢true (sym r ∙ n))
        by false false e n = absurd (false≢true (sym r ∙ stays_stopped x e ∙ n))
        by false true e n =
            let q : Port = with_flag p x on in
            (fresh_again q, (fresh_alike q).several ∙ keeps_several x (sym (runs_alike q (fresh_port q) (fresh_alike q)) ∙ n))

  set_several : p.several ≡ false → (flagged Several true p).port ≡ fresh_port (with_flag p Several true)
  unfolding flagged flag_set restarts
  set_several e = rw e

  clear_several : p.several ≡ true → (flagged Several false p).port ≡ with_flag p Several false
  unfolding flagged flag_set restarts
  clear_several e = rw e

  -- the fresh state takes the flag as it is
  fresh_several : (on : Bool) → fresh_port (with_flag p Several on) ≡ with_flag (fresh_port p) Several on
  unfolding fresh_port sent raises_seq_no
  fresh_several on = by (running p) (raises_seq_no (fresh_parts p))
    where
      state : Port → Bool → Bool → Port
      state q a b =
          if a then if b then release (with_control q (with_seq q.control (next q.control.seq))) else q
          else with_features q (λ f. stopped (feature_of q f))

      by : (a b : Bool) → state (fresh_parts (with_flag p Several on)) a b ≡ with_flag (state (fresh_parts p) a b) Several on
      by a b = grind arith

-- the neighbours' flag on, and off again
both_several : (p : Port) → p.several ≡ false → (flagged Several false (flagged Several true p).port).port ≡ fresh_port p
both_several p e =
    let q : Port = with_flag p Several true in
    ap (λ (x : Port). (flagged Several false x).port) (set_several p e)
    ∙ clear_several (fresh_port q) (fresh_alike q).several
    ∙ sym (fresh_several q false)
    ∙ (λ i. fresh_port (with_flag p Several (sym e i)))

-- ---- just started

-- a sound port that goes to the fresh state while it runs
restarted : (p q : Port) → SoundPort p → running p ≡ true → p.several ≡ false → q ≡ fresh_port p → JustStarted q
restarted p q h r n e =
    let k : Alike p (fresh_port p) = fresh_alike p in
    record {
      sound = rw e (fresh_kept p h);
      runs = ap running e ∙ runs_alike p (fresh_port p) k ∙ r;
      single = ap (λ (x : Port). x.several) e ∙ k.several ∙ n;
      fresh = ap fresh_port e ∙ fresh_again p ∙ sym e;
    }

module _ (p : Port) (h : Standing p) (n : p.several ≡ false) where
  pub gone_starts : (event_reply (peer_gone p).answer).number ≡ 0 → JustStarted (peer_gone p).port
  gone_starts e = let k = gone_fresh p e in restarted p (peer_gone p).port h.sound k.0 n k.1

  pub flag_starts : (x : Flag) (on : Bool) → running p ≡ false → running (flagged x on p).port ≡ true → JustStarted (flagged x on p).port
  flag_starts x on r e =
      let k = flag_fresh p on r x e in
      record { sound = (flagged_stands x on p h).sound; runs = e; single = k.1 ∙ n; fresh = k.0 }

  pub several_starts : running p ≡ true → JustStarted (flagged Several false (flagged Several true p).port).port
  several_starts r = restarted p (flagged Several false (flagged Several true p).port).port h.sound r n (both_several p n)

-- a port that is created
pub created_starts : (v : Versions) (w : Feature → Switches) (o : Feature → List ℕ) → v.control < 256 → ((f : Feature) → max_of v f < 256)
    → settings_valid o ≡ true → (has_applications v.revision ≡ false → (w Applications ≡ switched_off) × (o Applications ≡ []) × (v.applications ≡ 0))
    → JustStarted (created_port v w o)
created_starts v w o control features good without =
    record {
      sound = (created_stands v w o control features good without).sound;
      runs = created_runs v w o;
      single = created_single v w o;
      fresh = created_fresh v w o;
    }
