-- Every event keeps a port sound and, while it is stopped, in the fresh stopped state. Assumes nothing.
use Prim.Native.Nat.{ℕ, ◌<◌}
use native.Mathlib.Nat.{le_refl}
use mathlib.Core.Path.{◌≡◌, refl, sym, ap, ◌∙◌}
use mathlib.Core.Bool.{Bool, true, false, not, beq, false≢true}
use mathlib.Core.List.{List, []}
use lib.Dec.{lit<}
use Rattle.std.specs.Prelude.{if◌then◌else◌, Option, None, Some, Ok, Err}
use Rattle.octets.specs.Words.{◌below◌, ◌is◌}
use Rattle.octets.specs.Laws.{and_left, and_right}
use Rattle.tlv.specs.declared.Refusal.{Refusal}
use Rattle.tlv.specs.declared.Refusal.TheVariants.{NotRunning, SeveralNeighbours, InvalidSetting, UnknownFeature}
use Rattle.tlv.specs.Refusals.{refusal_number}
use Rattle.contents.specs.declared.Contents.{Contents}
use Rattle.contents.specs.Contents.{Reading}
use Rattle.tlv.specs.Revisions.{has_applications}
use Rattle.reading.specs.Revisions.{read_for}
use Rattle.parameters.specs.declared.Feature.{Feature}
use Rattle.parameters.specs.declared.Feature.TheVariants.{Groups, Flow, Applications}
use Rattle.parameters.specs.Parameters.{good_halves, sum, valid_groups, valid_flow, all_from, few_and_new, valid_applications, valid, ones, local_values, valid_local, ours_of, ours, stored, content}
use Rattle.config.specs.FeatureLaws.{ours_length, local_ours}
use Rattle.parameters.specs.StoringLaws.{content_stored}
use Rattle.feature.specs.declared.Setting.{Setting}
use Rattle.feature.specs.declared.Switches.{Switches}
use Rattle.feature.specs.declared.Outcome.{Outcome}
use Rattle.feature.specs.declared.Peer.{Peer}
use Rattle.feature.specs.declared.State.{State}
use Rattle.feature.specs.Outcome.{lower}
use Rattle.machine.specs.State.{next, fresh_at, fresh, stopped, setting_of, same_setting, again_with, judged_again, reset}
use Rattle.port.specs.declared.Flag.{Flag}
use Rattle.port.specs.declared.Flag.TheVariants.{Admin, Receive, Transmit, Several}
use Rattle.port.specs.declared.Port.{Port}
use Rattle.port.specs.Types.{Raised}
use Rattle.port.specs.declared.Versions.{Versions}
use Rattle.port.specs.Parts.{switched_off, feature_of, max_of, with_control, with_features, presents, flag_of, with_flag, running}
use Rattle.sending.specs.Sending.{sent, fresh_control, fresh_parts, fresh_port, step5, completed}
use Rattle.events.specs.PortEvents.{event, unchanged, refused}
use Rattle.creation.specs.Creation.{started, created_port, settings_valid, blank_parameters, blank_state, blank_port}
use Rattle.flags.specs.Flags.{restarts, flag_notice, flag_set, flagged, peer_gone}
use Rattle.changes.specs.Changes.{with_feature, with_setting, setting_changed, set_to, changed_feature, changed_applications, changed_setting}
use Rattle.admission.specs.Admission.{Message, message, met, breaks, with_broken, rejected}
use Rattle.handling.specs.Handling.{twice, exchanged, once, steps1to4, frame_event, accepted, given, handled}
use Rattle.port.specs.Sound.{SoundSetting, adopts_by, SoundState, SoundPort, InStep}
use Rattle.invariants.proofs.Tests.{beq_not, each_true}
use Rattle.invariants.proofs.Soundness.{Octets, sound_stored, judged_sound, next_small, port_sound, present_sound, sent_sound, completed_sound, steps_sound}
use Rattle.invariants.proofs.Waiting.{AllStepped, AllReady, in_step, stepped, fresh_ready, fresh_stepped, sent_in_step, fresh_in_step, steps_in_step, set_in_step}
use Rattle.invariants.proofs.Fresh.{fresh_max, fresh_setting, state_again, fresh_sound, sent_alike, runs_alike, fresh_kept, fresh_same, fresh_again}

pub record Standing (p : Port) : Type 0 where
  pub sound : SoundPort p
  pub steps : InStep p
  pub stopped : running p ≡ false → fresh_port p ≡ p

running_stands : (p : Port) → SoundPort p → InStep p → running p ≡ true → Standing p
running_stands p h k r = record { sound = h; steps = k; stopped = λ e. absurd (false≢true (sym e ∙ r)) }

fresh_stands : (p : Port) → SoundPort p → Standing (fresh_port p)
fresh_stands p h = record { sound = fresh_kept p h; steps = fresh_in_step p; stopped = λ e. fresh_again p }

completed_runs : (before after : Port) → running (completed before after) ≡ running after
completed_runs before after = runs_alike (step5 before after) (completed before after) (sent_alike (step5 before after))

-- the fresh state of a stopped port
abbrev still : Port → Port
still p = with_features (fresh_parts p) (λ f. stopped (feature_of (fresh_parts p) f))

fresh_still : (p : Port) (b : Bool) → running p ≡ b → b ≡ false → fresh_port p ≡ still p
unfolding fresh_port
fresh_still p true r e = absurd (false≢true (sym e))
fresh_still p false r e = rw r refl

-- 02, E1: "a fresh state, clears it"
pub stopped_off : (p : Port) → fresh_port p ≡ p → running p ≡ false → p.control.broken ≡ false
stopped_off p e r = ap (λ (q : Port). q.control.broken) (sym e ∙ fresh_still p _ refl r)

-- ---- frames

rejected_runs : (why : Refusal) (place : ℕ) (p : Port) → running (rejected why place p).port ≡ running p
unfolding rejected
rejected_runs why place p = refl

module _ (p : Port) where
  once_runs : (m : Message) → running (once m p) ≡ running p
  unfolding once exchanged
  once_runs m = by (m.oper is lower p.control.max m.max)
    where
      by : (b : Bool) → running (if b then exchanged (lower p.control.max m.max) m p else with_control p (met (lower p.control.max m.max) p.control)) ≡ running p
      by true = refl
      by false = refl

  steps_run : (o : List ℕ) (c : Contents) → running (steps1to4 o c p) ≡ running p
  unfolding steps1to4 twice
  steps_run o c = by (1 below c.control.count)
    where
      by : (b : Bool) → running (if b then twice p else once (message o c) p) ≡ running p
      by true = refl
      by false = once_runs (message o c)

-- a frame that is refused: a stopped port has no mark, and gets none
pub rejected_sound : (why : Refusal) (place : ℕ) (p : Port) → SoundPort p → SoundPort (rejected why place p).port
unfolding rejected
rejected_sound why place p h =
    let c = h.control in
    port_sound (with_broken p (breaks why)) (record { max = c.max; oper = c.oper; seq = c.seq; ack = c.ack; rcvd = c.rcvd })
    (h.features Groups) (h.features Flow) (h.features Applications) (h.released Groups) (h.released Flow) (h.released Applications) h.revision h.withheld

-- nor does it change what is released
pub rejected_in_step : (why : Refusal) (place : ℕ) (p : Port) → InStep p → InStep (rejected why place p).port
unfolding rejected
rejected_in_step why place p h = in_step (with_broken p (breaks why)) steps done
  where
    k : AllStepped p
    k = stepped p h

    steps : AllStepped (with_broken p (breaks why))
    steps Groups = record { number = (k Groups).number; synced = (k Groups).synced; asked = (k Groups).asked }
    steps Flow = record { number = (k Flow).number; synced = (k Flow).synced; asked = (k Flow).asked }
    steps Applications = record { number = (k Applications).number; synced = (k Applications).synced; asked = (k Applications).asked }

    done : running p ≡ true → p.control.rcvd ≡ p.control.seq → (f : Feature) → (feature_of (with_broken p (breaks why)) f).syncd ≡ true
    done r e Groups = h.done r e Groups
    done r e Flow = h.done r e Flow
    done r e Applications = h.done r e Applications

stopped_unmarked : (p : Port) → Standing p → running p ≡ false → (rejected NotRunning 0 p).port ≡ p
unfolding rejected breaks refusal_number
stopped_unmarked p h r = ap (λ (b : Bool). with_broken p b) (sym (stopped_off p (h.stopped r) r))

pub handled_stands : (p : Port) (o : List ℕ) → Octets o → Standing p → Standing (handled p o).port
unfolding handled given accepted frame_event
handled_stands p o k h = by (running p) p.several (read_for p.revision o) refl
  where
    by : (a b : Bool) (x : Reading) → running p ≡ a
        → Standing (if not a then rejected NotRunning 0 p else if b then rejected SeveralNeighbours 0 p else given o x p).port
    by false b x r = rw (stopped_unmarked p h r) h
    by true true x r = running_stands _ (rejected_sound SeveralNeighbours 0 p h.sound) (rejected_in_step SeveralNeighbours 0 p h.steps) (rejected_runs SeveralNeighbours 0 p ∙ r)
    by true false (Err x) r = running_stands _ (rejected_sound x.why x.place p h.sound) (rejected_in_step x.why x.place p h.steps) (rejected_runs x.why x.place p ∙ r)
    by true false (Ok c) r =
        running_stands (completed p (steps1to4 o c p)) (completed_sound p (steps1to4 o c p) (steps_sound o c p k h.sound)) (steps_in_step p h.steps r o c)
        (completed_runs p (steps1to4 o c p) ∙ steps_run p o c ∙ r)

-- ---- flags and peer gone

module _ (p : Port) (on : Bool) where
  flag_sound : (flag : Flag) → SoundPort p → SoundPort (with_flag p flag on)
  flag_sound Admin h = port_sound (with_flag p Admin on) h.control (h.features Groups) (h.features Flow) (h.features Applications) (h.released Groups) (h.released Flow) (h.released Applications) h.revision h.withheld
  flag_sound Receive h = port_sound (with_flag p Receive on) h.control (h.features Groups) (h.features Flow) (h.features Applications) (h.released Groups) (h.released Flow) (h.released Applications) h.revision h.withheld
  flag_sound Transmit h = port_sound (with_flag p Transmit on) h.control (h.features Groups) (h.features Flow) (h.features Applications) (h.released Groups) (h.released Flow) (h.released Applications) h.revision h.withheld
  flag_sound Several h = port_sound (with_flag p Several on) h.control (h.features Groups) (h.features Flow) (h.features Applications) (h.released Groups) (h.released Flow) (h.released Applications) h.revision h.withheld

  -- where a flag does not restart the port, it runs exactly if it did
  stays : (flag : Flag) → restarts flag on p (with_flag p flag on) ≡ false → running p ≡ running (with_flag p flag on)
  unfolding restarts
  stays Admin e = beq_not (running p) (running (with_flag p Admin on)) e
  stays Receive e = beq_not (running p) (running (with_flag p Receive on)) e
  stays Transmit e = beq_not (running p) (running (with_flag p Transmit on)) e
  stays Several e = refl

-- a flag that does not restart the port changes nothing of its features
module _ (p : Port) (on : Bool) (h : InStep p) where
  flag_stepped : (flag : Flag) → AllStepped (with_flag p flag on)
  flag_stepped Admin Groups = stepped p h Groups
  flag_stepped Admin Flow = stepped p h Flow
  flag_stepped Admin Applications = stepped p h Applications
  flag_stepped Receive Groups = stepped p h Groups
  flag_stepped Receive Flow = stepped p h Flow
  flag_stepped Receive Applications = stepped p h Applications
  flag_stepped Transmit Groups = stepped p h Groups
  flag_stepped Transmit Flow = stepped p h Flow
  flag_stepped Transmit Applications = stepped p h Applications
  flag_stepped Several Groups = stepped p h Groups
  flag_stepped Several Flow = stepped p h Flow
  flag_stepped Several Applications = stepped p h Applications

  flag_feature : (flag : Flag) (f : Feature) → feature_of (with_flag p flag on) f ≡ feature_of p f
  flag_feature Admin Groups = refl
  flag_feature Admin Flow = refl
  flag_feature Admin Applications = refl
  flag_feature Receive Groups = refl
  flag_feature Receive Flow = refl
  flag_feature Receive Applications = refl
  flag_feature Transmit Groups = refl
  flag_feature Transmit Flow = refl
  flag_feature Transmit Applications = refl
  flag_feature Several Groups = refl
  flag_feature Several Flow = refl
  flag_feature Several Applications = refl

  flag_control : (flag : Flag) → (with_flag p flag on).control ≡ p.control
  flag_control Admin = refl
  flag_control Receive = refl
  flag_control Transmit = refl
  flag_control Several = refl

  flag_in_step : (flag : Flag) → running p ≡ running (with_flag p flag on) → InStep (with_flag p flag on)
  flag_in_step flag e =
      in_step (with_flag p flag on) (flag_stepped flag)
      (λ r d f. ap (λ (x : State). x.syncd) (flag_feature flag f) ∙ h.done (e ∙ r) (rw (flag_control flag) at d) f)

still_flag : (p : Port) (flag : Flag) (on : Bool) → still (with_flag p flag on) ≡ with_flag (still p) flag on
still_flag p Admin on = refl
still_flag p Receive on = refl
still_flag p Transmit on = refl
still_flag p Several on = refl

flag_stands : (flag : Flag) (on : Bool) (p : Port) → Standing p → Standing (flag_set flag on p)
unfolding flag_set
flag_stands flag on p h = by (restarts flag on p (with_flag p flag on)) refl
  where
    q_still : restarts flag on p (with_flag p flag on) ≡ false → running (with_flag p flag on) ≡ false → fresh_port (with_flag p flag on) ≡ with_flag p flag on
    q_still e r =
        let s : running p ≡ false = stays p on flag e ∙ r in
        fresh_still (with_flag p flag on) _ refl r
        ∙ still_flag p flag on
        ∙ ap (λ (q : Port). with_flag q flag on) (sym (fresh_still p _ refl s) ∙ h.stopped s)

    by : (b : Bool) → restarts flag on p (with_flag p flag on) ≡ b → Standing (if b then fresh_port (with_flag p flag on) else with_flag p flag on)
    by true e = fresh_stands (with_flag p flag on) (flag_sound p on flag h.sound)
    by false e = record { sound = flag_sound p on flag h.sound; steps = flag_in_step p on h.steps flag (stays p on flag e); stopped = q_still e }

pub flagged_stands : (flag : Flag) (on : Bool) (p : Port) → Standing p → Standing (flagged flag on p).port
unfolding flagged
flagged_stands flag on p h = by (beq (flag_of p flag) on)
  where
    by : (b : Bool) → Standing (if b then unchanged p else event (flag_notice flag on) p (flag_set flag on p)).port
    by true = h
    by false = flag_stands flag on p h

pub gone_stands : (p : Port) → Standing p → Standing (peer_gone p).port
unfolding peer_gone
gone_stands p h = by (running p) _
  where
    by : (b : Bool) (x : Raised) → Standing (if not b then refused NotRunning p else event x p (fresh_port p)).port
    by false x = h
    by true x = fresh_stands p h.sound

-- ---- setting changes

-- valid local settings are held soundly
pub setting_sound : (f : Feature) (w : Switches) (o : List ℕ) → valid_local f o ≡ true → SoundSetting f (setting_of f w o)
unfolding valid_local
setting_sound f w o e =
    let v : valid f o ≡ true = and_left (valid f o) (local_values f o) e in
    let c : content (stored (ours f o)) ≡ o = content_stored (ours f o) (ours_length f o v) ∙ local_ours f o e in
    record {
      desired = sound_stored f o v;
      local = ap (local_values f) c ∙ and_right (valid f o) (local_values f o) e;
    }

module _ (f : Feature) (s : Setting) (k : SoundSetting f s) (x : State) (h : SoundState f x) where
  -- no peer is held, as on a stopped port
  with_setting_sound : x.outcome.peer ≡ None → SoundState f (with_setting x s)
  with_setting_sound n =
      record {
        max = h.max;
        oper = h.oper;
        sequence = h.sequence;
        setting = k;
        peer = h.peer;
        adopts = h.adopts ∙ ap (adopts_by x.setting) n ∙ sym (ap (adopts_by s) n);
        withheld = λ e. n;
      }

  -- Advertise stays
  judged_again_sound : (seq : ℕ) → x.setting.advertise ≡ s.advertise
      → SoundState f (record { max = x.max; setting = s; outcome = judged_again f s x.outcome; syncd = x.syncd; sequence = x.sequence })
  unfolding judged_again
  judged_again_sound seq same = by s.advertise refl
    where
      left : Bool → Outcome
      left mode = record { reason = x.outcome.reason; oper = x.outcome.oper; error = x.outcome.error; mode = mode; peer = x.outcome.peer; adopts = false }

      on : (o : Option Peer) → x.outcome.peer ≡ o → s.advertise ≡ true
          → SoundState f (record { max = x.max; setting = s; outcome = again_with f s x.outcome o; syncd = x.syncd; sequence = x.sequence })
      on (Some p) e a =
          let o = judged_sound f x.max s k x.outcome.oper h.oper p (h.peer.some p e) in
          record {
            max = h.max;
            oper = o.oper;
            sequence = h.sequence;
            setting = k;
            peer = o.peer;
            adopts = o.adopts;
            withheld = λ e. absurd (false≢true (sym e ∙ a));
          }
      on None e a =
          record { max = h.max; oper = h.oper; sequence = h.sequence; setting = k; peer = h.peer; adopts = sym (ap (adopts_by s) e); withheld = λ _. e }

      by : (a : Bool) → s.advertise ≡ a
          → SoundState f
          (record {
            max = x.max;
            setting = s;
            outcome = if not a then left s.enable else again_with f s x.outcome x.outcome.peer;
            syncd = x.syncd;
            sequence = x.sequence;
          })
      by false a =
          let n : x.outcome.peer ≡ None = h.withheld (same ∙ a) in
          record { max = h.max; oper = h.oper; sequence = h.sequence; setting = k; peer = h.peer; adopts = sym (ap (adopts_by s) n); withheld = λ e. n }
      by true a = on x.outcome.peer refl a

  reset_sound : (seq : ℕ) → SoundState f (reset f seq s x)
  unfolding reset
  reset_sound seq = by (beq x.setting.advertise s.advertise) refl
    where
      by : (b : Bool) → beq x.setting.advertise s.advertise ≡ b
          → SoundState f
          (if b then record { max = x.max; setting = s; outcome = judged_again f s x.outcome; syncd = x.syncd; sequence = x.sequence }
          else fresh_at (next seq) x.max s)
      by true e = judged_again_sound seq (beq_not x.setting.advertise s.advertise (ap not e))
      by false e = fresh_sound (next seq) x.max s f h.max (next_small seq) k

-- a revision has a feature: 1.0 has no applications
abbrev Has : Port → Feature → Type 0
Has p Groups = Unit {0}
Has p Flow = Unit {0}
Has p Applications = has_applications p.revision ≡ true

feature_kept : (p : Port) (f : Feature) (x : State) → Has p f → SoundPort p → SoundState f x → x.max ≡ (feature_of p f).max → SoundPort (with_feature p f x)
feature_kept p Groups x a h k e =
    port_sound (with_feature p Groups x) h.control k (h.features Flow) (h.features Applications) (rw e (h.released Groups)) (h.released Flow) (h.released Applications) h.revision h.withheld
feature_kept p Flow x a h k e =
    port_sound (with_feature p Flow x) h.control (h.features Groups) k (h.features Applications) (h.released Groups) (rw e (h.released Flow)) (h.released Applications) h.revision h.withheld
feature_kept p Applications x a h k e =
    port_sound (with_feature p Applications x) h.control (h.features Groups) (h.features Flow) k (h.released Groups) (h.released Flow) (rw e (h.released Applications))
    (λ e. absurd (false≢true (sym e ∙ a))) h.withheld

reset_max : (f : Feature) (seq : ℕ) (s : Setting) (x : State) → (reset f seq s x).max ≡ x.max
unfolding reset
reset_max f seq s x = by (beq x.setting.advertise s.advertise)
  where
    by : (b : Bool) → (if b then record { max = x.max; setting = s; outcome = judged_again f s x.outcome; syncd = x.syncd; sequence = x.sequence } else fresh_at (next seq) x.max s).max ≡ x.max
    by true = refl
    by false = fresh_max (next seq) x.max s

feature_runs : (p : Port) (f : Feature) (x : State) → running (with_feature p f x) ≡ running p
feature_runs p Groups x = refl
feature_runs p Flow x = refl
feature_runs p Applications x = refl

module _ (p : Port) (h : Standing p) where
  -- a stopped port holds no peer
  none_held : (f : Feature) → running p ≡ false → (feature_of p f).outcome.peer ≡ None
  unfolding fresh_at
  none_held f r = ap (λ (q : Port). (feature_of q f).outcome.peer) (sym (h.stopped r) ∙ fresh_still p _ refl r) ∙ by f
    where
      without : (x : State) (b : Bool) → x.setting.advertise ≡ b → (fresh x.max x.setting).outcome.peer ≡ None
      without x true a = rw a refl
      without x false a = rw a refl

      by : (f : Feature) → (feature_of (still p) f).outcome.peer ≡ None
      by Groups = without p.groups _ refl
      by Flow = without p.flow _ refl
      by Applications = without p.applications _ refl

  set_stands : (f : Feature) → Has p f → (s : Setting) → SoundSetting f s → Standing (setting_changed f s p)
  unfolding setting_changed
  set_stands f a s k = by (running p) refl
    where
      by : (b : Bool) → running p ≡ b
          → Standing (if b then completed p (with_feature p f (reset f p.control.seq s (feature_of p f))) else fresh_port (with_feature p f (with_setting (feature_of p f) s)))
      by true r =
          let x : State = reset f p.control.seq s (feature_of p f) in
          let q : Port = with_feature p f x in
          running_stands (completed p q)
          (completed_sound p q (feature_kept p f x a h.sound (reset_sound f s k (feature_of p f) (h.sound.features f) p.control.seq) (reset_max f p.control.seq s (feature_of p f))))
          (set_in_step p h.steps r f s)
          (completed_runs p q ∙ feature_runs p f x ∙ r)
      by false r =
          let x : State = with_setting (feature_of p f) s in
          fresh_stands (with_feature p f x)
          (feature_kept p f x a h.sound (with_setting_sound f s k (feature_of p f) (h.sound.features f) (none_held f r)) refl)

  changed_stands : (f : Feature) → Has p f → (w : Switches) (o : List ℕ) → Standing (changed_feature f w o p).port
  unfolding changed_feature set_to
  changed_stands f has w o = by (valid_local f o) (same_setting (feature_of p f).setting (setting_of f w o)) refl
    where
      by : (a b : Bool) → valid_local f o ≡ a
          → Standing (if a then if b then unchanged p else event None p (setting_changed f (setting_of f w o) p) else refused InvalidSetting p).port
      by false b v = h
      by true true v = h
      by true false v = set_stands f has (setting_of f w o) (setting_sound f w o v)

  applications_stand : (w : Switches) (o : List ℕ) → Standing (changed_applications w o p).port
  unfolding changed_applications
  applications_stand w o = by (has_applications p.revision) refl
    where
      by : (b : Bool) → has_applications p.revision ≡ b → Standing (if b then changed_feature Applications w o p else refused UnknownFeature p).port
      by true e = changed_stands Applications e w o
      by false e = h

  pub setting_stands : (number : ℕ) (w : Switches) (o : List ℕ) → Standing (changed_setting number w o p).port
  unfolding changed_setting
  setting_stands number w o = by (number is 2) (number is 3) (number is 4)
    where
      by : (a b c : Bool)
          → Standing
          (if a then changed_feature Groups w o p
          else if b then changed_feature Flow w o p
          else if c then changed_applications w o p
          else refused UnknownFeature p).port
      by true b c = changed_stands Groups tt w o
      by false true c = changed_stands Flow tt w o
      by false false true = applications_stand w o
      by false false false = h

-- ---- creation

module _ (v : Versions) (w : Feature → Switches) (o : Feature → List ℕ) where
  bare_sound : (f : Feature) → max_of v f < 256 → valid_local f (o f) ≡ true → SoundState f (fresh (max_of v f) (setting_of f (w f) (o f)))
  bare_sound f h k = fresh_sound 1 (max_of v f) (setting_of f (w f) (o f)) f h (lit< tt) (setting_sound f (w f) (o f) k)

  -- the port before the send rule
  abbrev unsent : Port
  unsent =
      record {
        revision = v.revision;
        admin = true;
        receive = true;
        transmit = true;
        several = false;
        control = fresh_control v.control;
        groups = fresh v.groups (setting_of Groups (w Groups) (o Groups));
        flow = fresh v.flow (setting_of Flow (w Flow) (o Flow));
        applications = fresh v.applications (setting_of Applications (w Applications) (o Applications));
        released =
            presents (fresh v.groups (setting_of Groups (w Groups) (o Groups))) (fresh v.flow (setting_of Flow (w Flow) (o Flow)))
            (fresh v.applications (setting_of Applications (w Applications) (o Applications)));
      }

  pub created_runs : running (created_port v w o) ≡ true
  unfolding started
  created_runs = runs_alike unsent (created_port v w o) (sent_alike unsent)

  pub created_single : (created_port v w o).several ≡ false
  unfolding started
  created_single = (sent_alike unsent).several

  -- the port is created in its fresh state
  pub created_fresh : fresh_port (created_port v w o) ≡ created_port v w o
  unfolding started fresh_port
  created_fresh =
      fresh_same unsent (created_port v w o) (sent_alike unsent)
      ∙ ap sent
      (λ i. record {
        revision = v.revision;
        admin = true;
        receive = true;
        transmit = true;
        several = false;
        control = fresh_control v.control;
        groups = state_again v.groups (setting_of Groups (w Groups) (o Groups)) i;
        flow = state_again v.flow (setting_of Flow (w Flow) (o Flow)) i;
        applications = state_again v.applications (setting_of Applications (w Applications) (o Applications)) i;
        released =
            presents (state_again v.groups (setting_of Groups (w Groups) (o Groups)) i) (state_again v.flow (setting_of Flow (w Flow) (o Flow)) i)
            (state_again v.applications (setting_of Applications (w Applications) (o Applications)) i);
      })

  module _ (control : v.control < 256) (features : (f : Feature) → max_of v f < 256) (good : settings_valid o ≡ true)
      (without : has_applications v.revision ≡ false → (w Applications ≡ switched_off) × (o Applications ≡ []) × (v.applications ≡ 0)) where
    valid_at : (f : Feature) → valid_local f (o f) ≡ true
    unfolding settings_valid
    valid_at f = each_true (λ f. valid_local f (o f)) good f

    unsent_sound : SoundPort unsent
    unsent_sound =
        port_sound unsent (record { max = control; oper = le_refl v.control; seq = lit< tt; ack = lit< tt; rcvd = lit< tt })
        (bare_sound Groups (features Groups) (valid_at Groups))
        (bare_sound Flow (features Flow) (valid_at Flow))
        (bare_sound Applications (features Applications) (valid_at Applications))
        (present_sound Groups _ (bare_sound Groups (features Groups) (valid_at Groups)))
        (present_sound Flow _ (bare_sound Flow (features Flow) (valid_at Flow)))
        (present_sound Applications _ (bare_sound Applications (features Applications) (valid_at Applications)))
        (λ e. record {
          setting = fresh_setting 1 v.applications (setting_of Applications (w Applications) (o Applications)) ∙ (λ i. setting_of Applications ((without e).0 i) ((without e).1 i));
          max = fresh_max 1 v.applications (setting_of Applications (w Applications) (o Applications)) ∙ (without e).2;
        })
        (λ e. fresh_setting 1 v.applications (setting_of Applications (w Applications) (o Applications)) ∙ (λ i. setting_of Applications ((without e).0 i) ((without e).1 i)))

    unsent_ready : AllReady unsent
    unsent_ready Groups = fresh_ready Groups v.groups (setting_of Groups (w Groups) (o Groups)) unsent.control refl
    unsent_ready Flow = fresh_ready Flow v.flow (setting_of Flow (w Flow) (o Flow)) unsent.control refl
    unsent_ready Applications = fresh_ready Applications v.applications (setting_of Applications (w Applications) (o Applications)) unsent.control refl

    pub created_stands : Standing (created_port v w o)
    unfolding started
    created_stands = running_stands (created_port v w o) (sent_sound unsent unsent_sound) (sent_in_step unsent unsent_ready) created_runs

-- ---- where no port has been made

blank_valid : (f : Feature) → valid_local f (blank_parameters f) ≡ true
unfolding blank_parameters valid_local valid local_values valid_groups valid_flow valid_applications good_halves sum ones few_and_new all_from ours ours_of
blank_valid Groups = refl
blank_valid Flow = refl
blank_valid Applications = refl

-- an empty list of applications is valid
pub none_valid : valid_local Applications [] ≡ true
unfolding blank_parameters
none_valid = blank_valid Applications

blank_state_sound : (f : Feature) → SoundState f (blank_state f)
blank_state_sound f = fresh_sound 1 0 (setting_of f switched_off (blank_parameters f)) f (lit< tt) (lit< tt) (setting_sound f switched_off (blank_parameters f) (blank_valid f))

blank_stepped : AllStepped blank_port
unfolding blank_port
blank_stepped Groups = fresh_stepped Groups 0 (setting_of Groups switched_off (blank_parameters Groups)) (fresh_control 0) refl
blank_stepped Flow = fresh_stepped Flow 0 (setting_of Flow switched_off (blank_parameters Flow)) (fresh_control 0) refl
blank_stepped Applications = fresh_stepped Applications 0 (setting_of Applications switched_off (blank_parameters Applications)) (fresh_control 0) refl

pub blank_stands : Standing blank_port
unfolding blank_port fresh_port fresh_at has_applications
blank_stands =
    record {
      sound = port_sound blank_port (record { max = lit< tt; oper = le_refl 0; seq = lit< tt; ack = lit< tt; rcvd = lit< tt })
          (blank_state_sound Groups) (blank_state_sound Flow) (blank_state_sound Applications)
          (present_sound Groups _ (blank_state_sound Groups)) (present_sound Flow _ (blank_state_sound Flow)) (present_sound Applications _ (blank_state_sound Applications))
          (λ e. absurd (false≢true (sym e))) (λ e. absurd (false≢true (sym e)));
      steps = in_step blank_port blank_stepped (λ r e f. absurd (false≢true r));
      stopped = λ e. refl;
    }
