-- What is held of a peer was judged under the setting at hand, at every reachable port: by rules 6 to 9 the outcome follows from the setting,
-- Oper and the peer. Every event keeps it. Assumes nothing.
use Prim.Native.Nat.{ℕ}
use mathlib.Core.Path.{◌≡◌, refl, sym, ap, ◌∙◌}
use mathlib.Core.Bool.{Bool, true, false, not, ◌||◌, beq}
use mathlib.Core.List.{List}
use lib.ListN.{length}
use Rattle.std.specs.Prelude.{if◌then◌else◌, None, Ok, Err, Option, Some}
use Rattle.octets.specs.Words.{◌below◌, ◌is◌}
use Rattle.tlv.specs.declared.Refusal.{Refusal}
use Rattle.tlv.specs.declared.Refusal.TheVariants.{NotRunning, SeveralNeighbours, InvalidSetting, UnknownFeature}
use Rattle.contents.specs.declared.Contents.{Contents}
use Rattle.contents.specs.Contents.{Reading}
use Rattle.tlv.specs.Revisions.{has_applications}
use Rattle.reading.specs.Revisions.{read_for}
use Rattle.parameters.specs.declared.Feature.{Feature}
use Rattle.parameters.specs.declared.Feature.TheVariants.{Groups, Flow, Applications}
use Rattle.parameters.specs.Parameters.{valid, valid_local}
use Rattle.feature.specs.declared.Reason.TheVariants.{Absent, Duplicate, Bad, Waiting}
use Rattle.feature.specs.declared.Setting.{Setting}
use Rattle.feature.specs.declared.Switches.{Switches}
use Rattle.feature.specs.declared.Peer.{Peer}
use Rattle.feature.specs.declared.Outcome.{Outcome}
use Rattle.feature.specs.declared.State.{State}
use Rattle.feature.specs.Outcome.{Received, oper_of, max_of, parameters_of, lower, held_peer, without_peer, judged, outcome}
use Rattle.feature.specs.RulesLaws.{judged_oper, judged_peer}
use Rattle.machine.specs.State.{next, fresh_at, stopped, changed, marked, setting_of, same_setting, judged_again, reset, again_with}
use Rattle.turn.specs.Turn.{control_twice, acknowledged, received}
use Rattle.port.specs.declared.Flag.{Flag}
use Rattle.port.specs.declared.Flag.TheVariants.{Admin, Receive, Transmit, Several}
use Rattle.port.specs.declared.Port.{Port}
use Rattle.port.specs.Types.{Raised}
use Rattle.port.specs.declared.Versions.{Versions}
use Rattle.port.specs.Parts.{feature_of, with_control, with_features, release, flag_of, with_flag, running}
use Rattle.port.specs.Sound.{SoundState, SoundPort}
use Rattle.sending.specs.Sending.{with_seq, raises_seq_no, sent, fresh_parts, fresh_port, step5, completed}
use Rattle.events.specs.PortEvents.{event, unchanged, refused}
use Rattle.creation.specs.Creation.{started, created_port, blank_port}
use Rattle.flags.specs.Flags.{restarts, flag_notice, flag_set, flagged, peer_gone}
use Rattle.changes.specs.Changes.{with_feature, with_setting, setting_changed, set_to, changed_feature, changed_applications, changed_setting}
use Rattle.admission.specs.Admission.{Message, message, met, rejected}
use Rattle.handling.specs.Handling.{twice, exchanged, once, steps1to4, frame_event, accepted, given, handled}
use Rattle.invariants.proofs.Tests.{beq_not}

-- ---- outcomes

JudgedOutcome : Feature → Setting → Outcome → Type 0
JudgedOutcome f s o = (p : Peer) → o.peer ≡ Some p → o ≡ judged f s o.oper p

-- no peer is held
none_some : {p : Peer} → None ≡ Some p → ⊥
none_some e = cc

pub record JudgedState (f : Feature) (x : State) : Type 0 where
  pub outcome : (p : Peer) → x.outcome.peer ≡ Some p → x.outcome ≡ judged f x.setting x.outcome.oper p

module _ (f : Feature) (s : Setting) where
  judged_again_lem : (oper : ℕ) (q p : Peer) → (judged f s oper q).peer ≡ Some p → judged f s oper q ≡ judged f s (judged f s oper q).oper p
  judged_again_lem oper q p e =
      let same : Some q ≡ Some p = sym (judged_peer f s oper q) ∙ e in
      let d : q ≡ p = cc in
      λ i. judged f s (sym (judged_oper f s oper q) i) (d i)

  ruled_judged : (max oper low : ℕ) (v : List ℕ) (a b c d e : Bool) →
      JudgedOutcome f s
      (if a then without_peer Absent max false
      else if b then without_peer Duplicate oper true
      else if c then without_peer Bad oper true
      else if not d then without_peer Waiting low false
      else if not e then without_peer Bad low true
      else judged f s low (held_peer f v))
  unfolding JudgedOutcome
  ruled_judged max oper low v true b c d e p h = absurd (none_some h)
  ruled_judged max oper low v false true c d e p h = absurd (none_some h)
  ruled_judged max oper low v false false true d e p h = absurd (none_some h)
  ruled_judged max oper low v false false false false e p h = absurd (none_some h)
  ruled_judged max oper low v false false false true false p h = absurd (none_some h)
  ruled_judged max oper low v false false false true true p h = judged_again_lem low (held_peer f v) p h

  outcome_judged : (max oper : ℕ) (r : Received) → JudgedOutcome f s (outcome f max s oper r)
  unfolding outcome
  outcome_judged max oper r =
      ruled_judged max oper (lower max (max_of r.value)) r.value (r.count is 0) (1 below r.count)
      (length r.value below 4 || max_of r.value below oper_of r.value) (oper_of r.value is lower max (max_of r.value)) (valid f (parameters_of r.value))

-- ---- one feature

module _ (f : Feature) where
  either_judged : (b : Bool) (x y : State) → JudgedState f x → JudgedState f y → JudgedState f (if b then x else y)
  either_judged true x y h k = h
  either_judged false x y h k = k

  none_judged : (x : State) → x.outcome.peer ≡ None → JudgedState f x
  none_judged x n = record { outcome = λ p h. absurd (none_some (sym n ∙ h)) }

  received_judged : (r : Received) (rcvd seq : ℕ) (x : State) → JudgedState f x → JudgedState f (received f r (acknowledged rcvd seq x))
  unfolding received acknowledged JudgedOutcome
  received_judged r rcvd seq x h =
      either_judged x.setting.advertise _ _ (record { outcome = outcome_judged f x.setting x.max x.outcome.oper r }) (record { outcome = h.outcome })

  twice_judged : (x : State) → JudgedState f x → JudgedState f (control_twice x)
  unfolding control_twice
  twice_judged x h = either_judged x.setting.advertise _ x (record { outcome = λ p e. absurd (none_some e) }) h

  marked_judged : (seq : ℕ) (x y : State) → JudgedState f y → JudgedState f (marked f seq x y)
  unfolding marked
  marked_judged seq x y h = either_judged (changed f x y) _ y (record { outcome = h.outcome }) h

  fresh_judged : (seq max : ℕ) (s : Setting) → JudgedState f (fresh_at seq max s)
  unfolding fresh_at
  fresh_judged seq max s = either_judged s.advertise _ _ (record { outcome = λ p e. absurd (none_some e) }) (record { outcome = λ p e. absurd (none_some e) })

  either_held : (b : Bool) (x y : State) → x.outcome.peer ≡ None → y.outcome.peer ≡ None → (if b then x else y).outcome.peer ≡ None
  either_held true x y h k = h
  either_held false x y h k = k

  fresh_held : (seq max : ℕ) (s : Setting) → (fresh_at seq max s).outcome.peer ≡ None
  unfolding fresh_at
  fresh_held seq max s = either_held s.advertise _ _ refl refl

  reset_judged : (seq : ℕ) (s : Setting) (x : State) → SoundState f x → JudgedState f (reset f seq s x)
  unfolding reset judged_again
  reset_judged seq s x h = by (beq x.setting.advertise s.advertise) s.advertise refl refl
    where
      left : Bool → Outcome
      left mode = record { reason = x.outcome.reason; oper = x.outcome.oper; error = x.outcome.error; mode = mode; peer = x.outcome.peer; adopts = false }

      on : (o : Option Peer) → x.outcome.peer ≡ o
          → JudgedState f (record { max = x.max; setting = s; outcome = again_with f s x.outcome o; syncd = x.syncd; sequence = x.sequence })
      on (Some q) e = record { outcome = judged_again_lem f s x.outcome.oper q }
      on None e = none_judged _ e

      by : (c a : Bool) → beq x.setting.advertise s.advertise ≡ c → s.advertise ≡ a
          → JudgedState f
          (if c then
          record {
            max = x.max;
            setting = s;
            outcome = if not a then left s.enable else again_with f s x.outcome x.outcome.peer;
            syncd = x.syncd;
            sequence = x.sequence;
          }
          else fresh_at (next seq) x.max s)
      by false a e d = fresh_judged (next seq) x.max s
      by true false e d = none_judged _ (h.withheld (beq_not x.setting.advertise s.advertise (ap not e) ∙ d))
      by true true e d = on x.outcome.peer refl

-- ---- the port

pub record Judged (p : Port) : Type 0 where
  pub groups : JudgedState Groups p.groups
  pub flow : JudgedState Flow p.flow
  pub applications : JudgedState Applications p.applications

sent_judged : (p : Port) → Judged p → Judged (sent p)
unfolding sent
sent_judged p h = by (raises_seq_no p)
  where
    by : (b : Bool) → Judged (if b then release (with_control p (with_seq p.control (next p.control.seq))) else p)
    by true = record { groups = h.groups; flow = h.flow; applications = h.applications }
    by false = h

completed_judged : (before after : Port) → Judged after → Judged (completed before after)
completed_judged before after h =
    sent_judged (step5 before after)
    (record {
      groups = marked_judged Groups after.control.seq before.groups after.groups h.groups;
      flow = marked_judged Flow after.control.seq before.flow after.flow h.flow;
      applications = marked_judged Applications after.control.seq before.applications after.applications h.applications;
    })

module _ (p : Port) (h : Judged p) where
  once_judged : (m : Message) → Judged (once m p)
  unfolding once exchanged
  once_judged m = by (m.oper is lower p.control.max m.max)
    where
      by : (b : Bool) → Judged (if b then exchanged (lower p.control.max m.max) m p else with_control p (met (lower p.control.max m.max) p.control))
      by true =
          record {
            groups = received_judged Groups (m.has Groups) m.ack p.control.seq p.groups h.groups;
            flow = received_judged Flow (m.has Flow) m.ack p.control.seq p.flow h.flow;
            applications = received_judged Applications (m.has Applications) m.ack p.control.seq p.applications h.applications;
          }
      by false = record { groups = h.groups; flow = h.flow; applications = h.applications }

  steps_judged : (o : List ℕ) (c : Contents) → Judged (steps1to4 o c p)
  unfolding steps1to4 twice
  steps_judged o c = by (1 below c.control.count)
    where
      by : (b : Bool) → Judged (if b then twice p else once (message o c) p)
      by true = record { groups = twice_judged Groups p.groups h.groups; flow = twice_judged Flow p.flow h.flow; applications = twice_judged Applications p.applications h.applications }
      by false = once_judged (message o c)

  rejected_judged : (why : Refusal) (place : ℕ) → Judged (rejected why place p).port
  unfolding rejected
  rejected_judged why place = record { groups = h.groups; flow = h.flow; applications = h.applications }

  pub handled_judged : (o : List ℕ) → Judged (handled p o).port
  unfolding handled given accepted frame_event
  handled_judged o = by (running p) p.several (read_for p.revision o)
    where
      by : (a b : Bool) (x : Reading) → Judged (if not a then rejected NotRunning 0 p else if b then rejected SeveralNeighbours 0 p else given o x p).port
      by false b x = rejected_judged NotRunning 0
      by true true x = rejected_judged SeveralNeighbours 0
      by true false (Err r) = rejected_judged r.why r.place
      by true false (Ok c) = completed_judged p (steps1to4 o c p) (steps_judged o c)

-- ---- the other events

fresh_port_judged : (p : Port) → Judged (fresh_port p)
unfolding fresh_port
fresh_port_judged p = by (running p)
  where
    by : (b : Bool) → Judged (if b then sent (fresh_parts p) else with_features (fresh_parts p) (λ f. stopped (feature_of (fresh_parts p) f)))
    by true =
        sent_judged (fresh_parts p)
        (record { groups = fresh_judged Groups 1 p.groups.max p.groups.setting; flow = fresh_judged Flow 1 p.flow.max p.flow.setting; applications = fresh_judged Applications 1 p.applications.max p.applications.setting })
    by false =
        record {
          groups = none_judged Groups _ (fresh_held Groups 1 p.groups.max p.groups.setting);
          flow = none_judged Flow _ (fresh_held Flow 1 p.flow.max p.flow.setting);
          applications = none_judged Applications _ (fresh_held Applications 1 p.applications.max p.applications.setting);
        }

module _ (p : Port) (h : Judged p) where
  flag_judged : (flag : Flag) (on : Bool) → Judged (with_flag p flag on)
  flag_judged Admin on = record { groups = h.groups; flow = h.flow; applications = h.applications }
  flag_judged Receive on = record { groups = h.groups; flow = h.flow; applications = h.applications }
  flag_judged Transmit on = record { groups = h.groups; flow = h.flow; applications = h.applications }
  flag_judged Several on = record { groups = h.groups; flow = h.flow; applications = h.applications }

  pub flagged_judged : (flag : Flag) (on : Bool) → Judged (flagged flag on p).port
  unfolding flagged flag_set
  flagged_judged flag on = by (beq (flag_of p flag) on) (restarts flag on p (with_flag p flag on))
    where
      by : (a b : Bool) → Judged (if a then unchanged p else event (flag_notice flag on) p (if b then fresh_port (with_flag p flag on) else with_flag p flag on)).port
      by true b = h
      by false true = fresh_port_judged (with_flag p flag on)
      by false false = flag_judged flag on

  pub gone_judged : Judged (peer_gone p).port
  unfolding peer_gone
  gone_judged = by (running p) _
    where
      by : (b : Bool) (x : Raised) → Judged (if not b then refused NotRunning p else event x p (fresh_port p)).port
      by false x = h
      by true x = fresh_port_judged p

  with_judged : (f : Feature) (x : State) → JudgedState f x → Judged (with_feature p f x)
  with_judged Groups x k = record { groups = k; flow = h.flow; applications = h.applications }
  with_judged Flow x k = record { groups = h.groups; flow = k; applications = h.applications }
  with_judged Applications x k = record { groups = h.groups; flow = h.flow; applications = k }

  module _ (s : SoundPort p) where
    changed_judged : (f : Feature) (w : Switches) (o : List ℕ) → Judged (changed_feature f w o p).port
    unfolding changed_feature set_to setting_changed
    changed_judged f w o = by (valid_local f o) (same_setting (feature_of p f).setting (setting_of f w o)) (running p)
      where
        x : State
        x = reset f p.control.seq (setting_of f w o) (feature_of p f)

        by : (a b c : Bool)
            → Judged
            (if a then
            if b then unchanged p
            else event None p
            (if c then completed p (with_feature p f x) else fresh_port (with_feature p f (with_setting (feature_of p f) (setting_of f w o))))
            else refused InvalidSetting p).port
        by false b c = h
        by true true c = h
        by true false true = completed_judged p (with_feature p f x) (with_judged f x (reset_judged f p.control.seq (setting_of f w o) (feature_of p f) (s.features f)))
        by true false false = fresh_port_judged (with_feature p f (with_setting (feature_of p f) (setting_of f w o)))

    pub setting_judged : (number : ℕ) (w : Switches) (o : List ℕ) → Judged (changed_setting number w o p).port
    unfolding changed_setting changed_applications
    setting_judged number w o = by (number is 2) (number is 3) (number is 4) (has_applications p.revision)
      where
        by : (a b c d : Bool)
            → Judged
            (if a then changed_feature Groups w o p
            else if b then changed_feature Flow w o p
            else if c then (if d then changed_feature Applications w o p else refused UnknownFeature p)
            else refused UnknownFeature p).port
        by true b c d = changed_judged Groups w o
        by false true c d = changed_judged Flow w o
        by false false true true = changed_judged Applications w o
        by false false true false = h
        by false false false d = h

pub created_judged : (v : Versions) (w : Feature → Switches) (o : Feature → List ℕ) → Judged (created_port v w o)
unfolding started
created_judged v w o =
    sent_judged _
    (record {
      groups = fresh_judged Groups 1 v.groups (setting_of Groups (w Groups) (o Groups));
      flow = fresh_judged Flow 1 v.flow (setting_of Flow (w Flow) (o Flow));
      applications = fresh_judged Applications 1 v.applications (setting_of Applications (w Applications) (o Applications));
    })

pub blank_judged : Judged blank_port
unfolding blank_port
blank_judged = record { groups = fresh_judged Groups 1 0 _; flow = fresh_judged Flow 1 0 _; applications = fresh_judged Applications 1 0 _ }
