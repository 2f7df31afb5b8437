-- The mark of a broken control decides nothing but its notice: but for the mark, what an operation makes of a port is the same whatever the
-- mark was, and a refused one leaves the port. So refused calls may be left out of any list, but for marks and log. Assumes nothing.
use Prim.Native.Nat.{ℕ}
use mathlib.Core.Path.{◌≡◌, refl, sym, ap, ◌∙◌}
use mathlib.Core.Bool.{Bool, true, false, not, beq}
use mathlib.Core.List.{List, [], ◌∷◌}
use lib.ListN.{length}
use borrow.Author.Tests.{eqb-true, eqb-false}
use Rattle.std.specs.Prelude.{if◌then◌else◌, None, Ok, Err}
use Rattle.octets.specs.Words.{◌is◌}
use Rattle.tlv.specs.declared.Refusal.TheVariants.{NotRunning, SeveralNeighbours, InvalidSetting, UnknownFeature, NoPort}
use Rattle.contents.specs.Contents.{Reading}
use Rattle.tlv.specs.Revisions.{has_applications}
use Rattle.reading.specs.Revisions.{read_for}
use Rattle.parameters.specs.declared.Feature.{Feature}
use Rattle.parameters.specs.declared.Feature.TheVariants.{Groups, Flow, Applications}
use Rattle.parameters.specs.Parameters.{valid_local}
use Rattle.feature.specs.declared.Setting.{Setting}
use Rattle.feature.specs.declared.State.{State}
use Rattle.feature.specs.declared.Switches.{Switches}
use Rattle.machine.specs.State.{next, setting_of, same_setting, reset}
use Rattle.notices.specs.Notices.{PortNumber, is_port}
use Rattle.port.specs.declared.Event.{Event}
use Rattle.port.specs.declared.Flag.{Flag}
use Rattle.port.specs.declared.Flag.TheVariants.{Admin, Receive, Transmit, Several}
use Rattle.port.specs.declared.Port.{Port}
use Rattle.port.specs.Types.{Raised}
use Rattle.port.specs.declared.Versions.{Versions}
use Rattle.port.specs.Parts.{with_control, release, with_flag, running}
use Rattle.sending.specs.Sending.{with_seq, raises_seq_no, sent, fresh_port, step5, completed}
use Rattle.events.specs.PortEvents.{refused, unchanged, event}
use Rattle.creation.specs.Creation.{made, created_port, settings_valid, versions_for, switches_for, parameters_for}
use Rattle.flags.specs.Flags.{restarts, flag_notice, flag_set, flagged, peer_gone}
use Rattle.changes.specs.Changes.{with_feature, with_setting, setting_changed, set_to, changed_feature, changed_applications, changed_setting}
use Rattle.creation.specs.Creation as creation
use Rattle.admission.specs.Admission.{rejected}
use Rattle.handling.specs.Handling.{twice, exchanged, once, steps1to4, frame_event, accepted, given, handled}
use Rattle.recorder.specs.declared.Recorder.{Recorder}
use Rattle.recorder.specs.Recorder.{port_at, happens, changed, created}
use Rattle.calls.specs.Calls.{Operation, create, frame, gone, flag, setting, write, take, Call, event_of, after, after_all, reply_of}
use Rattle.calls.specs.Calls as calls
use Rattle.calls.specs.Demand1.{unmarked}
use Rattle.calls.proofs.Refusals.{refused_port}
use Rattle.calls.proofs.Independent.{four_after, own_after, other_after}

-- ---- one operation at one port

sent_unmarked : (q : Port) → unmarked (sent q) ≡ unmarked (sent (unmarked q))
unfolding sent raises_seq_no
sent_unmarked q = by (raises_seq_no q)
  where
    by : (b : Bool) → unmarked (if b then release (with_control q (with_seq q.control (next q.control.seq))) else q)
        ≡ unmarked (if b then release (with_control (unmarked q) (with_seq (unmarked q).control (next q.control.seq))) else unmarked q)
    by true = refl
    by false = refl

-- over the tests of a definition
either_flag : (a b : Bool) (x y : Raised) (p q f s t : Port) → unmarked p ≡ unmarked q → unmarked s ≡ unmarked t
    → unmarked (if a then unchanged p else event x p (if b then f else s)).port ≡ unmarked (if a then unchanged q else event y q (if b then f else t)).port
either_flag true b x y p q f s t e d = e
either_flag false true x y p q f s t e d = refl
either_flag false false x y p q f s t e d = d

either_setting : (a b : Bool) (p q s t : Port) → unmarked p ≡ unmarked q → unmarked s ≡ unmarked t
    → unmarked (if a then if b then unchanged p else event None p s else refused InvalidSetting p).port
    ≡ unmarked (if a then if b then unchanged q else event None q t else refused InvalidSetting q).port
either_setting false b p q s t e d = e
either_setting true true p q s t e d = e
either_setting true false p q s t e d = d

either_number : (a b c : Bool) (x y z x' y' z' : Event) (p q : Port) → unmarked x.port ≡ unmarked x'.port → unmarked y.port ≡ unmarked y'.port
    → unmarked z.port ≡ unmarked z'.port → unmarked p ≡ unmarked q
    → unmarked (if a then x else if b then y else if c then z else refused UnknownFeature p).port
    ≡ unmarked (if a then x' else if b then y' else if c then z' else refused UnknownFeature q).port
either_number true b c x y z x' y' z' p q e d h k = e
either_number false true c x y z x' y' z' p q e d h k = d
either_number false false true x y z x' y' z' p q e d h k = h
either_number false false false x y z x' y' z' p q e d h k = k

at_port : (b : Bool) (x y : Event) (p q : Port) → unmarked x.port ≡ unmarked y.port → unmarked p ≡ unmarked q
    → unmarked (if b then x else refused NoPort p).port ≡ unmarked (if b then y else refused NoPort q).port
at_port true x y p q e d = e
at_port false x y p q e d = d

module _ (p : Port) where
  frame_unmarked : (o : List ℕ) → unmarked (handled p o).port ≡ unmarked (handled (unmarked p) o).port
  unfolding handled given accepted frame_event rejected steps1to4 twice once exchanged
  frame_unmarked o = by (running p) p.several (read_for p.revision o)
    where
      by : (a b : Bool) (x : Reading) →
          unmarked (if not a then rejected NotRunning 0 p else if b then rejected SeveralNeighbours 0 p else given o x p).port
          ≡ unmarked (if not a then rejected NotRunning 0 (unmarked p) else if b then rejected SeveralNeighbours 0 (unmarked p) else given o x (unmarked p)).port
      by false b x = refl
      by true true x = refl
      by true false (Err r) = refl
      by true false (Ok c) = refl

  gone_unmarked : unmarked (peer_gone p).port ≡ unmarked (peer_gone (unmarked p)).port
  unfolding peer_gone fresh_port
  gone_unmarked = by (running p) _ _
    where
      by : (b : Bool) (x y : Raised) → unmarked (if not b then refused NotRunning p else event x p (fresh_port p)).port
          ≡ unmarked (if not b then refused NotRunning (unmarked p) else event y (unmarked p) (fresh_port p)).port
      by false x y = refl
      by true x y = refl

  flag_unmarked : (x : Flag) (on : Bool) → unmarked (flagged x on p).port ≡ unmarked (flagged x on (unmarked p)).port
  unfolding flagged flag_set restarts fresh_port
  flag_unmarked Admin on =
      either_flag (beq p.admin on) (restarts Admin on p (with_flag p Admin on)) (flag_notice Admin on) (flag_notice Admin on) p (unmarked p) (fresh_port (with_flag p Admin on))
      (with_flag p Admin on) (with_flag (unmarked p) Admin on) refl refl
  flag_unmarked Receive on =
      either_flag (beq p.receive on) (restarts Receive on p (with_flag p Receive on)) (flag_notice Receive on) (flag_notice Receive on) p (unmarked p) (fresh_port (with_flag p Receive on))
      (with_flag p Receive on) (with_flag (unmarked p) Receive on) refl refl
  flag_unmarked Transmit on =
      either_flag (beq p.transmit on) (restarts Transmit on p (with_flag p Transmit on)) (flag_notice Transmit on) (flag_notice Transmit on) p (unmarked p) (fresh_port (with_flag p Transmit on))
      (with_flag p Transmit on) (with_flag (unmarked p) Transmit on) refl refl
  flag_unmarked Several on =
      either_flag (beq p.several on) (restarts Several on p (with_flag p Several on)) (flag_notice Several on) (flag_notice Several on) p (unmarked p) (fresh_port (with_flag p Several on))
      (with_flag p Several on) (with_flag (unmarked p) Several on) refl refl

  set-unmarked : (f : Feature) (s : Setting) → unmarked (setting_changed f s p) ≡ unmarked (setting_changed f s (unmarked p))
  unfolding setting_changed fresh_port
  set-unmarked Groups s = by (running p) (reset Groups p.control.seq s p.groups) (with_setting p.groups s)
    where
      by : (b : Bool) (x y : State) → unmarked (if b then completed p (with_feature p Groups x) else fresh_port (with_feature p Groups y))
          ≡ unmarked (if b then completed (unmarked p) (with_feature (unmarked p) Groups x) else fresh_port (with_feature (unmarked p) Groups y))
      by true x y = sent_unmarked (step5 p (with_feature p Groups x))
      by false x y = refl
  set-unmarked Flow s = by (running p) (reset Flow p.control.seq s p.flow) (with_setting p.flow s)
    where
      by : (b : Bool) (x y : State) → unmarked (if b then completed p (with_feature p Flow x) else fresh_port (with_feature p Flow y))
          ≡ unmarked (if b then completed (unmarked p) (with_feature (unmarked p) Flow x) else fresh_port (with_feature (unmarked p) Flow y))
      by true x y = sent_unmarked (step5 p (with_feature p Flow x))
      by false x y = refl
  set-unmarked Applications s = by (running p) (reset Applications p.control.seq s p.applications) (with_setting p.applications s)
    where
      by : (b : Bool) (x y : State) → unmarked (if b then completed p (with_feature p Applications x) else fresh_port (with_feature p Applications y))
          ≡ unmarked (if b then completed (unmarked p) (with_feature (unmarked p) Applications x) else fresh_port (with_feature (unmarked p) Applications y))
      by true x y = sent_unmarked (step5 p (with_feature p Applications x))
      by false x y = refl

  feature_unmarked : (f : Feature) (w : Switches) (o : List ℕ) → unmarked (changed_feature f w o p).port ≡ unmarked (changed_feature f w o (unmarked p)).port
  unfolding changed_feature set_to
  feature_unmarked Groups w o =
      either_setting (valid_local Groups o) (same_setting p.groups.setting (setting_of Groups w o)) p (unmarked p) (setting_changed Groups (setting_of Groups w o) p) (setting_changed Groups (setting_of Groups w o) (unmarked p))
      refl (set-unmarked Groups (setting_of Groups w o))
  feature_unmarked Flow w o =
      either_setting (valid_local Flow o) (same_setting p.flow.setting (setting_of Flow w o)) p (unmarked p) (setting_changed Flow (setting_of Flow w o) p) (setting_changed Flow (setting_of Flow w o) (unmarked p))
      refl (set-unmarked Flow (setting_of Flow w o))
  feature_unmarked Applications w o =
      either_setting (valid_local Applications o) (same_setting p.applications.setting (setting_of Applications w o)) p (unmarked p) (setting_changed Applications (setting_of Applications w o) p) (setting_changed Applications (setting_of Applications w o) (unmarked p))
      refl (set-unmarked Applications (setting_of Applications w o))

  applications_unmarked : (w : Switches) (o : List ℕ) → unmarked (changed_applications w o p).port ≡ unmarked (changed_applications w o (unmarked p)).port
  unfolding changed_applications
  applications_unmarked w o = by (has_applications p.revision)
    where
      by : (b : Bool) → unmarked (if b then changed_feature Applications w o p else refused UnknownFeature p).port
          ≡ unmarked (if b then changed_feature Applications w o (unmarked p) else refused UnknownFeature (unmarked p)).port
      by true = feature_unmarked Applications w o
      by false = refl

  setting_unmarked : (number : ℕ) (w : Switches) (o : List ℕ) → unmarked (changed_setting number w o p).port ≡ unmarked (changed_setting number w o (unmarked p)).port
  unfolding changed_setting
  setting_unmarked number w o =
      either_number (number is 2) (number is 3) (number is 4) _ _ _ _ _ _ p (unmarked p) (feature_unmarked Groups w o) (feature_unmarked Flow w o)
      (applications_unmarked w o) refl

  created_unmarked : (v : Versions) (w : Feature → Switches) (o : Feature → List ℕ) → unmarked (creation.created v w o p).port ≡ unmarked (creation.created v w o (unmarked p)).port
  unfolding creation.created creation.created_with
  created_unmarked v w o = by (settings_valid (parameters_for v.revision o)) (created_port (versions_for v) (switches_for v.revision w) (parameters_for v.revision o))
    where
      by : (b : Bool) (q : Port) → unmarked (if b then made p q else refused InvalidSetting p).port ≡ unmarked (if b then made (unmarked p) q else refused InvalidSetting (unmarked p)).port
      by true q = refl
      by false q = refl

  pub event_unmarked : (n : ℕ) (x : Operation) → unmarked (event_of n p x).port ≡ unmarked (event_of n (unmarked p) x).port
  unfolding event_of changed created happens
  event_unmarked n (create v w o) = at_port (is_port n) _ _ p (unmarked p) (created_unmarked v w o) refl
  event_unmarked n (frame o) = at_port (is_port n) _ _ p (unmarked p) (frame_unmarked o) refl
  event_unmarked n gone = at_port (is_port n) _ _ p (unmarked p) gone_unmarked refl
  event_unmarked n (flag x on) = at_port (is_port n) _ _ p (unmarked p) (flag_unmarked x on) refl
  event_unmarked n (setting number w o) = at_port (is_port n) _ _ p (unmarked p) (setting_unmarked number w o) refl
  event_unmarked n (write out) = refl
  event_unmarked n take = refl

-- ---- two recorders whose ports are the same but for marks

pub record Alike (r q : Recorder) : Type 0 where
  four_r : length r.ports ≡ 4
  four_q : length q.ports ≡ 4
  ports : (n : ℕ) → PortNumber n → unmarked (port_at r n) ≡ unmarked (port_at q n)

module _ (r q : Recorder) (h : Alike r q) (x : Call) where
  both_after : Alike (after r x) (after q x)
  both_after =
      record {
        four_r = four_after r x.port x.operation ∙ h.four_r;
        four_q = four_after q x.port x.operation ∙ h.four_q;
        ports = λ n p. by n p (x.port is n) refl;
      }
    where
      by : (n : ℕ) → PortNumber n → (b : Bool) → (x.port is n) ≡ b → unmarked (port_at (after r x) n) ≡ unmarked (port_at (after q x) n)
      by n p true e =
          rw (eqb-true x.port n e)
          (ap unmarked (own_after r h.four_r n x.operation)
          ∙ event_unmarked (port_at r n) n x.operation
          ∙ ap (λ (z : Port). unmarked (event_of n z x.operation).port) (h.ports n p)
          ∙ sym (event_unmarked (port_at q n) n x.operation)
          ∙ sym (ap unmarked (own_after q h.four_q n x.operation)))
      by n p false e =
          let d : x.port ≡ n → ⊥ = eqb-false x.port n e in
          ap unmarked (other_after r x.port n p d x.operation) ∙ h.ports n p ∙ sym (ap unmarked (other_after q x.port n p d x.operation))

  -- the first is given a call that it refuses
  one_after : ((reply_of r x).number is 0) ≡ false → Alike (after r x) q
  one_after refuses =
      record { four_r = four_after r x.port x.operation ∙ h.four_r; four_q = h.four_q; ports = λ n p. by n p (x.port is n) refl }
    where
      by : (n : ℕ) → PortNumber n → (b : Bool) → (x.port is n) ≡ b → unmarked (port_at (after r x) n) ≡ unmarked (port_at q n)
      by n p true e =
          let m : x.port ≡ n = eqb-true x.port n e in
          ap (λ (i : ℕ). unmarked (port_at (calls.after_at r i x.operation) n)) m
          ∙ ap unmarked (own_after r h.four_r n x.operation)
          ∙ refused_port r n x.operation (ap (λ (i : ℕ). (calls.reply_at r i x.operation).number is 0) (sym m) ∙ refuses)
          ∙ h.ports n p
      by n p false e = ap unmarked (other_after r x.port n p (eqb-false x.port n e) x.operation) ∙ h.ports n p

pub left_out_marks : (r q : Recorder) (xs : List Call) → Alike r q → (n : ℕ) → PortNumber n
    → unmarked (port_at (after_all r xs) n) ≡ unmarked (port_at (after_all q (calls.accepted r xs)) n)
unfolding after_all calls.accepted
left_out_marks r q [] h n p = h.ports n p
left_out_marks r q (x ∷ xs) h n p = by (λ z k. left_out_marks (after r x) z xs k n p) ((reply_of r x).number is 0) refl
  where
    by : ((z : Recorder) → Alike (after r x) z → unmarked (port_at (after_all (after r x) xs) n) ≡ unmarked (port_at (after_all z (calls.accepted (after r x) xs)) n))
        → (b : Bool) → ((reply_of r x).number is 0) ≡ b
        → unmarked (port_at (after_all (after r x) xs) n)
        ≡ unmarked (port_at (after_all q (if b then x ∷ calls.accepted (after r x) xs else calls.accepted (after r x) xs)) n)
    by later true e = later (after q x) (both_after r q h x)
    by later false e = later q (one_after r q h x e)

pub alike_itself : (r : Recorder) → length r.ports ≡ 4 → Alike r r
alike_itself r four = record { four_r = four; four_q = four; ports = λ n p. refl }
