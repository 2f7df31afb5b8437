-- A frame that repeats what is held of the peer changes the control alone, raises nothing, and asks for a send exactly if the control is
-- written otherwise: at every port that is sound and whose peers were judged, as every reachable port is. Assumes nothing.
use Prim.Native.Nat.{ℕ, ◌%◌}
use native.Mathlib.Nat.{min-le_right}
use mathlib.Core.Path.{◌≡◌, refl, sym, ap, ◌∙◌}
use mathlib.Core.Bool.{Bool, true, false, not, ◌&&◌, ◌||◌, beq, false≢true}
use mathlib.Core.List.{List}
use lib.ListN.{length}
use borrow.Author.Tests.{eqb-true, eq-eqb, le-ltb}
use Rattle.std.specs.Prelude.{if◌then◌else◌, None, Ok, Err, Option, Some}
use Rattle.octets.specs.Words.{◌below◌, ◌is◌}
use Rattle.octets.specs.Octets.{at, same}
use Rattle.octets.specs.Laws.{same_is, and_left, and_right}
use Rattle.contents.specs.declared.Contents.{Contents}
use Rattle.tlv.specs.declared.Refusal.TheVariants.{NotRunning, SeveralNeighbours}
use Rattle.reading.specs.Revisions.{read_for}
use Rattle.contents.specs.Contents.{Reading, value_of}
use Rattle.parameters.specs.declared.Feature.{Feature}
use Rattle.parameters.specs.declared.Feature.TheVariants.{Groups, Flow, Applications}
use Rattle.parameters.specs.Parameters.{valid_groups, valid_flow, valid_applications, few_and_new, valid, ours, stored, content}
use Rattle.feature.specs.declared.Reason.{Reason}
use Rattle.feature.specs.declared.Peer.{Peer}
use Rattle.feature.specs.declared.State.{State}
use Rattle.turn.specs.declared.Course.{Course}
use Rattle.turn.specs.declared.Course.TheVariants.{Twice, OtherVersion, Exchange}
use Rattle.feature.specs.Reasons.{reason_number}
use Rattle.feature.specs.Outcome.{oper_of, max_of, enable_of, willing_of, error_of, parameters_of, lower, held_peer, judged, outcome}
use Rattle.machine.specs.State.{present, with_outcome, marked}
use Rattle.turn.specs.Turn.{acknowledged, received}
use Rattle.machine.specs.StateLaws.{changed_not, marked_same}
use Rattle.turn.specs.TurnLaws.{after}
use Rattle.notices.specs.declared.Kind.TheVariants.{DuplicateControl}
use Rattle.port.specs.declared.Port.{Port}
use Rattle.port.specs.Parts.{feature_of, with_control, running}
use Rattle.port.specs.Sound.{SoundState, SoundPort}
use Rattle.port.specs.Writing.{control_value, asks}
use Rattle.port.proofs.WritingLaws.{asks_control}
use Rattle.sending.specs.Sending.{unacknowledged, completed}
use Rattle.events.specs.PortEvents.{becomes}
use Rattle.admission.specs.declared.Heard.{Heard}
use Rattle.admission.specs.Admission.{message, has_of, newly_marked, rejected}
use Rattle.handling.specs.Handling.{steps1to4, frame_event, accepted, given, handled}
use Rattle.admission.specs.AdmissionLaws.{control_by, heard_of}
use Rattle.handling.specs.HandlingLaws.{state_by, up_by, port_by}
use Rattle.handling.proofs.HandlingLaws.{completed_by}
use Rattle.repeating.specs.declared.Repetition.{Repetition}
use Rattle.repeating.specs.Repeating.{flags_are, repeats_peer, repeats_by, whole_entries, holds_of, repeats_held, repeats_in, is_exchange, repeats_all, repeat_in, repeat_given, repetition}
use Rattle.repeating.proofs.Judging.{JudgedState, Judged}

pub none_some : {r : Repetition} → None ≡ Some r → ⊥
none_some e = cc

-- ---- one feature

beq_is : (a b : Bool) → beq a b ≡ true → a ≡ b
beq_is true true e = refl
beq_is true false e = sym e
beq_is false true e = e
beq_is false false e = refl

-- what the tests say
record Repeats (f : Feature) (x : State) (v : List ℕ) : Type 0 where
  peer : Peer
  held : x.outcome.peer ≡ Some peer
  long : length v below 4 ≡ false
  oper : oper_of v is x.outcome.oper ≡ true
  low : lower x.max (max_of v) is x.outcome.oper ≡ true
  flags : flags_are (at v 2) peer.enable peer.willing peer.error ≡ true
  parameters : holds_of f (parameters_of v) (content peer.parameters) ≡ true

repeats_told_peer : (f : Feature) (x : State) (v : List ℕ) (q : Peer) → x.outcome.peer ≡ Some q → repeats_peer f x.max x.outcome.oper q v ≡ true → Repeats f x v
unfolding repeats_peer
repeats_told_peer f x v q held =
    by (length v below 4) (oper_of v is x.outcome.oper) (lower x.max (max_of v) is x.outcome.oper) (flags_are (at v 2) q.enable q.willing q.error) refl refl refl refl
  where
    by : (b c d e : Bool) → (length v below 4) ≡ b → (oper_of v is x.outcome.oper) ≡ c → (lower x.max (max_of v) is x.outcome.oper) ≡ d
        → flags_are (at v 2) q.enable q.willing q.error ≡ e
        → (if b then false else if not c then false else if not d then false else if not e then false
        else holds_of f (parameters_of v) (content q.parameters)) ≡ true → Repeats f x v
    by true c d e eb ec ed ee t = absurd (false≢true t)
    by false false d e eb ec ed ee t = absurd (false≢true t)
    by false true false e eb ec ed ee t = absurd (false≢true t)
    by false true true false eb ec ed ee t = absurd (false≢true t)
    by false true true true eb ec ed ee t = record { peer = q; held = held; long = eb; oper = ec; low = ed; flags = ee; parameters = t }

repeats_told : (f : Feature) (x : State) (v : List ℕ) → repeats_held f x v ≡ true → Repeats f x v
unfolding repeats_held
repeats_told f x v = by x.outcome.peer refl
  where
    by : (o : Option Peer) → x.outcome.peer ≡ o → repeats_by f x.max x.outcome.oper o v ≡ true → Repeats f x v
    by None e t = absurd (false≢true t)
    by (Some q) e t = repeats_told_peer f x v q e t

groups_whole : (p : List ℕ) → p ≡ ours Groups p
unfolding ours
groups_whole p = refl

flow_whole : (p : List ℕ) → p ≡ ours Flow p
unfolding ours
flow_whole p = refl

-- parameters of which valid ones would be held, in whole entries, are valid
entries_valid : (p held : List ℕ) → whole_entries Applications p ≡ true → ours Applications p ≡ held → ours Applications held ≡ held → valid_applications held ≡ true
    → valid_applications p ≡ true
unfolding valid_applications
entries_valid p held w e own h = rw (w, e) (sym (ap few_and_new own) ∙ and_right (length held % 6 is 0) (few_and_new (ours Applications held)) h)

valid_by : (f : Feature) (p held : List ℕ) → whole_entries f p ≡ true → ours f p ≡ held → ours f held ≡ held → valid f held ≡ true → valid f p ≡ true
unfolding valid
valid_by Groups p held w e own h = ap valid_groups (groups_whole p ∙ e) ∙ h
valid_by Flow p held w e own h = ap valid_flow (flow_whole p ∙ e) ∙ h
valid_by Applications p held w e own h = entries_valid p held w e own h

module _ (f : Feature) (x : State) (h : SoundState f x) (j : JudgedState f x) where
  module _ (v : List ℕ) (t : Repeats f x v) where
    abbrev p : Peer
    p = t.peer

    whole : whole_entries f (parameters_of v) ≡ true
    unfolding holds_of
    whole = and_left (whole_entries f (parameters_of v)) (same (ours f (parameters_of v)) (content p.parameters)) t.parameters

    octets : ours f (parameters_of v) ≡ content p.parameters
    unfolding holds_of
    octets =
        same_is (ours f (parameters_of v)) (content p.parameters)
        (and_right (whole_entries f (parameters_of v)) (same (ours f (parameters_of v)) (content p.parameters)) t.parameters)

    stores : stored (ours f (parameters_of v)) ≡ p.parameters
    stores = ap stored octets ∙ sym (h.peer.some p t.held).whole

    first_two : beq (enable_of v) p.enable && beq (willing_of v) p.willing ≡ true
    first_two = and_left (beq (enable_of v) p.enable && beq (willing_of v) p.willing) (beq (error_of v) p.error) t.flags

    peer_is : held_peer f v ≡ p
    peer_is =
        let a : enable_of v ≡ p.enable = beq_is (enable_of v) p.enable (and_left (beq (enable_of v) p.enable) (beq (willing_of v) p.willing) first_two) in
        let b : willing_of v ≡ p.willing = beq_is (willing_of v) p.willing (and_right (beq (enable_of v) p.enable) (beq (willing_of v) p.willing) first_two) in
        let c : error_of v ≡ p.error = beq_is (error_of v) p.error (and_right (beq (enable_of v) p.enable && beq (willing_of v) p.willing) (beq (error_of v) p.error) t.flags) in
        λ i. record { enable = a i; willing = b i; error = c i; parameters = stores i }

    low_is : lower x.max (max_of v) ≡ x.outcome.oper
    low_is = eqb-true (lower x.max (max_of v)) x.outcome.oper t.low

    oper_is : oper_of v ≡ lower x.max (max_of v)
    oper_is = eqb-true (oper_of v) x.outcome.oper t.oper ∙ sym low_is

    ordered : (max_of v below oper_of v) ≡ false
    ordered = le-ltb (max_of v) (oper_of v) (rw oper_is (min-le_right x.max (max_of v)))

    good : valid f (parameters_of v) ≡ true
    good = valid_by f (parameters_of v) (content p.parameters) whole octets (h.peer.some p t.held).own (h.peer.some p t.held).valid

    outcome_is : outcome f x.max x.setting x.outcome.oper (record { count = 1; value = v }) ≡ x.outcome
    unfolding outcome
    outcome_is =
        simp (t.long, ordered, eq-eqb (oper_of v) (lower x.max (max_of v)) oper_is, good)
        ((λ i. judged f x.setting (low_is i) (peer_is i)) ∙ sym (j.outcome p t.held))

  acknowledges : x.syncd ≡ true → (rcvd seq : ℕ) → acknowledged rcvd seq x ≡ x
  unfolding acknowledged
  acknowledges s rcvd seq =
      let e : (x.syncd || (x.sequence is rcvd && x.sequence is seq)) ≡ x.syncd = ap (λ (b : Bool). b || (x.sequence is rcvd && x.sequence is seq)) s ∙ sym s in
      λ i. record { max = x.max; setting = x.setting; outcome = x.outcome; syncd = e i; sequence = x.sequence }

  receives : (n : ℕ) (v : List ℕ) → repeats_in f x n v ≡ true → received f (record { count = n; value = v }) x ≡ x
  unfolding received repeats_in
  receives n v = by x.setting.advertise (n is 1) refl
    where
      by : (a b : Bool) → (n is 1) ≡ b → (if not a then true else if b then repeats_held f x v else false) ≡ true
          → (if a then with_outcome x (outcome f x.max x.setting x.outcome.oper (record { count = n; value = v })) else x) ≡ x
      by false b e t = refl
      by true false e t = absurd (false≢true t)
      by true true e t =
          let one : n ≡ 1 = eqb-true n 1 e in
          ap (with_outcome x)
          (ap (λ (n : ℕ). outcome f x.max x.setting x.outcome.oper (record { count = n; value = v })) one ∙ outcome_is v (repeats_told f x v t))

  unmarked : (seq : ℕ) → x ≡ marked f seq x x
  unmarked seq = marked_same f seq x x refl refl (changed_not f x.max x.max (present x) (present x) refl) refl

  -- steps 3 to 5 leave a Syncd feature whose sub-TLV is what is held
  feature_repeats : x.syncd ≡ true → (rcvd seq n : ℕ) (v : List ℕ) → repeats_in f x n v ≡ true → after Exchange f (record { count = n; value = v }) rcvd seq x ≡ x
  feature_repeats s rcvd seq n v t =
      ap (marked f seq x) (ap (received f (record { count = n; value = v })) (acknowledges s rcvd seq) ∙ receives n v t) ∙ sym (unmarked seq)

-- ---- the frame

becomes_same : (r : Reason) → becomes r r ≡ None
unfolding becomes
becomes_same r = simp (eq-eqb (reason_number r) (reason_number r) refl)

unmarks : (b : Bool) → newly_marked DuplicateControl b false ≡ None
unmarks true = refl
unmarks false = refl

module _ (p : Port) (h : SoundPort p) (j : Judged p) where
  judged_at : (f : Feature) → JudgedState f (feature_of p f)
  judged_at Groups = j.groups
  judged_at Flow = j.flow
  judged_at Applications = j.applications

  -- a control that is handled to the end
  module _ (o : List ℕ) (c : Contents) (runs : running p ≡ true) (k : Heard) (ek : k ≡ heard_of o c p.control) (exchange : k.course ≡ Exchange)
      (unmarked-control : k.control.duplicate ≡ false)
      (sg : p.groups.syncd ≡ true) (sw : p.flow.syncd ≡ true) (sa : p.applications.syncd ≡ true)
      (tg : repeats_in Groups p.groups c.groups.count (value_of o c.groups) ≡ true)
      (tw : repeats_in Flow p.flow c.flow.count (value_of o c.flow) ≡ true)
      (ta : repeats_in Applications p.applications c.applications.count (value_of o c.applications) ≡ true) where
    state_is : (f : Feature) → (feature_of p f).syncd ≡ true → repeats_in f (feature_of p f) (has_of o c f).count (has_of o c f).value ≡ true → state_by o c p k f ≡ feature_of p f
    state_is f s t =
        ap (λ (w : Course). after w f (has_of o c f) k.control.rcvd p.control.seq (feature_of p f)) exchange
        ∙ feature_repeats f (feature_of p f) (h.features f) (judged_at f) s k.control.rcvd p.control.seq (has_of o c f).count (has_of o c f).value t

    eg : state_by o c p k Groups ≡ p.groups
    eg = state_is Groups sg tg

    ew : state_by o c p k Flow ≡ p.flow
    ew = state_is Flow sw tw

    ea : state_by o c p k Applications ≡ p.applications
    ea = state_is Applications sa ta

    idle : up_by o c p k ≡ false
    unfolding unacknowledged
    idle = rw (eg, ew, ea, sg, sw, sa) refl

    left : completed p (steps1to4 o c p) ≡ with_control p k.control
    left = completed_by o c p ∙ ap (port_by o c p) (sym ek) ∙ rw (idle, eg, ew, ea) refl

    asked : not (same (control_value p.control) (control_value k.control)) ≡ asks p (with_control p k.control)
    asked = asks_control p (with_control p k.control) runs runs max refl refl
      where
        max : (f : Feature) → (feature_of (with_control p k.control) f).max ≡ (feature_of p f).max
        max Groups = refl
        max Flow = refl
        max Applications = refl

    accepts : accepted o c p ≡ repetition p (record { wish = not (same (control_value p.control) (control_value k.control)); control = k.control })
    unfolding accepted frame_event
    accepts =
        ap (frame_event p) left
        ∙ (λ i. record {
          answer = Ok (sym asked i);
          port = with_control p k.control;
          notices = record {
            port = (ap (newly_marked DuplicateControl p.control.duplicate) unmarked-control ∙ unmarks p.control.duplicate) i;
            groups = becomes_same p.groups.outcome.reason i;
            flow = becomes_same p.flow.outcome.reason i;
            applications = becomes_same p.applications.outcome.reason i;
          };
        })

  exchange_is : (w : Course) → is_exchange w ≡ true → w ≡ Exchange
  unfolding is_exchange
  exchange_is Twice e = absurd (false≢true e)
  exchange_is OtherVersion e = absurd (false≢true e)
  exchange_is Exchange e = refl

  unmarked_by : (o : List ℕ) (c : Contents) → (heard_of o c p.control).course ≡ Exchange → (heard_of o c p.control).control.duplicate ≡ false
  unfolding heard_of
  unmarked_by o c e = ap (λ (w : Course). (control_by w (message o c) p.control).duplicate) e

  accepted_repeats : (o : List ℕ) (c : Contents) → running p ≡ true → p.groups.syncd ≡ true → p.flow.syncd ≡ true → p.applications.syncd ≡ true
      → (r : Repetition) → repeat_in o c p ≡ Some r → accepted o c p ≡ repetition p r
  unfolding repeat_in repeats_all
  accepted_repeats o c runs sg sw sa r = by (is_exchange k.course) (repeats_all o c p) refl refl
    where
      k : Heard
      k = heard_of o c p.control

      w : Bool
      w = repeats_in Flow p.flow c.flow.count (value_of o c.flow)

      g : Bool
      g = repeats_in Groups p.groups c.groups.count (value_of o c.groups)

      a : Bool
      a = repeats_in Applications p.applications c.applications.count (value_of o c.applications)

      told : Repetition
      told = record { wish = not (same (control_value p.control) (control_value k.control)); control = k.control }

      by : (x y : Bool) → is_exchange k.course ≡ x → (w && g && a) ≡ y
          → (if not x then None else if not y then None else Some told) ≡ Some r
          → accepted o c p ≡ repetition p r
      by false y ex ey t = absurd (none_some t)
      by true false ex ey t = absurd (none_some t)
      by true true ex ey t =
          let q : k.course ≡ Exchange = exchange_is k.course ex in
          let two : (w && g) ≡ true = and_left (w && g) a ey in
          accepts o c runs k refl q (unmarked_by o c q) sg sw sa (and_right w g two) (and_left w g two) (and_right (w && g) a ey)
          ∙ ap (repetition p) (let d : told ≡ r = cc in d)

  pub repeated : (o : List ℕ) → running p ≡ true → p.several ≡ false → p.groups.syncd ≡ true → p.flow.syncd ≡ true → p.applications.syncd ≡ true
      → (r : Repetition) → repeat_given o (read_for p.revision o) p ≡ Some r → handled p o ≡ repetition p r
  unfolding handled repeat_given given
  repeated o runs one sg sw sa r t = taken (running p) p.several runs one ∙ by (read_for p.revision o) t
    where
      taken : (a b : Bool) → a ≡ true → b ≡ false
          → (if not a then rejected NotRunning 0 p else if b then rejected SeveralNeighbours 0 p else given o (read_for p.revision o) p) ≡ given o (read_for p.revision o) p
      taken false b e f = absurd (false≢true e)
      taken true true e f = absurd (false≢true (sym f))
      taken true false e f = refl

      by : (x : Reading) → repeat_given o x p ≡ Some r → given o x p ≡ repetition p r
      by (Err e) t = absurd (none_some t)
      by (Ok c) t = accepted_repeats o c runs sg sw sa r t
