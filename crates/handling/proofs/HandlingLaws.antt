-- Handling a frame by its small part, decided first, and the port that is made of it: laws for each way out of the functions. Assumes
-- nothing.
use Rattle.tlv.specs.Refusals.{rejection}
use Rattle.std.specs.Option.{is_some}
use Rattle.std.specs.Prelude.{Option, None, Some, ℕ, Bool, true, false, ◌&&◌, ◌||◌, ◌≡◌, List, if◌then◌else◌, Ok, Err}
use Rattle.std.proofs.Math.Bool.{not}
use Rattle.std.proofs.Common.{◌∙◌}
use Rattle.std.proofs.Math.Path.{refl, sym, ap}
use Rattle.octets.specs.Words.{◌below◌, ◌is◌}
use Rattle.octets.specs.Octets.{same}
use Rattle.contents.specs.declared.Contents.{Contents}
use Rattle.contents.specs.declared.Found.{Found}
use Rattle.tlv.specs.declared.Rejection.{Rejection}
use Rattle.tlv.specs.declared.Refusal.TheVariants.{NotRunning, SeveralNeighbours}
use Rattle.reading.specs.Revisions.{read_for}
use Rattle.contents.specs.Contents.{Reading, value_of}
use Rattle.parameters.specs.declared.Feature.{Feature}
use Rattle.parameters.specs.declared.Feature.TheVariants.{Groups, Flow, Applications}
use Rattle.parameters.specs.declared.Parameters.{Parameters}
use Rattle.feature.specs.declared.Peer.{Peer}
use Rattle.feature.specs.declared.State.{State}
use Rattle.feature.specs.OutcomeLaws.{flags_held}
use Rattle.turn.specs.declared.Course.{Course}
use Rattle.turn.specs.declared.Turn.{Turn}
use Rattle.feature.specs.Outcome.{lower}
use Rattle.machine.specs.State.{next, marked}
use Rattle.turn.specs.Turn.{control_twice, acknowledged, received}
use Rattle.turn.specs.TurnLaws.{Same, after, turn_of, peer_parameters_after, renewed, after_same, renewed_after}
use Rattle.admission.specs.declared.Heard.{Heard}
use Rattle.handling.specs.declared.Change.{Change}
use Rattle.port.specs.declared.Control.{Control}
use Rattle.port.specs.declared.Port.{Port}
use Rattle.parameters.specs.declared.Each.{Each}
use Rattle.feature.specs.declared.Release.{Release}
use Rattle.port.specs.declared.Notices.{Notices}
use Rattle.port.specs.declared.Event.{Event}
use Rattle.notices.specs.declared.Kind.TheVariants.{DuplicateControl}
use Rattle.port.specs.Parts.{feature_of, three, with_control, with_features, presents, with_released, release, some, running}
use Rattle.port.specs.Writing.{control_value, asks}
use Rattle.sending.specs.SendingLaws.{counted}
use Rattle.sending.proofs.SendingLaws.{sent_counted}
use Rattle.sending.specs.Sending.{unacknowledged, raises_seq_no, step5, completed}
use Rattle.events.specs.PortEvents.{becomes, raises}
use Rattle.port.proofs.WritingLaws.{controls_raised, asks_control, asks_raised}
use Rattle.admission.specs.Admission.{has_of, message, seen_twice, met, numbered, newly_marked, rejected}
use Rattle.admission.specs.AdmissionLaws.{admitted, Admits, heard_of, heard_seq}
use Rattle.handling.specs.Handling.{twice, exchanged, once, steps1to4, mark_notice, frame_event, accepted, given, handled}
use Rattle.handling.specs.HandlingLaws.{after_in, change_of, control_after, port_by, state_by, unreleased, up_by, waits_by}

pub handled_admitted : (p : Port) (o : List ℕ) → handled p o ≡ given o (admitted p o) p
unfolding handled given admitted
handled_admitted p o = by (running p) p.several
  where
    by : (a b : Bool) → (if not a then rejected NotRunning 0 p else if b then rejected SeveralNeighbours 0 p else given o (read_for p.revision o) p)
        ≡ given o (if not a then Err (rejection NotRunning 0) else if b then Err (rejection SeveralNeighbours 0) else read_for p.revision o) p
    by false b = refl
    by true true = refl
    by true false = refl

pub turn_is : (f : Feature) (x : State) (h : Heard) (seq : ℕ) (o : List ℕ) (found : Found) {v : List ℕ} {t : Turn} → v ≡ value_of o found
    → t ≡ turn_of (after h.course f (record { count = found.count; value = v }) h.control.rcvd seq x) → t ≡ after_in f x h seq o found
turn_is f x h seq o found ev e =
    e ∙ ap (λ (v : List ℕ). turn_of (after h.course f (record { count = found.count; value = v }) h.control.rcvd seq x)) ev

pub completed_by : (o : List ℕ) (c : Contents) (p : Port) → completed p (steps1to4 o c p) ≡ port_by o c p (heard_of o c p.control)
unfolding steps1to4 once twice exchanged heard_of
completed_by o c p = by (1 below c.control.count) ((message o c).oper is lower p.control.max (message o c).max) refl refl
  where
    by : (a b : Bool) → 1 below c.control.count ≡ a → (message o c).oper is lower p.control.max (message o c).max ≡ b
        → completed p (steps1to4 o c p) ≡ port_by o c p (heard_of o c p.control)
    by true b ea eb = rw ea (sent_counted p (seen_twice p.control) (λ f. marked f p.control.seq (feature_of p f) (control_twice (feature_of p f))))
    by false true ea eb =
        rw (ea, eb)
        (sent_counted p (numbered (lower p.control.max (message o c).max) (message o c) p.control)
        (λ f. marked f p.control.seq (feature_of p f) (received f (has_of o c f) (acknowledged (message o c).ack p.control.seq (feature_of p f)))))
    by false false ea eb =
        rw (ea, eb) (sent_counted p (met (lower p.control.max (message o c).max) p.control) (λ f. marked f p.control.seq (feature_of p f) (feature_of p f)))

pub release_is : (p : Port) {r : Each Release} → r ≡ presents p.groups p.flow p.applications → with_released p r ≡ release p
release_is p e = rw e refl

-- whether SeqNo goes up, by the way that the frame takes
raises_by : (o : List ℕ) (c : Contents) (p : Port) → raises_seq_no (step5 p (steps1to4 o c p)) ≡ up_by o c p (heard_of o c p.control)
unfolding raises_seq_no steps1to4 once twice exchanged heard_of
raises_by o c p = by (1 below c.control.count) ((message o c).oper is lower p.control.max (message o c).max) refl refl
  where
    by : (a b : Bool) → 1 below c.control.count ≡ a → (message o c).oper is lower p.control.max (message o c).max ≡ b
        → raises_seq_no (step5 p (steps1to4 o c p)) ≡ up_by o c p (heard_of o c p.control)
    by true b ea eb = rw ea refl
    by false true ea eb = rw (ea, eb) refl
    by false false ea eb = rw (ea, eb) refl

-- ---- what is decided, and what is made of it

module _ (o : List ℕ) (c : Contents) (p : Port) where
  module _ (runs : running p ≡ true) {h : Heard} (eh : h ≡ heard_of o c p.control) {g w a : Turn} (eg : g ≡ after_in Groups p.groups h p.control.seq o c.groups)
      (ew : w ≡ after_in Flow p.flow h p.control.seq o c.flow) (ea : a ≡ after_in Applications p.applications h p.control.seq o c.applications) where
    abbrev q : Port
    q = port_by o c p h

    done : completed p (steps1to4 o c p) ≡ q
    done = completed_by o c p ∙ ap (port_by o c p) (sym eh)

    kept : (f : Feature) → Same (feature_of p f) (state_by o c p h f)
    kept f = after_same h.course f (has_of o c f) h.control.rcvd p.control.seq (feature_of p f)

    -- a release comes with another SeqNo
    wished : (u : Bool) → up_by o c p h ≡ u → {s : Bool} → s ≡ same (control_value p.control) (control_value q.control) → not s ≡ asks p q
    wished true e {s} es =
        let seq : q.control.seq ≡ next p.control.seq = rw e (ap next (ap (λ (h : Heard). h.control.seq) eh ∙ heard_seq o c p.control)) in
        let t : s ≡ false = es ∙ controls_raised p.control q.control seq in
        ap not t ∙ asks_raised p q runs runs es t
    wished false e es = asks_control p q runs runs (λ f. max f) (rw e refl) es
      where
        max : (f : Feature) → (feature_of q f).max ≡ (feature_of p f).max
        max Groups = (kept Groups).max
        max Flow = (kept Flow).max
        max Applications = (kept Applications).max

    pub decide_is : {x y z : Bool} → x ≡ waits_by g → y ≡ waits_by w → z ≡ waits_by a
        → {u : Bool} → u ≡ (((x || y) || z) && h.control.rcvd is h.control.seq) → {k : Control} → k ≡ counted u h.control
        → {s : Bool} → s ≡ same (control_value p.control) (control_value k)
        → {n : Notices} → n.port ≡ newly_marked DuplicateControl p.control.duplicate k.duplicate → n.groups ≡ becomes p.groups.outcome.reason g.decision.reason
        → n.flow ≡ becomes p.flow.outcome.reason w.decision.reason → n.applications ≡ becomes p.applications.outcome.reason a.decision.reason
        → record { course = h.course; wish = not s; releases = u; control = k; groups = g; flow = w; applications = a; notices = n } ≡ change_of o c p
    unfolding change_of unacknowledged
    decide_is {x} {y} {z} ex ey ez {u} eu {k} ek {s} es {n} np ng nw na =
        let waits : ((x || y) || z) ≡ some (λ f. unacknowledged (state_by o c p h f)) = λ i. ((ex ∙ ap waits_by eg) i || (ey ∙ ap waits_by ew) i) || (ez ∙ ap waits_by ea) i in
        let uu : u ≡ up_by o c p h = eu ∙ ap (λ (b : Bool). b && h.control.rcvd is h.control.seq) waits in
        let uk : k ≡ q.control = ek ∙ ap (λ (b : Bool). counted b h.control) uu in
        let up : u ≡ raises_seq_no (step5 p (steps1to4 o c p)) = uu ∙ ap (up_by o c p) eh ∙ sym (raises_by o c p) in
        let wish : not s ≡ asks p q = wished (up_by o c p h) refl (es ∙ ap (λ (k : Control). same (control_value p.control) (control_value k)) uk) in
        let notices : n ≡ raises (mark_notice p q) p q =
        λ i. record {
          port = (np ∙ ap (λ (k : Control). newly_marked DuplicateControl p.control.duplicate k.duplicate) uk) i;
          groups = (ng ∙ ap (λ (t : Turn). becomes p.groups.outcome.reason t.decision.reason) eg) i;
          flow = (nw ∙ ap (λ (t : Turn). becomes p.flow.outcome.reason t.decision.reason) ew) i;
          applications = (na ∙ ap (λ (t : Turn). becomes p.applications.outcome.reason t.decision.reason) ea) i;
        } in
        rw done (λ i. record { course = (eh i).course; wish = wish i; releases = up i; control = uk i; groups = eg i; flow = ew i; applications = ea i; notices = notices i })

  held_alike : (q : Option Peer) → is_some (flags_held q) ≡ is_some q
  held_alike None = refl
  held_alike (Some q) = refl

  part_made : (f : Feature) {t : Turn} {way : Course} {x : Parameters} {y : State} → way ≡ (heard_of o c p.control).course → t ≡ turn_of (state_by o c p (heard_of o c p.control) f)
      → x ≡ peer_parameters_after way f (has_of o c f).value (is_some t.decision.peer) (feature_of p f) → y ≡ renewed (feature_of p f) t x → y ≡ state_by o c p (heard_of o c p.control) f
  part_made f {t} {way} {x} {y} ew et ex ey =
      let h : Heard = heard_of o c p.control in
      let v : List ℕ = (has_of o c f).value in
      let z : State = state_by o c p h f in
      let e : x ≡ peer_parameters_after h.course f v (is_some z.outcome.peer) (feature_of p f) = ex ∙ (λ i. peer_parameters_after (ew i) f v (is_some (et i).decision.peer) (feature_of p f))
      ∙ ap (λ (b : Bool). peer_parameters_after h.course f v b (feature_of p f)) (held_alike z.outcome.peer) in
      ey ∙ (λ i. renewed (feature_of p f) (et i) (e i)) ∙ renewed_after h.course f (has_of o c f) h.control.rcvd p.control.seq (feature_of p f)

  pub apply_is : {k : Change} → k ≡ change_of o c p
      → {x y z : Parameters} → x ≡ peer_parameters_after k.course Groups (value_of o c.groups) (is_some k.groups.decision.peer) p.groups
      → y ≡ peer_parameters_after k.course Flow (value_of o c.flow) (is_some k.flow.decision.peer) p.flow
      → z ≡ peer_parameters_after k.course Applications (value_of o c.applications) (is_some k.applications.decision.peer) p.applications
      → {g w a : State} → g ≡ renewed p.groups k.groups x → w ≡ renewed p.flow k.flow y → a ≡ renewed p.applications k.applications z
      → with_features (with_control p k.control) (three g w a) ≡ unreleased o c p
  unfolding change_of
  apply_is {k} ek ex ey ez {g} {w} {a} eg ew ea =
      let h : Heard = heard_of o c p.control in
      let done : completed p (steps1to4 o c p) ≡ port_by o c p h = completed_by o c p in
      let way : k.course ≡ h.course = ap (λ (k : Change). k.course) ek in
      let ck : k.control ≡ control_after o c p h = ap (λ (k : Change). k.control) ek ∙ ap (λ (q : Port). q.control) done in
      let tg : k.groups ≡ turn_of (state_by o c p h Groups) = ap (λ (k : Change). k.groups) ek ∙ ap (λ (q : Port). turn_of q.groups) done in
      let tw : k.flow ≡ turn_of (state_by o c p h Flow) = ap (λ (k : Change). k.flow) ek ∙ ap (λ (q : Port). turn_of q.flow) done in
      let ta : k.applications ≡ turn_of (state_by o c p h Applications) = ap (λ (k : Change). k.applications) ek ∙ ap (λ (q : Port). turn_of q.applications) done in
      let sg : g ≡ state_by o c p h Groups = part_made Groups way tg ex eg in
      let sw : w ≡ state_by o c p h Flow = part_made Flow way tw ey ew in
      let sa : a ≡ state_by o c p h Applications = part_made Applications way ta ez ea in
      (λ i. with_features (with_control p (ck i)) (three (sg i) (sw i) (sa i))) ∙ sym (ap (λ (q : Port). with_released q p.released) done)

  -- where SeqNo goes up, the port that is made is released; otherwise it is what the frame makes
  released_is : raises_seq_no (step5 p (steps1to4 o c p)) ≡ true → release (unreleased o c p) ≡ completed p (steps1to4 o c p)
  released_is e =
      let up : up_by o c p (heard_of o c p.control) ≡ true = sym (raises_by o c p) ∙ e in
      let z : release (port_by o c p (heard_of o c p.control)) ≡ port_by o c p (heard_of o c p.control) = rw up refl in
      ap release (completed_by o c p) ∙ z ∙ sym (completed_by o c p)

  kept_is : raises_seq_no (step5 p (steps1to4 o c p)) ≡ false → unreleased o c p ≡ completed p (steps1to4 o c p)
  kept_is e =
      let up : up_by o c p (heard_of o c p.control) ≡ false = sym (raises_by o c p) ∙ e in
      let z : with_released (port_by o c p (heard_of o c p.control)) p.released ≡ port_by o c p (heard_of o c p.control) = rw up refl in
      ap (λ (q : Port). with_released q p.released) (completed_by o c p) ∙ z ∙ sym (completed_by o c p)

-- ---- the whole of it

module _ (p : Port) (o : List ℕ) {r : Reading} (er : Admits p o r) where
  admitted_event : handled p o ≡ given o r p
  admitted_event = handled_admitted p o ∙ ap (λ (r : Reading). given o r p) (sym er.answers)

  pub handle_refused : {x : Rejection} {e : Event} → r ≡ Err x → e ≡ rejected x.why x.place p → e ≡ handled p o
  unfolding given
  handle_refused e ee = rw (admitted_event, e) ee

  handle_accepted : {k : Contents} {d : Change} {q : Port} → r ≡ Ok k → d ≡ change_of o k p → q ≡ completed p (steps1to4 o k p)
      → record { answer = Ok d.wish; port = q; notices = d.notices } ≡ handled p o
  unfolding given accepted frame_event change_of
  handle_accepted e ed eq = rw (admitted_event, e, ed, eq) refl

module _ {p : Port} {o : List ℕ} {c : Contents} (a : Admits p o (Ok c)) where
  module _ {d : Change} (ed : d ≡ change_of o c p) {q : Port} (eq : q ≡ unreleased o c p) where
    pub accept_released : d.releases ≡ true → {x : Port} → x ≡ release q → record { answer = Ok d.wish; port = x; notices = d.notices } ≡ handled p o
    unfolding change_of
    accept_released t ex = handle_accepted p o a refl ed (ex ∙ ap release eq ∙ released_is o c p (sym (ap (λ (d : Change). d.releases) ed) ∙ t))

    pub accept_kept : d.releases ≡ false → record { answer = Ok d.wish; port = q; notices = d.notices } ≡ handled p o
    unfolding change_of
    accept_kept t = handle_accepted p o a refl ed (eq ∙ kept_is o c p (sym (ap (λ (d : Change). d.releases) ed) ∙ t))
