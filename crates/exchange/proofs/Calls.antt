-- What each call at a port does: refused ones change nothing but a frame's mark, a write leaves the port's frame on its way, and a frame that a sound
-- port wrote is handled as its message. Assumes nothing.
use Rattle.tlv.specs.Refusals.{rejection}
use Prim.Native.Nat.{ℕ}
use native.Mathlib.Omega.{arith}
use mathlib.Core.Path.{◌≡◌, refl, ap, ◌∙◌}
use mathlib.Core.Bool.{Bool, true, false, not}
use mathlib.Core.List.{List, ◌++◌}
use lib.ListN.{length, take, drop}
use lib.Seq.{take-append_seam}
use Rattle.std.specs.Prelude.{if◌then◌else◌, Ok, Err}
use Rattle.octets.specs.Words.{◌below◌, ◌is◌}
use Rattle.tlv.specs.declared.Refusal.{Refusal}
use Rattle.tlv.specs.declared.Rejection.{Rejection}
use Rattle.tlv.specs.declared.Refusal.TheVariants as refusal
use Rattle.contents.specs.Contents.{Reading}
use Rattle.contents.specs.declared.Contents.{Contents}
use Rattle.contents.specs.declared.Found.{Found}
use Rattle.tlv.specs.declared.Revision.{Revision}
use Rattle.tlv.specs.declared.Revision.TheVariants.{Rev101, Rev10}
use Rattle.reading.specs.Reading.{read_frame}
use Rattle.tlv.specs.Revisions.{has_applications}
use Rattle.reading.specs.Revisions.{without_applications, skipping, read_for}
use Rattle.parameters.specs.declared.Feature.TheVariants.{Groups, Flow, Applications}
use Rattle.feature.specs.declared.Setting.{Setting}
use Rattle.feature.specs.declared.State.{State}
use Rattle.feature.specs.Outcome.{Received, lower}
use Rattle.turn.specs.Turn.{acknowledged, received}
use Rattle.port.specs.declared.Port.{Port}
use Rattle.port.specs.declared.Event.{Event}
use Rattle.port.specs.Parts.{three, with_control, with_features, running}
use Rattle.port.specs.Writing.{frame, written, output}
use Rattle.sending.specs.Sending.{completed}
use Rattle.admission.specs.Admission.{message, met, numbered, breaks, with_broken, rejected}
use Rattle.handling.specs.Handling.{twice, exchanged, once, steps1to4, frame_event, accepted, given, handled}
use Rattle.port.specs.Sound.{SoundPort}
use Rattle.exchange.proofs.Core as core
use Rattle.exchange.proofs.View.{settings, view, Offers}
use Rattle.exchange.proofs.Frames as frames

-- ---- writes

-- over the two tests: is the port running, is the output short
write_by : (p : Port) (out : List ℕ) (n : ℕ) (a b : Bool) →
    (if not a then Err refusal.NotRunning else if b then Err refusal.ShortOutput else Ok (length (frame p))) ≡ Ok n →
    take n (if not a then out else if b then out else frame p ++ drop (length (frame p)) out) ≡ frame p
write_by p out n false b e = cc
write_by p out n true true e = cc
write_by p out n true false e = let k : length (frame p) ≡ n = cc in rw (← k) (take-append_seam (frame p) (drop (length (frame p)) out))

pub write_leaves : (p : Port) (out : List ℕ) (n : ℕ) → written p out ≡ Ok n → take n (output p out) ≡ frame p
unfolding written output
write_leaves p out n e = write_by p out n (running p) (length out below length (frame p)) e

-- ---- refused frames

refused_by : (p : Port) (o : List ℕ) (why : Refusal) (place : ℕ) (a b : Bool) (x : Reading) →
    (if not a then rejected refusal.NotRunning 0 p else if b then rejected refusal.SeveralNeighbours 0 p else given o x p).answer ≡ Err (rejection why place) →
    (if not a then rejected refusal.NotRunning 0 p else if b then rejected refusal.SeveralNeighbours 0 p else given o x p).port ≡ with_broken p (breaks why)
unfolding given accepted frame_event rejected
refused_by p o why place false b x e = let k : rejection refusal.NotRunning 0 ≡ rejection why place = cc in ap (λ (r : Rejection). with_broken p (breaks r.why)) k
refused_by p o why place true true x e = let k : rejection refusal.SeveralNeighbours 0 ≡ rejection why place = cc in ap (λ (r : Rejection). with_broken p (breaks r.why)) k
refused_by p o why place true false (Err r) e = let k : rejection r.why r.place ≡ rejection why place = cc in ap (λ (y : Rejection). with_broken p (breaks y.why)) k
refused_by p o why place true false (Ok c) e = cc

pub refused_marks : (p : Port) (o : List ℕ) (why : Refusal) (place : ℕ) → (handled p o).answer ≡ Err (rejection why place) → (handled p o).port ≡ with_broken p (breaks why)
unfolding handled
refused_marks p o why place e = refused_by p o why place (running p) p.several (read_for p.revision o) e

-- ---- 02, E11: what the reader tells a port of its revision. A port that does not advertise applications looks at none.

unfoldable pub contents_for : Revision → Contents → Contents
contents_for Rev101 c = c
contents_for Rev10 c = without_applications c

pub read_as : (v : Revision) (o : List ℕ) (c : Contents) → read_frame o ≡ Ok c → read_for v o ≡ Ok (contents_for v c)
unfolding read_for skipping contents_for
read_as Rev101 o c e = e
read_as Rev10 o c e = ap skipping e

pub control_as : (v : Revision) (c : Contents) → (contents_for v c).control ≡ c.control
unfolding contents_for
control_as v c = grind arith

received_blind : (x : State) (r s : Received) → x.setting.advertise ≡ false → received Applications r x ≡ received Applications s x
unfolding received
received_blind x r s e = rw e refl

acknowledged_sets : (rcvd seq : ℕ) (x : State) → (acknowledged rcvd seq x).setting.advertise ≡ x.setting.advertise
unfolding acknowledged
acknowledged_sets rcvd seq x = refl

module _ (p : Port) (a : p.applications.setting.advertise ≡ false) (o : List ℕ) (c : Contents) where
  exchanged_blind : (oper : ℕ) → exchanged oper (message o (without_applications c)) p ≡ exchanged oper (message o c) p
  unfolding exchanged
  exchanged_blind oper =
      let m = message o c in
      let x : State = acknowledged m.ack p.control.seq p.applications in
      let q : Port = with_control p (numbered oper m p.control) in
      λ i. with_features q
      (three (received Groups (m.has Groups) (acknowledged m.ack p.control.seq p.groups)) (received Flow (m.has Flow) (acknowledged m.ack p.control.seq p.flow))
      (received_blind x ((message o (without_applications c)).has Applications) (m.has Applications) (acknowledged_sets m.ack p.control.seq p.applications ∙ a) i))

  once_blind : once (message o (without_applications c)) p ≡ once (message o c) p
  unfolding once
  once_blind =
      let m = message o c in
      let low = lower p.control.max m.max in
      ap (λ (q : Port). if m.oper is low then q else with_control p (met low p.control)) (exchanged_blind low)

once_as : (p : Port) (v : Revision) → (has_applications v ≡ false → p.applications.setting.advertise ≡ false) → (o : List ℕ) (c : Contents)
    → once (message o (contents_for v c)) p ≡ once (message o c) p
unfolding contents_for has_applications
once_as p Rev101 h o c = refl
once_as p Rev10 h o c = once_blind p (h refl) o c

-- ---- frames that are delivered

module _ (p q : Port) where
  runs_given : (o : List ℕ) → running p ≡ true → p.several ≡ false → handled p o ≡ given o (read_for p.revision o) p
  unfolding handled
  runs_given o r n =
      ap (λ b. if not b then rejected refusal.NotRunning 0 p else if p.several then rejected refusal.SeveralNeighbours 0 p else given o (read_for p.revision o) p) r
      ∙ ap (λ b. if b then rejected refusal.SeveralNeighbours 0 p else given o (read_for p.revision o) p) n

  pub delivered_read : running p ≡ true → p.several ≡ false → SoundPort p → (h : SoundPort q) →
      (handled p (frame q)).port ≡ completed p (once (message (frame q) (frames.contents q h)) p)
  unfolding given accepted frame_event steps1to4
  delivered_read r n g h =
      let c : Contents = frames.contents q h in
      let d : Contents = contents_for p.revision c in
      ap (λ (x : Event). x.port) (runs_given (frame q) r n)
      ∙ ap (λ x. (given (frame q) x p).port) (read_as p.revision (frame q) c (frames.accepted q h))
      ∙ ap (λ k. completed p (if 1 below k then twice p else once (message (frame q) d) p)) (ap (λ (x : Found). x.count) (control_as p.revision c) ∙ frames.one_control q h)
      ∙ ap (completed p) (once_as p p.revision (λ e. ap (λ (s : Setting). s.advertise) (g.revision e).setting) (frame q) c)

  pub delivered_port : running p ≡ true → p.several ≡ false → SoundPort p → SoundPort q → Offers q →
      (handled p (frame q)).port ≡ completed p (once (core.message (settings q) (view q)) p)
  delivered_port r n g h own = delivered_read r n g h ∙ ap (λ m. completed p (once m p)) (frames.message_read q h own)
