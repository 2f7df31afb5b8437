-- A line, and what is judged behind it: a law for each way out, with premises in the form in which tests and calls leave them. Assumes nothing.
use Rattle.std.specs.Prelude.{ℕ, ◌≡◌, Bool, List, if◌then◌else◌, Option, Some, None, Ok, Err}
use Rattle.std.proofs.Math.Path.{refl}
use Rattle.std.proofs.Common.{sym, ◌∙◌}
use Rattle.std.proofs.Math.Bool.{true, false}
use Rattle.port.specs.declared.Event.{Event}
use Rattle.port.specs.declared.Port.{Port}
use Rattle.std.specs.Option.{is_some}
use Rattle.recorder.specs.declared.Change.{Change}
use Rattle.recorder.specs.declared.Change.TheVariants as change
use Rattle.recorder.specs.Recorder.{happens}
use Rattle.lines.specs.declared.Line.{Line}
use Rattle.lines.specs.declared.Unread.{Unread}
use Rattle.words.specs.Text.{pending}
use Rattle.script.specs.Events.{event_line}
use Rattle.capture.specs.declared.Form.{Form}
use Rattle.capture.specs.declared.Form.TheVariants.{FromA, FromB, Other}
use Rattle.capture.specs.Capture.{form_of, frame_of}
use Rattle.numerals.specs.Numerals.{more}
use Rattle.comparison.specs.Comparison.{is_due, place_in, compared_with}
use Rattle.judgement.specs.declared.Course.{Course}
use Rattle.judgement.specs.declared.Judged.{Judged}
use Rattle.judgement.specs.Entries.{told_by, entry_by, change_on, entry_as}
use Rattle.judgement.specs.Courses.{sent_on, given_on, changed_on, passed_on}
use Rattle.judgement.specs.Steps.{rejected_with, sent_at, with_entry, with_line}

-- ---- what is judged behind a line

due_none : (p : Port) (o : List ℕ) → compared_with p o ≡ None → is_due p o ≡ true
unfolding compared_with
due_none p o e = here (is_due p o) refl e
  where
    here : (b : Bool) → is_due p o ≡ b → (if b then None else Some (place_in p o)) ≡ None → is_due p o ≡ true
    here true q e = q
    here false q e = cc

due_some : (p : Port) (o : List ℕ) {k : ℕ} → compared_with p o ≡ Some k → (is_due p o ≡ false) × (k ≡ place_in p o)
unfolding compared_with
due_some p o {k} e = here (is_due p o) refl e
  where
    here : (b : Bool) → is_due p o ≡ b → (if b then None else Some (place_in p o)) ≡ Some k → (is_due p o ≡ false) × (k ≡ place_in p o)
    here true q e = cc
    here false q e = (q, cc)

module _ (t : Judged) (line : List ℕ) where
  pub other_unread : {c : Course} {why : Unread} → event_line line ≡ Err why → c ≡ passed_on more t.course
      → record { port = t.port; course = c; rejected = t.rejected } ≡ with_entry t (change_on (event_line line))
  unfolding with_entry change_on
  other_unread e ec = rw (ec, e) refl

  module _ {l : Line} (el : event_line line ≡ Ok l) where
    pub other_passed : {c : Course} → told_by l.kind ≡ None → c ≡ passed_on more t.course
        → record { port = t.port; course = c; rejected = t.rejected } ≡ with_entry t (change_on (event_line line))
    unfolding with_entry entry_by change_on
    other_passed e ec = rw (ec, el, e) refl

    pub other_changed : {x : Change} {e : Event} {c : Course} → told_by l.kind ≡ Some x → e ≡ happens t.port x (pending l.octets) → c ≡ changed_on more e.answer t.course
        → record { port = e.port; course = c; rejected = t.rejected } ≡ with_entry t (change_on (event_line line))
    unfolding with_entry entry_by change_on
    other_changed e ee ec = rw (ec, ee, el, e) refl

-- a line behind a rejected frame; a frame that was sent, and is due or not; a frame that was given; a line that is no frame
module _ (t : Judged) (line : List ℕ) {b : Bool} (eb : b ≡ is_some t.rejected) where
  pub line_behind : b ≡ true → t ≡ with_line t line
  unfolding with_line
  line_behind x = rw (← eb, x) refl

  module _ (x : b ≡ false) {form : Form} (ef : form ≡ form_of line) where
    pub line_due : {y : Option ℕ} {c : Course} → form ≡ FromA → y ≡ compared_with t.port (frame_of line) → y ≡ None → c ≡ sent_on more t.course
        → record { port = t.port; course = c; rejected = t.rejected } ≡ with_line t line
    unfolding with_line with_entry entry_as sent_at
    line_due eg ey d ec =
        let q : is_due t.port (frame_of line) ≡ true = due_none t.port (frame_of line) (sym ey ∙ d) in
        rw (ec, ← ef, eg, q, ← eb, x) refl

    pub line_other : {y : Option ℕ} {u : Judged} {k : ℕ} → form ≡ FromA → y ≡ compared_with t.port (frame_of line) → y ≡ Some k → u ≡ rejected_with t k (frame_of line)
        → u ≡ with_line t line
    unfolding with_line with_entry entry_as sent_at
    line_other eg ey d eu =
        let q = due_some t.port (frame_of line) (sym ey ∙ d) in
        rw (eu, q.1, ← ef, eg, q.0, ← eb, x) refl

    pub line_given : {y : Event} {c : Course} → form ≡ FromB → y ≡ happens t.port change.Frame (frame_of line) → c ≡ given_on more y.answer t.course
        → record { port = y.port; course = c; rejected = t.rejected } ≡ with_line t line
    unfolding with_line with_entry entry_as
    line_given eg ey ec = rw (ec, ey, ← ef, eg, ← eb, x) refl

    pub line_no_frame : {u : Judged} → form ≡ Other → u ≡ with_entry t (change_on (event_line line)) → u ≡ with_line t line
    unfolding with_line entry_as
    line_no_frame eg eu = rw (eu, ← ef, eg, ← eb, x) refl
