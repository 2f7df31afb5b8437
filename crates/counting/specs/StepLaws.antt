-- A line: a law for each form, and that what is not held of a line that is too long makes no difference. Assumes nothing.
use Rattle.std.specs.Prelude.{ℕ, ◌≡◌, refl, Bool, List}
use Rattle.port.specs.declared.Event.{Event}
use Rattle.port.specs.Replies.{event_reply}
use Rattle.handling.specs.Handling.{handled}
use Rattle.capture.specs.declared.Form.{Form}
use Rattle.capture.specs.declared.Form.TheVariants.{FromA, FromB, Other}
use Rattle.capture.specs.Capture.{form_of, frame_of}
use Rattle.capture.specs.Steps.{clipped}
use Rattle.capture.specs.HoldLaws.{Clipping, whole, long, clipping}
use Rattle.numerals.specs.Numerals.{more}
use Rattle.counters.specs.Counters.{Changes}
use Rattle.counters.specs.Counters.{refusal_counted, changed, further, rests}
use Rattle.counting.specs.declared.Tally.{Tally}
use Rattle.counting.specs.Steps.{at_a, at_b, passed_by, line_as, with_line}

-- a frame that A sent, one that B sent, and a line of another form
module _ (t : Tally) (line : List ℕ) {form : Form} (ef : form ≡ form_of line) where
  module _ {x : Event} {m f : ℕ} {w : List ℕ} {c : Changes} {q : Bool} where
    pub line_a : form ≡ FromA → x ≡ handled t.b (frame_of line) → m ≡ more t.from_a → w ≡ refusal_counted t.refusals (event_reply x.answer).number
        → c ≡ changed t.of_b t.b x.port → f ≡ further t.settled t.frames → q ≡ rests t.settled t.a x.port
        → record { a = t.a; b = x.port; from_a = m; from_b = t.from_b; others = t.others; refusals = w; of_a = t.of_a; of_b = c; settled = q; frames = f } ≡ with_line t line
    unfolding line_as at_b
    line_a eg ex em ew ec ez eq = rw (em, ew, ec, ez, eq, ex, ← ef, eg) refl

    pub line_b : form ≡ FromB → x ≡ handled t.a (frame_of line) → m ≡ more t.from_b → w ≡ refusal_counted t.refusals (event_reply x.answer).number
        → c ≡ changed t.of_a t.a x.port → f ≡ further t.settled t.frames → q ≡ rests t.settled x.port t.b
        → record { a = x.port; b = t.b; from_a = t.from_a; from_b = m; others = t.others; refusals = w; of_a = c; of_b = t.of_b; settled = q; frames = f } ≡ with_line t line
    unfolding line_as at_a
    line_b eg ex em ew ec ez eq = rw (em, ew, ec, ez, eq, ex, ← ef, eg) refl

  pub line_other : {m : ℕ} → form ≡ Other → m ≡ more t.others
      → record { a = t.a; b = t.b; from_a = t.from_a; from_b = t.from_b; others = m; refusals = t.refusals; of_a = t.of_a; of_b = t.of_b; settled = t.settled; frames = t.frames } ≡ with_line t line
  unfolding line_as passed_by
  line_other eg em = rw (em, ← ef, eg) refl

pub with_clipped : (t : Tally) (w : List ℕ) → with_line t (clipped w) ≡ with_line t w
unfolding line_as
with_clipped t w = here (clipping w)
  where
    here : Clipping w → with_line t (clipped w) ≡ with_line t w
    here (whole e) = rw e refl
    here (long k l e f) = rw (e, f) refl
