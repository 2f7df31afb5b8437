-- Demand 1, of every recorder and every list of calls. Assumes nothing.
use mathlib.Core.Path.{◌≡◌, refl, ap, ◌∙◌}
use mathlib.Core.Bool.{Bool, true, false, ◌||◌}
use mathlib.Core.List.{List, [], ◌∷◌}
use Rattle.std.specs.Prelude.{if◌then◌else◌}
use Rattle.octets.specs.Words.{◌is◌}
use Rattle.recorder.specs.declared.Recorder.{Recorder}
use Rattle.calls.specs.Calls.{Call, after, after_all, reply_of}
use Rattle.calls.specs.Rows.{is_frame}
use Rattle.calls.specs.Demand1.{heeded, left_by, Demand1}
use Rattle.calls.proofs.Refusals.{refused_first, answers}
use Rattle.calls.proofs.Marks.{alike_itself, left_out_marks}

-- a refused call that is no frame changes nothing
pub refused_leaves : (r : Recorder) (x : Call) → is_frame x.operation ≡ false → ((reply_of r x).number is 0) ≡ false → after r x ≡ r
unfolding left_by
refused_leaves r x f e = ((answers r x).unchanged (refused_first r x.port x.operation e)).0 ∙ rw f refl

left_out : (r : Recorder) (xs : List Call) → after_all r xs ≡ after_all r (heeded r xs)
unfolding after_all heeded
left_out r [] = refl
left_out r (x ∷ xs) = by (left_out (after r x) xs) ((reply_of r x).number is 0) (is_frame x.operation) refl refl
  where
    by : after_all (after r x) xs ≡ after_all (after r x) (heeded (after r x) xs) → (a b : Bool) → ((reply_of r x).number is 0) ≡ a → is_frame x.operation ≡ b →
        after_all (after r x) xs ≡ after_all r (if a || b then x ∷ heeded (after r x) xs else heeded (after r x) xs)
    by later true b e f = later
    by later false true e f = later
    by later false false e f = later ∙ ap (λ (q : Recorder). after_all q (heeded (after r x) xs)) (refused_leaves r x f e)

pub demand1 : (r : Recorder) → Demand1 r
demand1 r = record { each = λ xs x. answers (after_all r xs) x; refused = left_out r; marks = λ four xs n p. left_out_marks r r xs (alike_itself r four) n p }
