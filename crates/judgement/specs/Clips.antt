-- What is not held of a line that is too long makes no difference. Assumes nothing.
use Rattle.std.specs.Prelude.{ℕ, ◌<◌, ◌≡◌, refl, List, length}
use Rattle.std.proofs.Common.{lt-ltb}
use Rattle.script.specs.Events.{event_line}
use Rattle.capture.specs.declared.Form.TheVariants.{Other}
use Rattle.capture.specs.Capture.{form_of}
use Rattle.capture.specs.Steps.{clipped}
use Rattle.capture.specs.HoldLaws.{Clipping, whole, long, clipping}
use Rattle.judgement.specs.declared.Judged.{Judged}
use Rattle.judgement.specs.Entries.{Passed, change_on, entry_as, entry_of}
use Rattle.judgement.specs.Steps.{with_line}

-- a line that is too long is passed over, whatever stands behind
long_passed : (l : List ℕ) → 1100 < length l → form_of l ≡ Other → entry_of l ≡ Passed
unfolding entry_as change_on event_line
long_passed l h e = rw (e, lt-ltb 1100 (length l) h) refl

pub with_clipped : (t : Judged) (w : List ℕ) → with_line t (clipped w) ≡ with_line t w
unfolding with_line
with_clipped t w = here (clipping w)
  where
    here : Clipping w → with_line t (clipped w) ≡ with_line t w
    here (whole e) = rw e refl
    here (long k l e f) = rw (long_passed (clipped w) k e, long_passed w l f) refl
