-- 02, E12: the verdict, and docs/FORMATS.md, The verdict of `conform`: its line, in octets.
use Rattle.std.specs.Prelude.{ℕ, List, [], ◌∷◌, ◌++◌}
use Rattle.octets.specs.Texts.{text}
use Rattle.numerals.specs.Numerals.{decimal}

-- "The first other frame is named, by its line and the place"; accepted, with how many frames were compared
pub data Verdict : Type 0 where
  Accepted : ℕ → Verdict
  Rejected : ℕ → ℕ → Verdict

unfoldable pub verdict_text : Verdict → List ℕ
verdict_text (Accepted k) = text "accepted " ++ (decimal k ++ (10 ∷ []))
verdict_text (Rejected n q) = text "rejected line " ++ ((decimal n ++ (32 ∷ [])) ++ (text "place " ++ (decimal q ++ (10 ∷ []))))
