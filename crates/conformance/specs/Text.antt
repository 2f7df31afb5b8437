-- docs/FORMATS.md, The verdict of `conform`: where its line (ruling/Ruling) stands.
use Rattle.std.specs.Prelude.{ℕ, ◌≡◌, List, ◌++◌, length, drop, if◌then◌else◌}
use Rattle.octets.specs.Words.{◌below◌}
use Rattle.judgement.specs.declared.Judged.{Judged}
use Rattle.ruling.specs.Ruling.{verdict_text}
use Rattle.conformance.specs.Steps.{verdict_of}

-- An output of fewer than 64 octets, which may be too few, is left as it is and answered with 0. In any other the line stands in front.
unfoldable pub said_length : Judged → List ℕ → ℕ
said_length t out = if length out below 64 then 0 else length (verdict_text (verdict_of t))

unfoldable pub said_output : Judged → List ℕ → List ℕ
said_output t out = if length out below 64 then out else verdict_text (verdict_of t) ++ drop (length (verdict_text (verdict_of t))) out

pub record Says (t : Judged) (out : List ℕ) (r : ℕ) (now : List ℕ) : Type 0 where
  pub answers : r ≡ said_length t out
  pub octets : now ≡ said_output t out
