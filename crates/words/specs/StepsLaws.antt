-- What the functions look at on their way along a line: the run of spaces in front, the first word and what stands behind it; the values of hex digits.
use Rattle.std.specs.Prelude.{ℕ, suc, ◌*◌, ◌/◌, ◌%◌, ◌<◌, min, ◌≡◌, Bool, true, false, List, [], ◌∷◌, length, take, drop, if◌then◌else◌}
use Rattle.std.specs.Bool.{beq}
use Rattle.octets.specs.Words.{◌is◌}
use Rattle.octets.specs.Octets.{at}
use Rattle.words.specs.Text.{nibble}

-- how many octets in front are spaces, or are none
unfoldable pub run : Bool → List ℕ → ℕ
run spaces [] = 0
run spaces (c ∷ s) = if beq (c is 32) spaces then suc (run spaces s) else 0

abbrev pub trimmed : List ℕ → List ℕ
trimmed s = drop (run true s) s

unfoldable pub first_word : List ℕ → List ℕ
first_word s = take (run false (trimmed s)) (trimmed s)

unfoldable pub rest : List ℕ → List ℕ
rest s = drop (run false (trimmed s)) (trimmed s)

-- v has the value of each of the digits that a line can hold
pub record Nibbles (w v : List ℕ) : Type 0 where
  pub value : (k : ℕ) → k < 2 * min (length w / 2) 513 → at v k ≡ nibble (at w k) % 16
