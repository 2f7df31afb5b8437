-- Text in an output, or on a page: it stands at its place whole, or not at all.
use Rattle.std.specs.Prelude.{ℕ, ◌+◌, ◌/◌, ◌%◌, ◌≡◌, List, [], ◌∷◌, ◌++◌, length, if◌then◌else◌}
use Rattle.std.proofs.lemmas.List.Edits.{sets}
use Rattle.io.specs.Digits.{last_digits, IsDigitCount}
use Rattle.octets.specs.Words.{◌below◌, ◌atmost◌}

unfoldable pub placed : List ℕ → ℕ → List ℕ → ℕ
placed out place s = if place + length s atmost length out then place + length s else place

unfoldable pub written : List ℕ → ℕ → List ℕ → List ℕ
written out place s = if place + length s atmost length out then sets out place s else out

-- what a function that puts a text gives: the place behind it, and the buffer
pub record Put (before : List ℕ) (place : ℕ) (s : List ℕ) (r : ℕ) (after : List ℕ) : Type 0 where
  pub next : r ≡ placed before place s
  pub octets : after ≡ written before place s

-- a number is its decimal digits, the fewest that hold it
pub record Numbered (before : List ℕ) (place n r : ℕ) (after : List ℕ) : Type 0 where
  pub count : ℕ
  pub fewest : IsDigitCount 10 1 n count
  pub put : Put before place (last_digits 10 count n) r after

-- a page with room for so many octets, on which a text is put
unfoldable pub put : ℕ → List ℕ → List ℕ → List ℕ
put room page s = if length page + length s atmost room then page ++ s else page

-- a number on a page is its decimal digits, the fewest that hold it
pub record NumberedPage (room : ℕ) (before : List ℕ) (n : ℕ) (after : List ℕ) : Type 0 where
  pub count : ℕ
  pub fewest : IsDigitCount 10 1 n count
  pub put : after ≡ put room before (last_digits 10 count n)

-- an octet is two hex digits
unfoldable pub glyph : ℕ → ℕ
glyph d = if d below 10 then 48 + d else 87 + d

unfoldable pub hex_text : List ℕ → List ℕ
hex_text [] = []
hex_text (x ∷ s) = glyph (x / 16 % 16) ∷ glyph (x % 16) ∷ hex_text s
