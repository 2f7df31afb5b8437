-- Octets as lists of numbers: one at a place, big-endian numbers, equality.
use Rattle.std.specs.Prelude.{ℕ, ◌+◌, ◌*◌, ◌/◌, ◌%◌, Bool, true, false, ◌&&◌, List, [], ◌∷◌, ◌++◌, length, get_or}
use Rattle.octets.specs.Words.{◌is◌}

-- the octet at a place, and 0 past the end
abbrev pub at : List ℕ → ℕ → ℕ
at o i = get_or o i 0

-- 01, TLV layout: "Numbers are big-endian"
abbrev pub number2 : List ℕ → ℕ → ℕ
number2 o i = at o i * 256 + at o (i + 1)

abbrev pub number4 : List ℕ → ℕ → ℕ
number4 o i = at o i * 16777216 + at o (i + 1) * 65536 + at o (i + 2) * 256 + at o (i + 3)

abbrev pub octets4 : ℕ → List ℕ
octets4 n = n / 256 / 256 / 256 % 256 ∷ n / 256 / 256 % 256 ∷ n / 256 % 256 ∷ n % 256 ∷ []

-- 01, TLV layout: "Type and length fill two octets, high octet first: 7 bits type, 9 bits length." The head of a type and a length.
abbrev pub head : ℕ → ℕ → List ℕ
head type n = (type * 2 + n / 256) ∷ (n % 256) ∷ []

-- a value behind its head
abbrev pub headed : ℕ → List ℕ → List ℕ
headed type v = head type (length v) ++ v

unfoldable pub same : List ℕ → List ℕ → Bool
same [] [] = true
same [] (y ∷ ys) = false
same (x ∷ xs) [] = false
same (x ∷ xs) (y ∷ ys) = x is y && same xs ys
