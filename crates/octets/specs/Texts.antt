-- A text as its octets in ASCII, for definitions and tables that are to be read.
use Rattle.std.specs.Prelude.{ℕ, zero, suc, ◌+◌, List, [], ◌∷◌}
use Prim.Native.Char.{code}
use Prim.Native.String.{String, len, char_at}

-- k characters from place i on
abbrev pub chars_from : ℕ → ℕ → String → List ℕ
chars_from zero i s = []
chars_from (suc k) i s = code (char_at s i) ∷ chars_from k (i + 1) s

abbrev pub text : String → List ℕ
text s = chars_from (len s) 0 s
