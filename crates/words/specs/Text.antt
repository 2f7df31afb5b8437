-- docs/FORMATS.md: words, numbers, bits and octets of a line. A line is a list of octets without its line feed.
use Rattle.std.specs.Prelude.{ℕ, zero, suc, ◌+◌, ◌-◌, ◌*◌, ◌/◌, ◌%◌, min, Bool, true, ◌&&◌, List, [], ◌∷◌, ◌++◌, length, take, replicate, if◌then◌else◌, Option, Some, None}
use Rattle.octets.specs.Words.{◌below◌, ◌atmost◌, ◌is◌}
use Rattle.octets.specs.Octets.{at}
use Rattle.words.specs.declared.Held.{Held}

-- ---- "Words are parted by one or more spaces; spaces before the first word and behind the last do not count."

-- a word that has ended, if it had begun, and the words behind it
unfoldable pub ended : List ℕ → List (List ℕ) → List (List ℕ)
ended [] ws = ws
ended (c ∷ w) ws = (c ∷ w) ∷ ws

-- the words of a line, of which w was read already
unfoldable pub words_from : List ℕ → List ℕ → List (List ℕ)
words_from w [] = ended w []
words_from w (c ∷ s) = if c is 32 then ended w (words_from [] s) else words_from (w ++ (c ∷ [])) s

abbrev pub words : List ℕ → List (List ℕ)
words s = words_from [] s

-- the first word, no octets where there is none, and the words behind it
unfoldable pub first : List (List ℕ) → List ℕ
first [] = []
first (w ∷ ws) = w

unfoldable pub others : List (List ℕ) → List (List ℕ)
others [] = []
others (w ∷ ws) = ws

-- ---- "A number is 1 to 5 decimal digits, at most the limit that is named."

unfoldable pub is_digit : ℕ → Bool
is_digit c = 48 atmost c && c atmost 57

unfoldable pub decimal_digits : List ℕ → Bool
decimal_digits [] = true
decimal_digits (c ∷ w) = is_digit c && decimal_digits w

-- n, and then the digits of w
unfoldable pub decimal_from : ℕ → List ℕ → ℕ
decimal_from n [] = n
decimal_from n (c ∷ w) = decimal_from (n * 10 + (c - 48)) w

abbrev pub decimal : List ℕ → ℕ
decimal w = decimal_from 0 w

unfoldable pub is_number : ℕ → List ℕ → Bool
is_number limit w = 1 atmost length w && length w atmost 5 && decimal_digits w && decimal w atmost limit

unfoldable pub number : ℕ → List ℕ → Option ℕ
number limit w = if is_number limit w then Some (decimal w) else None

-- ---- "Octets are pairs of lower-case hex digits with nothing between them."

-- the value of a hex digit, and 16 for any other octet
unfoldable pub nibble : ℕ → ℕ
nibble c = if is_digit c then c - 48 else if 97 atmost c && c atmost 102 then c - 87 else 16

unfoldable pub hex_digits : List ℕ → Bool
hex_digits [] = true
hex_digits (c ∷ w) = nibble c below 16 && hex_digits w

-- at most so many pairs
unfoldable pub is_octets : ℕ → List ℕ → Bool
is_octets most w = length w % 2 is 0 && length w / 2 atmost most && hex_digits w

-- pair i of hex digits
unfoldable pub pair_at : List ℕ → ℕ → ℕ
pair_at w i = nibble (at w (2 * i)) % 16 * 16 + nibble (at w (2 * i + 1)) % 16

-- what a function gives at each of the n numbers from i on
unfoldable pub listed : ℕ → ℕ → (ℕ → ℕ) → List ℕ
listed zero i f = []
listed (suc n) i f = f i ∷ listed n (i + 1) f

-- the octets that a text spells, as many as a line can hold
unfoldable pub octets_of : List ℕ → List ℕ
octets_of w = listed (min (length w / 2) 513) 0 (pair_at w)

-- ---- octets in memory of so many places: how many they are, and zero past the last

unfoldable pub held : (places : ℕ) → List ℕ → Held places
held places p = record { n = length p; octets = p ++ replicate (places - length p) 0 }

-- the octets that count
abbrev pub pending : {places : ℕ} → Held places → List ℕ
pending h = take h.n h.octets
