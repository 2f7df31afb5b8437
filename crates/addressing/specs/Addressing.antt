-- docs/FORMATS.md: lines that are passed over, and the port that a line may begin with.
use Rattle.std.specs.Prelude.{ℕ, ◌%◌, Bool, ◌||◌, List, length, if◌then◌else◌, Option, Some, None}
use Rattle.octets.specs.Words.{◌below◌, ◌is◌}
use Rattle.octets.specs.Octets.{at}
use Rattle.words.specs.Text.{words, first, others, number}
use Rattle.words.specs.StepsLaws.{trimmed, rest}

-- "A line that is empty or begins with # is passed over."
unfoldable pub passed_over : List ℕ → Bool
passed_over s = length s is 0 || at s 0 is 35

-- ---- the port that a line may begin with

-- "a number, 0 to 255, as its first word"
abbrev pub port_number : List ℕ → Option ℕ
port_number s = number 255 (first (words s))

-- as an octet
unfoldable pub port_word : Option ℕ → Option ℕ
port_word None = None
port_word (Some n) = Some (n % 256)

-- "A line without a port is for port 1."
unfoldable pub port_meant : Option ℕ → ℕ
port_meant None = 1
port_meant (Some n) = n

-- what is read: "Spaces before and behind it do not count." A line that is too long stays whole, and cannot be read.
unfoldable pub behind_port : Option ℕ → List ℕ → List ℕ
behind_port None s = s
behind_port (Some n) s = if 1100 below length s then s else trimmed (rest s)

-- the words behind a port
unfoldable pub words_behind : Option ℕ → List ℕ → List (List ℕ)
words_behind None s = words s
words_behind (Some n) s = others (words s)
