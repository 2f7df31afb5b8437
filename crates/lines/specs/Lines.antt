-- docs/FORMATS.md: what a line of settings or of events gives, and the words that both have.
use Rattle.std.specs.Prelude.{ℕ, ◌+◌, ◌-◌, Bool, List, [], length, drop, if◌then◌else◌, Result, Ok, Err}
use Rattle.octets.specs.Words.{◌is◌}
use Rattle.octets.specs.Octets.{at}
use Rattle.grammar.specs.declared.Field.TheVariants.{End}
use Rattle.grammar.specs.declared.Form.{Form}
use Rattle.fields.specs.declared.Undue.{Undue}
use Rattle.fields.specs.declared.Values.{Values}
use Rattle.lines.specs.declared.Due.{Due}
use Rattle.lines.specs.declared.Unread.{Unread}
use Rattle.lines.specs.declared.Kind.{Kind}
use Rattle.lines.specs.declared.Line.{Line}
use Rattle.words.specs.Text.{first, octets_of, held}
use Rattle.fields.specs.Fields.{values_of, parameters_of}

-- ---- what a line gives

unfoldable pub line_of : Kind → List ℕ → Line
line_of k p = record { kind = k; octets = held 513 p }

abbrev pub bare : Kind → Line
bare k = line_of k []

abbrev pub Parsed : Type 0
Parsed = Result Line Unread

abbrev pub unreadable : Unread → Parsed
unreadable why = Err why

-- "the first word that is not what is due there, and .. what is": "Words are counted from 1", here of the line behind its port
abbrev pub not_due : ℕ → Due → Parsed
not_due word due = unreadable (Unread.Word word due)

-- "one whose last octet is a carriage return"
unfoldable pub returned : List ℕ → Bool
returned s = at s (length s - 1) is 13

-- ---- the words of settings and of `set`

-- a setting: its highest version or its feature's number, and its switches
unfoldable pub setting_kind : ℕ → List ℕ → Kind
setting_kind n v = Kind.Setting n (record { advertise = at v 1 is 1; enable = at v 3 is 1; willing = at v 5 is 1 })

abbrev pub undue : ℕ → Undue → Unread
undue word u = Unread.Word (word + u.read.place) (Due.Field u.due)

-- the words from `advertise` on, which is the word with a number
unfoldable pub setting_with : ℕ → ℕ → Result Values Undue → (Values → List ℕ) → Parsed
setting_with word n (Ok v) p = Ok (line_of (setting_kind n v.numbers) (p v))
setting_with word n (Err u) p = Err (undue word u)

unfoldable pub feature : Form → ℕ → ℕ → List (List ℕ) → Parsed
feature f word n ws = setting_with word n (values_of f ws) (parameters_of f)

-- the words behind `set NUMBER`: HEX is the eighth, and may be missing
unfoldable pub plain : ℕ → List (List ℕ) → Parsed
plain n ws = setting_with 3 n (values_of Form.Plain ws) (λ v. octets_of (first (drop 7 ws)))

-- a line that ends before the word with a number
unfoldable pub alone : Kind → ℕ → List (List ℕ) → Parsed
alone k word ws = if length ws is 0 then Ok (bare k) else not_due word (Due.Field End)
