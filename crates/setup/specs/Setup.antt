-- docs/FORMATS.md: the lines of settings.
use Rattle.std.specs.Prelude.{ℕ, ◌%◌, Bool, ◌||◌, List, length, if◌then◌else◌, Option, Some, None, Result, Ok, Err}
use Rattle.octets.specs.Words.{◌below◌, ◌is◌}
use Rattle.octets.specs.Octets.{same}
use Rattle.octets.specs.Texts.{text}
use Rattle.tlv.specs.declared.Revision.TheVariants.{Rev101, Rev10}
use Rattle.grammar.specs.declared.Name.{Name}
use Rattle.grammar.specs.declared.Field.TheVariants.{Word, Decimal}
use Rattle.grammar.specs.declared.Form.TheVariants as Form
use Rattle.setup.specs.declared.Part.{Part}
use Rattle.lines.specs.declared.Due.TheVariants as Due
use Rattle.lines.specs.declared.Unread.{Unread}
use Rattle.lines.specs.declared.Kind.TheVariants as Kind
use Rattle.words.specs.Text.{words, first, others, number}
use Rattle.fields.specs.Fields.{name_text}
use Rattle.addressing.specs.Addressing.{port_number, port_word, words_behind}
use Rattle.lines.specs.Lines.{bare, Parsed, unreadable, not_due, returned, feature, alone}

unfoldable pub part_name : Part → Name
part_name Part.Control = Name.Control
part_name Part.Groups = Name.Groups
part_name Part.Flow = Name.Flow
part_name Part.Applications = Name.Applications

-- a word with a number that is to be a name
abbrev pub named : Name → ℕ → List ℕ → Result (Unit {0}) Unread
named n place w = if same w (name_text n) then Ok tt else Err (Unread.Word place (Due.Field (Word n)))

-- the words behind `control max N revision`: "1.0 or 1.01", to the letter
unfoldable pub named_revision : ℕ → List (List ℕ) → Parsed
named_revision max ws =
    if same (first ws) (text "1.0") then alone (Kind.Control max Rev10) 6 (others ws)
    else if same (first ws) (text "1.01") then alone (Kind.Control max Rev101) 6 (others ws)
    else not_due 5 Due.Revision

-- the words behind `control max N`: "nothing or revision R", and "where none is named it is 1.01"
unfoldable pub control_of : ℕ → List (List ℕ) → Parsed
control_of max ws =
    if length ws is 0 then Ok (bare (Kind.Control max Rev101))
    else if same (first ws) (name_text Name.Revision) then named_revision max (others ws)
    else not_due 4 (Due.Field (Word Name.Revision))

-- the words behind `NAME max N`
unfoldable pub setting_of : Part → ℕ → List (List ℕ) → Parsed
setting_of Part.Control max ws = control_of max ws
setting_of Part.Groups max ws = feature Form.Groups 4 max ws
setting_of Part.Flow max ws = feature Form.Flow 4 max ws
setting_of Part.Applications max ws = feature Form.Applications 4 max ws

unfoldable pub setting_max : Part → Option ℕ → List (List ℕ) → Parsed
setting_max p None ws = not_due 3 (Due.Field (Decimal 255))
setting_max p (Some max) ws = setting_of p (max % 256) ws

-- the words behind `NAME max`, and behind NAME
unfoldable pub behind_max : Part → List (List ℕ) → Parsed
behind_max p ws = setting_max p (number 255 (first ws)) (others ws)

unfoldable pub behind_name : Part → List (List ℕ) → Parsed
behind_name p ws = if same (first ws) (name_text Name.Max) then behind_max p (others ws) else not_due 2 (Due.Field (Word Name.Max))

-- the line of the settings that is due
unfoldable pub setting_line : Part → List ℕ → Parsed
setting_line p s =
    if 1100 below length s then unreadable Unread.Long
    else if returned s then unreadable Unread.Return
    else if same (first (words s)) (name_text (part_name p)) then behind_name p (others (words s))
    else not_due 1 (Due.Field (Word (part_name p)))

-- a line behind those of a port: "a line that begins with control, a port before it aside, begins the settings of the next port. One that begins
-- with applications is a line of settings too, which is not due". Any other is the first event.
unfoldable pub settings_word : List ℕ → Bool
settings_word w = same w (name_text Name.Control) || same w (name_text Name.Applications)

unfoldable pub begins_settings : List ℕ → Bool
begins_settings s = settings_word (first (words_behind (port_word (port_number s)) s))
