-- docs/FORMATS.md: the lines of events.
use Rattle.std.specs.Prelude.{ℕ, ◌%◌, Bool, ◌&&◌, List, length, take, drop, if◌then◌else◌, Option, Some, None, Ok}
use Rattle.octets.specs.Words.{◌below◌, ◌is◌}
use Rattle.octets.specs.Octets.{same}
use Rattle.octets.specs.Texts.{text}
use Rattle.grammar.specs.declared.Name.TheVariants as Name
use Rattle.grammar.specs.declared.Field.TheVariants.{Bit, Decimal}
use Rattle.grammar.specs.declared.Form.{Form}
use Rattle.port.specs.declared.Flag.{Flag}
use Rattle.port.specs.declared.Flag.TheVariants.{Admin, Receive, Transmit, Several}
use Rattle.script.specs.declared.Keyword.{Keyword}
use Rattle.lines.specs.declared.Due.TheVariants as Due
use Rattle.lines.specs.declared.Unread.TheVariants as Unread
use Rattle.lines.specs.declared.Kind.TheVariants as Kind
use Rattle.words.specs.Text.{words, first, others, number, is_octets, octets_of}
use Rattle.fields.specs.Fields.{name_text, field_number}
use Rattle.lines.specs.Lines.{Parsed, line_of, unreadable, not_due, returned, feature, plain, alone}

unfoldable pub flag_word : List ℕ → Keyword
flag_word w =
    if same w (text "admin") then Keyword.Flag Admin
    else if same w (text "receive") then Keyword.Flag Receive
    else if same w (text "transmit") then Keyword.Flag Transmit
    else if same w (text "several") then Keyword.Flag Several
    else if same w (text "B") then Keyword.Frame
    else Keyword.Other

unfoldable pub keyword : List ℕ → Keyword
keyword w =
    if same w (text "gone") then Keyword.Gone
    else if same w (text "take") then Keyword.Take
    else if same w (text "show") then Keyword.Show
    else if same w (text "set") then Keyword.Set
    else if same w (text "write") then Keyword.Write
    else flag_word w

-- "admin BIT" and the like
unfoldable pub flag_bit : Flag → Option ℕ → List (List ℕ) → Parsed
flag_bit x None ws = not_due 2 (Due.Field Bit)
flag_bit x (Some n) ws = alone (Kind.Flag x (n is 1)) 3 ws

unfoldable pub flag : Flag → List (List ℕ) → Parsed
flag x ws = flag_bit x (field_number Bit (first ws)) (others ws)

-- "write ROOM"
unfoldable pub write_room : Option ℕ → List (List ℕ) → Parsed
write_room None ws = not_due 2 (Due.Field (Decimal 1000))
write_room (Some n) ws = alone (Kind.Write n) 3 ws

unfoldable pub write : List (List ℕ) → Parsed
write ws = write_room (number 1000 (first ws)) (others ws)

-- the feature that `set` names; any other word is its number
unfoldable pub form_of : List ℕ → Form
form_of w =
    if same w (name_text Name.Groups) then Form.Groups
    else if same w (name_text Name.Flow) then Form.Flow
    else if same w (name_text Name.Applications) then Form.Applications
    else Form.Plain

-- "a feature is due: behind set"; a number up to 255 is one
unfoldable pub numbered : Option ℕ → List (List ℕ) → Parsed
numbered None ws = not_due 2 Due.Feature
numbered (Some n) ws = plain (n % 256) ws

unfoldable pub change_of : Form → List (List ℕ) → Parsed
change_of Form.Groups ws = feature Form.Groups 3 2 (others ws)
change_of Form.Flow ws = feature Form.Flow 3 3 (others ws)
change_of Form.Applications ws = feature Form.Applications 3 4 (others ws)
change_of Form.Plain ws = numbered (number 255 (first ws)) (others ws)

-- the words behind the first; "a frame is due: behind B, if the line is not a capture's to the letter"
unfoldable pub event_of : Keyword → List (List ℕ) → Parsed
event_of Keyword.Gone ws = alone Kind.Gone 2 ws
event_of Keyword.Take ws = alone Kind.Take 2 ws
event_of Keyword.Show ws = alone Kind.Show 2 ws
event_of Keyword.Set ws = change_of (form_of (first ws)) ws
event_of Keyword.Write ws = write ws
event_of (Keyword.Flag x) ws = flag x ws
event_of Keyword.Frame ws = not_due 2 Due.Frame
event_of Keyword.Other ws = not_due 1 Due.Event

-- "One frame a line: A or B for the sender, one space, 0 to 513 pairs of lower-case hex digits, and nothing else."
unfoldable pub is_frame : List ℕ → Bool
is_frame s = same (take 2 s) (text "B ") && is_octets 513 (drop 2 s)

unfoldable pub event_line : List ℕ → Parsed
event_line s =
    if 1100 below length s then unreadable Unread.Long
    else if returned s then unreadable Unread.Return
    else if is_frame s then Ok (line_of Kind.Frame (octets_of (drop 2 s)))
    else event_of (keyword (first (words s))) (others (words s))
