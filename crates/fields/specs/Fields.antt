-- docs/FORMATS.md: the words of a setting as they are read, and the parameters that they give.
use Rattle.std.specs.Prelude.{ℕ, ◌+◌, ◌-◌, ◌*◌, ◌/◌, ◌%◌, Bool, true, false, ◌&&◌, List, [], ◌∷◌, length, set, replicate, if◌then◌else◌, Option, Some, None, Result, Ok, Err}
use Rattle.octets.specs.Words.{◌below◌, ◌is◌}
use Rattle.octets.specs.Octets.{at, same}
use Rattle.octets.specs.Texts.{text}
use Rattle.grammar.specs.declared.Name.{Name}
use Rattle.grammar.specs.declared.Field.{Field}
use Rattle.grammar.specs.declared.Field.TheVariants.{Word, Bit, Decimal, Hex2, Hex4, Selector, Parameters, Octets, End}
use Rattle.grammar.specs.declared.Form.{Form}
use Rattle.grammar.specs.declared.Form.TheVariants.{Groups, Flow, Applications, Plain}
use Rattle.fields.specs.declared.Undue.{Undue}
use Rattle.fields.specs.declared.Values.{Values}
use Rattle.words.specs.Text.{number, hex_digits, is_octets, pair_at, listed}
use Rattle.grammar.specs.Grammar.{due, may_end}

-- ---- one word

unfoldable pub name_text : Name → List ℕ
name_text Name.Control = text "control"
name_text Name.Groups = text "groups"
name_text Name.Flow = text "flow"
name_text Name.Applications = text "applications"
name_text Name.Max = text "max"
name_text Name.Advertise = text "advertise"
name_text Name.Enable = text "enable"
name_text Name.Willing = text "willing"
name_text Name.Priorities = text "priorities"
name_text Name.Percentages = text "percentages"
name_text Name.Mask = text "mask"
name_text Name.Classes = text "classes"
name_text Name.Revision = text "revision"

-- "SELECTOR is ethertype (selector 0), port (1), selector-2 or selector-3"
unfoldable pub selector : List ℕ → Option ℕ
selector w =
    if same w (text "ethertype") then Some 0
    else if same w (text "port") then Some 1
    else if same w (text "selector-2") then Some 2
    else if same w (text "selector-3") then Some 3
    else None

-- a word that says no number is 0 where it is what is due
unfoldable pub said : Bool → Option ℕ
said true = Some 0
said false = None

-- what a word says, if it is what is due. "A bit is 0 or 1 and nothing else." "the parameters as octets: none, or 1 to 507"
unfoldable pub field_number : Field → List ℕ → Option ℕ
field_number (Word n) w = said (same w (name_text n))
field_number Bit w = if length w is 1 then number 1 w else None
field_number (Decimal limit) w = number limit w
field_number Hex2 w = if length w is 2 && hex_digits w then Some (pair_at w 0) else None
field_number Hex4 w = if length w is 4 && hex_digits w then Some (pair_at w 0 * 256 + pair_at w 1) else None
field_number Selector w = selector w
field_number Parameters w = said (same w (text "parameters"))
field_number Octets w = said (is_octets 507 w)
field_number End w = None

-- ---- the words of a setting

abbrev pub values : ℕ → List ℕ → Values
values i v = record { place = i; numbers = v }

-- the words that were read, where another is due
abbrev pub undue : Values → Field → Result Values Undue
undue v d = Err (record { read = v; due = d })

-- the line ends where a field is due: it may, or not
unfoldable pub ended : Bool → Values → Field → Result Values Undue
ended true v d = Ok v
ended false v d = undue v d

unfoldable pub onward : Option ℕ → Result Values Undue → (ℕ → Result Values Undue) → Result Values Undue
onward None stop more = stop
onward (Some n) stop more = more n

-- the words from place i on, up to the first that is not what is due; v has the numbers of those before
unfoldable pub values_from : Form → ℕ → List ℕ → List (List ℕ) → Result Values Undue
values_from f i v [] = ended (may_end (due f i)) (values i v) (due f i)
values_from f i v (w ∷ ws) = onward (field_number (due f i) w) (undue (values i v) (due f i)) (λ n. values_from f (i + 1) (set v i n) ws)

unfoldable pub values_of : Form → List (List ℕ) → Result Values Undue
values_of f ws = values_from f 0 (replicate 58 0) ws

-- ---- the parameters that they give, as octets (01, TLV layout)

-- of n words
unfoldable pub parameter_count : Form → ℕ → ℕ
parameter_count Groups n = 13
parameter_count Flow n = 2
parameter_count Applications n = (n - 6) / 3 * 6
parameter_count Plain n = 0

-- octet k of the entry whose selector, id and map stand from place j on: id, selector, OUI 00 1b 21, map
unfoldable pub entry_octet : List ℕ → ℕ → ℕ → ℕ
entry_octet v j k =
    if k is 0 then at v (j + 1) / 256 % 256
    else if k is 1 then at v (j + 1) % 256
    else if k is 2 then at v j % 4
    else if k is 3 then 27
    else if k is 4 then 33
    else at v (j + 2) % 256

-- group numbers are 4-bit halves, "priority 0 in the high half of the first octet"; then percentages, then the number of classes
unfoldable pub groups_octet : List ℕ → ℕ → ℕ
groups_octet v i =
    if i below 4 then at v (7 + 2 * i) % 16 * 16 + at v (8 + 2 * i) % 16
    else if i below 12 then at v (12 + i) % 256
    else at v (13 + i) % 256

unfoldable pub parameter_at : Form → List ℕ → ℕ → ℕ
parameter_at Groups v i = groups_octet v i
parameter_at Flow v i = at v (7 + 2 * i) % 256
parameter_at Applications v i = entry_octet v (6 + i / 6 * 3) (i % 6)
parameter_at Plain v i = 0

unfoldable pub parameters_of : Form → Values → List ℕ
parameters_of f v = listed (parameter_count f v.place) 0 (parameter_at f v.numbers)
