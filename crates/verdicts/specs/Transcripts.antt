-- 02, E12: "Exactly what our own engine would write under the same settings and lines is accepted." How the calls at a port of our own stand in a
-- capture, and the claim; Verdicts has it among the others.
use Rattle.std.specs.Prelude.{ℕ, ◌+◌, ◌/◌, ◌%◌, ◌≤◌, ◌<◌, ◌≡◌, Bool, true, false, List, [], ◌∷◌, ◌++◌, length, take, if◌then◌else◌, Ok, Err}
use Rattle.octets.specs.Words.{◌below◌}
use Rattle.octets.specs.Octets.{at}
use Rattle.octets.specs.Texts.{text}
use Rattle.parameters.specs.declared.Feature.{Feature}
use Rattle.feature.specs.declared.Switches.{Switches}
use Rattle.port.specs.declared.Flag.{Flag}
use Rattle.port.specs.declared.Flag.TheVariants as flags
use Rattle.port.specs.declared.Port.{Port}
use Rattle.port.specs.declared.Versions.{Versions}
use Rattle.port.specs.Types.{Written}
use Rattle.port.specs.Parts.{max_of}
use Rattle.port.specs.Replies.{bit}
use Rattle.recorder.specs.Recorder.{written, output}
use Rattle.calls.specs.Calls.{Operation, event_of}
use Rattle.calls.specs.Calls as call
use Rattle.numerals.specs.Numerals.{decimal}
use Rattle.judgement.specs.Entries.{entry_of, is_sent, port_after}
use Rattle.ruling.specs.Ruling.{Accepted}
use Rattle.conformance.specs.Conformance.{verdict}

-- octets in a capture: two lower-case hex digits for each
abbrev pub hex_digit : ℕ → ℕ
hex_digit d = if d below 10 then 48 + d else 87 + d

unfoldable pub hex_of : List ℕ → List ℕ
hex_of [] = []
hex_of (x ∷ xs) = hex_digit (x / 16) ∷ hex_digit (x % 16) ∷ hex_of xs

-- the line of a frame that the end sent, and of one that it was given
abbrev pub sent_line : List ℕ → List ℕ
sent_line o = text "A " ++ hex_of o

abbrev pub given_line : List ℕ → List ℕ
given_line o = text "B " ++ hex_of o

-- a line of words, one space between them
unfoldable pub spaced : List (List ℕ) → List ℕ
spaced [] = []
spaced (w ∷ []) = w
spaced (w ∷ v ∷ ws) = w ++ (32 ∷ spaced (v ∷ ws))

unfoldable pub bit_word : Bool → List ℕ
bit_word true = text "1"
bit_word false = text "0"

unfoldable pub flag_word : Flag → List ℕ
flag_word flags.Admin = text "admin"
flag_word flags.Receive = text "receive"
flag_word flags.Transmit = text "transmit"
flag_word flags.Several = text "several"

-- "then nothing or parameters HEX"
unfoldable pub parameter_words : List ℕ → List (List ℕ)
parameter_words [] = []
parameter_words (x ∷ o) = text "parameters" ∷ hex_of (x ∷ o) ∷ []

-- "set NUMBER advertise B enable B willing B"
unfoldable pub setting_words : ℕ → Switches → List ℕ → List (List ℕ)
setting_words n w o =
    text "set" ∷ decimal n ∷ text "advertise" ∷ bit_word w.advertise ∷ text "enable" ∷ bit_word w.enable ∷ text "willing" ∷ bit_word w.willing ∷ parameter_words o

-- what a request to write gave: the octets that the engine wrote, and nothing where it was refused
unfoldable pub written_lines : Written → List ℕ → List (List ℕ)
written_lines (Ok n) out = sent_line (take n out) ∷ []
written_lines (Err why) out = []

-- how each call at a port, which is p, stands in a capture; a capture begins with the creation, and notices do not stand in it
unfoldable pub lines_of : Port → Operation → List (List ℕ)
lines_of p (call.create v w o) = []
lines_of p (call.frame o) = given_line o ∷ []
lines_of p call.gone = text "gone" ∷ []
lines_of p (call.flag x on) = spaced (flag_word x ∷ bit_word on ∷ []) ∷ []
lines_of p (call.setting n w o) = spaced (setting_words n w o) ∷ []
lines_of p (call.write out) = written_lines (written 1 p out) (output 1 p out)
lines_of p call.take = []

-- what happens at a port of our own, one after the other: a call, or another line that stands in the capture: a comment, an answer of `desk`, a
-- change in other words (`set groups ..`), which then does what it is read as
pub data Act : Type 0 where
  Call : Operation → Act
  Line : List ℕ → Act

-- the port behind it: a call does what the engine does
unfoldable pub port_past : Port → Act → Port
port_past p (Call x) = (event_of 1 p x).port
port_past p (Line l) = port_after p (entry_of l)

unfoldable pub lines_at : Port → Act → List (List ℕ)
lines_at p (Call x) = lines_of p x
lines_at p (Line l) = l ∷ []

-- the capture of it, from a port on
unfoldable pub capture_of : Port → List Act → List (List ℕ)
capture_of p [] = []
capture_of p (x ∷ xs) = lines_at p x ++ capture_of (port_past p x) xs

-- how many requests to write were answered with octets
unfoldable pub has_written : Written → Bool
has_written (Ok n) = true
has_written (Err why) = false

unfoldable pub wrote : Port → Act → Bool
wrote p (Call (call.create v w o)) = false
wrote p (Call (call.frame o)) = false
wrote p (Call call.gone) = false
wrote p (Call (call.flag x on)) = false
wrote p (Call (call.setting n w o)) = false
wrote p (Call (call.write out)) = has_written (written 1 p out)
wrote p (Call call.take) = false
wrote p (Line l) = false

unfoldable pub writes_in : Port → List Act → ℕ
writes_in p [] = 0
writes_in p (x ∷ xs) = bit (wrote p x) + writes_in (port_past p x) xs

-- what a line can hold: so many octets, each below 256 (in antt a number has no bound)
pub record OctetsWithin (most : ℕ) (o : List ℕ) : Type 0 where
  pub few : length o ≤ most
  pub octets : (i : ℕ) → at o i < 256

-- what a line can say: a frame of at most 513 octets, a setting's number up to 255 and at most 507 octets of parameters; the creation stands
-- before the capture; and no other line says itself that a frame was sent
abbrev pub Sayable : Act → Type 0
Sayable (Call (call.create v w o)) = ⊥
Sayable (Call (call.frame o)) = OctetsWithin 513 o
Sayable (Call call.gone) = Unit {0}
Sayable (Call (call.flag x on)) = Unit {0}
Sayable (Call (call.setting n w o)) = (n ≤ 255) × OctetsWithin 507 o
Sayable (Call (call.write out)) = Unit {0}
Sayable (Call call.take) = Unit {0}
Sayable (Line l) = is_sent (entry_of l) ≡ false

abbrev pub AllSayable : List Act → Type 0
AllSayable [] = Unit {0}
AllSayable (x ∷ xs) = Sayable x × AllSayable xs

-- settings as they are given at creation: highest versions 0 to 255, and parameters of octets
pub record SettingsInRange (v : Versions) (o : Feature → List ℕ) : Type 0 where
  pub control : v.control < 256
  pub versions : (f : Feature) → max_of v f < 256
  pub octets : (f : Feature) (i : ℕ) → at (o f) i < 256

abbrev pub Own : Port → List Act → Type 0
Own p xs = verdict p (capture_of p xs) ≡ Accepted (writes_in p xs)
