-- 01, TLV layout: the sub-TLVs of a frame noted by their types, the control that is kept of them, and refusals 6 to 8.
use Rattle.std.specs.Prelude.{Result, Ok, Err, ℕ, ◌+◌, ◌-◌, min, Bool, not, ◌||◌, List, length, take, drop, if◌then◌else◌}
use Rattle.octets.specs.Words.{◌below◌, ◌is◌}
use Rattle.octets.specs.Octets.{at, number4}
use Rattle.tlv.specs.declared.Refusal.TheVariants.{NoControl, ControlLength, ControlVersion}
use Rattle.contents.specs.declared.Found.{Found}
use Rattle.contents.specs.declared.Contents.{Contents}
use Rattle.tlv.specs.declared.Rejection.{Rejection}
use Rattle.tlv.specs.Refusals.{rejection}
use Rattle.contents.specs.declared.Control.{Control}

-- what reading a frame gives: what it has, or a refusal and its place
abbrev pub Reading : Type 0
Reading = Result Contents Rejection

-- how often a type came, two standing for "two or more", and the value of the last
unfoldable pub found_again : Found → ℕ → ℕ → Found
found_again x start n = record { count = min 2 (x.count + 1); start = start; length = n }

-- "Any other type is skipped, and so is a feature sub-TLV of length 4 or more whose SubType is not 0."
-- A sub-TLV shorter than 4 counts for its type (Outcome rules).
unfoldable pub counts : List ℕ → ℕ → ℕ → Bool
counts o start n = n below 4 || at o (start + 3) is 0

-- one sub-TLV noted by its type, where it is told whether a feature's counts
abbrev pub noted_by : Bool → Contents → ℕ → ℕ → ℕ → Contents
noted_by counted c type start n =
    if type is 1 then record { control = found_again c.control start n; groups = c.groups; flow = c.flow; applications = c.applications }
    else if not counted then c
    else if type is 2 then record { control = c.control; groups = found_again c.groups start n; flow = c.flow; applications = c.applications }
    else if type is 3 then record { control = c.control; groups = c.groups; flow = found_again c.flow start n; applications = c.applications }
    else if type is 4 then record { control = c.control; groups = c.groups; flow = c.flow; applications = found_again c.applications start n }
    else c

-- and where that is looked up at its value
unfoldable pub noted : List ℕ → Contents → ℕ → ℕ → ℕ → Contents
noted o c type start n = noted_by (counts o start n) c type start n

abbrev pub nothing_found : Found
nothing_found = record { count = 0; start = 0; length = 0 }

abbrev pub no_contents : Contents
no_contents = record { control = nothing_found; groups = nothing_found; flow = nothing_found; applications = nothing_found }

-- the octets of a value that was found
abbrev pub value_of : List ℕ → Found → List ℕ
value_of o x = take x.length (drop x.start o)

-- and where its head stands, two octets before it
abbrev pub head_of : Found → ℕ
head_of x = x.start - 2

-- 6: "no control sub-TLV"; 7: "exactly one control, length not 10"; 8: "its Oper is above its Max"
abbrev pub judged_by : ℕ → Contents → ℕ → ℕ → Reading
judged_by end c oper max =
    if c.control.count is 0 then Err (rejection NoControl end)
    else if 1 below c.control.count then Ok c
    else if not (c.control.length is 10) then Err (rejection ControlLength (head_of c.control))
    else if max below oper then Err (rejection ControlVersion (head_of c.control))
    else Ok c

-- a sub-TLV noted whose value stands at `start` of the octets o, which are those from `base` of the whole on
unfoldable pub noted_at : ℕ → List ℕ → Contents → ℕ → ℕ → ℕ → Contents
noted_at base o c type start n = noted_by (counts o start n) c type (base + start) n

abbrev pub no_control : Control
no_control = record { oper = 0; max = 0; seq = 0; ack = 0 }

-- 01: "Type 1, control, length 10: Oper version, Max version, SeqNo (4), AckNo (4)". Of a value of another length nothing is kept: 7
-- asks for the length alone.
unfoldable pub control_in : List ℕ → Control
control_in v = if length v is 10 then record { oper = at v 0; max = at v 1; seq = number4 v 2; ack = number4 v 6 } else no_control

-- the control kept behind a sub-TLV: the last one
unfoldable pub kept_behind : List ℕ → Control → ℕ → ℕ → ℕ → Control
kept_behind o k type start n = if type is 1 then control_in (take n (drop start o)) else k

-- 6 to 8 by what was kept, and where the whole ends
unfoldable pub judged : ℕ → Contents → Control → Reading
judged end c k = judged_by end c k.oper k.max
