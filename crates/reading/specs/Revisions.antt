-- 02, E11: "Under 1.0 type 4 is skipped like any unknown type".
use Rattle.tlv.specs.Refusals.{rejection}
use Rattle.std.specs.Prelude.{Ok, Err, ℕ, zero, suc, ◌+◌, ◌≡◌, true, false, not, List, length, if◌then◌else◌}
use Rattle.octets.specs.Words.{◌is◌}
use Rattle.tlv.specs.declared.Revision.{Revision}
use Rattle.tlv.specs.declared.Revision.TheVariants.{Rev101, Rev10}
use Rattle.contents.specs.declared.Contents.{Contents}
use Rattle.tlv.specs.declared.Head.{Head}
use Rattle.tlv.specs.declared.Head.TheVariants.{End, Past, SubTlv}
use Rattle.contents.specs.Contents.{Reading}
use Rattle.tlv.specs.declared.Refusal.TheVariants.{NotDcbx, WrongLength, PastEnd}
use Rattle.reading.specs.Reading.{Walked, judged_control, read_frame}
use Rattle.tlv.specs.Layout.{length_at, head_at, is_dcbx}
use Rattle.contents.specs.Contents.{noted, nothing_found, no_contents}

-- what was found, applications aside
abbrev pub without_applications : Contents → Contents
without_applications c = record { control = c.control; groups = c.groups; flow = c.flow; applications = nothing_found }

unfoldable pub skipping : Reading → Reading
skipping (Err r) = Err r
skipping (Ok c) = Ok (without_applications c)

-- the reader, told the revision. No refusal depends on type 4, so what is found of it is left out at the end; `Skips` says that this is to
-- skip it.
unfoldable pub read_for : Revision → List ℕ → Reading
read_for Rev101 o = read_frame o
read_for Rev10 o = skipping (read_frame o)

-- ---- that is to skip it: the walk that notes nothing of a sub-TLV of type 4

unfoldable pub noted_but4 : List ℕ → Contents → ℕ → ℕ → ℕ → Contents
noted_but4 o c type start n = if type is 4 then c else noted o c type start n

unfoldable pub onward_but4 : List ℕ → ℕ → Head → Contents → (ℕ → Contents → Walked) → Walked
onward_but4 o i End c next = record { place = i; past = false; contents = c }
onward_but4 o i Past c next = record { place = i; past = true; contents = c }
onward_but4 o i (SubTlv type start n) c next = next (start + n) (noted_but4 o c type start n)

unfoldable pub walk_but4 : ℕ → List ℕ → ℕ → Contents → Walked
walk_but4 zero o i c = record { place = i; past = false; contents = c }
walk_but4 (suc k) o i c = onward_but4 o i (head_at o i) c (λ j d. walk_but4 k o j d)

abbrev pub walked_but4 : List ℕ → Walked
walked_but4 o = walk_but4 (length o) o 6 no_contents

-- refusals 3 to 8 by that walk, as `read_frame` has them by the whole one
unfoldable pub read_but4 : List ℕ → Reading
read_but4 o =
    if not (is_dcbx o) then Err (rejection NotDcbx 0)
    else if not (length_at o 0 + 2 is length o) then Err (rejection WrongLength 0)
    else if (walked_but4 o).past then Err (rejection PastEnd (walked_but4 o).place)
    else judged_control o (walked_but4 o).contents

-- reading for 1.0 is reading by that walk
abbrev pub Skips : Type 0
Skips = (o : List ℕ) → read_for Rev10 o ≡ read_but4 o
