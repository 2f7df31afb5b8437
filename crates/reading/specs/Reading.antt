-- 01, TLV layout: the walk over the sub-TLVs of a whole frame, and refusals 3 to 8.
use Rattle.tlv.specs.Refusals.{rejection}
use Rattle.std.specs.Prelude.{Err, ℕ, zero, suc, ◌+◌, Bool, true, false, not, List, length, if◌then◌else◌}
use Rattle.octets.specs.Words.{◌is◌}
use Rattle.octets.specs.Octets.{at}
use Rattle.tlv.specs.declared.Refusal.TheVariants.{NotDcbx, WrongLength, PastEnd}
use Rattle.tlv.specs.declared.Head.{Head}
use Rattle.tlv.specs.declared.Head.TheVariants.{End, Past, SubTlv}
use Rattle.contents.specs.declared.Contents.{Contents}
use Rattle.contents.specs.Contents.{Reading}
use Rattle.contents.specs.Contents.{noted, no_contents, judged_by}
use Rattle.tlv.specs.Layout.{length_at, head_at, is_dcbx}

-- how a walk ends: at which place, whether a sub-TLV there runs past the end, and what was found before
pub record Walked : Type 0 where
  pub place : ℕ
  pub past : Bool
  pub contents : Contents

-- the walk from head to head; each takes two octets or more, so the length is steps enough
unfoldable pub onward : List ℕ → ℕ → Head → Contents → (ℕ → Contents → Walked) → Walked
onward o i End c next = record { place = i; past = false; contents = c }
onward o i Past c next = record { place = i; past = true; contents = c }
onward o i (SubTlv type start n) c next = next (start + n) (noted o c type start n)

unfoldable pub walk_from : ℕ → List ℕ → ℕ → Contents → Walked
walk_from zero o i c = record { place = i; past = false; contents = c }
walk_from (suc k) o i c = onward o i (head_at o i) c (λ j d. walk_from k o j d)

unfoldable pub walked : List ℕ → Walked
walked o = walk_from (length o) o 6 no_contents

unfoldable pub judged_control : List ℕ → Contents → Reading
judged_control o c = judged_by (length o) c (at o c.control.start) (at o (c.control.start + 1))

-- 01, Refusal numbers 3 to 8, and 02, E2: "a place, counted from 0 at the TLV's first octet: 0 for 3 and 4, the head of the sub-TLV that
-- runs over for 5, the end of the input for 6, the control's head for 7 and 8"
-- 4: "length field is not the octets after the head"; 5: "a sub-TLV, or its head, runs past the end"
unfoldable pub read_frame : List ℕ → Reading
read_frame o =
    if not (is_dcbx o) then Err (rejection NotDcbx 0)
    else if not (length_at o 0 + 2 is length o) then Err (rejection WrongLength 0)
    else if (walked o).past then Err (rejection PastEnd (walked o).place)
    else judged_control o (walked o).contents
