-- 01, TLV layout: the heads of the DCBX TLV and of its sub-TLVs. Places count from 0 at the TLV's first octet.
use Rattle.std.specs.Prelude.{ℕ, ◌+◌, ◌*◌, ◌/◌, ◌%◌, Bool, ◌&&◌, List, [], ◌∷◌, ◌++◌, length, take, drop, if◌then◌else◌}
use Rattle.octets.specs.Words.{◌atmost◌, ◌is◌}
use Rattle.octets.specs.Octets.{at, head, same}
use Rattle.tlv.specs.declared.Head.{Head}
use Rattle.tlv.specs.declared.Head.TheVariants.{End, Past, SubTlv}

-- "OUI 00 1b 21, subtype 2"
abbrev pub fixed_octets : List ℕ
fixed_octets = 0 ∷ 27 ∷ 33 ∷ 2 ∷ []

-- "Type and length fill two octets, high octet first: 7 bits type, 9 bits length."
abbrev pub type_at : List ℕ → ℕ → ℕ
type_at o i = at o i / 2

abbrev pub length_at : List ℕ → ℕ → ℕ
length_at o i = at o i % 2 * 256 + at o (i + 1)

-- "The TLV is type 127, OUI 00 1b 21, subtype 2, then sub-TLVs": what stands before sub-TLVs of n octets
abbrev pub frame_head : ℕ → List ℕ
frame_head n = head 127 (4 + n) ++ fixed_octets

-- what stands at a place: the end of the octets; or a sub-TLV, by its type and its value's start and length; or one that, or whose
-- head, "runs past the end"
unfoldable pub head_at : List ℕ → ℕ → Head
head_at o i =
    if length o atmost i then End
    else if i + 2 + length_at o i atmost length o then SubTlv (type_at o i) (i + 2) (length_at o i)
    else Past

-- 01, Refusal numbers, 3: "fewer than 6 octets, type not 127, or OUI or subtype differs"
unfoldable pub is_dcbx : List ℕ → Bool
is_dcbx o = 6 atmost length o && type_at o 0 is 127 && same (take 4 (drop 2 o)) fixed_octets
