-- Sub-TLVs as type and value, the octets they are written as, and what a walk finds, by values instead of places.
use Rattle.std.specs.Prelude.{ℕ, ◌+◌, ◌≤◌, min, ◌≡◌, Bool, not, ◌||◌, List, [], ◌∷◌, ◌++◌, length, if◌then◌else◌}
use Rattle.octets.specs.Words.{◌below◌, ◌is◌}
use Rattle.octets.specs.Octets.{at, headed}
use Rattle.contents.specs.declared.Found.{Found}
use Rattle.contents.specs.declared.Contents.{Contents}
use Rattle.tlv.specs.Layout.{frame_head}
use Rattle.contents.specs.Contents.{value_of}

pub record Tlv : Type 0 where
  pub kind : ℕ
  pub value : List ℕ

abbrev pub octets_of : Tlv → List ℕ
octets_of t = headed t.kind t.value

unfoldable pub octets_all : List Tlv → List ℕ
octets_all [] = []
octets_all (t ∷ ts) = octets_of t ++ octets_all ts

-- a frame of sub-TLVs
abbrev pub frame_of : List Tlv → List ℕ
frame_of ts = frame_head (length (octets_all ts)) ++ octets_all ts

-- how often a type came, two standing for "two or more", and the octets of the last
pub record Counted : Type 0 where
  pub count : ℕ
  pub value : List ℕ

pub record Values : Type 0 where
  pub control : Counted
  pub groups : Counted
  pub flow : Counted
  pub applications : Counted

-- one control sub-TLV, of length 10, whose Oper is not above its Max: no refusal 6 to 8
pub record OneControl (x : Values) : Type 0 where
  pub once : x.control.count ≡ 1
  pub long : length x.control.value ≡ 10
  pub versions : at x.control.value 0 ≤ at x.control.value 1

abbrev pub counted_in : List ℕ → Found → Counted
counted_in o x = record { count = x.count; value = value_of o x }

-- what a walk over the octets found, by values
abbrev pub values_in : List ℕ → Contents → Values
values_in o c = record { control = counted_in o c.control; groups = counted_in o c.groups; flow = counted_in o c.flow; applications = counted_in o c.applications }

abbrev pub no_value : Counted
no_value = record { count = 0; value = [] }

abbrev pub no_values : Values
no_values = record { control = no_value; groups = no_value; flow = no_value; applications = no_value }

unfoldable pub counted_again : Counted → List ℕ → Counted
counted_again x v = record { count = min 2 (x.count + 1); value = v }

-- the rules of the walk over values: shorter than 4, or SubType 0
unfoldable pub counts_value : List ℕ → Bool
counts_value v = length v below 4 || at v 3 is 0

unfoldable pub noted_value : Tlv → Values → Values
noted_value t x =
    if t.kind is 1 then record { control = counted_again x.control t.value; groups = x.groups; flow = x.flow; applications = x.applications }
    else if not (counts_value t.value) then x
    else if t.kind is 2 then record { control = x.control; groups = counted_again x.groups t.value; flow = x.flow; applications = x.applications }
    else if t.kind is 3 then record { control = x.control; groups = x.groups; flow = counted_again x.flow t.value; applications = x.applications }
    else if t.kind is 4 then record { control = x.control; groups = x.groups; flow = x.flow; applications = counted_again x.applications t.value }
    else x

unfoldable pub noted_values : List Tlv → Values → Values
noted_values [] x = x
noted_values (t ∷ ts) x = noted_values ts (noted_value t x)

-- ---- a frame as it is written: "control, then the advertised features in ascending type"

pub record Part : Type 0 where
  pub advertised : Bool
  pub value : List ℕ

pub record Parts : Type 0 where
  pub control : List ℕ
  pub groups : Part
  pub flow : Part
  pub applications : Part

abbrev pub part_octets : ℕ → Part → List ℕ
part_octets kind x = if x.advertised then octets_of (record { kind = kind; value = x.value }) else []

unfoldable pub parts_octets : Parts → List ℕ
parts_octets p =
    octets_of (record { kind = 1; value = p.control })
    ++ (part_octets 2 p.groups ++ (part_octets 3 p.flow ++ part_octets 4 p.applications))

abbrev pub part_counted : Part → Counted
part_counted x = if x.advertised then record { count = 1; value = x.value } else no_value

abbrev pub parts_values : Parts → Values
parts_values p =
    record { control = record { count = 1; value = p.control }; groups = part_counted p.groups; flow = part_counted p.flow; applications = part_counted p.applications }

-- what the layout says of each part: the control is readable, and the SubType of each feature is 0
pub record LaidOut (p : Parts) : Type 0 where
  pub long : length p.control ≡ 10
  pub versions : at p.control 0 ≤ at p.control 1
  pub groups : at p.groups.value 3 ≡ 0
  pub flow : at p.flow.value 3 ≡ 0
  pub applications : at p.applications.value 3 ≡ 0
