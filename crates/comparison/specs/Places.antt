-- 02, E12: "the place, from 0, of its first differing octet", for people: in which sub-TLV of a frame it lies, and at which octet of that.
use Rattle.std.specs.Prelude.{ℕ, zero, suc, ◌+◌, ◌-◌, List, length, if◌then◌else◌, Option, Some, None}
use Rattle.octets.specs.Words.{◌below◌}
use Rattle.tlv.specs.declared.Head.{Head}
use Rattle.tlv.specs.declared.Head.TheVariants.{End, Past, SubTlv}
use Rattle.tlv.specs.Layout.{head_at}
use Rattle.comparison.specs.declared.places.Position.{Position}

abbrev pub inside : ℕ → ℕ → Option Position
inside kind octet = Some (record { kind = kind; octet = octet })

-- by what stands at i, where the rest of the walk is told from where it goes on
unfoldable pub position_at : Head → ℕ → ℕ → (ℕ → Option Position) → Option Position
position_at End i place on = None
position_at Past i place on = None
position_at (SubTlv type start n) i place on = if place below start + n then inside type (place - i) else on (start + n)

-- the sub-TLVs from i on, so many at the most
unfoldable pub position_from : ℕ → List ℕ → ℕ → ℕ → Option Position
position_from zero o i place = None
position_from (suc k) o i place = position_at (head_at o i) i place (λ j. position_from k o j place)

-- the six octets before the first sub-TLV count as one of type 0
unfoldable pub position_in : List ℕ → ℕ → Option Position
position_in o place = if place below 6 then inside 0 place else position_from (length o) o 6 place
