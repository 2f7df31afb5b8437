-- 02, E6: "Halted before any sub-TLV and taken up with only the places, counts and control it kept and the octets from there on, it
-- gives the same answer."
use Rattle.tlv.specs.Refusals.{rejection}
use Rattle.std.specs.Prelude.{Err, ℕ, ◌+◌, ◌≡◌, not, List, length, drop, if◌then◌else◌}
use Rattle.octets.specs.Words.{◌is◌}
use Rattle.tlv.specs.declared.Refusal.TheVariants.{NotDcbx, WrongLength}
use Rattle.tlv.specs.declared.Head.TheVariants.{SubTlv}
use Rattle.walk.specs.declared.Walk.{Walk}
use Rattle.walk.specs.declared.Step.TheVariants as step
use Rattle.tlv.specs.Layout.{length_at, head_at, is_dcbx}
use Rattle.contents.specs.Contents.{value_of, control_in}
use Rattle.reading.specs.Reading.{read_frame}
use Rattle.walk.specs.Halting.{begun, passed, finished}

-- the places at which a walk may be halted: before the first sub-TLV, and behind each that is whole, whether another follows it, one
-- that runs over, or none
pub data Before (o : List ℕ) : ℕ → Type 0 where
  first : Before o 6
  behind : {i type start n : ℕ} → Before o i → head_at o i ≡ SubTlv type start n → Before o (start + n)

-- what a walk over o keeps that is begun, and then halted and taken up any number of times, each time with the octets from there on
-- alone
pub data Halts (o : List ℕ) : Walk → Type 0 where
  begins : Halts o begun
  again : {w v : Walk} → Halts o w → passed w (drop w.at o) ≡ step.Halted v → Halts o v

-- There is such a value at each of the places; its control is the frame's; and finishing from it gives the answer of the whole. 3
-- and 4 are decided before the first sub-TLV.
pub record Resumes (o : List ℕ) : Type 0 where
  pub each : (i : ℕ) → Before o i → (w : Walk) × Halts o w × (w.at ≡ i)
  pub control : (w : Walk) → Halts o w → w.control ≡ control_in (value_of o w.contents.control)
  pub same : (w : Walk) → Halts o w
      → read_frame o
      ≡ (if not (is_dcbx o) then Err (rejection NotDcbx 0)
      else if not (length_at o 0 + 2 is length o) then Err (rejection WrongLength 0)
      else finished w (drop w.at o))
