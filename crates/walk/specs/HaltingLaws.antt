-- Laws of the walk as a value, one for each answer of the code, and what its inner functions ask. Assumes nothing.
use Prim.Native.Nat.{ℕ, ◌+◌, ◌-◌, ◌<◌, ◌≤◌, ◌^◌}
use Rattle.std.specs.Prelude.{◌≡◌, ◌&&◌, List, take, if◌then◌else◌}
use Rattle.std.proofs.Math.ListN.{length, drop}
use Rattle.octets.specs.Words.{◌is◌}
use Rattle.contents.specs.declared.Contents.{Contents}
use Rattle.contents.specs.declared.Control.{Control}
use Rattle.walk.specs.declared.Walk.{Walk}
use Rattle.contents.specs.Contents.{Reading}
use Rattle.contents.specs.Contents.{control_in, judged}

-- ---- the end of a walk over o, the octets from `base` of the whole on

-- the one control at the end is read where it came in them, `count` being how many had come before
unfoldable pub judged_end : ℕ → List ℕ → ℕ → Control → Contents → Reading
judged_end base o count k c =
    if c.control.count is 1 && count is 0 then judged (base + length o) c (control_in (take c.control.length (drop (c.control.start - base) o)))
    else judged (base + length o) c k

-- and that it came in them, and the whole has a length
pub record Came (base : ℕ) (o : List ℕ) (count : ℕ) (c : Contents) : Type 0 where
  pub fits : base + length o < 2 ^ 64
  pub place : c.control.count ≡ 1 → count ≡ 0 → base ≤ c.control.start
  pub inside : c.control.count ≡ 1 → count ≡ 0 → c.control.start - base + c.control.length ≤ length o

-- ---- all passed

-- a walk at w may go over o, the octets from `base` of the whole on
pub record Ahead (base : ℕ) (o : List ℕ) (w : Walk) : Type 0 where
  pub from : base ≤ w.at
  pub within : w.at ≤ base + length o
  pub fits : base + length o < 2 ^ 64
