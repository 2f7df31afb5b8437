-- `walk::walk_on` meets its contract. The loop's invariant: what is left of the walk gives what the whole gives, and the control is in what was kept or in these octets (`GoingOn`). Assumes nothing.
use Prim.Native.Nat.{◌-◌}
use lib.ListN.{length}
use Rattle.walk.proofs.HaltingLaws.{GoingOn}
use Rattle.walk.proofs.walk_on.Given as goal

abbrev pub invariant-loop-place : goal.invariant-loop-place
invariant-loop-place l = GoingOn l.base l.s l.w l.contents l.at

abbrev pub decreases-loop-place : goal.decreases-loop-place
decreases-loop-place l = length l.s - l.at
