-- `again` meets its contract: each entry before i has a new name, and those from i on decide. Assumes nothing.
use Rattle.faults.specs.FaultsLaws.{Seeking}
use Rattle.faults.proofs.again.Given as goal

abbrev pub invariant-loop-i : goal.invariant-loop-i
invariant-loop-i l = Seeking l.p l.i
