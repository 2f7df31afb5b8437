-- `repeating::holds_own` meets its contract: our own of the entries before `e` are the first `size` octets of what is held. Assumes nothing.
use Rattle.repeating.proofs.HoldingLaws.{Walked}
use Rattle.repeating.proofs.holds_own.Given as goal

abbrev pub invariant-loop-e : goal.invariant-loop-e
invariant-loop-e l = Walked l.p l.held l.size l.e-index
