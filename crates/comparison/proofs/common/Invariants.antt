-- `common` meets its contract: the first i octets are the same, and the rest decides. Assumes nothing.
use Rattle.comparison.proofs.ComparisonLaws.{Sharing}
use Rattle.comparison.proofs.common.Given as goal

abbrev pub invariant-loop-i : goal.invariant-loop-i
invariant-loop-i l = Sharing l.a l.b l.i
