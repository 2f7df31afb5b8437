-- `common` meets its contract: the first i octets are the same, and the rest decides. Assumes nothing.
use Rattle.std.proofs.Common.{arith}
use Rattle.comparison.proofs.ComparisonLaws.{sharing_on, sharing_differs, sharing_end}
use Rattle.comparison.proofs.common.Goals as goal

pub returns-then-a-i : goal.returns-then-a-i
returns-then-a-i c = sharing_differs c.loop-i.invariant (omega arith) (omega arith) c.if-a-i.true

pub loop-i-preserved : goal.loop-i-preserved
loop-i-preserved c = sharing_on c.loop-i.invariant (omega arith) (omega arith) c.if-a-i.false

pub returns : goal.returns
returns c = sharing_end c.loop-i.invariant c.min-shorter.ensures (omega arith) (omega arith)
