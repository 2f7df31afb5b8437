-- `octets::same_octets` meets its contract: runs of one length are the same where each pair of octets is. Assumes nothing.
use Rattle.std.proofs.Common.{arith}
use Rattle.octets.specs.Laws.{alike_more, alike_end, unlike}
use Rattle.octets.proofs.same_octets.Goals as goal

pub returns-then-a-b : goal.returns-then-a-b
returns-then-a-b c = search (unlike, arith)

pub loop-i-preserved : goal.loop-i-preserved
loop-i-preserved c = search alike_more

pub returns : goal.returns
returns c = search alike_end
