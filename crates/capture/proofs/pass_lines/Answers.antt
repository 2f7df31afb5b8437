-- `pass_lines` meets its contract: what is left gives the same as the whole. Assumes nothing.
use Rattle.std.proofs.Common.{arith}
use Rattle.capture.specs.FeedingLaws.{passing_start, passing_none, passing_on, passing_end}
use Rattle.capture.proofs.pass_lines.Goals as goal

pub loop-at-init : goal.loop-at-init
loop-at-init g c = passing_start g.T.Lines.with_line _ _ _

pub returns-then-rest-n : goal.returns-then-rest-n
returns-then-rest-n g c = passing_none g.T.Lines.with_line c.loop-at.invariant c.from-rest.ensures c.line_length-n.ensures (omega (arith, c.if-rest-n.true))

pub loop-at-preserved : goal.loop-at-preserved
loop-at-preserved g c =
    passing_on g.T.Lines.with_line c.loop-at.invariant c.from-rest.ensures c.line_length-n.ensures (omega (arith, c.if-rest-n.false)) c.first.ensures c.chosen.ensures c.take_line.ensures

pub returns : goal.returns
returns g c = passing_end g.T.Lines.with_line c.loop-at.invariant (omega (arith, c.loop-at-test.false))
