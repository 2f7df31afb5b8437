-- `pass_lines` meets its contract: what is left gives the same as the whole. Assumes nothing.
use Rattle.std.proofs.Common.{◌-◌, length}
use Rattle.capture.specs.FeedingLaws.{Passing}
use Rattle.capture.proofs.pass_lines.Given as goal

abbrev pub invariant-loop-at : goal.invariant-loop-at
invariant-loop-at g l = Passing g.T.Lines.with_line l.initial.t l.front l.s l.t l.at

abbrev pub decreases-loop-at : goal.decreases-loop-at
decreases-loop-at g l = length l.s - l.at
