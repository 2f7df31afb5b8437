-- `has_feed` meets its contract: the first i octets are looked at, and the rest decides with them. Assumes nothing.
use Rattle.capture.specs.LineLaws.{Seeking}
use Rattle.capture.proofs.has_feed.Given as goal

abbrev pub invariant-loop-i : goal.invariant-loop-i
invariant-loop-i l = Seeking l.s l.from l.any l.i
