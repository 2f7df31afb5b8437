-- `position_of` meets its contract: what is left of the walk gives the same as the whole. Assumes nothing.
use Rattle.comparison.proofs.PlaceLaws.{Seeking}
use Rattle.comparison.proofs.places.position_of.Given as goal

abbrev pub invariant-loop : goal.invariant-loop
invariant-loop l = Seeking l.frame l.place l.at l.counter
