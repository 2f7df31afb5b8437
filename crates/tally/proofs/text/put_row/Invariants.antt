-- `put_row` meets its contract: the numbers from place i on are still to be put. Assumes nothing.
use Rattle.tally.specs.TextLaws.{Rowing}
use Rattle.tally.proofs.text.put_row.Given as goal

abbrev pub invariant-loop-i : goal.invariant-loop-i
invariant-loop-i g l = Rowing l.initial.out l.at l.numbers l.out l.place l.i
