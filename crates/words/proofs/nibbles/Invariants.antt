-- `nibbles` meets its contract: the first i values stand in the array. Assumes nothing.
use Rattle.words.specs.TextLaws.{Valuing}
use Rattle.words.proofs.nibbles.Given as goal

abbrev pub invariant-loop-i : goal.invariant-loop-i
invariant-loop-i l = Valuing l.w l.out l.i-end l.i
