-- `hex` meets its contract: the first i octets stand as digits at their place. Assumes nothing.
use Rattle.printing.proofs.PutLaws.{Spelling}
use Rattle.printing.proofs.hex.Given as goal

abbrev pub invariant-loop-i : goal.invariant-loop-i
invariant-loop-i l = Spelling l.initial.out l.out l.s l.at l.i
