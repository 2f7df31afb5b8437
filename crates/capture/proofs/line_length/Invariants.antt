-- `line_length` meets its contract: no line feed stands among the first i octets. Assumes nothing.
use Rattle.capture.specs.Steps.{Along}
use Rattle.capture.proofs.line_length.Given as goal

abbrev pub invariant-loop-i : goal.invariant-loop-i
invariant-loop-i l = Along l.s l.i
