-- `hex_digits` meets its contract: the octets before c are hex digits or not, and the rest decides with them. Assumes nothing.
use Rattle.words.specs.TextLaws.{Hexing}
use Rattle.words.proofs.hex_digits.Given as goal

abbrev pub invariant-loop-c : goal.invariant-loop-c
invariant-loop-c l = Hexing l.w l.good l.c-index
