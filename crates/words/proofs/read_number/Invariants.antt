-- `read_number` meets its contract: the digits before c make n, which is at most the limit, and the rest decides. Assumes nothing.
use Rattle.words.specs.TextLaws.{Counting}
use Rattle.words.proofs.read_number.Given as goal

abbrev pub invariant-loop-c : goal.invariant-loop-c
invariant-loop-c l = Counting l.limit l.w l.n l.c-index
