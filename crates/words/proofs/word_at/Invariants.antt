-- `word_at` meets its contract. Assumes nothing.
use Rattle.words.specs.WordsLaws.{Passing}
use Rattle.words.proofs.word_at.Given as goal

abbrev pub invariant-loop : goal.invariant-loop
invariant-loop l = Passing l.s l.left l.n l.counter
