-- `read_form` meets its contract: the words before `place` are what is due, and the rest decides. Assumes nothing.
use Rattle.fields.specs.ReadingLaws.{Reading}
use Rattle.fields.proofs.read_form.Given as goal

abbrev pub invariant-loop-place : goal.invariant-loop-place
invariant-loop-place l = Reading l.f l.fn.s l.numbers l.place l.left
