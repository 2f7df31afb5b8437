-- `compatible` meets its contract: no entry before `e` clashes with one of the others, nor `e` with one before `o`. Assumes nothing.
use Rattle.applications.specs.EntriesLaws.{Clear, Walked}
use Rattle.applications.proofs.compatible.Given as goal

abbrev pub invariant-loop-o : goal.invariant-loop-o
invariant-loop-o l = Clear l.e l.others l.clear l.o-index

abbrev pub invariant-walk : goal.invariant-walk
invariant-walk l = Walked l.p l.others l.clear l.e-index
