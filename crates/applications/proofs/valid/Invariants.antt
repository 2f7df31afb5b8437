-- `valid` meets its contract: of the entries before e our own are gathered, and each of their names is new. Assumes nothing.
use Rattle.applications.specs.ApplicationsLaws.{Sought}
use Rattle.applications.proofs.valid.Given as goal

abbrev pub invariant-loop-e : goal.invariant-loop-e
invariant-loop-e l = Sought l.p l.own l.count l.e-index
