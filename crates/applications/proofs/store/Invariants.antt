-- `store` meets its contract: of the entries before `entry` our own are stored, and zeros stand behind them. Assumes nothing.
use Rattle.applications.specs.KeepingLaws.{Keeping}
use Rattle.applications.proofs.store.Given as goal

abbrev pub invariant-loop-entry : goal.invariant-loop-entry
invariant-loop-entry l = Keeping l.p l.octets l.size l.entry-index
