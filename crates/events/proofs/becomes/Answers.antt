-- `events::becomes` meets its contract. Assumes nothing.
use Rattle.events.specs.EventLaws.{becomes_same, becomes_new}
use Rattle.events.proofs.becomes.Goals as goal

pub returns-then-eq : goal.returns-then-eq
returns-then-eq c = becomes_same c.args.why c.args.now c.eq.ensures c.if-eq.true

pub returns : goal.returns
returns c = becomes_new c.args.why c.args.now c.eq.ensures c.if-eq.false c.noticed.ensures
