-- `events::settled` meets its contract. Assumes nothing.
use Rattle.events.specs.EventLaws.{settled_is}
use Rattle.events.proofs.settled.Goals as goal

pub returns : goal.returns
returns c = search settled_is
