-- `begin` meets its contract. Assumes nothing.
use Rattle.tally.specs.StepLaws.{begun_is}
use Rattle.tally.proofs.begin.Goals as goal

pub returns : goal.returns
returns c = search begun_is
