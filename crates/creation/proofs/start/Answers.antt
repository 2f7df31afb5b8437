-- `creation::start` meets its contract. Assumes nothing.
use Rattle.creation.proofs.CreationLaws.{start_is}
use Rattle.creation.proofs.start.Goals as goal

pub returns : goal.returns
returns c = search start_is
