-- `creation::blank` meets its contract. Assumes nothing.
use Rattle.creation.proofs.CreationLaws.{blank_is}
use Rattle.creation.proofs.blank.Goals as goal

pub returns : goal.returns
returns c = search blank_is
