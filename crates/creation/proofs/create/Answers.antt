-- `creation::create` meets its contract. Assumes nothing.
use Rattle.creation.proofs.CreationLaws.{created_101, created_10}
use Rattle.creation.proofs.create.Goals as goal

pub returns-then-has_applications : goal.returns-then-has_applications
returns-then-has_applications c = search created_101

pub returns : goal.returns
returns c = search created_10
