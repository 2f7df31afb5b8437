-- `handling::accept_at` meets its contract. Assumes nothing.
use Rattle.handling.proofs.HandlingLaws.{accept_released, accept_kept}
use Rattle.handling.proofs.accept_at.Goals as goal

pub returns-then-change : goal.returns-then-change
returns-then-change c = search accept_released

pub returns : goal.returns
returns c = search accept_kept
