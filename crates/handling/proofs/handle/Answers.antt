-- `handling::handle` meets its contract. Assumes nothing.
use Rattle.handling.proofs.HandlingLaws.{handle_refused}
use Rattle.handling.proofs.handle.Goals as goal

pub returns-in-Err : goal.returns-in-Err
returns-in-Err c = search handle_refused
