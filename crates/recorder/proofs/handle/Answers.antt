-- `recorder::handle` meets its contract. Assumes nothing.
use Rattle.recorder.proofs.RecorderLaws.{changed_nowhere, changed_refused, changed_handled}
use Rattle.recorder.proofs.handle.Goals as goal

pub returns-then-not-is_port : goal.returns-then-not-is_port
returns-then-not-is_port c = search changed_nowhere

pub returns-in-Err : goal.returns-in-Err
returns-in-Err c = search changed_refused

pub returns-in-Ok : goal.returns-in-Ok
returns-in-Ok c = search changed_handled
