-- `recorder::create` meets its contract. Assumes nothing.
use Rattle.recorder.proofs.RecorderLaws.{created_nowhere, created_at}
use Rattle.recorder.proofs.create.Goals as goal

pub returns-then-not-is_port : goal.returns-then-not-is_port
returns-then-not-is_port c = search created_nowhere

pub returns : goal.returns
returns c = search created_at
