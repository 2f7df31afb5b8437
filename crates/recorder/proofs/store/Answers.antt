-- `recorder::store` meets its contract. Assumes nothing.
use Rattle.recorder.proofs.RecorderLaws.{stored_nowhere, stored_is}
use Rattle.recorder.proofs.store.Goals as goal

pub returns-then-not-is_port : goal.returns-then-not-is_port
returns-then-not-is_port c = search stored_nowhere

pub returns : goal.returns
returns c = search stored_is
