-- `recorder::write` meets its contract. Assumes nothing.
use Rattle.recorder.proofs.RecorderLaws.{wrote_nowhere, wrote_at}
use Rattle.recorder.proofs.write.Goals as goal

pub returns-then-not-is_port : goal.returns-then-not-is_port
returns-then-not-is_port c = search wrote_nowhere

pub returns : goal.returns
returns c = search wrote_at
