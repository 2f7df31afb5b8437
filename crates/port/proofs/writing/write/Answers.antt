-- `port::writing::write` meets its contract. Assumes nothing.
use Rattle.port.proofs.WritingLaws.{write_stopped, write_short, write_whole}
use Rattle.port.proofs.writing.write.Goals as goal

pub returns-then-not-running : goal.returns-then-not-running
returns-then-not-running c = search write_stopped

pub returns-then-out-n : goal.returns-then-out-n
returns-then-out-n c = search write_short

pub returns : goal.returns
returns c = search write_whole
