-- `recorder::blank` meets its contract. Assumes nothing.
use Rattle.recorder.proofs.RecorderLaws.{blank_is}
use Rattle.recorder.proofs.blank.Goals as goal

pub returns : goal.returns
returns c = search blank_is
