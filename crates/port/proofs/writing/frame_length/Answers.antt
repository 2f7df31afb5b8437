-- `port::writing::frame_length` meets its contract. Assumes nothing.
use Rattle.port.proofs.WritingLaws.{length-of}
use Rattle.port.proofs.writing.frame_length.Goals as goal

pub returns : goal.returns
returns c = search length-of
