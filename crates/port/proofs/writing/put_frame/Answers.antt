-- `port::writing::put_frame` meets its contract. Assumes nothing.
use Rattle.port.proofs.WritingLaws.{frame_put}
use Rattle.port.proofs.writing.put_frame.Goals as goal

pub returns : goal.returns
returns c = search frame_put
