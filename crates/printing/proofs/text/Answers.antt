-- `text` meets its contract: what is copied stands at its place. Assumes nothing.
use Rattle.printing.proofs.PutLaws.{put_past, put_short, put_copied}
use Rattle.printing.proofs.text.Goals as goal

pub returns-then-room-at : goal.returns-then-room-at
returns-then-room-at c = search put_past

pub returns-then-room-at-2 : goal.returns-then-room-at-2
returns-then-room-at-2 c = search put_short

pub returns : goal.returns
returns c = search put_copied
