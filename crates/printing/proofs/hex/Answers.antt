-- `hex` meets its contract: the first i octets stand as digits at their place. Assumes nothing.
use Rattle.printing.proofs.PutLaws.{spelling_past, spelling_short, spelling_start, spelling_more, spelling_end}
use Rattle.printing.proofs.hex.Goals as goal

pub returns-then-room-at : goal.returns-then-room-at
returns-then-room-at c = search spelling_past

pub returns-then-room-at-2 : goal.returns-then-room-at-2
returns-then-room-at-2 c = search spelling_short

pub loop-i-init : goal.loop-i-init
loop-i-init c = search spelling_start

pub loop-i-preserved : goal.loop-i-preserved
loop-i-preserved c = search spelling_more

pub returns : goal.returns
returns c = search spelling_end
