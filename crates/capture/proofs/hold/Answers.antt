-- `hold` meets its contract. Assumes nothing.
use Rattle.capture.specs.HoldLaws.{held_room, hold_is}
use Rattle.capture.proofs.hold.Goals as goal

pub put-requires-2 : goal.put-requires-2
put-requires-2 c = held_room _ _ c.args.s.now c.as_slice-front.ensures.within c.first-more.ensures c.put.ensures

pub returns : goal.returns
returns c = hold_is _ _ c.args.s.now c.as_slice-front.ensures.within c.first-more.ensures c.put.ensures c.put-2.ensures c.args.h.now c.as_slice-front.ensures.held
