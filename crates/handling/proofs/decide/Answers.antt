-- `handling::decide` meets its contract. Assumes nothing.
use Rattle.handling.proofs.HandlingLaws.{decide_is}
use Rattle.handling.proofs.decide.Goals as goal

pub returns : goal.returns
returns c = decide_is _ _ _ c.requires.1 c.hear-h.ensures c.turn_of-g.ensures c.turn_of-w.ensures
    c.turn_of-a.ensures c.waits.ensures c.waits-2.ensures c.waits-3.ensures
    c.raises_seq-up.ensures c.count-control.ensures c.same_control-same.ensures c.newly_marked-x.ensures c.notice.ensures c.notice-2.ensures c.notice-3.ensures
