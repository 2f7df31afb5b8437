-- `rounds::round` meets its contract. Assumes nothing.
use Rattle.rounds.specs.RoundLaws.{rounded}
use Rattle.rounds.proofs.round.Goals as goal

pub returns : goal.returns
returns c = rounded _ _ _ _ c.write-wrote_l.ensures
    c.write-wrote_r.ensures
    c.deliver-at_left.ensures
    c.deliver-at_right.ensures
