-- `feature::judge` meets its contract. Assumes nothing.
use Rattle.feature.specs.OutcomeLaws.{judged_own_off, judged_peer_off, judged_differ, judged_alike, judged_clash}
use Rattle.feature.proofs.judge.Goals as goal

pub returns-then-not-s : goal.returns-then-not-s
returns-then-not-s g c x h = search judged_own_off

pub returns-then-not-p : goal.returns-then-not-p
returns-then-not-p g c x h = search judged_peer_off

pub returns-then-s-p : goal.returns-then-s-p
returns-then-s-p g c x h = search judged_differ

pub returns-then-suits : goal.returns-then-suits
returns-then-suits g c x h = search (judged_alike, h)

pub returns : goal.returns
returns g c x h = search (judged_clash, h)
