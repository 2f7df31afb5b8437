-- `turn::twice` meets its contract. Assumes nothing.
use Rattle.turn.specs.TurnLaws.{twice_withheld, twice_advertised}
use Rattle.turn.proofs.twice.Goals as goal

pub returns-then-not-s : goal.returns-then-not-s
returns-then-not-s c = search twice_withheld

pub returns : goal.returns
returns c = search twice_advertised
