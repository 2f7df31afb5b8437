-- `turn::receive` meets its contract. Assumes nothing.
use Rattle.turn.specs.TurnLaws.{receive_withheld, receive_advertised}
use Rattle.turn.proofs.receive.Goals as goal

pub returns-then-not-s : goal.returns-then-not-s
returns-then-not-s c = search receive_withheld

pub returns : goal.returns
returns c = search receive_advertised
