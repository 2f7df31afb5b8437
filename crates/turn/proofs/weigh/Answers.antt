-- `turn::weigh` meets its contract. Assumes nothing.
use Rattle.turn.specs.TurnLaws.{weighed_oper, weighed_error, weighed_same}
use Rattle.turn.proofs.weigh.Goals as goal

pub returns-then-o-d : goal.returns-then-o-d
returns-then-o-d c = search weighed_oper

pub returns-then-o-d-2 : goal.returns-then-o-d-2
returns-then-o-d-2 c = search weighed_error

pub returns : goal.returns
returns c = search weighed_same
