-- `turn::peer_parameters_after` meets its contract. Assumes nothing.
use Rattle.turn.specs.TurnLaws.{held_kept, held_brought, held_none}
use Rattle.turn.proofs.peer_parameters_after.Goals as goal

pub returns-then-keeps : goal.returns-then-keeps
returns-then-keeps c = search held_kept

pub returns-then-held : goal.returns-then-held
returns-then-held c = search held_brought

pub returns : goal.returns
returns c = search held_none
