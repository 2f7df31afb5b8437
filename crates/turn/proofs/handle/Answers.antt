-- `turn::handle` meets its contract. Assumes nothing.
use Rattle.turn.specs.TurnLaws.{turn_other}
use Rattle.turn.proofs.handle.Goals as goal

pub returns-in-OtherVersion : goal.returns-in-OtherVersion
returns-in-OtherVersion c = search turn_other
