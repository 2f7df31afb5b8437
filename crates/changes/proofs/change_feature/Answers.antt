-- `changes::change_feature` meets its contract. Assumes nothing.
use Rattle.changes.proofs.ChangeLaws.{change_invalid, change_valid}
use Rattle.changes.proofs.change_feature.Goals as goal

pub returns-then-not-valid_local : goal.returns-then-not-valid_local
returns-then-not-valid_local c = search change_invalid

pub returns : goal.returns
returns c = search change_valid
