-- `changes::set_to` meets its contract. Assumes nothing.
use Rattle.changes.proofs.ChangeLaws.{set_same, set_other}
use Rattle.changes.proofs.set_to.Goals as goal

pub returns-then-same_setting : goal.returns-then-same_setting
returns-then-same_setting c = search set_same

pub returns : goal.returns
returns c = search set_other
