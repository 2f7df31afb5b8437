-- `changes::set_feature` meets its contract. Assumes nothing.
use Rattle.changes.proofs.ChangeLaws.{set-running, set-stopped}
use Rattle.changes.proofs.set_feature.Goals as goal

pub returns-then-running : goal.returns-then-running
returns-then-running c = search set-running

pub returns : goal.returns
returns c = search set-stopped
