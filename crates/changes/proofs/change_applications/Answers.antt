-- `changes::change_applications` meets its contract. Assumes nothing.
use Rattle.changes.proofs.ChangeLaws.{change_no_applications, change_applications}
use Rattle.changes.proofs.change_applications.Goals as goal

pub returns-then-not-has_applications : goal.returns-then-not-has_applications
returns-then-not-has_applications c = search change_no_applications

pub returns : goal.returns
returns c = search change_applications
