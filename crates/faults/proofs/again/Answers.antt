-- `again` meets its contract. Assumes nothing.
use Rattle.faults.specs.FaultsLaws.{seeking_start, seeking_found, seeking_more, seeking_end}
use Rattle.faults.proofs.again.Goals as goal

pub loop-i-init : goal.loop-i-init
loop-i-init c = search seeking_start

pub returns-in-Some : goal.returns-in-Some
returns-in-Some c = search seeking_found

pub loop-i-preserved : goal.loop-i-preserved
loop-i-preserved c = search seeking_more

pub returns : goal.returns
returns c = search seeking_end
