-- `valid` meets its contract: of the entries before e our own are gathered, and each of their names is new. Assumes nothing.
use Rattle.std.proofs.Common.{arith}
use Rattle.applications.specs.ApplicationsLaws.{entries_ragged, sought_start, sought_foreign, sought_many, sought_again, sought_more, sought_end}
use Rattle.applications.proofs.valid.Goals as goal
use Rattle.applications.proofs.valid.Goals.{then-count-ge-MOST-via-then-count-ge-MOST, then-count-ge-MOST-via-else-count-ge-MOST+then-not-new_name}

pub returns-then-p-ne0 : goal.returns-then-p-ne0
returns-then-p-ne0 c = search entries_ragged

pub loop-e-init : goal.loop-e-init
loop-e-init c = search sought_start

pub loop-e-preserved-then-not-is_ours : goal.loop-e-preserved-then-not-is_ours
loop-e-preserved-then-not-is_ours c = search sought_foreign

pub returns-then-count-ge-MOST : goal.returns-then-count-ge-MOST
returns-then-count-ge-MOST c = elim c.then-count-ge-MOST.branch [
  | then-count-ge-MOST-via-then-count-ge-MOST w ↦ search (sought_many, arith)
  | then-count-ge-MOST-via-else-count-ge-MOST+then-not-new_name w ↦ search sought_again
]

pub loop-e-preserved : goal.loop-e-preserved
loop-e-preserved c = search sought_more

pub returns : goal.returns
returns c = search sought_end
