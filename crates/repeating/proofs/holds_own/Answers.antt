-- `repeating::holds_own` meets its contract: our own of the entries before `e` are the first `size` octets of what is held. Assumes nothing.
use Rattle.repeating.proofs.HoldingLaws.{walked_start, walked_ragged, walked_foreign, walked_short, walked_other, walked_more, walked_end}
use Rattle.repeating.proofs.holds_own.Goals as goal

pub returns-then-p-ne0 : goal.returns-then-p-ne0
returns-then-p-ne0 c = search walked_ragged

pub loop-e-init : goal.loop-e-init
loop-e-init c = search walked_start

pub loop-e-preserved-then-not-is_ours : goal.loop-e-preserved-then-not-is_ours
loop-e-preserved-then-not-is_ours c = search walked_foreign

pub returns-then-held-size-lt6 : goal.returns-then-held-size-lt6
returns-then-held-size-lt6 c = search walked_short

pub returns-then-not-same_octets : goal.returns-then-not-same_octets
returns-then-not-same_octets c = search walked_other

pub loop-e-preserved : goal.loop-e-preserved
loop-e-preserved c = search walked_more

pub returns : goal.returns
returns c = search walked_end
