-- `parameters` meets its contract. Assumes nothing.
use Rattle.std.proofs.Common.{arith}
use Rattle.words.specs.TextLaws.{listing_start, listing_more, listing_end}
use Rattle.fields.proofs.parameters.Goals as goal

pub loop-i-init : goal.loop-i-init
loop-i-init c = listing_start _ _ (omega arith)

pub loop-i-preserved : goal.loop-i-preserved
loop-i-preserved c = search listing_more

pub returns : goal.returns
returns c = search listing_end
