-- `octets_of` meets its contract. Assumes nothing.
use Rattle.std.proofs.Common.{arith}
use Rattle.words.specs.TextLaws.{listing_start, listing_more, joining, octets_end}
use Rattle.words.proofs.octets_of.Goals as goal

pub loop-i-init : goal.loop-i-init
loop-i-init c = listing_start _ _ (omega (arith, c.octets_count-n.ensures))

pub loop-i-preserved : goal.loop-i-preserved
loop-i-preserved c = search (listing_more, joining)

pub returns : goal.returns
returns c = search octets_end
