-- `contents::counts` meets its contract: short sub-TLVs count, longer ones by their SubType. Assumes nothing.
use Rattle.contents.specs.ContentsLaws.{counts_short, counts_subtype}
use Rattle.contents.proofs.counts.Goals as goal

pub returns-then-n-lt4 : goal.returns-then-n-lt4
returns-then-n-lt4 c = search counts_short

pub returns : goal.returns
returns c = search counts_subtype
