-- `put_settled` meets its contract. Assumes nothing.
use Rattle.tally.specs.TextLaws.{settled_laid, unsettled_laid}
use Rattle.tally.proofs.text.put_settled.Goals as goal

pub returns-then-settled : goal.returns-then-settled
returns-then-settled c = search settled_laid

pub returns : goal.returns
returns c = search unsettled_laid
