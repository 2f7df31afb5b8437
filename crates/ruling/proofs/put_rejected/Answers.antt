-- `put_rejected` meets its contract. Assumes nothing.
use Rattle.ruling.specs.RulingLaws.{rejected_laid}
use Rattle.ruling.proofs.put_rejected.Goals as goal

pub returns : goal.returns
returns c = search rejected_laid
