-- `put_accepted` meets its contract. Assumes nothing.
use Rattle.ruling.specs.RulingLaws.{accepted_laid}
use Rattle.ruling.proofs.put_accepted.Goals as goal

pub returns : goal.returns
returns c = search accepted_laid
