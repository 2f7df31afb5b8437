-- `behind` meets its contract. Assumes nothing.
use Rattle.words.specs.TextLaws.{behind_found}
use Rattle.words.proofs.behind.Goals as goal

pub returns : goal.returns
returns c = search behind_found
