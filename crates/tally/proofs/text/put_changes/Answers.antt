-- `put_changes` meets its contract. Assumes nothing.
use Rattle.tally.specs.TextLaws.{changes_laid}
use Rattle.tally.proofs.text.put_changes.Goals as goal

pub returns : goal.returns
returns c = search changes_laid
