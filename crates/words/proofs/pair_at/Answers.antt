-- `pair_at` meets its contract. Assumes nothing.
use Rattle.words.specs.TextLaws.{pair_read}
use Rattle.words.proofs.pair_at.Goals as goal

pub returns : goal.returns
returns c = search pair_read
