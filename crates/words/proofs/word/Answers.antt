-- `word` meets its contract. Assumes nothing.
use Rattle.words.specs.TextLaws.{word_found}
use Rattle.words.proofs.word.Goals as goal

pub returns : goal.returns
returns c = search word_found
