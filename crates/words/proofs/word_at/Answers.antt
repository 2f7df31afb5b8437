-- `word_at` meets its contract. Assumes nothing.
use Rattle.words.specs.WordsLaws.{passing_more, passing_end}
use Rattle.words.proofs.word_at.Goals as goal

pub loop-preserved : goal.loop-preserved
loop-preserved c = search passing_more

pub returns : goal.returns
returns c = search passing_end
