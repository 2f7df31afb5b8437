-- `hex_digits` meets its contract. Assumes nothing.
use Rattle.words.specs.TextLaws.{hexing_on, hexing_end}
use Rattle.words.proofs.hex_digits.Goals as goal

pub loop-c-preserved : goal.loop-c-preserved
loop-c-preserved c = search hexing_on

pub returns : goal.returns
returns c = search hexing_end
