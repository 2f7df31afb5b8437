-- `digit` meets its contract. Assumes nothing.
use Rattle.printing.proofs.PutLaws.{glyph_digit, glyph_letter}
use Rattle.printing.proofs.digit.Goals as goal

pub returns-then-d-lt10 : goal.returns-then-d-lt10
returns-then-d-lt10 c = search glyph_digit

pub returns : goal.returns
returns c = search glyph_letter
