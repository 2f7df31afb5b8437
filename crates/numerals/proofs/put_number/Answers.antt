-- `put_number` meets its contract. Assumes nothing.
use Rattle.numerals.specs.NumeralLaws.{number_laid}
use Rattle.numerals.proofs.put_number.Goals as goal

pub returns : goal.returns
returns c = search number_laid
