-- `spell` meets its contract. Assumes nothing.
use Rattle.numerals.specs.NumeralLaws.{spelled}
use Rattle.numerals.proofs.spell.Goals as goal

pub returns : goal.returns
returns c = search spelled
