-- `machine::fresh_at` meets its contract. Assumes nothing.
use Rattle.machine.specs.StateLaws.{fresh_advertised, fresh_withheld}
use Rattle.machine.proofs.fresh_at.Goals as goal

pub returns-then-s : goal.returns-then-s
returns-then-s c = search fresh_advertised

pub returns : goal.returns
returns c = search fresh_withheld
