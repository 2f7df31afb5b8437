-- `machine::mark` meets its contract. Assumes nothing.
use Rattle.machine.specs.StateLaws.{marked_same, marked_changed}
use Rattle.machine.proofs.mark.Goals as goal

pub returns-then-not-differs : goal.returns-then-not-differs
returns-then-not-differs c = search marked_same

pub returns : goal.returns
returns c = search marked_changed
