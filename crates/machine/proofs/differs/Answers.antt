-- `machine::differs` meets its contract. Assumes nothing.
use Rattle.machine.specs.StateLaws.{changed_shown, changed_hidden, changed_oper, changed_max, changed_flags, changed_parameters}
use Rattle.machine.proofs.differs.Goals as goal

pub returns-then-s-t : goal.returns-then-s-t
returns-then-s-t c = search changed_shown

pub returns-then-not-s : goal.returns-then-not-s
returns-then-not-s c = search changed_hidden

pub returns-then-x-y : goal.returns-then-x-y
returns-then-x-y c = search changed_oper

pub returns-then-m-n : goal.returns-then-m-n
returns-then-m-n c = search changed_max

pub returns-then-flags_of : goal.returns-then-flags_of
returns-then-flags_of c = search changed_flags

pub returns : goal.returns
returns c = search changed_parameters
