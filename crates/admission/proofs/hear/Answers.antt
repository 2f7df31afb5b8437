-- `admission::hear` meets its contract. Assumes nothing.
use Rattle.admission.specs.AdmissionLaws.{hear_twice, hear_other, hear_exchange}
use Rattle.admission.proofs.hear.Goals as goal

pub returns-then-found-gt1 : goal.returns-then-found-gt1
returns-then-found-gt1 c = search hear_twice

pub returns-then-oper-low : goal.returns-then-oper-low
returns-then-oper-low c = search hear_other

pub returns : goal.returns
returns c = search hear_exchange
