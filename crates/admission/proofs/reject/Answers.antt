-- `admission::reject` meets its contract. Assumes nothing.
use Rattle.admission.specs.AdmissionLaws.{reject_is}
use Rattle.admission.proofs.reject.Goals as goal

pub returns : goal.returns
returns c = search reject_is
