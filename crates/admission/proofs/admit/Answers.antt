-- `admission::admit` meets its contract. Assumes nothing.
use Rattle.admission.specs.AdmissionLaws.{admit_stopped, admit_several, admit_read}
use Rattle.admission.proofs.admit.Goals as goal

pub returns-then-not-running : goal.returns-then-not-running
returns-then-not-running c = search admit_stopped

pub returns-then-p : goal.returns-then-p
returns-then-p c = search admit_several

pub returns : goal.returns
returns c = search admit_read
