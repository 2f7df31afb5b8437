-- `change` meets its contract. Assumes nothing.
use Rattle.std.proofs.Common.{refl, ◌∙◌}
use Rattle.recorder.specs.Recorder.{changed}
use Rattle.inspection.proofs.change.Goals as goal

pub returns : goal.returns
unfolding changed
returns c = c.apply.ensures ∙ rw c.as_slice.ensures.held refl
