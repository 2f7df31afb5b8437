-- `contents::keep` meets its contract: a control is kept, behind anything else the one before. Assumes nothing.
use Rattle.contents.specs.ContentsLaws.{kept_control, kept_before}
use Rattle.contents.proofs.keep.Goals as goal

pub returns-then-kind-eq-CONTROL : goal.returns-then-kind-eq-CONTROL
returns-then-kind-eq-CONTROL c = search kept_control

pub returns : goal.returns
returns c = search kept_before
