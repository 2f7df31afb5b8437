-- `position_of` meets its contract: what is left of the walk gives the same as the whole. Assumes nothing.
use Rattle.comparison.proofs.PlaceLaws.{position_head, seeking_start, seeking_none, seeking_past, seeking_inside, seeking_on, seeking_end}
use Rattle.tlv.specs.Laws.{head_fits}
use Rattle.comparison.proofs.places.position_of.Goals as goal

pub returns-then-place-lt-FRAME_HEAD : goal.returns-then-place-lt-FRAME_HEAD
returns-then-place-lt-FRAME_HEAD c = search position_head

pub loop-init : goal.loop-init
loop-init c = search seeking_start

pub returns-in-End : goal.returns-in-End
returns-in-End c = search seeking_none

pub returns-in-Past : goal.returns-in-Past
returns-in-Past c = search seeking_past

pub overflow_add-start : goal.overflow_add-start
overflow_add-start c = search head_fits

pub returns-then-place-start : goal.returns-then-place-start
returns-then-place-start c = search seeking_inside

pub loop-preserved : goal.loop-preserved
loop-preserved c = search seeking_on

pub returns : goal.returns
returns c = search seeking_end
