-- `walk::walk_on` meets its contract. The loop's invariant: what is left of the walk gives what the whole gives, and the control is in what was kept or in these octets (`GoingOn`). Assumes nothing.
use Rattle.tlv.specs.Laws.{head_onward}
use Rattle.walk.proofs.HaltingLaws.{finish_start, finish_end, finish_past, finish_room, finish_place, finish_on}
use Rattle.walk.proofs.walk_on.Goals as goal

pub loop-place-init : goal.loop-place-init
loop-place-init c = search finish_start

pub returns-in-End : goal.returns-in-End
returns-in-End c = search finish_end

pub returns-in-Past : goal.returns-in-Past
returns-in-Past c = search (finish_past, c.loop-place.invariant)

pub note-contents-requires : goal.note-contents-requires
note-contents-requires c = search (finish_room, c.loop-place.invariant)

pub overflow_add-at : goal.overflow_add-at
overflow_add-at c = record { fits = search (finish_place, c.loop-place.invariant) }

pub loop-place-smaller : goal.loop-place-smaller
loop-place-smaller c = search head_onward

pub loop-place-preserved : goal.loop-place-preserved
loop-place-preserved c = search finish_on
