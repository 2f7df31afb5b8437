-- `reading::read` keeps its promise: a law for each of refusals 3 and 4, and the walk begun and gone on with for the rest. Assumes nothing.
use Rattle.tlv.specs.Laws.{dcbx_some, dcbx_long}
use Rattle.reading.proofs.ResumingLaws.{read_other, read_length, read_ahead, read_finished}
use Rattle.reading.proofs.read.Goals as goal

pub returns-then-not-is_dcbx : goal.returns-then-not-is_dcbx
returns-then-not-is_dcbx c = search read_other

pub bounds-s-0 : goal.bounds-s-0
bounds-s-0 c = search dcbx_some

pub bounds-s-1 : goal.bounds-s-1
bounds-s-1 c = search dcbx_long

pub returns-then-length_of-s : goal.returns-then-length_of-s
returns-then-length_of-s c = search read_length

pub walk_on-requires : goal.walk_on-requires
walk_on-requires c = search read_ahead

pub returns : goal.returns
returns c = search read_finished
