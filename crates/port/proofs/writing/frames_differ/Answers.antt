-- `port::writing::frames_differ` meets its contract. Assumes nothing.
use Rattle.port.proofs.WritingLaws.{frames_control, frames_groups, frames_flow, frames_applications}
use Rattle.port.proofs.writing.frames_differ.Goals as goal

pub returns-then-not-same_control : goal.returns-then-not-same_control
returns-then-not-same_control c = search frames_control

pub returns-then-differs : goal.returns-then-differs
returns-then-differs c = search frames_groups

pub returns-then-differs-2 : goal.returns-then-differs-2
returns-then-differs-2 c = search frames_flow

pub returns : goal.returns
returns c = search frames_applications
