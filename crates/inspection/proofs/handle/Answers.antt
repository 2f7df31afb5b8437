-- `handle` meets its contract. Assumes nothing.
use Rattle.std.proofs.Common.{ap, ◌∙◌}
use Rattle.words.specs.TextLaws.{slice_is}
use Rattle.handling.specs.Handling.{handled}
use Rattle.recorder.specs.Recorder.{happens}
use Rattle.capture.specs.Capture.{frame_of}
use Rattle.inspection.proofs.handle.Goals as goal

pub returns : goal.returns
unfolding happens
returns c = c.handle.ensures ∙ ap (handled c.args.p) (slice_is (frame_of c.args.line.now) c.frame_of.ensures c.as_slice.ensures.held)
