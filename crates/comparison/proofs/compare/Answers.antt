-- `compare` meets its contract. Assumes nothing.
use Rattle.std.proofs.Common.{◌≡◌, refl, ◌∙◌}
use Rattle.words.specs.TextLaws.{pending_held}
use Rattle.capture.specs.Capture.{frame_of}
use Rattle.comparison.proofs.ComparisonLaws.{compare_stopped, compare_due, compare_long, compare_short}
use Rattle.comparison.proofs.compare.Goals as goal
use Rattle.comparison.proofs.compare.Goals.{else-place-frame-via-then-place-frame+else-place-k, else-place-frame-via-else-place-frame}

pub returns-then-not-running : goal.returns-then-not-running
returns-then-not-running c = search compare_stopped

pub returns-then-place-k : goal.returns-then-place-k
returns-then-place-k c =
    let e : c.as_slice-frame.result.now ≡ frame_of c.args.line.now = c.as_slice-frame.ensures.held ∙ rw c.frame_of-held.ensures (pending_held 513 (frame_of c.args.line.now)) in
    compare_due _ c.running.ensures (rw c.if-not-running.false refl) _ c.frame_length-k.ensures e c.write.ensures c.first.ensures c.common-place.ensures c.if-place-frame.true c.if-place-k.true

pub returns-else-place-frame : goal.returns-else-place-frame
returns-else-place-frame c =
    let e : c.as_slice-frame.result.now ≡ frame_of c.args.line.now = c.as_slice-frame.ensures.held ∙ rw c.frame_of-held.ensures (pending_held 513 (frame_of c.args.line.now)) in
    elim c.else-place-frame.branch [
      | else-place-frame-via-then-place-frame+else-place-k w ↦
          compare_short _ c.running.ensures (rw c.if-not-running.false refl) _ c.frame_length-k.ensures e c.write.ensures c.first.ensures c.common-place.ensures w.if-place-frame.true w.if-place-k.false
      | else-place-frame-via-else-place-frame w ↦
          compare_long _ c.running.ensures (rw c.if-not-running.false refl) _ c.frame_length-k.ensures e c.write.ensures c.first.ensures c.common-place.ensures w.if-place-frame.false
    ]
