-- `feed` meets its contract. Assumes nothing.
use Rattle.std.proofs.Common.{arith}
use Rattle.capture.specs.Feeding.{feed_of}
use Rattle.capture.specs.FeedingLaws.{feed_none, feed_some}
use Rattle.capture.proofs.Feed.feed.Goals as goal

pub returns-then-s-n : goal.returns-then-s-n
returns-then-s-n g c = feed_none g.T.Lines.with_line g.met.T.Lines.long _ _ _ c.line_length-n.ensures c.first.ensures c.hold-front.ensures (omega (arith, c.if-s-n.true)) feed_of

pub returns : goal.returns
returns g c =
    feed_some g.T.Lines.with_line g.met.T.Lines.long _ _ _ c.line_length-n.ensures c.first.ensures c.hold-front.ensures (omega (arith, c.if-s-n.false)) c.as_slice.ensures.held c.pass_lines-at.ensures c.none.ensures c.from.ensures c.hold-self.ensures feed_of
