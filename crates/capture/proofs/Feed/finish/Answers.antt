-- `finish` meets its contract. Assumes nothing.
use Rattle.capture.specs.FeedingLaws.{ended_none, ended_some}
use Rattle.capture.proofs.Feed.finish.Goals as goal

pub returns-then-self-ne0 : goal.returns-then-self-ne0
returns-then-self-ne0 g c = ended_some g.T.Lines.with_line c.args.self c.if-self-ne0.true c.feed.ensures

pub returns-else-self-ne0 : goal.returns-else-self-ne0
returns-else-self-ne0 g c = ended_none g.T.Lines.with_line c.args.self c.if-self-ne0.false
