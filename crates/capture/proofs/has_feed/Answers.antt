-- `has_feed` meets its contract: the first i octets are looked at, and the rest decides with them. Assumes nothing.
use Rattle.capture.specs.LineLaws.{seeking_on, seeking_end}
use Rattle.capture.proofs.has_feed.Goals as goal

pub loop-i-preserved : goal.loop-i-preserved
loop-i-preserved c = search seeking_on

pub returns : goal.returns
returns c = search seeking_end
