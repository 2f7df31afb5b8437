-- `line_length` meets its contract: no line feed stands among the first i octets. Assumes nothing.
use Rattle.capture.specs.LineLaws.{along_stop, along_on, along_end}
use Rattle.capture.proofs.line_length.Goals as goal

pub returns-then-s-i-eq-LINE_FEED : goal.returns-then-s-i-eq-LINE_FEED
returns-then-s-i-eq-LINE_FEED c = search along_stop

pub loop-i-preserved : goal.loop-i-preserved
loop-i-preserved c = search along_on

pub returns : goal.returns
returns c = search along_end
