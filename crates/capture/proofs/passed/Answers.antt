-- `passed` meets its contract: no line feed stands among the first i octets. Assumes nothing.
use Rattle.capture.specs.LineLaws.{along_16}
use Rattle.capture.proofs.passed.Goals as goal

pub loop-i-preserved : goal.loop-i-preserved
loop-i-preserved c = search along_16
