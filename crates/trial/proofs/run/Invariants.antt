-- `run` ends: each step takes some of the script. Assumes nothing.
use Rattle.std.proofs.Common.{length}
use Rattle.trial.proofs.run.Given as goal

abbrev pub decreases-loop-w : goal.decreases-loop-w
decreases-loop-w l = length l.rest
