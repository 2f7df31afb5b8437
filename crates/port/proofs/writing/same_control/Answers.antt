-- `port::writing::same_control` meets its contract: octets of numbers below 2 ^ 32 tell them apart. Assumes nothing.
use native.Mathlib.Omega.{arith}
use Rattle.port.proofs.WritingLaws.{controls_are}
use Rattle.port.proofs.writing.same_control.Goals as goal

pub returns : goal.returns
returns c = search (controls_are, arith)
