-- `is_octets` meets its contract. Assumes nothing.
use Rattle.std.proofs.Common.{arith}
use Rattle.std.proofs.lemmas.Bool.Decides.{nat_tests}
use Rattle.words.specs.Text.{is_octets}
use Rattle.words.proofs.is_octets.Goals as goal
use Rattle.words.proofs.is_octets.Goals.{then-w-eq0, else-w-eq0}

pub returns-then-w-most : goal.returns-then-w-most
unfolding is_octets
returns-then-w-most c = elim c.if-w-eq0.branch [ then-w-eq0 w ↦ grind (arith, nat_tests) | else-w-eq0 w ↦ grind (arith, nat_tests) ]

pub returns-else-w-most : goal.returns-else-w-most
unfolding is_octets
returns-else-w-most c = elim c.if-w-eq0.branch [ then-w-eq0 w ↦ grind (arith, nat_tests) | else-w-eq0 w ↦ grind (arith, nat_tests) ]
