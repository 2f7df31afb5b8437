-- `read_number` meets its contract. Assumes nothing.
use Rattle.std.proofs.Common.{arith}
use Rattle.std.proofs.lemmas.Bool.Decides.{nat_tests}
use Rattle.words.specs.TextLaws.{number_none, number_long, counting_not, counting_above, counting_on, counting_end, ascii_digit}
use Rattle.words.proofs.read_number.Goals as goal
use Rattle.words.proofs.read_number.Goals.{then-is_empty-via-then-is_empty, then-is_empty-via-else-is_empty+then-w-gt-DIGITS}

pub returns-then-is_empty : goal.returns-then-is_empty
returns-then-is_empty c = elim c.then-is_empty.branch [
  | then-is_empty-via-then-is_empty w ↦ number_none _ _ (grind (arith, nat_tests))
  | then-is_empty-via-else-is_empty+then-w-gt-DIGITS w ↦ search number_long
]

pub returns-then-not-is_ascii_digit : goal.returns-then-not-is_ascii_digit
returns-then-not-is_ascii_digit c = search (counting_not, ascii_digit)

pub returns-then-from-n : goal.returns-then-from-n
returns-then-from-n c = counting_above c.loop-c.invariant c.loop-c-test.true c.from.ensures (omega (arith, c.from-in-loop-c.ensures, c.if-from-n.true))

pub loop-c-preserved : goal.loop-c-preserved
loop-c-preserved c = counting_on c.loop-c.invariant c.loop-c-test.true (ascii_digit _ c.is_ascii_digit.ensures.value) c.if-not-is_ascii_digit.false c.from.ensures (omega (arith, c.from-in-loop-c.ensures, c.if-from-n.false))

pub returns : goal.returns
returns c = search counting_end
