-- `put_row` meets its contract: the numbers from place i on are still to be put. Assumes nothing.
use Rattle.std.proofs.Common.{◌≡◌, length, arith, rules}
use Rattle.tally.specs.TextLaws.{rowing_on, rowing_end}
use Rattle.tally.proofs.text.put_row.Goals as goal

pub loop-i-preserved : goal.loop-i-preserved
loop-i-preserved g c =
    let n : length c.args.numbers.now ≡ g.row.N = search rules in
    rowing_on c.loop-i.invariant (omega arith) (rw n c.behind-end.ensures) c.put_number-place.ensures

pub returns : goal.returns
returns g c =
    let n : length c.args.numbers.now ≡ g.row.N = search rules in
    rw (← n) (rowing_end c.loop-i.invariant (omega arith))
