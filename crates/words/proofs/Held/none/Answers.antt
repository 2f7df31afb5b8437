-- `none` meets its contract. Assumes nothing.
use Rattle.std.proofs.Common.{◌≡◌, ◌-◌, arith}
use Rattle.words.specs.Text.{held}
use Rattle.words.proofs.Held.none.Goals as goal

pub returns : goal.returns
unfolding held
returns g c = let e : g.row.N - 0 ≡ g.row.N = omega arith in rw e
