-- `octets_of` meets its contract. Assumes nothing.
use Rattle.words.specs.Text.{pair_at}
use Rattle.words.specs.TextLaws.{Listing}
use Rattle.words.proofs.octets_of.Given as goal

abbrev pub invariant-loop-i : goal.invariant-loop-i
invariant-loop-i l = Listing (pair_at l.w) l.n l.octets l.i
