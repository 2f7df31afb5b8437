-- `parameters` meets its contract: the first i octets stand in the array. Assumes nothing.
use Rattle.words.specs.TextLaws.{Listing}
use Rattle.fields.specs.Fields.{parameter_at}
use Rattle.fields.proofs.parameters.Given as goal

abbrev pub invariant-loop-i : goal.invariant-loop-i
invariant-loop-i l = Listing (parameter_at l.f l.v) l.n l.octets l.i
