-- `octets::same_octets` meets its contract: runs of one length are the same where each pair of octets is. Assumes nothing.
use Rattle.octets.specs.Laws.{Alike}
use Rattle.octets.proofs.same_octets.Given as goal

abbrev pub invariant-loop-i : goal.invariant-loop-i
invariant-loop-i l = Alike l.a l.b l.alike l.i
