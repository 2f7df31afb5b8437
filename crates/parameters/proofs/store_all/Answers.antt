-- `store_all` meets its contract. Assumes nothing.
use Rattle.std.proofs.Common.{arith}
use Rattle.parameters.specs.StoringLaws.{first_room, stored_all}
use Rattle.parameters.proofs.store_all.Goals as goal

pub put-requires : goal.put-requires
put-requires c = search first_room

pub returns : goal.returns
returns c = search stored_all

pub overflow_cast-result : goal.overflow_cast-result
overflow_cast-result c = let r = first_room c.args.p.now c.first-s.ensures in omega arith
