-- `octets::numbers::put` meets its contract: what is copied is a run of stores. Assumes nothing.
use Rattle.std.proofs.Common.{arith}
use Rattle.octets.specs.Laws.{put_in}
use Rattle.octets.proofs.numbers.put.Goals as goal

pub returns : goal.returns
returns c = put_in c.args.out.now c.args.s.now _ c.args.at _ c.requires (omega arith) c.copy_from_slice.ensures.after
