-- `octets::numbers::put4` meets its contract: four octets, high octet first, are copied. Assumes nothing.
use Rattle.std.proofs.Common.{arith, ◌∙◌}
use Rattle.octets.specs.Octets.{octets4}
use Rattle.octets.specs.Laws.{put_in, octets4_is}
use Rattle.octets.proofs.numbers.put4.Goals as goal

pub returns : goal.returns
returns c =
    put_in c.args.out.now (octets4 c.args.n) _ c.args.at _ c.requires (omega arith) (c.copy_from_slice.ensures.after ∙ c.to_be_bytes.ensures ∙ octets4_is c.args.n)
