-- `machine::sub_tlv_length` meets its contract. Assumes nothing.
use Rattle.machine.specs.StateLaws.{sized_withheld, sized_advertised}
use Rattle.machine.proofs.sub_tlv_length.Goals as goal

pub returns-then-not-s : goal.returns-then-not-s
returns-then-not-s c = search sized_withheld

pub returns : goal.returns
returns c = search sized_advertised
