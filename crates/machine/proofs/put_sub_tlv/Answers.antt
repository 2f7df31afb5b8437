-- `machine::put_sub_tlv` meets its contract. Assumes nothing.
use Rattle.machine.specs.StateLaws.{nothing_put, sub_tlv_room, sub_tlv_put}
use Rattle.machine.proofs.put_sub_tlv.Goals as goal

pub returns-then-not-s : goal.returns-then-not-s
returns-then-not-s c = search nothing_put

pub put_parts-requires : goal.put_parts-requires
put_parts-requires c = search (sub_tlv_room, c.requires)

pub returns : goal.returns
returns c = search sub_tlv_put
