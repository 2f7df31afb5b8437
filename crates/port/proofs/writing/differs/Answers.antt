-- `port::writing::differs` meets its contract. Assumes nothing.
use Rattle.port.proofs.WritingLaws.{differs_length}
use Rattle.port.proofs.writing.differs.Goals as goal

pub returns-then-sub_tlv_length : goal.returns-then-sub_tlv_length
returns-then-sub_tlv_length c = search differs_length
