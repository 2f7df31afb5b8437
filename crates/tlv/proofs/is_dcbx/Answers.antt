-- `tlv::is_dcbx` meets its contract: length, type, then the four fixed octets. Assumes nothing.
use Rattle.tlv.specs.Laws.{dcbx_short, dcbx_type, dcbx_fixed}
use Rattle.tlv.proofs.is_dcbx.Goals as goal

pub returns-then-s-lt6 : goal.returns-then-s-lt6
returns-then-s-lt6 c = search dcbx_short

pub returns-then-s-ne-DCBX : goal.returns-then-s-ne-DCBX
returns-then-s-ne-DCBX c = search dcbx_type

pub returns : goal.returns
returns c = search dcbx_fixed
