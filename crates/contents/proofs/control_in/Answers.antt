-- `contents::control_in` meets its contract: versions and numbers of a value of ten octets, and zeros for another. Assumes nothing.
use Rattle.contents.specs.ContentsLaws.{control_other, control_ten}
use Rattle.contents.proofs.control_in.Goals as goal

pub returns-then-v-ne-CONTROL_LENGTH : goal.returns-then-v-ne-CONTROL_LENGTH
returns-then-v-ne-CONTROL_LENGTH c = search control_other

pub returns : goal.returns
returns c = search control_ten
