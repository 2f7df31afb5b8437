-- `machine::same_setting` meets its contract. Assumes nothing.
use Rattle.machine.specs.StateLaws.{settings_eq}
use Rattle.machine.proofs.same_setting.Goals as goal

pub returns : goal.returns
returns c = search settings_eq
