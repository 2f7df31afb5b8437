-- `machine::set_anew` meets its contract. Assumes nothing.
use Rattle.machine.proofs.SettingLaws.{reset_anew, reset_kept}
use Rattle.machine.proofs.set_anew.Goals as goal

pub returns-then-t-s : goal.returns-then-t-s
returns-then-t-s c = search reset_anew

pub returns : goal.returns
returns c = search reset_kept
