-- `machine::judge_again` meets its contract. Assumes nothing.
use Rattle.machine.proofs.SettingLaws.{judged_again_withheld, judged_again_held, judged_again_alone}
use Rattle.machine.proofs.judge_again.Goals as goal

pub returns-then-not-s : goal.returns-then-not-s
returns-then-not-s c = search judged_again_withheld

pub returns-in-Some : goal.returns-in-Some
returns-in-Some c = search judged_again_held

pub returns-in-None : goal.returns-in-None
returns-in-None c = search judged_again_alone
