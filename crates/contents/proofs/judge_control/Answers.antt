-- `contents::judge_control` meets its contract: a law for each of refusals 6 to 8 and for each way to be accepted. Assumes nothing.
use Rattle.contents.specs.ContentsLaws.{no_control_lem, several_controls, control_length, control_version, one_control}
use Rattle.contents.proofs.judge_control.Goals as goal

pub returns-then-control-eq0 : goal.returns-then-control-eq0
returns-then-control-eq0 c = search no_control_lem

pub returns-then-control-gt1 : goal.returns-then-control-gt1
returns-then-control-gt1 c = search several_controls

pub returns-then-control-ne-CONTROL_LENGTH : goal.returns-then-control-ne-CONTROL_LENGTH
returns-then-control-ne-CONTROL_LENGTH c = search control_length

pub returns-then-k : goal.returns-then-k
returns-then-k c = search control_version

pub returns : goal.returns
returns c = search one_control
