-- `recorder::apply` meets its contract. Assumes nothing.
use Rattle.recorder.proofs.RecorderLaws.{changed_nowhere, changed_gone, changed_flag, changed_setting_lem}
use Rattle.recorder.proofs.apply.Goals as goal

pub returns-then-not-is_port : goal.returns-then-not-is_port
returns-then-not-is_port c = search changed_nowhere

pub returns-in-PeerGone : goal.returns-in-PeerGone
returns-in-PeerGone c = search changed_gone

pub returns-in-Flag : goal.returns-in-Flag
returns-in-Flag c = search changed_flag

pub returns-in-Setting : goal.returns-in-Setting
returns-in-Setting c = search changed_setting_lem
