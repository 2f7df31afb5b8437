-- `sending::fresh` meets its contract. Assumes nothing.
use Rattle.sending.proofs.SendingLaws.{fresh_running, fresh_stopped}
use Rattle.sending.proofs.fresh.Goals as goal

pub returns-then-running : goal.returns-then-running
returns-then-running c = search fresh_running

pub returns : goal.returns
returns c = search fresh_stopped
