-- `sending::send` meets its contract. Assumes nothing.
use Rattle.sending.proofs.SendingLaws.{sent_stays, sent_raised}
use Rattle.sending.proofs.send.Goals as goal

pub returns-then-not-up : goal.returns-then-not-up
returns-then-not-up c = search sent_stays

pub returns : goal.returns
returns c = search sent_raised
