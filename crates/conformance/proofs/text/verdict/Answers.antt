-- `verdict` meets its contract. Assumes nothing.
use Rattle.conformance.specs.TextLaws.{said_short, said_rejected, said_accepted}
use Rattle.conformance.proofs.text.verdict.Goals as goal

pub returns-then-out-lt-ROOM : goal.returns-then-out-lt-ROOM
returns-then-out-lt-ROOM c = search said_short

pub returns-in-Some : goal.returns-in-Some
returns-in-Some c = search said_rejected

pub returns-in-None : goal.returns-in-None
returns-in-None c = search said_accepted
