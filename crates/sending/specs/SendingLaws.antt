-- The send rule and fresh states, a law for each way out of the functions: premises in the form in which a test or a call leaves them.
-- Assumes nothing.
use Rattle.std.specs.Prelude.{Bool, if◌then◌else◌}
use Rattle.machine.specs.State.{next}
use Rattle.port.specs.declared.Control.{Control}
use Rattle.sending.specs.Sending.{with_seq}

-- it changes only SeqNo, if at all
abbrev pub counted : Bool → Control → Control
counted b k = if b then with_seq k (next k.seq) else k
