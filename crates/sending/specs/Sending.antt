-- 01, Port events: the send rule and fresh states; and step 5 of Handling a frame.
use Rattle.std.specs.Prelude.{ℕ, Bool, false, not, ◌&&◌, if◌then◌else◌}
use Rattle.octets.specs.Words.{◌is◌}
use Rattle.feature.specs.declared.State.{State}
use Rattle.machine.specs.State.{next, fresh, stopped, marked}
use Rattle.port.specs.declared.Control.{Control}
use Rattle.port.specs.declared.Port.{Port}
use Rattle.port.specs.Parts.{feature_of, with_control, with_features, release, some, running}

abbrev pub with_seq : Control → ℕ → Control
with_seq c n = record { max = c.max; oper = c.oper; seq = n; ack = c.ack; rcvd = c.rcvd; seen = c.seen; duplicate = c.duplicate; broken = c.broken }

-- a feature whose change is not acknowledged
unfoldable pub unacknowledged : State → Bool
unacknowledged x = not x.syncd

-- "if an advertised feature has Syncd false and RcvdAckNo = SeqNo, SeqNo goes up by one, 4,294,967,295 going to 0". 02, E5: "a withdrawal is a change,
-- and the send rule counts it, Syncd false, until acknowledged", so that it counts each feature: one that is not advertised has Syncd false only then.
-- "release happens when the send rule raises SeqNo, and in the fresh state"
unfoldable pub raises_seq_no : Port → Bool
raises_seq_no p = some (λ f. unacknowledged (feature_of p f)) && p.control.rcvd is p.control.seq

unfoldable pub sent : Port → Port
sent p = if raises_seq_no p then release (with_control p (with_seq p.control (next p.control.seq))) else p

-- "control Oper = Max, SeqNo = AckNo = RcvdAckNo = 0, no peer seen, no duplicate control marked"; 02, E1: "or a fresh state, clears" its mark
abbrev pub fresh_control : ℕ → Control
fresh_control max = record { max = max; oper = max; seq = 0; ack = 0; rcvd = 0; seen = false; duplicate = false; broken = false }

-- the control and the three features
abbrev pub fresh_parts : Port → Port
fresh_parts p = release (with_features (with_control p (fresh_control p.control.max)) (λ f. fresh (feature_of p f).max (feature_of p f).setting))

-- "Then the send rule, if running. A port that isn't running holds that state with every mode false."
unfoldable pub fresh_port : Port → Port
fresh_port p =
    if running p then sent (fresh_parts p)
    else with_features (fresh_parts p) (λ f. stopped (feature_of (fresh_parts p) f))

-- the state before the event, and after it
abbrev pub step5 : Port → Port → Port
step5 before after = with_features after (λ f. marked f after.control.seq (feature_of before f) (feature_of after f))

-- "Then the send rule."
abbrev pub completed : Port → Port → Port
completed before after = sent (step5 before after)
