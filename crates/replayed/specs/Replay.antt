-- 02, E8: "A program reads settings .., then such a file from standard input, makes both ports, gives each frame to the port of the other
-- end, and writes a report". The run that the rules define: document 01's ports, folded over the lines; and its counts, in plain numbers.
use Rattle.std.specs.Prelude.{ℕ, ◌+◌, Bool, true, false, not, ◌&&◌, List, [], ◌∷◌, if◌then◌else◌}
use Rattle.std.proofs.Math.Option.{Option, none, some}
use Rattle.octets.specs.Words.{◌is◌}
use Rattle.parameters.specs.declared.Feature.{Feature}
use Rattle.feature.specs.declared.Reason.{Reason}
use Rattle.feature.specs.Reasons.{reason_number}
use Rattle.port.specs.declared.Port.{Port}
use Rattle.port.specs.Parts.{feature_of}
use Rattle.port.specs.Replies.{event_reply, bit}
use Rattle.port.specs.Settled.{settled}
use Rattle.handling.specs.Handling.{handled}
use Rattle.capture.specs.declared.Form.{Form}
use Rattle.capture.specs.declared.Form.TheVariants.{FromA, FromB, Other}
use Rattle.capture.specs.Capture.{form_of, frame_of}

-- ---- The run

pub data End : Type 0 where
  A : End
  B : End

-- the port of each end
pub record Ends : Type 0 where
  pub a : Port
  pub b : Port

abbrev pub port_of : Ends → End → Port
port_of e A = e.a
port_of e B = e.b

-- a line that was replayed: its form, the number of the refusal if its frame was refused and 0 otherwise, and both ends before and after it
pub record Step : Type 0 where
  pub form : Form
  pub refusal : ℕ
  pub before : Ends
  pub after : Ends

-- "gives each frame to the port of the other end", by document 01's frame event; a line of any other form does nothing
unfoldable pub step_as : Form → List ℕ → Ends → Step
step_as FromA frame e =
    record { form = FromA; refusal = (event_reply (handled e.b frame).answer).number; before = e; after = record { a = e.a; b = (handled e.b frame).port } }
step_as FromB frame e =
    record { form = FromB; refusal = (event_reply (handled e.a frame).answer).number; before = e; after = record { a = (handled e.a frame).port; b = e.b } }
step_as Other frame e = record { form = Other; refusal = 0; before = e; after = e }

abbrev pub step : Ends → List ℕ → Step
step e line = step_as (form_of line) (frame_of line) e

unfoldable pub run : Ends → List (List ℕ) → List Step
run e [] = []
run e (l ∷ ls) = step e l ∷ run (step e l).after ls

-- ---- "Each number equals its count over the run that the rules define."

-- at how many steps of the run a test holds
unfoldable pub count : (Step → Bool) → List Step → ℕ
count test [] = 0
count test (s ∷ ss) = bit (test s) + count test ss

-- "frames from A, from B, lines of any other form"
unfoldable pub is_from : End → Form → Bool
is_from A FromA = true
is_from A FromB = false
is_from A Other = false
is_from B FromA = false
is_from B FromB = true
is_from B Other = false

unfoldable pub is_frame : Form → Bool
is_frame FromA = true
is_frame FromB = true
is_frame Other = false

abbrev pub sent_by : End → Step → Bool
sent_by x s = is_from x s.form

abbrev pub framed : Step → Bool
framed s = is_frame s.form

abbrev pub of_other_form : Step → Bool
of_other_form s = not (is_frame s.form)

-- "refusals 1 to 8, both ports'"
abbrev pub refused_with : ℕ → Step → Bool
refused_with n s = s.refusal is n

-- "how often the reason became absent, ..": it is that reason after the line, and was another one before it
abbrev pub reason_at : Ends → End → Feature → Reason
reason_at e x f = (feature_of (port_of e x) f).outcome.reason

abbrev pub has_reason : Ends → End → Feature → Reason → Bool
has_reason e x f r = reason_number (reason_at e x f) is reason_number r

abbrev pub became : End → Feature → Reason → Step → Bool
became x f r s = has_reason s.after x f r && not (has_reason s.before x f r)

-- "at both ends a peer is seen, RcvdAckNo = SeqNo and every advertised feature is Syncd"
abbrev pub both_settled : Ends → Bool
both_settled e = settled e.a && settled e.b

-- "the number of frames up to the first moment when" both ends are settled, if there is one: after n frames the ends are e, and the steps of
-- the run are still to come
unfoldable pub first_settled : ℕ → Ends → List Step → Option ℕ
first_settled n e [] = if both_settled e then some n else none
first_settled n e (s ∷ ss) = if both_settled e then some n else first_settled (n + bit (framed s)) s.after ss
