-- Demand 1: every call answers; it is refused exactly when the table says and with the number that the table's order gives, and its
-- place. 01: "A refusal returns its number alone and changes nothing". 02, E1: "Demand 1 and document 01 then read: a refusal changes nothing but
-- this mark and notice, with what a full log drops for it."
use Rattle.std.specs.Prelude.{ℕ, ◌≡◌, Bool, false, not, ◌&&◌, ◌||◌, List, [], ◌∷◌, length, set, if◌then◌else◌}
use Rattle.octets.specs.Words.{◌is◌}
use Rattle.octets.specs.Octets.{same}
use Rattle.tlv.specs.Refusals.{Reply, done}
use Rattle.notices.specs.declared.Kind.TheVariants.{ControlError}
use Rattle.notices.specs.declared.Notice.{Notice}
use Rattle.notices.specs.Notices.{PortNumber, is_port, notice_number, oldest_of, logged_all}
use Rattle.port.specs.declared.Port.{Port}
use Rattle.port.specs.Replies.{bit}
use Rattle.port.specs.Writing.{to_write}
use Rattle.port.specs.Writing as writing
use Rattle.recorder.specs.declared.Recorder.{Recorder}
use Rattle.admission.specs.Admission.{with_broken}
use Rattle.recorder.specs.Recorder.{place_of, port_at}
use Rattle.calls.specs.Calls.{Operation, create, frame, gone, flag, setting, write, take, Call, event_of, raised, after, after_all, lent, lent_after, reply_of, accepted}
use Rattle.calls.specs.Rows.{is_frame}
use Rattle.calls.specs.Table.{first_of, place_beside}

-- a port whose mark is off
abbrev pub unmarked : Port → Port
unmarked p = with_broken p false

-- the calls of a list that are not refused, and all its frames, each in the state that it meets
unfoldable pub heeded : Recorder → List Call → List Call
heeded r [] = []
heeded r (x ∷ xs) = if (reply_of r x).number is 0 || is_frame x.operation then x ∷ heeded (after r x) xs else heeded (after r x) xs

-- ---- the values beside an answer that is no refusal

-- "An event asks for a send exactly if the octets to be written differ before and after it": 1 if it does
abbrev pub asked : Port → Port → List ℕ
asked before after = bit (not (same (to_write before) (to_write after))) ∷ []

-- the number of octets that a write wrote; of the oldest notice of the port "its number and its feature, 0 for a port
-- notice"
unfoldable pub values_at : Recorder → ℕ → Operation → List ℕ
values_at r n (create v w o) = asked (port_at r n) (event_of n (port_at r n) (create v w o)).port
values_at r n (frame o) = asked (port_at r n) (event_of n (port_at r n) (frame o)).port
values_at r n gone = asked (port_at r n) (event_of n (port_at r n) gone).port
values_at r n (flag x on) = asked (port_at r n) (event_of n (port_at r n) (flag x on)).port
values_at r n (setting number w o) = asked (port_at r n) (event_of n (port_at r n) (setting number w o)).port
values_at r n (write out) = length (writing.frame (port_at r n)) ∷ []
values_at r n take = notice_number (oldest_of n r.log).kind ∷ (oldest_of n r.log).feature ∷ []

abbrev pub values_of : Recorder → Call → List ℕ
values_of r x = values_at r x.port x.operation

-- a number of the table, and its place; or 0 and the values
unfoldable pub reply : ℕ → ℕ → List ℕ → Reply
reply n place values = if n is 0 then done values else record { number = n; place = place; values = [] }

-- ---- what a refusal leaves: 02, E1, "refusals 7 and 8 write notice 1 (port) if the port's new mark is off, and set it; any other outcome of a
-- frame .. clears it"

abbrev pub is_broken : ℕ → Bool
is_broken k = k is 7 || k is 8

-- the notice that number k writes at port n, which is p
unfoldable pub news_of : ℕ → ℕ → Port → List Notice
news_of n k p = if is_broken k && not p.control.broken then record { port = n; kind = ControlError; feature = 0 } ∷ [] else []

-- the recorder after an operation at port n was refused with number k: only a frame that came to a port leaves anything, its port's mark
-- and what the notice makes of the log
unfoldable pub left_by : Recorder → ℕ → ℕ → Operation → Recorder
left_by r n k x =
    if is_frame x && is_port n then
    record { ports = set r.ports (place_of n) (with_broken (port_at r n) (is_broken k)); log = logged_all r.log (news_of n k (port_at r n)) }
    else r

abbrev pub left_of : Recorder → Call → Recorder
left_of r x = left_by r x.port (first_of r x) x.operation

-- ---- the demand

-- one call at a recorder: it answers by the table, with these values where it is not refused; a refusal changes nothing but a frame's mark
-- and notice: four ports, log, lent octets; and raises nothing else
pub record Answers (r : Recorder) (x : Call) : Type 0 where
  pub answer : reply_of r x ≡ reply (first_of r x) (place_beside (first_of r x) x.operation) (values_of r x)
  pub unchanged : (first_of r x ≡ 0 → ⊥) → (after r x ≡ left_of r x) × (lent_after r x ≡ lent x)
  pub raises : (first_of r x ≡ 0 → ⊥) → raised r x ≡ news_of x.port (first_of r x) (port_at r x.port)

-- any list of calls at any ports: so does each, after those before it; the refused ones that are no frames may be left out; and all refused
-- ones may, but for marks and log
pub record Demand1 (r : Recorder) : Type 0 where
  pub each : (xs : List Call) (x : Call) → Answers (after_all r xs) x
  pub refused : (xs : List Call) → after_all r xs ≡ after_all r (heeded r xs)
  pub marks : length r.ports ≡ 4 → (xs : List Call) (n : ℕ) → PortNumber n → unmarked (port_at (after_all r xs) n) ≡ unmarked (port_at (after_all r (accepted r xs)) n)
