-- 01, Rounds of two ends, of a port of one recorder and a port of another. 02, E10: "A port's states, frames, refusals (12 excepted) and wish
-- to send depend on its own events alone." So demand 3 holds of the two ports, whatever happens at the others meanwhile.
use Rattle.std.specs.Prelude.{ℕ, ◌≤◌, ◌≡◌, Bool, true, not, ◌||◌, List, [], ◌∷◌, length}
use Rattle.std.proofs.Math.Option.{Option, none, some}
use Rattle.octets.specs.Words.{◌is◌}
use Rattle.notices.specs.Notices.{PortNumber}
use Rattle.recorder.specs.declared.Recorder.{Recorder}
use Rattle.recorder.specs.Recorder.{port_at, written, output}
use Rattle.calls.specs.Calls as recorder
use Rattle.calls.specs.Calls.{Operation, after, reply_of}
use Rattle.calls.specs.Rows.{is_frame}
use Rattle.calls.specs.Independent.{is_event}
use Rattle.rounds.specs.Rounds.{End, left, right, Ends, Call, refused, write, frame, writes, handles, after_write, Round, Lossy, rounds, lossy_rounds, Answers}
use Rattle.exchange.specs.Demand3.{BothAgreed, BothTruthful, SettledAgreed}

-- a cable joins a port of the left recorder and a port of the right one: their numbers
pub record Cable : Type 0 where
  pub left : ℕ
  pub right : ℕ

abbrev pub number_at : Cable → End → ℕ
number_at k left = k.left
number_at k right = k.right

-- both recorders, and the frame that each of the two ports wrote last
pub record Recorders : Type 0 where
  pub l : Recorder
  pub r : Recorder
  pub from_l : Option (List ℕ)
  pub from_r : Option (List ℕ)

abbrev pub recorder_at : Recorders → End → Recorder
recorder_at c left = c.l
recorder_at c right = c.r

-- the two ports
abbrev pub ends : Cable → Recorders → Ends
ends k c = record { l = port_at c.l k.left; r = port_at c.r k.right; from_l = c.from_l; from_r = c.from_r }

-- what happens: a call of the exchange at an end of the cable; or a call of any operation at one of the recorders
pub data Happening : Type 0 where
  exchange : Call → Happening
  beside : End → recorder.Call → Happening

-- ---- what it does, by the operations of the recorders

unfoldable pub called : End → recorder.Call → Recorders → Recorders
called left x c = record { l = after c.l x; r = c.r; from_l = c.from_l; from_r = c.from_r }
called right x c = record { l = c.l; r = after c.r x; from_l = c.from_l; from_r = c.from_r }

-- an operation at an end of the cable
abbrev pub operated : Cable → End → Operation → Recorders → Recorders
operated k e x c = called e (record { port = number_at k e; operation = x }) c

-- the frame on its way after a write at port n
abbrev pub on_its_way : ℕ → Recorder → List ℕ → Option (List ℕ) → Option (List ℕ)
on_its_way n r out before = after_write (written n (port_at r n) out) (output n (port_at r n) out) before

-- a write leaves the recorders
unfoldable pub wrote : Cable → End → List ℕ → Recorders → Recorders
wrote k left out c = record { l = c.l; r = c.r; from_l = on_its_way k.left c.l out c.from_l; from_r = c.from_r }
wrote k right out c = record { l = c.l; r = c.r; from_l = c.from_l; from_r = on_its_way k.right c.r out c.from_r }

-- the frame on its way, if there is one, is given to an end
unfoldable pub delivered : Cable → End → Option (List ℕ) → Recorders → Recorders
delivered k e none c = c
delivered k e (some o) c = operated k e (recorder.frame o) c

unfoldable pub exec : Cable → Happening → Recorders → Recorders
exec k (exchange (refused (write e out))) c = wrote k e out c
exec k (exchange (refused (frame e o))) c = operated k e (recorder.frame o) c
exec k (exchange (writes e out)) c = wrote k e out c
exec k (exchange (handles left)) c = delivered k left c.from_r c
exec k (exchange (handles right)) c = delivered k right c.from_l c
exec k (beside e x) c = called e x c

unfoldable pub exec_all : Cable → List Happening → Recorders → Recorders
exec_all k [] c = c
exec_all k (x ∷ xs) c = exec_all k xs (exec k x c)

-- ---- "Each gets the state the last call at its end left; nothing else changes that state meanwhile."

-- a call of recorder r at another port than n; a request to write or a taking; or a call that is refused and is no frame. Refused frames are
-- calls of the exchange: since E1 they change the port's mark.
abbrev pub spares : ℕ → Recorder → recorder.Call → Bool
spares n r x = not (x.port is n) || not (is_event x.operation) || not (is_frame x.operation || (reply_of r x).number is 0)

-- each call of the exchange answers as its name says, in the state that it meets; the others spare the two ports
abbrev pub Proper : Cable → List Happening → Recorders → Type 0
Proper k [] c = Unit {0}
Proper k (exchange x ∷ xs) c = Answers x (ends k c) × Proper k xs (exec k (exchange x) c)
Proper k (beside e x ∷ xs) c = (spares (number_at k e) (recorder_at c e) x ≡ true) × Proper k xs (exec k (beside e x) c)

-- the calls of the exchange, the others left out
unfoldable pub exchanged : List Happening → List Call
exchanged [] = []
exchanged (exchange x ∷ xs) = x ∷ exchanged xs
exchanged (beside e x ∷ xs) = exchanged xs

-- ---- the claims

-- "ports are 1 to 4", at both ends
pub record Joins (k : Cable) (l r : Recorder) : Type 0 where
  pub left : PortNumber k.left
  pub right : PortNumber k.right
  pub four_l : length l.ports ≡ 4
  pub four_r : length r.ports ≡ 4

-- demand 3 of the two ports, over any list of what happens in which the calls of the exchange are those of rounds
pub record JoinedDemand3 (k : Cable) (c : Recorders) : Type 0 where
  pub settles : (xs : List Happening) → Proper k xs c → (rs : List Round) → exchanged xs ≡ rounds rs → 6 ≤ length rs
      → BothAgreed (ends k c) (ends k (exec_all k xs c))
  pub truthful : (xs : List Happening) → Proper k xs c → (rs : List Lossy) → exchanged xs ≡ lossy_rounds rs
      → BothTruthful (ends k c) (ends k (exec_all k xs c))
  pub agrees : (xs : List Happening) → Proper k xs c → (rs : List Lossy) → exchanged xs ≡ lossy_rounds rs
      → SettledAgreed (ends k c) (ends k (exec_all k xs c))
