-- 01, Rounds of two ends: the calls of a list of rounds at two ports.
use Rattle.tlv.specs.Refusals.{rejection}
use Rattle.std.specs.Prelude.{ℕ, ◌≡◌, Bool, true, false, ◌&&◌, List, [], ◌∷◌, ◌++◌, take, Ok, Err}
use Rattle.std.proofs.Math.Option.{Option, none, some}
use Rattle.tlv.specs.declared.Refusal.{Refusal}
use Rattle.port.specs.declared.Port.{Port}
use Rattle.port.specs.declared.Event.{Event}
use Rattle.port.specs.Types.{Written}
use Rattle.port.specs.Writing.{written, output}
use Rattle.events.specs.PortEvents.{unchanged}
use Rattle.handling.specs.Handling.{handled}

pub data End : Type 0 where
  left right : End

unfoldable pub other : End → End
other left = right
other right = left

-- both ports, and the frame that each wrote last
pub record Ends : Type 0 where
  pub l : Port
  pub r : Port
  pub from_l : Option (List ℕ)
  pub from_r : Option (List ℕ)

-- "Any refused writes and frames may stand before, between and after these, whatever their octets."
pub data Refused : Type 0 where
  write : End → List ℕ → Refused
  frame : End → List ℕ → Refused

-- "The calls are writes and frames at two ports, refused ones included": a refused call; an accepted write into a lent output; the
-- frame that the other end wrote last is given to this end
pub data Call : Type 0 where
  refused : Refused → Call
  writes : End → List ℕ → Call
  handles : End → Call

-- ---- what the calls do: "Each gets the state the last call at its end left; nothing else changes that state meanwhile."

-- the frame on its way after a write: the octets that now stand in the output
unfoldable pub after_write : Written → List ℕ → Option (List ℕ) → Option (List ℕ)
after_write (Ok n) out before = some (take n out)
after_write (Err why) out before = before

abbrev pub on_its_way : Port → List ℕ → Option (List ℕ) → Option (List ℕ)
on_its_way p out before = after_write (written p out) (output p out) before

-- the frame on its way is given to a port; where there is none, nothing happens
unfoldable pub delivered : Port → Option (List ℕ) → Event
delivered p none = unchanged p
delivered p (some o) = handled p o

unfoldable pub exec : Call → Ends → Ends
exec (refused (write left out)) c = record { l = c.l; r = c.r; from_l = on_its_way c.l out c.from_l; from_r = c.from_r }
exec (refused (write right out)) c = record { l = c.l; r = c.r; from_l = c.from_l; from_r = on_its_way c.r out c.from_r }
exec (refused (frame left o)) c = record { l = (handled c.l o).port; r = c.r; from_l = c.from_l; from_r = c.from_r }
exec (refused (frame right o)) c = record { l = c.l; r = (handled c.r o).port; from_l = c.from_l; from_r = c.from_r }
exec (writes left out) c = record { l = c.l; r = c.r; from_l = on_its_way c.l out c.from_l; from_r = c.from_r }
exec (writes right out) c = record { l = c.l; r = c.r; from_l = c.from_l; from_r = on_its_way c.r out c.from_r }
exec (handles left) c = record { l = (delivered c.l c.from_r).port; r = c.r; from_l = c.from_l; from_r = c.from_r }
exec (handles right) c = record { l = c.l; r = (delivered c.r c.from_l).port; from_l = c.from_l; from_r = c.from_r }

unfoldable pub exec_all : List Call → Ends → Ends
exec_all [] c = c
exec_all (x ∷ xs) c = exec_all xs (exec x c)

-- ---- rounds

-- "In a round each end has one accepted write, then each frame, as written, is given once to the other end, in either order."
-- The outputs that are lent, who writes first, who handles first, and the refused calls before, between and after.
pub record Round : Type 0 where
  pub lent_l : List ℕ
  pub lent_r : List ℕ
  pub writer : End
  pub handler : End
  pub calls_0 : List Refused
  pub calls_1 : List Refused
  pub calls_2 : List Refused
  pub calls_3 : List Refused
  pub calls_4 : List Refused

-- "With losses, either frame or both may go undelivered, and an end may have no accepted write."
pub record Losses : Type 0 where
  pub left_writes : Bool
  pub right_writes : Bool
  pub to_left : Bool
  pub to_right : Bool

abbrev pub lossless : Losses
lossless = record { left_writes = true; right_writes = true; to_left = true; to_right = true }

unfoldable pub quiet : List Refused → List Call
quiet [] = []
quiet (x ∷ xs) = Call.refused x ∷ quiet xs

unfoldable pub maybe : Bool → Call → List Call
maybe true c = c ∷ []
maybe false c = []

unfoldable pub write_of : Losses → Round → End → List Call
write_of x r left = maybe x.left_writes (Call.writes left r.lent_l)
write_of x r right = maybe x.right_writes (Call.writes right r.lent_r)

unfoldable pub handle_of : Losses → End → List Call
handle_of x left = maybe (x.right_writes && x.to_left) (Call.handles left)
handle_of x right = maybe (x.left_writes && x.to_right) (Call.handles right)

unfoldable pub calls : Losses → Round → List Call
calls x r =
    quiet r.calls_0 ++ write_of x r r.writer ++ quiet r.calls_1 ++ write_of x r (other r.writer) ++ quiet r.calls_2
    ++ handle_of x r.handler ++ quiet r.calls_3 ++ handle_of x (other r.handler) ++ quiet r.calls_4

unfoldable pub rounds : List Round → List Call
rounds [] = []
rounds (r ∷ rs) = calls lossless r ++ rounds rs

pub record Lossy : Type 0 where
  pub round : Round
  pub losses : Losses

unfoldable pub lossy_rounds : List Lossy → List Call
lossy_rounds [] = []
lossy_rounds (r ∷ rs) = calls r.losses r.round ++ lossy_rounds rs

-- ---- each call answers as its name says, in the state that it meets

abbrev pub RefusesWrite : Port → List ℕ → Type 0
RefusesWrite p out = (why : Refusal) × (written p out ≡ Err why)

abbrev pub Accepts : Port → List ℕ → Type 0
Accepts p out = (n : ℕ) × (written p out ≡ Ok n)

abbrev pub RefusesFrame : Port → List ℕ → Type 0
RefusesFrame p o = (why : Refusal) × (place : ℕ) × ((handled p o).answer ≡ Err (rejection why place))

abbrev pub Answers : Call → Ends → Type 0
Answers (refused (write left out)) c = RefusesWrite c.l out
Answers (refused (write right out)) c = RefusesWrite c.r out
Answers (refused (frame left o)) c = RefusesFrame c.l o
Answers (refused (frame right o)) c = RefusesFrame c.r o
Answers (writes left out) c = Accepts c.l out
Answers (writes right out) c = Accepts c.r out
Answers (handles left) c = Unit {0}
Answers (handles right) c = Unit {0}

abbrev pub Proper : List Call → Ends → Type 0
Proper [] c = Unit {0}
Proper (x ∷ xs) c = Answers x c × Proper xs (exec x c)
