-- 02, E10: "A port's states, frames, refusals (12 excepted) and wish to send depend on its own events alone. Over events without takings, its
-- newest 16 notices (or all, if fewer) do too". Calls are any, at any ports, from the blank recorder on, which creations fill.
use Rattle.std.specs.Prelude.{ℕ, ◌≡◌, Bool, true, false, not, ◌&&◌, List, [], ◌∷◌, if◌then◌else◌}
use Rattle.octets.specs.Words.{◌is◌}
use Rattle.notices.specs.Notices.{notices_in, of}
use Rattle.notices.specs.LogModel.{newest16}
use Rattle.recorder.specs.Recorder.{port_at, blank}
use Rattle.calls.specs.Calls.{Operation, create, frame, gone, flag, setting, write, take, Call, raised_at, after_all, lent_at, reply_at}

-- what happens to a port; a request to write and a taking are no events
abbrev pub is_event : Operation → Bool
is_event (create v w o) = true
is_event (frame o) = true
is_event gone = true
is_event (flag x on) = true
is_event (setting number w o) = true
is_event (write out) = false
is_event take = false

abbrev pub takes : Operation → Bool
takes (create v w o) = false
takes (frame o) = false
takes gone = false
takes (flag x on) = false
takes (setting number w o) = false
takes (write out) = false
takes take = true

-- the events at port n: all other calls are left out
unfoldable pub own : ℕ → List Call → List Call
own n [] = []
own n (x ∷ xs) = if (x.port is n) && is_event x.operation then x ∷ own n xs else own n xs

-- no taking at port n among some calls
unfoldable pub untaken_at : ℕ → List Call → Bool
untaken_at n [] = true
untaken_at n (x ∷ xs) = not ((x.port is n) && takes x.operation) && untaken_at n xs

-- after some calls, and after the events at port n alone: the same port; and a next operation at it gives the same answer, taking aside, the
-- same octets in the lent output and the same notices raised
pub record Independent (xs : List Call) (n : ℕ) : Type 0 where
  pub state : port_at (after_all blank xs) n ≡ port_at (after_all blank (own n xs)) n
  pub answer : (x : Operation) → takes x ≡ false → reply_at (after_all blank xs) n x ≡ reply_at (after_all blank (own n xs)) n x
  pub output : (x : Operation) → lent_at (after_all blank xs) n x ≡ lent_at (after_all blank (own n xs)) n x
  pub notices : (x : Operation) → raised_at (after_all blank xs) n x ≡ raised_at (after_all blank (own n xs)) n x

-- port n holds the newest 16 notices (or all, if fewer) that it holds after its own events alone
abbrev pub SameNews : List Call → ℕ → Type 0
SameNews xs n = newest16 (of n (notices_in (after_all blank xs).log)) ≡ newest16 (of n (notices_in (after_all blank (own n xs)).log))
