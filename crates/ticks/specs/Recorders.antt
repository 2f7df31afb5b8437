-- 02, E7, of a port of one recorder and a port of another, whatever happens at the others meanwhile (as demand 3: exchange/Recorders).
use Rattle.std.specs.Prelude.{◌≤◌, ◌≡◌, true, List, [], ◌∷◌, map, length}
use Rattle.parameters.specs.declared.Feature.{Feature}
use Rattle.port.specs.Parts.{feature_of}
use Rattle.calls.specs.Calls as recorder
use Rattle.rounds.specs.Rounds.{End, Call, Answers, Round, rounds}
use Rattle.rounds.specs.Rounds as calls
use Rattle.exchange.specs.Recorders.{Cable, number_at, Recorders, recorder_at, ends, operated, spares}
use Rattle.exchange.specs.Recorders as recorders
use Rattle.ticks.specs.Ticks.{Happening, sets, call, port_of, Ticked, present_tlv, Handled, Told, after}

-- what happens at an end of the cable; or a call of any operation at one of the recorders
pub data Step : Type 0 where
  joined : Happening → Step
  beside : End → recorder.Call → Step

unfoldable pub stepped : Cable → Step → Recorders → Recorders
stepped k (joined (sets e number w o)) c = operated k e (recorder.setting number w o) c
stepped k (joined (call x)) c = recorders.exec k (recorders.exchange x) c
stepped k (beside e x) c = recorders.exec k (recorders.beside e x) c

unfoldable pub stepped_all : Cable → List Step → Recorders → Recorders
stepped_all k [] c = c
stepped_all k (x ∷ xs) c = stepped_all k xs (stepped k x c)

-- each call of the exchange answers as its name says, in the state that it meets; what happens beside it spares the two ports: it is at another
-- port, or a request to write, a taking or a refused call that is no frame
abbrev pub Proper : Cable → List Step → Recorders → Type 0
Proper k [] c = Unit {0}
Proper k (joined (sets e number w o) ∷ xs) c = Proper k xs (stepped k (joined (sets e number w o)) c)
Proper k (joined (call x) ∷ xs) c = Answers x (ends k c) × Proper k xs (stepped k (joined (call x)) c)
Proper k (beside e x ∷ xs) c = (spares (number_at k e) (recorder_at c e) x ≡ true) × Proper k xs (stepped k (beside e x) c)

-- what happened at the two ports, the rest left out
unfoldable pub joined_of : List Step → List Happening
joined_of [] = []
joined_of (joined x ∷ xs) = x ∷ joined_of xs
joined_of (beside e x ∷ xs) = joined_of xs

-- the calls of rounds, and nothing beside them
abbrev pub round_steps : List Round → List Step
round_steps rs = map joined (map call (rounds rs))

-- At each moment the two ports are what the happenings at them alone have made of them, and a tick at one says of that run what E7 asks.
pub record JoinedTicks (k : Cable) (c : Recorders) : Type 0 where
  pub ports : (xs : List Step) → Proper k xs c → ends k (stepped_all k xs c) ≡ after (joined_of xs) (ends k c)
  pub told : (xs : List Step) → Proper k xs c → (e : End) (f : Feature) → Ticked (port_of e (ends k (stepped_all k xs c))) f → Told (joined_of xs) (ends k c) e f
  -- document 02's own form, which follows: "the other has handled a frame carrying that feature's present sub-TLV", at some moment of the run
  pub handled : (xs : List Step) → Proper k xs c → (e : End) (f : Feature) → Ticked (port_of e (ends k (stepped_all k xs c))) f
      → Handled (joined_of xs) (ends k c) e f (present_tlv e f (ends k (stepped_all k xs c)))
  -- Ticks do occur: the calls of rounds at the cable are a run; and where what happened at the two ports is six or more rounds, no setting changed,
  -- whatever happened beside them, each advertised feature has one.
  pub run : (rs : List Round) → calls.Proper (rounds rs) (ends k c) → Proper k (round_steps rs) c × (joined_of (round_steps rs) ≡ map call (rounds rs))
  pub occur : (xs : List Step) → Proper k xs c → (rs : List Round) → joined_of xs ≡ map call (rounds rs) → 6 ≤ length rs
      → (e : End) (f : Feature) → (feature_of (port_of e (ends k c)) f).setting.advertise ≡ true → Ticked (port_of e (ends k (stepped_all k xs c))) f
