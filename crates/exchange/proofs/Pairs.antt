-- Two ends that exchange messages: what each call does to them. Assumes nothing.
use mathlib.Core.List.{List, [], ◌∷◌, ◌++◌}
use mathlib.Core.Option.{Option, none, some}
use mathlib.Core.Path.{◌≡◌, refl}
use Rattle.admission.specs.Admission.{Message}
use Rattle.rounds.specs.Rounds.{left, right, Refused, Call, refused, writes, handles, quiet}
use Rattle.exchange.proofs.Core.{Settings, Core, message, started, recv}

-- both ends, and the message that each wrote last
pub record Pair : Type 0 where
  pub l : Core
  pub r : Core
  pub from_l : Option Message
  pub from_r : Option Message

unfoldable pub given : Settings → Core → Option Message → Core
given s p none = p
given s p (some m) = recv s p m

module _ (s t : Settings) where
  unfoldable pub step : Call → Pair → Pair
  step (refused x) c = c
  step (writes left out) c = record { l = c.l; r = c.r; from_l = some (message s c.l); from_r = c.from_r }
  step (writes right out) c = record { l = c.l; r = c.r; from_l = c.from_l; from_r = some (message t c.r) }
  step (handles left) c = record { l = given s c.l c.from_r; r = c.r; from_l = c.from_l; from_r = c.from_r }
  step (handles right) c = record { l = c.l; r = given t c.r c.from_l; from_l = c.from_l; from_r = c.from_r }

  unfoldable pub run : List Call → Pair → Pair
  run [] c = c
  run (x ∷ xs) c = run xs (step x c)

  unfoldable pub begin : Pair
  begin = record { l = started s; r = started t; from_l = none; from_r = none }

  pub run_append : (xs ys : List Call) (c : Pair) → run (xs ++ ys) c ≡ run ys (run xs c)
  unfolding run
  run_append [] ys c = refl
  run_append (x ∷ xs) ys c = run_append xs ys (step x c)

  pub run_quiet : (js : List Refused) (c : Pair) → run (quiet js) c ≡ c
  unfolding run quiet step
  run_quiet [] c = refl
  run_quiet (x ∷ js) c = run_quiet js c

  -- what every call keeps
  pub run_keeps : (P : Pair → Type 0) → ((x : Call) (c : Pair) → P c → P (step x c)) → (xs : List Call) (c : Pair) → P c → P (run xs c)
  unfolding run
  run_keeps P k [] c h = h
  run_keeps P k (x ∷ xs) c h = run_keeps P k xs (step x c) (k x c h)
