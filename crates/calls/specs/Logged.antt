-- 02, E10, of the log, over any list of calls at any ports from the blank recorder on: what it holds of each port, and what it has counted.
use Rattle.std.specs.Prelude.{ℕ, ◌+◌, ◌≤◌, min, ◌≡◌, Bool, true, not, ◌&&◌, List, [], ◌∷◌, ◌++◌, map, length, drop, if◌then◌else◌}
use Rattle.octets.specs.Words.{◌is◌}
use Rattle.notices.specs.declared.Notice.{Notice}
use Rattle.notices.specs.Notices.{PortNumber, is_port, notices_in, of, count_of, dropped_of}
use Rattle.notices.specs.LogModel.{Sound, Step, model_steps, losses, newest16}
use Rattle.notices.specs.LogModel as log
use Rattle.notices.specs.SharedLog.{Undisturbed}
use Rattle.recorder.specs.declared.Recorder.{Recorder}
use Rattle.recorder.specs.Recorder.{blank}
use Rattle.calls.specs.Calls.{Call, raised, after, after_all, reply_of}
use Rattle.calls.specs.Independent.{takes, untaken_at}

-- all that a list of calls raises; how many notices it takes of port n
unfoldable pub raised_all : Recorder → List Call → List Notice
raised_all r [] = []
raised_all r (x ∷ xs) = raised r x ++ raised_all (after r x) xs

abbrev pub takes_at : ℕ → Recorder → Call → ℕ
takes_at n r x = if takes x.operation && (x.port is n) && ((reply_of r x).number is 0) then 1 else 0

unfoldable pub takings : ℕ → Recorder → List Call → ℕ
takings n r [] = 0
takings n r (x ∷ xs) = takes_at n r x + takings n (after r x) xs

-- the writes and takings of the log one by one, in the order of the calls; among them those by which port n loses one
abbrev pub steps_of : Recorder → Call → List Step
steps_of r x = map log.write (raised r x) ++ (if takes x.operation && is_port x.port then log.take x.port ∷ [] else [])

unfoldable pub steps : Recorder → List Call → List Step
steps r [] = []
steps r (x ∷ xs) = steps_of r x ++ steps (after r x) xs

abbrev pub lost : ℕ → List Call → ℕ
lost n xs = losses n [] (steps blank xs)

-- none of some calls is at port n
unfoldable pub elsewhere : ℕ → List Call → Bool
elsewhere n [] = true
elsewhere n (x ∷ xs) = not (x.port is n) && elsewhere n xs

-- of port n: raised = taken + dropped + held; what is held is, oldest first, what was raised without the first ones, as many as were taken
-- or dropped; "The port that loses the notice counts it as dropped", and the count stays at 4,294,967,295
pub record Accounted (xs : List Call) (n : ℕ) : Type 0 where
  pub adds : length (of n (raised_all blank xs)) ≡ takings n blank xs + lost n xs + count_of n (after_all blank xs).log
  pub holds : of n (notices_in (after_all blank xs).log) ≡ drop (takings n blank xs + lost n xs) (of n (raised_all blank xs))
  pub counts : dropped_of n (after_all blank xs).log ≡ min (lost n xs) 4294967295

pub record Logged (xs : List Call) : Type 0 where
  -- "one log of 64 notices, each with its port number": at most 64, each with a port 1 to 4
  pub sound : Sound (after_all blank xs).log
  -- it holds what a plain list holds under the same writes and takings, of which `lost` speaks
  pub follows : notices_in (after_all blank xs).log ≡ model_steps [] (steps blank xs)
  pub accounted : (n : ℕ) → PortNumber n → Accounted xs n
  -- "So a port with 16 or fewer held loses none by another's writes.": nor by anything that happens at the others
  pub undisturbed : (ys : List Call) (n : ℕ) → PortNumber n → count_of n (after_all blank xs).log ≤ 16 → elsewhere n ys ≡ true
      → Undisturbed (after_all blank xs).log (after_all blank (xs ++ ys)).log n
  -- by further calls without a taking of its own, a port's newest 16 notices (or all, if fewer) are the newest of what it held and then raised
  -- itself, whatever happens at the others
  pub newest : (ys : List Call) (n : ℕ) → PortNumber n → untaken_at n ys ≡ true
      → newest16 (of n (notices_in (after_all blank (xs ++ ys)).log)) ≡ newest16 (of n (notices_in (after_all blank xs).log) ++ of n (raised_all (after_all blank xs) ys))
