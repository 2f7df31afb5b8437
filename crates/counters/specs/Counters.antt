-- What is counted of a line, on the values that the functions hold: refusals, reasons that became others, and frames up to the moment when both
-- ends are settled. What this comes to over a whole capture is Replay: see Replayed.
use Rattle.std.specs.Prelude.{ℕ, ◌-◌, Bool, true, ◌&&◌, List, set, replicate, if◌then◌else◌}
use Rattle.octets.specs.Words.{◌below◌, ◌is◌}
use Rattle.octets.specs.Octets.{at}
use Rattle.feature.specs.declared.State.{State}
use Rattle.feature.specs.Reasons.{reason_number}
use Rattle.port.specs.declared.Port.{Port}
use Rattle.port.specs.Settled.{settled}
use Rattle.numerals.specs.Numerals.{more}
use Rattle.parameters.specs.declared.Each.{Each}

-- how often each feature's reason became one of eight: a row for each feature
abbrev pub Changes : Type 0
Changes = Each (List ℕ)

-- one more at place i of a row of eight, if it has that place
unfoldable pub counted : List ℕ → ℕ → List ℕ
counted r i = if i below 8 then set r i (more (at r i)) else r

-- a refusal's number, 1 to 8, or 0
unfoldable pub refusal_counted : List ℕ → ℕ → List ℕ
refusal_counted r n = if n below 1 then r else counted r (n - 1)

-- a reason, by its number, before and after
unfoldable pub reason_counted : List ℕ → ℕ → ℕ → List ℕ
reason_counted r before after = if before is after then r else if after below 2 then r else counted r (after - 2)

abbrev pub reason_of : State → ℕ
reason_of x = reason_number x.outcome.reason

unfoldable pub changed : Changes → Port → Port → Changes
changed c p q =
    record {
      groups = reason_counted c.groups (reason_of p.groups) (reason_of q.groups);
      flow = reason_counted c.flow (reason_of p.flow) (reason_of q.flow);
      applications = reason_counted c.applications (reason_of p.applications) (reason_of q.applications);
    }

unfoldable pub further : Bool → ℕ → ℕ
further rest n = if rest then n else more n

unfoldable pub rests : Bool → Port → Port → Bool
rests rest a b = if rest then true else settled a && settled b

-- at the start
abbrev pub unchanged : Changes
unchanged = record { groups = replicate 8 0; flow = replicate 8 0; applications = replicate 8 0 }
