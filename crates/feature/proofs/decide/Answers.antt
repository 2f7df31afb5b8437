-- `feature::decide` meets its contract. Assumes nothing.
use Rattle.feature.specs.OutcomeLaws.{outcome_absent, outcome_duplicate, outcome_short, outcome_above, outcome_waiting, outcome_invalid, outcome_judged}
use Rattle.feature.proofs.decide.Goals as goal

pub returns-then-count-eq0 : goal.returns-then-count-eq0
returns-then-count-eq0 c = search outcome_absent

pub returns-then-count-gt1 : goal.returns-then-count-gt1
returns-then-count-gt1 c = search outcome_duplicate

pub returns-then-value-lt4 : goal.returns-then-value-lt4
returns-then-value-lt4 c = search outcome_short

pub returns-then-highest-theirs : goal.returns-then-highest-theirs
returns-then-highest-theirs c = search outcome_above

pub returns-then-theirs-low : goal.returns-then-theirs-low
returns-then-theirs-low c = search outcome_waiting

pub returns-then-not-valid : goal.returns-then-not-valid
returns-then-not-valid c = search outcome_invalid

pub returns : goal.returns
returns c = search outcome_judged
