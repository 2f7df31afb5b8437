-- `high_selector` meets its contract. Assumes nothing.
use Rattle.std.specs.Prelude.{leb}
use Rattle.std.proofs.Common.{◌≡◌, rules, ◌∙◌}
use Rattle.std.proofs.lemmas.Iterator.{YieldsList-from_slice}
use Rattle.std.proofs.lemmas.Iterator.Search.{position_from_yields_List}
use borrow.Author.Tests.{tests}
use Rattle.parameters.specs.Parameters.{selector_of}
use Rattle.applications.specs.Entries.{entries}
use Rattle.faults.specs.Faults.{high_selector}
use Rattle.faults.specs.FaultsLaws.{high_searched, high_within}
use Rattle.faults.proofs.high_selector.Goals as goal

place : (c : goal.After-position) → c.position.result ≡ high_selector c.args.p.now
place c =
    position_from_yields_List (λ e. leb 2 (selector_of e 0)) _ _ _ c.position.ensures.ran (YieldsList-from_slice (entries c.args.p.now) cc) (λ x b q k. search (rules, tests))
    ∙ high_searched c.args.p.now

pub returns-clause-place : goal.returns-clause-place
returns-clause-place c = place c

pub returns-clause-within : goal.returns-clause-within
returns-clause-within c = rw (place c) (high_within c.args.p.now)
