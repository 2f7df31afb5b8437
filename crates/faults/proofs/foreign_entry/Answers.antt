-- `foreign_entry` meets its contract. Assumes nothing.
use Rattle.std.specs.Prelude.{not}
use Rattle.std.proofs.Common.{◌≡◌, rules, ◌∙◌}
use Rattle.std.proofs.lemmas.Iterator.{YieldsList-from_slice}
use Rattle.std.proofs.lemmas.Iterator.Search.{position_from_yields_List}
use borrow.Author.Tests.{tests}
use Rattle.parameters.specs.Parameters.{is_ours}
use Rattle.applications.specs.Entries.{entries}
use Rattle.faults.specs.Faults.{foreign_entry}
use Rattle.faults.specs.FaultsLaws.{foreign_searched, foreign_within}
use Rattle.faults.proofs.foreign_entry.Goals as goal

place : (c : goal.After-position) → c.position.result ≡ foreign_entry c.args.p.now
place c =
    position_from_yields_List (λ e. not (is_ours e 0)) _ _ _ c.position.ensures.ran (YieldsList-from_slice (entries c.args.p.now) cc) (λ x b q k. search (rules, tests))
    ∙ foreign_searched c.args.p.now

pub returns-clause-place : goal.returns-clause-place
returns-clause-place c = place c

pub returns-clause-within : goal.returns-clause-within
returns-clause-within c = rw (place c) (foreign_within c.args.p.now)
