-- `local_values` meets its contract. Assumes nothing.
use Rattle.std.proofs.Common.{rules, ◌∙◌}
use Rattle.std.proofs.lemmas.Iterator.{YieldsList-from_slice}
use Rattle.std.proofs.lemmas.Iterator.Search.{all_from_yields_List}
use borrow.Author.Tests.{tests}
use Rattle.applications.specs.Entries.{entries, local_entry}
use Rattle.applications.specs.EntriesLaws.{local_listed}
use Rattle.applications.proofs.local_values.Goals as goal

pub returns : goal.returns
unfolding local_entry
returns c =
    all_from_yields_List local_entry _ _ _ c.all.ensures.ran (YieldsList-from_slice (entries c.args.p.now) cc) (λ x b q k. search (rules, tests))
    ∙ local_listed c.args.p.now
