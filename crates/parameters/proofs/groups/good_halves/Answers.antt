-- `groups::good_halves` meets its contract. Assumes nothing.
use Rattle.std.proofs.Common.{rules, ◌∙◌}
use Rattle.std.proofs.lemmas.Iterator.{YieldsList-from_slice}
use Rattle.std.proofs.lemmas.Iterator.Search.{all_from_yields_List}
use borrow.Author.Tests.{tests}
use Rattle.parameters.specs.StepsLaws.{two_groups}
use Rattle.parameters.specs.GroupsLaws.{halves_all}
use Rattle.parameters.proofs.groups.good_halves.Goals as goal

pub returns : goal.returns
returns c =
    all_from_yields_List two_groups _ _ _ c.all.ensures.ran (YieldsList-from_slice c.args.s.now cc) (λ x b q k. search (rules, tests))
    ∙ halves_all c.args.s.now
