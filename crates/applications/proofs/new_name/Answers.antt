-- `new_name` meets its contract. Assumes nothing.
use Rattle.std.proofs.Common.{rules}
use Rattle.std.proofs.lemmas.Iterator.{YieldsList-from_slice}
use Rattle.std.proofs.lemmas.Iterator.Search.{all_from_yields_List}
use borrow.Author.Tests.{tests}
use Rattle.applications.specs.Entries.{other_name}
use Rattle.applications.proofs.new_name.Goals as goal

pub returns : goal.returns
unfolding other_name
returns c = all_from_yields_List (other_name c.args.e.now) _ _ _ c.all.ensures.ran (YieldsList-from_slice c.args.own.now cc) (λ x b q k. search (rules, tests))
