-- `bad_priority` meets its contract. Assumes nothing.
use Rattle.std.proofs.Common.{◌≡◌, rules, true, false}
use Rattle.std.proofs.lemmas.Iterator.{first_from_Range}
use borrow.Author.Tests.{tests}
use Rattle.faults.specs.Faults.{good_priority, bad_priority}
use Rattle.faults.specs.FaultsLaws.{is_first_not}
use Rattle.faults.proofs.bad_priority.Goals as goal

pub returns : goal.returns
unfolding bad_priority good_priority
returns c =
    is_first_not (good_priority c.args.p.now) 8 0 _
    (first_from_Range _ _ _ _ (λ x. good_priority c.args.p.now x ≡ false) (λ x. good_priority c.args.p.now x ≡ true) c.find.ensures.ran
    (λ x q k. search (rules, tests)) (λ x q k. search (rules, tests)))
