-- `read_form` meets its contract: the words before `place` are what is due, and the rest decides. Assumes nothing.
use Rattle.std.proofs.Common.{◌≡◌, length, arith}
use Rattle.std.proofs.lemmas.Bool.Decides.{nat_tests}
use Rattle.fields.specs.ReadingLaws.{reading_start, reading_more, reading_not, reading_end, ended_within}
use Rattle.fields.proofs.read_form.Goals as goal

pub loop-place-init : goal.loop-place-init
loop-place-init c = search reading_start

pub returns-then-is_empty-clause-value : goal.returns-then-is_empty-clause-value
returns-then-is_empty-clause-value c = let h : length c.word-w.result.now ≡ 0 = grind (arith, nat_tests) in search reading_end

pub returns-then-is_empty-clause-place : goal.returns-then-is_empty-clause-place
returns-then-is_empty-clause-place c = rw c.ended.ensures (ended_within _ _ _ (omega arith))

pub returns-in_default-clause-value : goal.returns-in_default-clause-value
returns-in_default-clause-value c = let h : length c.word-w.result.now ≡ 0 → ⊥ = grind (arith, nat_tests) in search reading_not

pub loop-place-preserved : goal.loop-place-preserved
loop-place-preserved c = let h : length c.word-w.result.now ≡ 0 → ⊥ = grind (arith, nat_tests) in search reading_more
