-- `walk::judge_end` meets its contract: a law for no control or several, for one kept before, and for one that came. Assumes nothing.
use Rattle.walk.proofs.HaltingLaws.{end_other, end_kept, end_came}
use Rattle.walk.proofs.judge_end.Goals as goal

pub returns-then-found-ne1 : goal.returns-then-found-ne1
returns-then-found-ne1 c = search end_other

pub returns-then-count-ne0 : goal.returns-then-count-ne0
returns-then-count-ne0 c = search end_kept

pub returns : goal.returns
returns c = search end_came
