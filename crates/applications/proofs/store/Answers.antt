-- `store` meets its contract: of the entries before `entry` our own are stored, and zeros stand behind them. Assumes nothing.
use Rattle.applications.specs.KeepingLaws.{keeping_start, keeping_foreign, keeping_put, keeping_more, keeping_full, keeping_end}
use Rattle.applications.proofs.store.Goals as goal

pub loop-entry-init : goal.loop-entry-init
loop-entry-init c = search keeping_start

pub loop-entry-preserved-then-not-is_ours : goal.loop-entry-preserved-then-not-is_ours
loop-entry-preserved-then-not-is_ours c = search keeping_foreign

pub returns-then-size-ge96 : goal.returns-then-size-ge96
returns-then-size-ge96 c = search keeping_full

pub put-requires : goal.put-requires
put-requires c = search keeping_put

pub loop-entry-preserved : goal.loop-entry-preserved
loop-entry-preserved c = search keeping_more

pub returns : goal.returns
returns c = search keeping_end
