-- `report` meets its contract. Assumes nothing.
use Rattle.tally.specs.TextLaws.{report_short, report_laid}
use Rattle.std.proofs.Common.{arith}
use Rattle.tally.proofs.text.report.Goals as goal

pub returns-then-out-lt-ROOM : goal.returns-then-out-lt-ROOM
returns-then-out-lt-ROOM c = search report_short

pub returns : goal.returns
returns c = report_laid c.args.t _ (omega (arith, c.if-out-lt-ROOM.false)) c.put_row-a.ensures c.put_row-b.ensures c.put_changes-c.ensures c.put_changes-d.ensures c.put_settled.ensures
