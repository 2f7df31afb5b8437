-- `take_line` meets its contract. Assumes nothing.
use Rattle.judgement.proofs.StepLaws.{line_behind, line_due, line_other, line_given, line_no_frame}
use Rattle.judgement.proofs.JudgedLines.take_line.Goals as goal

pub returns-then-is_some : goal.returns-then-is_some
returns-then-is_some c = line_behind c.args.self.now c.args.line.now c.is_some.ensures c.if-is_some.true

pub returns-in-None : goal.returns-in-None
returns-in-None c =
    line_due c.args.self.now c.args.line.now c.is_some.ensures c.if-is_some.false c.form_of.ensures c.in-FromA.is c.compare.ensures c.in-None.is c.with_sent-self.ensures

pub returns-in-Some : goal.returns-in-Some
returns-in-Some c =
    line_other c.args.self.now c.args.line.now c.is_some.ensures c.if-is_some.false c.form_of.ensures c.in-FromA.is c.compare.ensures c.in-Some.is c.reject.ensures

pub returns-in-FromB : goal.returns-in-FromB
returns-in-FromB c =
    line_given c.args.self.now c.args.line.now c.is_some.ensures c.if-is_some.false c.form_of.ensures c.in-FromB.is c.handle-e.ensures c.with_given-self.ensures

pub returns-in-Other : goal.returns-in-Other
returns-in-Other c = line_no_frame c.args.self.now c.args.line.now c.is_some.ensures c.if-is_some.false c.form_of.ensures c.in-Other.is c.take_other.ensures
