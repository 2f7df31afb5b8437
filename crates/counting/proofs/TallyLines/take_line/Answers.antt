-- `take_line` meets its contract. Assumes nothing.
use Rattle.counting.specs.StepLaws.{line_a, line_b, line_other}
use Rattle.counting.proofs.TallyLines.take_line.Goals as goal

pub returns-in-FromA : goal.returns-in-FromA
returns-in-FromA c =
    line_a c.args.self.now c.args.line.now c.form_of.ensures c.in-FromA.is c.handle-at_b.ensures c.more-self.ensures c.count_refusal.ensures c.count_reasons.ensures c.count_further-self.ensures c.at_rest-self.ensures

pub returns-in-FromB : goal.returns-in-FromB
returns-in-FromB c =
    line_b c.args.self.now c.args.line.now c.form_of.ensures c.in-FromB.is c.handle-at_a.ensures c.more-self-in-FromB.ensures c.count_refusal-in-FromB.ensures c.count_reasons-in-FromB.ensures c.count_further-self-in-FromB.ensures c.at_rest-self-in-FromB.ensures

pub returns-in-Other : goal.returns-in-Other
returns-in-Other c = line_other c.args.self.now c.args.line.now c.form_of.ensures c.in-Other.is c.more-self-in-Other.ensures
