-- `machine::judge_held` meets its contract. Assumes nothing.
use Rattle.std.proofs.Common.{rules}
use Rattle.parameters.specs.Parameters.{compatible}
use Rattle.machine.specs.StateLaws.{judged_held}
use Rattle.machine.proofs.judge_held.Goals as goal

pub returns : goal.returns
returns c =
    judged_held c.args.f c.args.s c.args.oper c.args.p c.from.ensures c.content-desired.ensures c.content-theirs.ensures c.from-2.ensures
    (c.judge-decision.ensures (compatible c.args.f c.content-desired.result.now c.content-theirs.result.now) (λ b p. search rules)) c.outcome_of.ensures
