-- `feature::judge_value` meets its contract. Assumes nothing.
use Rattle.std.proofs.Common.{rules, ◌∙◌}
use Rattle.std.specs.Prelude.{◌&&◌}
use Rattle.parameters.specs.Parameters.{compatible}
use Rattle.feature.specs.OutcomeLaws.{asked, judged_asked, judged_value}
use Rattle.feature.proofs.judge_value.Goals as goal

pub returns : goal.returns
returns c =
    judged_value c.args.f c.args.s.now c.args.oper c.args.value.now c.switches_of-switches.ensures c.content-own.ensures c.flags_in-flags.ensures c.from-theirs.ensures
    (c.judge.ensures (asked c.switches_of-switches.result c.flags_in-flags.result && compatible c.args.f c.content-own.result.now c.from-theirs.result.now) (λ b p. search rules)
    ∙ judged_asked _ _ _ _)
