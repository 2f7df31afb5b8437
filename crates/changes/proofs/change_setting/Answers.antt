-- `changes::change_setting` meets its contract. Assumes nothing.
use Rattle.parameters.specs.declared.Feature.TheVariants.{Groups, Flow, Applications}
use Rattle.parameters.specs.Parameters.{feature_number}
use Rattle.changes.proofs.ChangeLaws.{change_unknown}
use Rattle.changes.proofs.change_setting.Goals as goal

pub returns-in-Err : goal.returns-in-Err
unfolding feature_number
returns-in-Err c =
    change_unknown _ _ _ _ (λ e. c.in-Err.ensures Groups e) (λ e. c.in-Err.ensures Flow e) (λ e. c.in-Err.ensures Applications e) c.refuse.ensures
