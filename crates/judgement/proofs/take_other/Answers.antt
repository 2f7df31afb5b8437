-- `take_other` meets its contract. Assumes nothing.
use Rattle.std.proofs.Common.{sym, ◌∙◌}
use Rattle.judgement.proofs.StepLaws.{other_unread, other_passed, other_changed}
use Rattle.judgement.proofs.take_other.Goals as goal
use Rattle.judgement.proofs.take_other.Goals.{in-Ok+in_default-told_by, in_default}

pub returns-in-Some : goal.returns-in-Some
returns-in-Some c =
    other_changed c.args.t.now c.args.line.now (sym c.parse_event.ensures ∙ c.in-Ok.is) (sym c.told_by.ensures ∙ c.in-Some.is) c.change-e.ensures c.with_change-t.ensures

pub returns : goal.returns
returns c = elim c.match-parse_event.branch [
  | in-Ok+in_default-told_by w ↦
      other_passed c.args.t.now c.args.line.now (sym c.parse_event.ensures ∙ w.in-Ok.is) (sym w.told_by.ensures ∙ w.in_default-told_by.is) c.with_passed-t.ensures
  | in_default w ↦ other_unread c.args.t.now c.args.line.now (sym c.parse_event.ensures ∙ w.in_default.is) c.with_passed-t.ensures
]
