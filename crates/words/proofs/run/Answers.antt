-- `run` meets its contract. Assumes nothing.
use Rattle.std.proofs.Common.{◌∙◌}
use Rattle.words.specs.TextLaws.{run_place}
use Rattle.words.proofs.run.Goals as goal

pub returns : goal.returns
returns c = c.unwrap_or.ensures ∙ run_place c.args.spaces c.args.s.now c.run_end.ensures
