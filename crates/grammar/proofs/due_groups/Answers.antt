-- `due_groups` meets its contract. Assumes nothing.
use Rattle.std.proofs.Common.{arith}
use Rattle.grammar.specs.GrammarLaws.{due_behind}
use Rattle.grammar.proofs.due_groups.Goals as goal

pub returns-in_default : goal.returns-in_default
returns-in_default c = due_behind c.args.i (omega arith)
