-- The types of what a port answers and raises, as src/ names them.
use Rattle.std.specs.Prelude.{ℕ, Bool, Option, Result}
use Rattle.tlv.specs.declared.Refusal.{Refusal}
use Rattle.tlv.specs.declared.Rejection.{Rejection}
use Rattle.notices.specs.declared.Kind.{Kind}

abbrev pub Answer : Type 0
Answer = Result Bool Rejection

abbrev pub Raised : Type 0
Raised = Option Kind

abbrev pub Written : Type 0
Written = Result ℕ Refusal
