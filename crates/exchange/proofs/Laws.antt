-- Laws of the rules, once for all features: lower of two, and the Syncd law. Assumes nothing.
use Prim.Native.Nat.{ℕ, ◌≤◌}
use mathlib.Core.Path.{◌≡◌, refl}
use mathlib.Core.Logic.{◌⊎◌, inl, inr, ⊎_elim, ◌↔◌}
use mathlib.Core.Bool.{Bool, true, false, not, ◌&&◌, or-true}
use lib.ListN.{length}
use borrow.Author.Tests.{le-ltb, eq-eqb, eqb-true}
use Rattle.std.specs.Prelude.{if◌then◌else◌}
use Rattle.octets.specs.Words.{◌is◌}
use Rattle.octets.specs.Laws.{and_left, and_right}
use Rattle.parameters.specs.declared.Feature.{Feature}
use Rattle.parameters.specs.Parameters.{valid}
use Rattle.feature.specs.declared.Reason.TheVariants.{Bad, Waiting}
use Rattle.feature.specs.declared.Setting.{Setting}
use Rattle.feature.specs.declared.State.{State}
use Rattle.feature.specs.Outcome.{Received, oper_of, max_of, parameters_of, lower, held_peer, without_peer, judged, outcome}
use Rattle.feature.specs.RulesLaws.{judged_oper}
use Rattle.turn.specs.Turn.{acknowledged}
use Rattle.invariants.proofs.Tests.{or_cases}

-- one readable sub-TLV: Oper becomes the lower of the two Max, whatever was received
pub lower_of_two : (f : Feature) (max : ℕ) (s : Setting) (oper : ℕ) (r : Received) →
    r.count ≡ 1 → 4 ≤ length r.value → oper_of r.value ≤ max_of r.value → (outcome f max s oper r).oper ≡ lower max (max_of r.value)
unfolding outcome
lower_of_two f max s oper r one long within =
    simp (one, le-ltb (length r.value) 4 long, le-ltb (max_of r.value) (oper_of r.value) within)
    (by (oper_of r.value is lower max (max_of r.value)) (valid f (parameters_of r.value)))
  where
    by : (a b : Bool) →
        (if not a then without_peer Waiting (lower max (max_of r.value)) false
        else if not b then without_peer Bad (lower max (max_of r.value)) true
        else judged f s (lower max (max_of r.value)) (held_peer f r.value)).oper
        ≡ lower max (max_of r.value)
    by false b = refl
    by true false = refl
    by true true = judged_oper f s (lower max (max_of r.value)) (held_peer f r.value)

-- a feature is Syncd after step 3 exactly if it was, or if its FeatureSeqNo equals both RcvdAckNo and SeqNo
pub syncd_law : (rcvd seq : ℕ) (x : State) →
    ((acknowledged rcvd seq x).syncd ≡ true) ↔ ((x.syncd ≡ true) ⊎ ((x.sequence ≡ rcvd) × (x.sequence ≡ seq)))
unfolding acknowledged
syncd_law rcvd seq x = (
  λ e. ⊎_elim inl
      (λ h. inr
      (eqb-true x.sequence rcvd (and_left (x.sequence is rcvd) (x.sequence is seq) h), eqb-true x.sequence seq (and_right (x.sequence is rcvd) (x.sequence is seq) h)))
      (or_cases x.syncd (x.sequence is rcvd && x.sequence is seq) e),
  ⊎_elim (λ h. rw h) (λ h. rw (eq-eqb x.sequence rcvd h.0, eq-eqb x.sequence seq h.1) (or-true x.syncd)),
)
