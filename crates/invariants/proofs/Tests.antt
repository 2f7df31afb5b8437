-- Tests as equations: of numbers, of two Booleans, of the three features. Assumes nothing.
use Prim.Native.Nat.{ℕ}
use mathlib.Core.Path.{◌≡◌, refl, sym}
use mathlib.Core.Bool.{Bool, true, false, not, ◌&&◌, ◌||◌, beq, false≢true}
use mathlib.Core.Logic.{◌⊎◌, inl, inr}
use borrow.Author.Tests.{eq-eqb}
use Rattle.octets.specs.Words.{◌is◌}
use Rattle.octets.specs.Laws.{and_left, and_right}
use Rattle.parameters.specs.declared.Feature.{Feature}
use Rattle.parameters.specs.declared.Feature.TheVariants.{Groups, Flow, Applications}
use Rattle.port.specs.Parts.{some, each}

pub is_same : (n : ℕ) → (n is n) ≡ true
is_same n = eq-eqb n n refl

pub beq_same : (b : Bool) → beq b b ≡ true
beq_same true = refl
beq_same false = refl

pub beq_not : (a b : Bool) → not (beq a b) ≡ false → a ≡ b
beq_not true true e = refl
beq_not true false e = e
beq_not false true e = sym e
beq_not false false e = refl

-- ---- two Booleans

pub and_known : (a b : Bool) → (a ≡ true → b ≡ false) → (a && b) ≡ false
and_known true b h = h refl
and_known false b h = refl

pub and_false_of : (a b : Bool) → (a && b) ≡ false → a ≡ true → b ≡ false
and_false_of true b e h = e
and_false_of false b e h = absurd (false≢true h)

pub or_cases : (a b : Bool) → (a || b) ≡ true → (a ≡ true) ⊎ (b ≡ true)
or_cases true b e = inl refl
or_cases false b e = inr e

or_left : (a b : Bool) → (a || b) ≡ false → a ≡ false
or_left true b e = e
or_left false b e = refl

or_right : (a b : Bool) → (a || b) ≡ false → b ≡ false
or_right true b e = absurd (false≢true (sym e))
or_right false b e = e

-- ---- the three features

module _ (test : Feature → Bool) where
  pub some_false : some test ≡ false → (f : Feature) → test f ≡ false
  some_false e Groups = or_left (test Groups) (test Flow) (or_left (test Groups || test Flow) (test Applications) e)
  some_false e Flow = or_right (test Groups) (test Flow) (or_left (test Groups || test Flow) (test Applications) e)
  some_false e Applications = or_right (test Groups || test Flow) (test Applications) e

  pub none_of : ((f : Feature) → test f ≡ false) → some test ≡ false
  none_of h = rw (h Groups, h Flow, h Applications)

  pub each_true : each test ≡ true → (f : Feature) → test f ≡ true
  each_true e Groups = and_left (test Groups) (test Flow) (and_left (test Groups && test Flow) (test Applications) e)
  each_true e Flow = and_right (test Groups) (test Flow) (and_left (test Groups && test Flow) (test Applications) e)
  each_true e Applications = and_right (test Groups && test Flow) (test Applications) e
