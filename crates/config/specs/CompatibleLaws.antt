-- Compatibility of two ends' parameters: what one end finds the other finds, and valid parameters suit themselves. Assumes nothing.
use Rattle.std.specs.Prelude.{ℕ, ◌≤◌, ◌<◌, ◌≡◌, Bool, ◌&&◌, List, take}
use Rattle.std.proofs.Common.{arith, sym, ◌∙◌}
use Rattle.std.proofs.Math.Path.{refl, ap}
use Rattle.std.proofs.Math.Bool.{true, false, not}
use borrow.Author.Tests.{ltb-true, ltb-false, eq-eqb, eqb-true, eqb-false, not-true}
use Rattle.octets.specs.Words.{◌is◌, ◌below◌}
use Rattle.octets.specs.Octets.{same}
use Rattle.octets.specs.Laws.{same_is, same_refl}
use Rattle.parameters.specs.declared.Feature.{Feature}
use Rattle.parameters.specs.declared.Feature.TheVariants.{Groups, Flow, Applications}
use Rattle.applications.specs.AllLaws.{both_true, all_at, all_of}
use Rattle.applications.specs.OursLaws.{compatible_ours}
use Rattle.applications.specs.ApplicationsLaws.{entries_told}
use Rattle.parameters.specs.Parameters.{mask, entry_count, id_of, selector_of, map_of, same_name, all_from, new_name, is_ours, ours, valid, clash, clear_of, compatible}

-- ---- symmetric

is_comm : (a b : ℕ) → a is b ≡ b is a
is_comm a b = both_true (a is b) (b is a) (λ e. eq-eqb b a (sym (eqb-true a b e))) (λ e. eq-eqb a b (sym (eqb-true b a e)))

same_turned : (a b : List ℕ) → same a b ≡ true → same b a ≡ true
same_turned a b e = rw (same_is a b e) (same_refl b)

same_comm : (a b : List ℕ) → same a b ≡ same b a
same_comm a b = both_true (same a b) (same b a) (same_turned a b) (same_turned b a)

and_turned : (a b c d : Bool) → (a && b && c && d) ≡ (a && c && b && d)
and_turned false b c d = refl
and_turned true true true d = refl
and_turned true true false d = refl
and_turned true false true d = refl
and_turned true false false d = refl

module _ (p : List ℕ) (i : ℕ) (q : List ℕ) (j : ℕ) where
  name_comm : same_name p i q j ≡ same_name q j p i
  unfolding same_name
  name_comm = rw (is_comm (id_of p i) (id_of q j), is_comm (selector_of p i) (selector_of q j))

  clash_comm : clash p i q j ≡ clash q j p i
  unfolding clash
  clash_comm =
      rw (name_comm, is_comm (map_of p i) (map_of q j))
      (and_turned (same_name q j p i) (is_ours p i) (is_ours q j) (not (map_of q j is map_of p i)))

clear_turned : (p q : List ℕ) → compatible Applications p q ≡ true → compatible Applications q p ≡ true
unfolding compatible clear_of
clear_turned p q e =
    all_of (entry_count q) 0 (clear_of q p)
    (λ j h k.
    all_of (entry_count p) 0 (λ i. not (clash q j p i))
    (λ i l m.
    ap not (clash_comm q j p i)
    ∙ all_at (entry_count q) 0 (λ j. not (clash p i q j)) (all_at (entry_count p) 0 (clear_of p q) e i l m) j h k))

pub compatible_comm : (f : Feature) (p q : List ℕ) → compatible f p q ≡ compatible f q p
unfolding compatible
compatible_comm Groups p q = same_comm (take 12 p) (take 12 q)
compatible_comm Flow p q = is_comm (mask p) (mask q)
compatible_comm Applications p q =
    both_true (compatible Applications p q) (compatible Applications q p) (clear_turned p q) (clear_turned q p)

-- ---- reflexive

-- the names of entries are new: those that lie apart have different names
module _ (p : List ℕ) (new : all_from (entry_count p) 0 (new_name p) ≡ true) where
  names_apart : (i j : ℕ) → i < entry_count p → j < i → same_name p i p j ≡ false
  unfolding new_name
  names_apart i j h k =
      let here : new_name p i ≡ true = all_at (entry_count p) 0 (new_name p) new i (omega arith) (omega arith) in
      not-true (same_name p i p j) (all_at i 0 (λ j. not (same_name p i p j)) here j (omega arith) (omega arith))

  clear_self : (i j : ℕ) → i < entry_count p → j < entry_count p → clash p i p j ≡ false
  unfolding clash
  clear_self i j h k = before (j below i) refl
    where
      and_false : (a b c : Bool) → (a && b && c && false) ≡ false
      and_false true true true = refl
      and_false true true false = refl
      and_false true false c = refl
      and_false false b c = refl

      at_or_behind : (b : Bool) → i is j ≡ b → i ≤ j → clash p i p j ≡ false
      at_or_behind true q l =
          rw (eq-eqb (map_of p i) (map_of p j) (ap (λ (k : ℕ). map_of p k) (eqb-true i j q))) (and_false (same_name p i p j) (is_ours p i) (is_ours p j))
      at_or_behind false q l = let d : i ≡ j → ⊥ = eqb-false i j q in rw (name_comm p i p j, names_apart j i k (omega arith))

      before : (b : Bool) → j below i ≡ b → clash p i p j ≡ false
      before true q = rw (names_apart i j h (ltb-true j i q))
      before false q = at_or_behind (i is j) refl (ltb-false j i q)

  clear_of_self : compatible Applications p p ≡ true
  unfolding compatible clear_of
  clear_of_self =
      all_of (entry_count p) 0 (clear_of p p)
      (λ i h k. all_of (entry_count p) 0 (λ j. not (clash p i p j)) (λ j l m. ap not (clear_self i j (omega arith) (omega arith))))

-- what is ours of them decides
ours_decides : (f : Feature) (p : List ℕ) → compatible f p p ≡ compatible f (ours f p) (ours f p)
ours_decides f p = sym (compatible_ours f p p) ∙ compatible_comm f p (ours f p) ∙ sym (compatible_ours f (ours f p) p)

pub compatible_refl : (f : Feature) (p : List ℕ) → valid f p ≡ true → compatible f p p ≡ true
unfolding compatible
compatible_refl Groups p e = same_refl (take 12 p)
compatible_refl Flow p e = eq-eqb (mask p) (mask p) refl
compatible_refl Applications p e = ours_decides Applications p ∙ clear_of_self (ours Applications p) (entries_told p e).new

-- the same octets as valid ones suit them
pub compatible_same : (f : Feature) (p q : List ℕ) {b : Bool} → valid f q ≡ true → b ≡ same p q → b ≡ true → true ≡ compatible f p q
compatible_same f p q v e h = rw (same_is p q (sym e ∙ h)) (sym (compatible_refl f q v))

-- the applications among parameters that are valid
pub valid_applications_lem : (f : Feature) (q : List ℕ) → f ≡ Applications → valid f q ≡ true → valid Applications q ≡ true
valid_applications_lem f q h v = rw h at v
