-- Where two runs of octets begin to differ, and a frame beside what the port writes: a law for each way out, with premises in the form in which
-- tests and calls leave them. Assumes nothing.
use Prim.Native.Nat.{ℕ, suc, ◌+◌, ◌≤◌, ◌<◌}
use Rattle.std.proofs.Common.{arith, zero-add, ap, ◌∙◌, drop_of_length-le}
use Rattle.std.proofs.Math.Numerals.{add-one}
use Rattle.std.proofs.Math.Path.{◌≡◌, refl, sym}
use Rattle.std.specs.Prelude.{min, leb, Bool, not, ◌&&◌, List, [], ◌∷◌, ◌++◌, take, replicate, if◌then◌else◌, Some, None}
use Rattle.std.proofs.Math.Bool.{true, false}
use Rattle.std.proofs.Math.ListN.{length, drop, length-replicate}
use Rattle.std.proofs.Math.Seq.{drop-cons, take-append_seam}
use borrow.Author.Tests.{le-ltb, eq-eqb, ne_eqb, eqb-true, eqb-false, not-true, not-false, leb-true, leb-false}
use Rattle.octets.specs.Words.{◌is◌}
use Rattle.octets.specs.Octets.{at, same}
use Rattle.port.specs.declared.Port.{Port}
use Rattle.port.specs.Types.{Written}
use Rattle.port.specs.Parts.{running}
use Rattle.port.specs.Writing.{frame, to_write, output, Wrote}
use Rattle.port.specs.WritingLaws.{FrameLength}
use Rattle.comparison.specs.Comparison.{is_due, differing, compared_with}

-- ---- where two runs begin to differ: the first i octets are the same, and the rest decides

pub record Sharing (a b : List ℕ) (i : ℕ) : Type 0 where
  pub within : i ≤ length a
  pub same : i + differing (drop i a) (drop i b) ≡ differing a b

pub sharing_start : (a b : List ℕ) → Sharing a b 0
sharing_start a b = record { within = omega arith; same = zero-add (differing a b) }

ends_none : (x : List ℕ) → differing x [] ≡ 0
unfolding differing
ends_none [] = refl
ends_none (c ∷ x) = refl

module _ {a b : List ℕ} {i : ℕ} where
  pub sharing_on : Sharing a b i → i < length a → i < length b → at a i ≡ at b i → Sharing a b (i + 1)
  unfolding differing
  sharing_on r h k e =
      let s : i + differing (at a i ∷ drop (suc i) a) (at b i ∷ drop (suc i) b) ≡ differing a b = rw (drop-cons a i 0 h, drop-cons b i 0 k) at r.same in
      let t : i + suc (differing (drop (suc i) a) (drop (suc i) b)) ≡ differing a b = rw (eq-eqb (at a i) (at b i) e) at s in
      record { within = omega arith; same = rw add-one (omega (arith, t)) }

  pub sharing_differs : Sharing a b i → i < length a → i < length b → (at a i ≡ at b i → ⊥) → i ≡ differing a b
  unfolding differing
  sharing_differs r h k n =
      let s : i + differing (at a i ∷ drop (suc i) a) (at b i ∷ drop (suc i) b) ≡ differing a b = rw (drop-cons a i 0 h, drop-cons b i 0 k) at r.same in
      let t : i + 0 ≡ differing a b = rw (ne_eqb (at a i) (at b i) n) at s in
      omega (arith, t)

  sharing_short : Sharing a b i → length b ≤ i → i ≡ differing a b
  sharing_short r h =
      let t : i + 0 ≡ differing a b = rw (drop_of_length-le b h, ends_none (drop i a)) at r.same in
      omega (arith, t)

  sharing_all : Sharing a b i → length a ≤ i → i ≡ differing a b
  unfolding differing
  sharing_all r h =
      let t : i + 0 ≡ differing a b = rw (drop_of_length-le a h) at r.same in
      omega (arith, t)

  pub sharing_end : {n : ℕ} → Sharing a b i → n ≡ min (length a) (length b) → n ≤ i → i ≤ n → n ≡ differing a b
  sharing_end {n} r e h k = here (leb (length a) (length b)) refl
    where
      z : n ≡ i
      z = omega arith

      here : (q : Bool) → leb (length a) (length b) ≡ q → n ≡ differing a b
      here true q = let l : length a ≤ i = omega (arith, e, h, k, leb-true (length a) (length b) q) in z ∙ sharing_all r l
      here false q = let l : length b ≤ i = omega (arith, e, h, k, leb-false (length a) (length b) q) in z ∙ sharing_short r l

next_is : (m n : ℕ) → (suc m is suc n) ≡ (m is n)
next_is m n = by (m is n) refl
  where
    by : (b : Bool) → (m is n) ≡ b → (suc m is suc n) ≡ b
    by true q = eq-eqb (suc m) (suc n) (ap suc (eqb-true m n q))
    by false q = ne_eqb (suc m) (suc n) (λ e. eqb-false m n q (omega (arith, e)))

-- two runs are the same exactly if they differ at the end of both
pub same_whole : (a b : List ℕ) → (differing a b is length a && differing a b is length b) ≡ same a b
unfolding differing same
same_whole [] [] = refl
same_whole [] (y ∷ b) = rw (ne_eqb 0 (suc (length b)) (λ e. omega arith)) refl
same_whole (x ∷ a) [] = rw (ne_eqb 0 (suc (length a)) (λ e. omega arith)) refl
same_whole (x ∷ a) (y ∷ b) = by (x is y) (same_whole a b)
  where
    by : (q : Bool) → (differing a b is length a && differing a b is length b) ≡ same a b
        → ((if q then suc (differing a b) else 0) is suc (length a) && (if q then suc (differing a b) else 0) is suc (length b)) ≡ (q && same a b)
    by true e = rw (next_is (differing a b) (length a), next_is (differing a b) (length b)) e
    by false e = rw (ne_eqb 0 (suc (length a)) (λ z. omega arith)) refl

-- ---- a frame beside what the port writes

module _ (p : Port) {r : Bool} (er : r ≡ running p) where
  pub compare_stopped : (x : List ℕ) → not r ≡ true → Some 0 ≡ compared_with p x
  unfolding compared_with is_due to_write
  compare_stopped x t =
      let s : running p ≡ false = sym er ∙ not-true r t in
      rw (s, ends_none x) refl

  module _ (t : not r ≡ false) (x : List ℕ) {k place : ℕ} {o b out : List ℕ} {y : Written} (lk : FrameLength p k) (eo : o ≡ x)
      (w : Wrote p (replicate 513 0) y out) (eb : b ≡ take k out) (ep : place ≡ differing o b) where
    runs : running p ≡ true
    runs = sym er ∙ not-false r t

    place_is : place ≡ differing x (frame p)
    unfolding output
    place_is =
        let z : length {A = ℕ} (replicate 513 0) ≡ 513 = length-replicate {A = ℕ} 513 0 in
        let q : out ≡ frame p ++ drop (length (frame p)) (replicate 513 0) = w.octets ∙ rw (runs, le-ltb (length {A = ℕ} (replicate 513 0)) (length (frame p)) (omega (arith, lk.is, lk.small, z))) refl in
        let g : b ≡ frame p = eb ∙ rw (lk.is, q) (take-append_seam (frame p) (drop (length (frame p)) (replicate 513 0))) in
        ep ∙ rw (eo, g) refl

    due_is : (place is length o && place is k) ≡ is_due p x
    unfolding is_due
    due_is = rw (eo, place_is, lk.is, runs) (same_whole x (frame p))

    pub compare_due : place ≡ length o → place ≡ k → None ≡ compared_with p x
    unfolding compared_with
    compare_due e f = let d : true ≡ is_due p x = rw (eq-eqb place (length o) e, eq-eqb place k f) at due_is in rw (← d) refl

    other : (place is length o && place is k) ≡ false → Some place ≡ compared_with p x
    unfolding compared_with to_write
    other e = let d : is_due p x ≡ false = sym due_is ∙ e in rw (d, place_is, runs) refl

    pub compare_long : (place ≡ length o → ⊥) → Some place ≡ compared_with p x
    compare_long n = other (rw (ne_eqb place (length o) n) refl)

    pub compare_short : place ≡ length o → (place ≡ k → ⊥) → Some place ≡ compared_with p x
    compare_short e n = other (rw (eq-eqb place (length o) e, ne_eqb place k n) refl)
