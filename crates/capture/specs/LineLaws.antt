-- The form of a line and the way to its line feed: a law for each way out, with premises in the form in which tests and calls leave
-- them. Assumes nothing.
use Prim.Native.Nat.{ℕ, zero, suc, ◌+◌, ◌-◌, ◌≤◌, ◌<◌}
use native.Mathlib.Omega.{arith}
use Rattle.std.proofs.Math.Numerals.{add-one}
use Rattle.std.proofs.Common.{add-zero, zero-add, ap, ◌∙◌, drop_of_length-le, length-drop, drop-drop}
use Rattle.std.specs.Prelude.{◌≡◌, Bool, not, ◌&&◌, ◌||◌, List, [], ◌∷◌, take, drop, if◌then◌else◌}
use Rattle.std.proofs.Math.Path.{refl, sym}
use Rattle.std.proofs.Math.Bool.{true, false}
use Rattle.std.proofs.Math.ListN.{length}
use Rattle.std.proofs.Math.Seq.{drop-cons}
use borrow.Author.Tests.{eq-eqb, ne_eqb, not-true, not-false}
use Rattle.octets.specs.Words.{◌is◌}
use Rattle.octets.specs.Octets.{at, same}
use Rattle.words.specs.Text.{is_octets}
use Rattle.capture.specs.declared.Form.{Form}
use Rattle.capture.specs.declared.Form.TheVariants.{FromA, FromB, Other}
use Rattle.capture.specs.Capture.{form_of}
use Rattle.capture.specs.Steps.{before, feed_in, Along, Before}

-- ---- the form of a line, by its first two octets and its hex digits

form_by : Bool → Bool → Bool → Form
form_by a b o = if a && o then FromA else if b && o then FromB else Other

-- the first two octets are a letter, which is not 0, and a space
headed : (c : ℕ) (l : List ℕ) → (c ≡ 0 → ⊥) → same (take 2 l) (c ∷ 32 ∷ []) ≡ (at l 0 is c && at l 1 is 32)
unfolding same
headed c [] n = rw (ne_eqb 0 c (λ e. n (sym e))) refl
headed c (x ∷ []) n = elim (x is c) as (λ t. (t && false) ≡ (t && false)) [ true ↦ refl | false ↦ refl ]
headed c (x ∷ y ∷ l) n = last (x is c) (y is 32)
  where
    last : (p q : Bool) → (p && (q && true)) ≡ (p && q)
    last true true = refl
    last true false = refl
    last false q = refl

module _ (l : List ℕ) where
  told : form_of l ≡ form_by (at l 0 is 65 && at l 1 is 32) (at l 0 is 66 && at l 1 is 32) (is_octets 513 (drop 2 l))
  unfolding form_of form_by
  told = rw (headed 65 l (λ e. absurd (omega arith)), headed 66 l (λ e. absurd (omega arith))) refl

  module _ {x : ℕ} (ex : x ≡ at l 1) where
    pub form_unspaced : (x ≡ 32 → ⊥) → Other ≡ form_of l
    unfolding form_by
    form_unspaced n = sym (told ∙ rw (← ex, ne_eqb x 32 n) (none (at l 0 is 65) (at l 0 is 66) (is_octets 513 (drop 2 l))))
      where
        none : (a b o : Bool) → (if a && false && o then FromA else if b && false && o then FromB else Other) ≡ Other
        none true true o = refl
        none true false o = refl
        none false true o = refl
        none false false o = refl

    module _ {w : List ℕ} {b : Bool} (h : x ≡ 32) (ew : w ≡ drop 2 l) (eb : b ≡ is_octets 513 w) where
      digits : b ≡ is_octets 513 (drop 2 l)
      digits = eb ∙ ap (is_octets 513) ew

      pub form_no_octets : not b ≡ true → Other ≡ form_of l
      unfolding form_by
      form_no_octets n = sym (told ∙ rw (← ex, eq-eqb x 32 h, ← digits, not-true b n) (none (at l 0 is 65) (at l 0 is 66)))
        where
          none : (a c : Bool) → (if a && true && false then FromA else if c && true && false then FromB else Other) ≡ Other
          none true true = refl
          none true false = refl
          none false true = refl
          none false false = refl

      module _ {y : ℕ} (n : not b ≡ false) (ey : y ≡ at l 0) where
        pub form_a : y ≡ 65 → FromA ≡ form_of l
        unfolding form_by
        form_a e = sym (told ∙ rw (← ex, eq-eqb x 32 h, ← digits, not-false b n, ← ey, eq-eqb y 65 e) refl)

        module _ (na : y ≡ 65 → ⊥) where
          pub form_b : y ≡ 66 → FromB ≡ form_of l
          unfolding form_by
          form_b e = sym (told ∙ rw (← ex, eq-eqb x 32 h, ← digits, not-false b n, ← ey, ne_eqb y 65 na, eq-eqb y 66 e) refl)

          pub form_neither : (y ≡ 66 → ⊥) → Other ≡ form_of l
          unfolding form_by
          form_neither nb = sym (told ∙ rw (← ex, eq-eqb x 32 h, ← digits, not-false b n, ← ey, ne_eqb y 65 na, ne_eqb y 66 nb) refl)

-- ---- a line feed among the first 16 octets: the first i are looked at, and the rest decides with them

pub record Seeking (s : List ℕ) (from : ℕ) (any : Bool) (i : ℕ) : Type 0 where
  pub few : i ≤ 16
  pub room : from + 16 ≤ length s
  pub same : (any || feed_in (16 - i) (drop (from + i) s)) ≡ feed_in 16 (drop from s)

pub seeking_start : (s : List ℕ) (from : ℕ) → from + 16 ≤ length s → Seeking s from false 0
seeking_start s from h = record { few = omega arith; room = h; same = rw (add-zero from) refl }

or_twice : (a b c : Bool) → (a || b || c) ≡ (a || (b || c))
or_twice true b c = refl
or_twice false b c = refl

or_false : (a : Bool) → (a || false) ≡ a
or_false true = refl
or_false false = refl

module _ {s : List ℕ} {from : ℕ} {any : Bool} {i : ℕ} where
  pub seeking_on : Seeking s from any i → i < 16 → Seeking s from (any || at s (from + i) is 10) (i + 1)
  unfolding feed_in
  seeking_on r h =
      let m : 16 - i ≡ suc (16 - (i + 1)) = omega arith in
      let k : from + i < length s = omega (arith, r.room) in
      let n : suc (from + i) ≡ from + (i + 1) = omega arith in
      record { few = omega arith; room = r.room; same = or_twice any (at s (from + i) is 10) _ ∙ rw (m, drop-cons s (from + i) 0 k, n) at r.same }

  pub seeking_end : Seeking s from any i → 16 ≤ i → any ≡ feed_in 16 (drop from s)
  unfolding feed_in
  seeking_end r h = let e : 16 - i ≡ 0 = omega arith in sym (or_false any) ∙ rw e at r.same

-- ---- the way to the first line feed

pub along_start : (s : List ℕ) → Along s 0
along_start s = record { within = omega arith; same = zero-add (before s) }

-- one octet more
passing_on : (c n : ℕ) (s : List ℕ) → (feed_in n s ≡ false → before s ≡ n + before (drop n s)) → (c is 10 || feed_in n s) ≡ false
    → (if c is 10 then 0 else suc (before s)) ≡ suc n + before (drop n s)
passing_on c n s f = here (c is 10)
  where
    here : (b : Bool) → (b || feed_in n s) ≡ false → (if b then 0 else suc (before s)) ≡ suc n + before (drop n s)
    here true e = let z : ◌≡◌ {A = ℕ} 0 1 = cc in absurd (omega arith)
    here false e = omega (arith, f e)

-- without a line feed among its first n octets, a run is n octets and what follows
passing : (n : ℕ) (s : List ℕ) → n ≤ length s → feed_in n s ≡ false → before s ≡ n + before (drop n s)
unfolding before feed_in
passing zero s h e = sym (zero-add (before s))
passing (suc n) [] h e = absurd (omega arith)
passing (suc n) (c ∷ s) h e = passing_on c n s (passing n s (omega arith)) e

module _ {s : List ℕ} {i : ℕ} where
  pub along_16 : {b : Bool} → Along s i → 16 ≤ length s - i → b ≡ feed_in 16 (drop i s) → b ≡ false → Along s (i + 16)
  along_16 r h e f =
      let p = passing 16 (drop i s) (omega (arith, length-drop i s)) (sym e ∙ f) in
      let d = drop-drop 16 i s in
      let q : i + 16 + before (drop 16 (drop i s)) ≡ before s = omega (arith, r.same) in
      record { within = omega (arith, r.within); same = rw d at q }

  pub along_stop : Along s i → i < length s → at s i ≡ 10 → Before s i
  unfolding before
  along_stop r h e = record { place = sym (add-zero i) ∙ rw (drop-cons s i 0 h, eq-eqb (at s i) 10 e) at r.same; within = r.within }

  pub along_on : Along s i → i < length s → (at s i ≡ 10 → ⊥) → Along s (i + 1)
  unfolding before
  along_on r h n =
      let t = rw (drop-cons s i 0 h, ne_eqb (at s i) 10 n) at r.same in
      record { within = omega arith; same = rw add-one (omega arith) }

  pub along_end : Along s i → length s ≤ i → Before s (length s)
  unfolding before
  along_end r h =
      let e : i ≡ length s = omega (arith, r.within) in
      let p : i ≡ before s = sym (add-zero i) ∙ rw (drop_of_length-le s h) at r.same in
      record { place = sym e ∙ p; within = omega arith }
