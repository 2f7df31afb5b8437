-- Laws of octets and of lists that several crates use. Assumes nothing.
use borrow.Rule.Slice.PartMut.{put_mid}
use Rattle.std.specs.Prelude.{◌/◌, ◌%◌, ℕ, suc, ◌+◌, ◌≤◌, ◌<◌, ◌≡◌, refl, Bool, true, false, ◌&&◌, List, [], ◌∷◌, ◌++◌, set, drop}
use Rattle.std.proofs.Common.{arith, add-zero, add-suc, suc-add, ap, ◌∙◌, take_all, eq-eqb, eqb-true}
use Rattle.std.proofs.Math.Numerals.{add-one}
use Rattle.std.proofs.Math.Path.{sym}
use Rattle.std.proofs.Math.ListN.{length, get_or-eq_default, drop_of_length-le}
use Rattle.std.proofs.Math.Seq.{drop-cons}
use Rattle.std.proofs.lemmas.List.Edits.{sets, sets-eq}
use Rattle.std.proofs.lemmas.Slice.{put_mid-paste}
use Rattle.octets.specs.Words.{◌is◌}
use Rattle.octets.specs.Octets.{at, same, octets4}

pub past_end : (o : List ℕ) (i : ℕ) → length o ≤ i → 0 ≡ at o i
past_end o i h = sym (get_or-eq_default o 0 h)

-- ---- tests

-- what a conjunction of tests tells of each
pub and_left : (a b : Bool) → (a && b) ≡ true → a ≡ true
and_left true b e = refl
and_left false b e = e

pub and_right : (a b : Bool) → (a && b) ≡ true → b ≡ true
and_right true b e = e
and_right false true e = refl
and_right false false e = e

-- ---- equality of octets

pub same_is : (a b : List ℕ) → same a b ≡ true → a ≡ b
unfolding same
same_is [] [] e = refl
same_is [] (y ∷ b) e = let z : ◌≡◌ {A = ℕ} 0 1 = cc in absurd (omega arith)
same_is (x ∷ a) [] e = let z : ◌≡◌ {A = ℕ} 0 1 = cc in absurd (omega arith)
same_is (x ∷ a) (y ∷ b) e =
    let h : x ≡ y = eqb-true x y (and_left (x is y) (same a b) e) in
    let t : a ≡ b = same_is a b (and_right (x is y) (same a b) e) in
    cc

pub same_refl : (a : List ℕ) → same a a ≡ true
unfolding same
same_refl [] = refl
same_refl (x ∷ a) = rw (eq-eqb x x refl, same_refl a) refl

-- lengths differ
pub unlike : (a b : List ℕ) → (length a ≡ length b → ⊥) → false ≡ same a b
unfolding same
unlike [] [] n = absurd (n refl)
unlike [] (y ∷ b) n = refl
unlike (x ∷ a) [] n = refl
unlike (x ∷ a) (y ∷ b) n =
    elim (x is y) as (λ t. false ≡ (t && same a b)) [ true ↦ unlike a b (λ e. n (ap suc e)) | false ↦ refl ]

-- whether the first i are alike, and what is left decide
pub record Alike (a b : List ℕ) (alike : Bool) (i : ℕ) : Type 0 where
  pub long : length a ≡ length b
  pub below : i ≤ length a
  pub left : (alike && same (drop i a) (drop i b)) ≡ same a b

pub alike_start : {a b : List ℕ} → length a ≡ length b → Alike a b true 0
alike_start l = record { long = l; below = omega arith; left = refl }

and_three : (a b c : Bool) → (a && b && c) ≡ (a && (b && c))
and_three true b c = refl
and_three false b c = refl

and_nothing : (a : Bool) → (a && true) ≡ a
and_nothing true = refl
and_nothing false = refl

module _ {a b : List ℕ} {alike : Bool} {i : ℕ} where
  pub alike_more : Alike a b alike i → i < length a → Alike a b (alike && at a i is at b i) (i + 1)
  unfolding same
  alike_more p h =
      let k : i < length b = omega (arith, p.long) in
      record {
        long = p.long;
        below = omega arith;
        left =
            and_three alike (at a i is at b i) (same (drop (i + 1) a) (drop (i + 1) b))
            ∙ rw add-one (rw (drop-cons a i 0 h, drop-cons b i 0 k) at p.left);
      }

  pub alike_end : Alike a b alike i → length a ≤ i → alike ≡ same a b
  unfolding same
  alike_end p h =
      let k : length b ≤ i = omega (arith, p.long) in
      sym (and_nothing alike) ∙ (rw (drop_of_length-le a h, drop_of_length-le b k) at p.left)

-- ---- runs of stores

-- two runs of stores, one behind the other, are one
pub sets_append : (l : List ℕ) (i : ℕ) (vs ws : List ℕ) → sets l i (vs ++ ws) ≡ sets (sets l i vs) (i + length vs) ws
sets_append l i [] ws = ap (λ (k : ℕ). sets l k ws) (sym (add-zero i))
sets_append l i (a ∷ vs) ws =
    sets_append (set l i a) (suc i) vs ws ∙ ap (λ (k : ℕ). sets (sets (set l i a) (suc i) vs) k ws) (suc-add i (length vs) ∙ sym (add-suc i (length vs)))

-- what a copy into a part leaves
pub put_in : (out s now : List ℕ) (i n : ℕ) → i + length s ≤ length out → n ≡ length s → now ≡ s → put_mid i n out now ≡ sets out i s
put_in out s now i n h e f =
    put_mid-paste i n out now s (length s) f (sym e) refl ∙ rw (take_all (length s) s (omega arith)) (sym (sets-eq s out i h))

-- the four octets of a number, each by one division
pub octets4_is : (n : ℕ) → (n / 16777216 % 256 ∷ n / 65536 % 256 ∷ n / 256 % 256 ∷ n % 256 ∷ []) ≡ octets4 n
octets4_is n =
    let a : n / 16777216 ≡ n / 256 / 256 / 256 = omega arith in
    let b : n / 65536 ≡ n / 256 / 256 = omega arith in
    rw (a, b) refl
