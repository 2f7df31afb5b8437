-- What is held of a line: laws for `hold`, and that what is cut off of a line that is too long decides nothing. Assumes nothing.
use Prim.Native.Nat.{ℕ, ◌+◌, ◌-◌, ◌/◌, ◌%◌, ◌≤◌, ◌<◌}
use Rattle.std.proofs.Common.{arith, sym, ◌∙◌, length-append, length-take, length-drop, length-take-le, take_at, leb-true, leb-false, eqb-true}
use Rattle.std.proofs.Math.Path.{◌≡◌, refl, ap}
use Rattle.std.specs.Prelude.{Bool, true, false, ◌&&◌, take, drop, if◌then◌else◌}
use mathlib.Core.List.{List, ◌++◌}
use Rattle.std.proofs.Math.ListN.{length, replicate}
use Rattle.std.proofs.Math.Seq.{take_all, take-append-add, length-sets}
use Rattle.std.proofs.lemmas.List.{take-append-le, length-replicate, drop-replicate}
use Rattle.std.proofs.lemmas.List.Edits.{sets, sets-eq}
use Rattle.octets.specs.Laws.{sets_append}
use Rattle.std.proofs.lemmas.Bool.{lt-leb}
use Rattle.octets.specs.Words.{◌atmost◌, ◌is◌}
use Rattle.octets.specs.Octets.{same}
use Rattle.octets.specs.Texts.{text}
use Rattle.words.specs.Text.{is_octets, hex_digits, held, pending}
use Rattle.capture.specs.declared.Form.TheVariants.{FromA, FromB, Other}
use Rattle.capture.specs.Capture.{form_of}
use Rattle.capture.specs.Steps.{clipped, held_of, Front}

-- ---- holding: what was held, and behind it what there is room for

module _ (f m s : List ℕ) (l : length f ≤ 1101) (em : m ≡ take (1101 - length f) s) where
  held_front : f ++ m ≡ clipped (f ++ s)
  held_front = let k : length f + (1101 - length f) ≡ 1101 = omega arith in rw em (sym (rw k at (take-append-add f s (1101 - length f))))

  held_length : length f + length m ≤ 1101
  held_length = omega (arith, ap length held_front, length-append f m, length-take 1101 (f ++ s))

  module _ {one : List ℕ} (e1 : one ≡ sets (replicate 1101 0) 0 f) where
    pub held_room : length f + length m ≤ length one
    held_room = omega (arith, held_length, ap length e1, length-sets (replicate {A = ℕ} 1101 0) 0 f, length-replicate {A = ℕ} 1101 0)

    module _ {two : List ℕ} (e2 : two ≡ sets one (length f) m) where
      held_octets : two ≡ f ++ m ++ replicate (1101 - (length f + length m)) 0
      held_octets =
          let z : 0 + length f ≡ length f = omega arith in
          let k : 0 + length (f ++ m) ≤ length (replicate {A = ℕ} 1101 0) = omega (arith, held_length, length-append f m, length-replicate {A = ℕ} 1101 0) in
          let d : drop {A = ℕ} (0 + length (f ++ m)) (replicate {A = ℕ} 1101 0) ≡ replicate {A = ℕ} (1101 - (0 + length (f ++ m))) 0 = drop-replicate {X = ℕ} (0 + length (f ++ m)) 1101 0 in
          let n : 0 + length (f ++ m) ≡ length f + length m = omega (arith, length-append f m) in
          let a : sets (sets (replicate {A = ℕ} 1101 0) 0 f) (length f) m ≡ sets (replicate {A = ℕ} 1101 0) 0 (f ++ m) = sym (rw z at (sets_append (replicate {A = ℕ} 1101 0) 0 f m)) in
          e2 ∙ rw e1 (a ∙ sets-eq (f ++ m) (replicate {A = ℕ} 1101 0) 0 k ∙ rw (d, n) refl)

      pub hold_is : (h : Front) → f ≡ pending h → record { n = length f + length m; octets = two } ≡ held_of (clipped (pending h ++ s))
      unfolding held
      hold_is h ef =
          let q : clipped (pending h ++ s) ≡ f ++ m = ap (λ (x : List ℕ). clipped (x ++ s)) (sym ef) ∙ sym held_front in
          rw (q, length-append, held_octets) refl

-- ---- what is held, read back

pub clipped_twice : (w s : List ℕ) → clipped (clipped w ++ s) ≡ clipped (w ++ s)
clipped_twice w s = here (length w atmost 1101) refl
  where
    here : (b : Bool) → (length w atmost 1101) ≡ b → clipped (clipped w ++ s) ≡ clipped (w ++ s)
    here true q = rw (take_all 1101 w (leb-true (length w) 1101 q)) refl
    here false q =
        let l : 1101 ≤ length w = omega (arith, leb-false (length w) 1101 q) in
        let k : length (clipped w) ≡ 1101 = length-take-le 1101 w l in
        take_at (clipped w) s 1101 k ∙ sym (take-append-le 1101 w s l)

-- ---- a line of 1101 octets or more is no frame, whatever stands behind

long_no_octets : (l : List ℕ) → 1101 ≤ length l → is_octets 513 (drop 2 l) ≡ false
unfolding is_octets
long_no_octets l h =
    let d = length-drop 2 l in
    let k : 513 < length (drop 2 l) / 2 + length (drop 2 l) % 2 = omega (arith, d) in
    by (length (drop 2 l) % 2 is 0) refl
  where
    by : (b : Bool) → (length (drop 2 l) % 2 is 0) ≡ b → (b && length (drop 2 l) / 2 atmost 513 && hex_digits (drop 2 l)) ≡ false
    by true q = let d = length-drop 2 l in rw (lt-leb (length (drop 2 l) / 2) 513 (omega (arith, d, eqb-true (length (drop 2 l) % 2) 0 q))) refl
    by false q = refl

long_other : (l : List ℕ) → 1101 ≤ length l → form_of l ≡ Other
unfolding form_of
long_other l h = rw (long_no_octets l h) (none (same (take 2 l) (text "A ")) (same (take 2 l) (text "B ")))
  where
    none : (a b : Bool) → (if a && false then FromA else if b && false then FromB else Other) ≡ Other
    none true true = refl
    none true false = refl
    none false true = refl
    none false false = refl

pub data Clipping (w : List ℕ) : Type 0 where
  whole : clipped w ≡ w → Clipping w
  long : 1100 < length (clipped w) → 1100 < length w → form_of (clipped w) ≡ Other → form_of w ≡ Other → Clipping w

pub clipping : (w : List ℕ) → Clipping w
clipping w = here (length w atmost 1101) refl
  where
    here : (b : Bool) → (length w atmost 1101) ≡ b → Clipping w
    here true q = whole (take_all 1101 w (leb-true (length w) 1101 q))
    here false q =
        let l : 1101 ≤ length w = omega (arith, leb-false (length w) 1101 q) in
        let k : length (clipped w) ≡ 1101 = length-take-le 1101 w l in
        long (omega arith) (omega arith) (long_other (clipped w) (omega arith)) (long_other w l)
