-- Texts put into an output, and a number's digits: what the functions promise, and a law for each way out. Assumes nothing.
use Rattle.std.specs.Prelude.{ℕ, zero, suc, ◌+◌, ◌-◌, ◌*◌, ◌/◌, ◌%◌, ◌≤◌, ◌<◌, ◌^◌, ◌≡◌, refl, Bool, true, false, List, [], ◌∷◌, ◌++◌, length, take, set, if◌then◌else◌}
use Rattle.std.proofs.Common.{arith, sym, ◌∙◌, length-append, lt-ltb, le-ltb, ltb-true, ltb-false}
use Rattle.std.proofs.Math.Nat.{pow-succ'}
use Rattle.std.proofs.lemmas.List.Edits.{sets}
use Rattle.std.proofs.Math.Seq.{length-sets}
use Rattle.octets.specs.Words.{◌below◌}
use Rattle.octets.specs.Laws.{sets_append}
use Rattle.io.specs.Counts.{IsPrefixLen}
use Rattle.io.specs.Digits.{hex_digit_ascii, last_digits as digits, IsDigitCount}
use Rattle.numerals.specs.Numerals.{digits_of, decimal}

-- a text of at most so many octets stands at a place: the place behind it, and the output
pub record Laid (before : List ℕ) (place : ℕ) (text : List ℕ) (most r : ℕ) (after : List ℕ) : Type 0 where
  pub next : r ≡ place + length text
  pub few : length text ≤ most
  pub long : length after ≡ length before
  pub octets : after ≡ sets before place text

-- two texts, one behind the other
pub laid_both : {before middle after x y : List ℕ} {place m n p r : ℕ} → Laid before place x m p middle → Laid middle p y n r after → Laid before place (x ++ y) (m + n) r after
laid_both {before} {middle} {after} {x} {y} {place} {m} {n} {p} {r} a b =
    record {
      next = rw (length-append x y) (omega (arith, a.next, b.next));
      few = rw (length-append x y) (omega (arith, a.few, b.few));
      long = b.long ∙ a.long;
      octets = b.octets ∙ rw (a.next, a.octets) (sym (sets_append before place x y));
    }

-- ---- a number and what stands behind it

glyph_low : (d : ℕ) → d < 10 → hex_digit_ascii d ≡ 48 + d
glyph_low d h = rw (lt-ltb d 10 h) refl

digits_are : (k m n : ℕ) → k < m → n < 10 ^ suc k → (0 < k → 10 ^ k ≤ n) → digits 10 (suc k) n ≡ digits_of m n
unfolding digits_of
digits_are k zero n l h g = absurd (omega arith)
digits_are zero (suc m) n l h g =
    let s : n < 10 = h in
    let e : n % 10 ≡ n = omega arith in
    rw (lt-ltb n 10 s, glyph_low (n % 10) (omega arith), e) refl
digits_are (suc k) (suc m) n l h g =
    let p : n < 10 * 10 ^ suc k = rw (pow-succ' 10 (suc k)) at h in
    let q : 10 * 10 ^ k ≤ n = rw (pow-succ' 10 k) at (g (omega arith)) in
    let r : 10 ^ suc k ≡ 10 * 10 ^ k = pow-succ' 10 k in
    let o : 1 ≤ 10 ^ k = powered k in
    rw (le-ltb n 10 (omega arith), glyph_low (n % 10) (omega arith), digits_are k m (n / 10) (omega arith) (omega arith) (λ z. omega arith)) refl
  where
    powered : (k : ℕ) → 1 ≤ 10 ^ k
    powered zero = omega arith
    powered (suc k) = let r : 10 ^ suc k ≡ 10 * 10 ^ k = pow-succ' 10 k in omega (arith, powered k)

-- no number has more digits than are allowed
digits_few : (m n : ℕ) → length (digits_of m n) ≤ m
unfolding digits_of
digits_few zero n = omega arith
digits_few (suc m) n = few_more (n below 10) (digits_few m (n / 10))
  where
    few_more : (b : Bool) → length (digits_of m (n / 10)) ≤ m → length (if b then (48 + n) ∷ [] else digits_of m (n / 10) ++ ((48 + n % 10) ∷ [])) ≤ suc m
    few_more true h = omega arith
    few_more false h = rw (length-append (digits_of m (n / 10)) ((48 + n % 10) ∷ [])) (omega arith)

pub decimal_is : (n k : ℕ) {o : List ℕ} → IsDigitCount 10 1 n k → k ≤ 20 → o ≡ digits 10 k n → o ≡ decimal n
decimal_is n zero f h e = absurd (omega (arith, f.0))
decimal_is n (suc k) f h e =
    let e0 : suc k - 1 ≡ k = omega arith in
    e ∙ digits_are k 20 n (omega arith) f.1 (λ z. rw e0 at (f.2 (omega arith)))

-- a number of 64 bits has at most 20 digits
powered_on : (j : ℕ) → 10 ^ 20 ≤ 10 ^ (j + 20)
powered_on zero = omega arith
powered_on (suc j) =
    let e : suc j + 20 ≡ suc (j + 20) = omega arith in
    let r : 10 ^ suc (j + 20) ≡ 10 * 10 ^ (j + 20) = pow-succ' 10 (j + 20) in
    rw e (omega (arith, powered_on j))

digits_64 : (n k : ℕ) → n < 2 ^ 64 → IsDigitCount 10 1 n k → k ≤ 20
digits_64 n k h f = here (20 below k) refl
  where
    here : (b : Bool) → (20 below k) ≡ b → k ≤ 20
    here false q = ltb-false 20 k q
    here true q =
        let l : 20 < k = ltb-true 20 k q in
        let e : k - 1 ≡ (k - 21) + 20 = omega arith in
        let g : 10 ^ (k - 21 + 20) ≤ n = rw e at (f.2 (omega arith)) in
        absurd (omega (arith, powered_on (k - 21)))

pub record Spelled (n k : ℕ) (out : List ℕ) : Type 0 where
  pub few : k ≤ 20
  pub inside : k ≤ length out
  pub count : k ≡ length (take k out)
  pub digits : take k out ≡ decimal n

pub spelled : (n k : ℕ) {out : List ℕ} → n < 2 ^ 64 → IsDigitCount 10 1 n k → IsPrefixLen k out → take k out ≡ digits 10 k n → Spelled n k out
spelled n k h f c e = record { few = digits_64 n k h f; inside = c.0; count = c.1; digits = decimal_is n k f (digits_64 n k h f) e }

pub number_laid : (out : List ℕ) (place n end k : ℕ) {ds mid : List ℕ} → Spelled n k ds → mid ≡ sets out place (take k ds)
    → Laid out place (decimal n ++ (end ∷ [])) 21 (place + k + 1) (set mid (place + k) end)
number_laid out place n end k {ds} {mid} s g =
    let d : take k ds ≡ decimal n = s.digits in
    let m : length (decimal n) ≡ k = rw (← d) (sym s.count) in
    let a : length (decimal n ++ (end ∷ [])) ≡ length (decimal n) + 1 = length-append (decimal n) (end ∷ []) in
    let o : set mid (place + k) end ≡ sets out place (decimal n ++ (end ∷ [])) = rw (sets_append, m, ← d, ← g) refl in
    record { next = omega arith; few = omega (arith, s.few); long = rw o (length-sets out place (decimal n ++ (end ∷ []))); octets = o }
