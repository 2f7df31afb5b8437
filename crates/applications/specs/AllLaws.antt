-- Laws of `all_from`, a test of each number of a run. Assumes nothing.
use Rattle.std.specs.Prelude.{ℕ, zero, suc, ◌+◌, ◌≤◌, ◌<◌, ◌≡◌, refl, Bool, true, false, ◌&&◌}
use native.Mathlib.Omega.{arith}
use Rattle.std.proofs.Common.{sym, ap, ◌∙◌, eqb-true}
use Rattle.std.proofs.Math.Path.{fun_ext}
use Rattle.std.proofs.lemmas.Bool.{false≢true, eqb-false}
use Rattle.octets.specs.Words.{◌is◌}
use Rattle.octets.specs.Laws.{and_left, and_right}
use Rattle.parameters.specs.Parameters.{all_from}

-- ---- tests and facts

pub both_true : (a b : Bool) → (a ≡ true → b ≡ true) → (b ≡ true → a ≡ true) → a ≡ b
both_true true b f g = sym (f refl)
both_true false true f g = g refl
both_true false false f g = refl

pub all_same : (n i : ℕ) {s t : ℕ → Bool} → ((j : ℕ) → s j ≡ t j) → all_from n i s ≡ all_from n i t
all_same n i h = ap (all_from n i) (fun_ext h)

-- each number passes where all do
pub all_at : (n i : ℕ) (test : ℕ → Bool) → all_from n i test ≡ true → (j : ℕ) → i ≤ j → j < i + n → test j ≡ true
unfolding all_from
all_at zero i test e j h k = absurd (omega arith)
all_at (suc n) i test e j h k =
    here_or_on (j is i) refl (λ l. all_at n (i + 1) test (and_right (test i) (all_from n (i + 1) test) e) j l (omega arith))
  where
    here_or_on : (b : Bool) → j is i ≡ b → (i + 1 ≤ j → test j ≡ true) → test j ≡ true
    here_or_on true q on = rw (eqb-true j i q) (and_left (test i) (all_from n (i + 1) test) e)
    here_or_on false q on = let d : j ≡ i → ⊥ = eqb-false j i q in on (omega arith)

-- all pass where each does
pub all_of : (n i : ℕ) (test : ℕ → Bool) → ((j : ℕ) → i ≤ j → j < i + n → test j ≡ true) → all_from n i test ≡ true
unfolding all_from
all_of zero i test h = refl
all_of (suc n) i test h =
    rw (h i (omega arith) (omega arith)) (all_of n (i + 1) test (λ j l m. h j (omega arith) (omega arith)))

-- tests that agree below the end of a run
pub all_alike : (n i : ℕ) (s t : ℕ → Bool) → ((j : ℕ) → j < i + n → s j ≡ t j) → all_from n i s ≡ all_from n i t
unfolding all_from
all_alike zero i s t h = refl
all_alike (suc n) i s t h = rw (h i (omega arith), all_alike n (i + 1) s t (λ j l. h j (omega arith))) refl

pub and_true : (b : Bool) → (b && true) ≡ b
and_true true = refl
and_true false = refl

-- one more number behind a run
pub all_behind : (n i : ℕ) (test : ℕ → Bool) → all_from (suc n) i test ≡ (all_from n i test && test (i + n))
unfolding all_from
all_behind zero i test = let e : i + 0 ≡ i = omega arith in rw e (and_true (test i))
all_behind (suc n) i test =
    let e : i + 1 + n ≡ i + suc n = omega arith in
    let r : all_from (suc n) (i + 1) test ≡ (all_from n (i + 1) test && test (i + suc n)) = rw e at (all_behind n (i + 1) test) in
    ap (λ (b : Bool). test i && b) r ∙ sym (and_assoc (test i) (all_from n (i + 1) test) (test (i + suc n)))
  where
    and_assoc : (a b c : Bool) → (a && b && c) ≡ (a && (b && c))
    and_assoc true b c = refl
    and_assoc false b c = refl

-- a number that fails decides
pub all_not : (n : ℕ) (test : ℕ → Bool) (j : ℕ) → j < n → test j ≡ false → all_from n 0 test ≡ false
all_not n test j h f = by (all_from n 0 test) refl
  where
    by : (b : Bool) → all_from n 0 test ≡ b → all_from n 0 test ≡ false
    by true e = absurd (false≢true (sym f ∙ all_at n 0 test e j (omega arith) (omega arith)))
    by false e = e
