-- Laws of flow control, for `flow`. Assumes nothing.
use Prim.Native.Nat.{ℕ, zero, suc, ◌*◌, ◌/◌, ◌≤◌, ◌<◌, ◌^◌}
use native.Mathlib.Omega.{arith}
use native.Mathlib.Nat.{pow-suc}
use lib.Count.{ones as count_ones, ones_in}
use Rattle.std.specs.Prelude.{◌≡◌}
use Rattle.std.proofs.Math.Path.{refl}
use Rattle.parameters.specs.Parameters.{ones}

-- ---- the ones of a mask are its digits that are set

none_of_zero : (n : ℕ) → ones n 0 ≡ 0
unfolding ones
none_of_zero zero = refl
none_of_zero (suc n) = omega (arith, none_of_zero n)

none_in_zero : (n : ℕ) → ones_in n 0 ≡ 0
unfolding ones_in
none_in_zero zero = refl
none_in_zero (suc n) = omega (arith, none_in_zero n)

-- both look at all the digits
ones_same : (n d x : ℕ) → x < 2 ^ n → x ≤ d → ones_in d x ≡ ones n x
unfolding ones ones_in
ones_same zero d x h k = let z : x ≡ 0 = omega arith in rw z (none_in_zero d)
ones_same (suc n) zero x h k = let z : x ≡ 0 = omega arith in rw z (rw (none_of_zero n))
ones_same (suc n) (suc d) x h k =
    let p : x < 2 ^ n * 2 = rw pow-suc at h in
    rw (ones_same n d (x / 2) (omega arith) (omega arith))

pub ones_counted : (x : ℕ) → x < 256 → count_ones x ≡ ones 8 x
unfolding count_ones
ones_counted x h = ones_same 8 x x h (omega arith)
