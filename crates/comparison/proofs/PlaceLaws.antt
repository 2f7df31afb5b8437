-- The way to an octet of a frame: a law for each way out, with premises in the form in which tests and calls leave them. Assumes nothing.
use Prim.Native.Nat.{ℕ, suc, ◌+◌, ◌-◌, ◌≤◌, ◌<◌}
use native.Mathlib.Omega.{arith}
use Rattle.std.proofs.Common.{lt-ltb, le-ltb}
use Rattle.std.specs.Prelude.{◌≡◌, refl, List, None}
use Rattle.std.proofs.Math.ListN.{length}
use Rattle.tlv.specs.declared.Head.{Head}
use Rattle.tlv.specs.declared.Head.TheVariants.{End, Past, SubTlv}
use Rattle.tlv.specs.Layout.{head_at}
use Rattle.comparison.specs.Places.{inside, position_at, position_from, position_in}

pub position_head : (o : List ℕ) (place : ℕ) → place < 6 → inside 0 place ≡ position_in o place
unfolding position_in
position_head o place h = rw (lt-ltb place 6 h) refl

-- what is left of the walk gives the same as the whole
pub record Seeking (o : List ℕ) (place at i : ℕ) : Type 0 where
  pub reached : at ≤ place
  pub within : i ≤ length o
  pub same : position_from (length o - i) o at place ≡ position_in o place

pub seeking_start : (o : List ℕ) (place : ℕ) → 6 ≤ place → Seeking o place 6 0
unfolding position_in
seeking_start o place h =
    let z : length o - 0 ≡ length o = omega arith in
    record { reached = h; within = omega arith; same = rw (z, le-ltb place 6 h) refl }

module _ {o : List ℕ} {place at i : ℕ} (r : Seeking o place at i) where
  pub seeking_end : length o ≤ i → None ≡ position_in o place
  unfolding position_from
  seeking_end h =
      let z : length o - i ≡ 0 = omega arith in
      rw z at r.same

  module _ (h : i < length o) {d : Head} (e : d ≡ head_at o at) where
    next : position_at d at place (λ j. position_from (length o - (i + 1)) o j place) ≡ position_in o place
    unfolding position_from
    next =
        let z : length o - i ≡ suc (length o - (i + 1)) = omega arith in
        rw e (rw z at r.same)

    pub seeking_none : d ≡ End → None ≡ position_in o place
    unfolding position_at
    seeking_none f = rw f at next

    pub seeking_past : d ≡ Past → None ≡ position_in o place
    unfolding position_at
    seeking_past f = rw f at next

    module _ {type start n : ℕ} (f : d ≡ SubTlv type start n) where
      pub seeking_inside : place < start + n → inside type (place - at) ≡ position_in o place
      unfolding position_at
      seeking_inside l = rw (lt-ltb place (start + n) l) at (rw f at next)

      pub seeking_on : start + n ≤ place → Seeking o place (start + n) (i + 1)
      unfolding position_at
      seeking_on l = record { reached = l; within = omega arith; same = rw (le-ltb place (start + n) l) at (rw f at next) }
