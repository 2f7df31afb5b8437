-- Laws of the definitions of Layout, one for each answer of the code. Assumes nothing.
use Rattle.std.specs.Prelude.{ℕ, ◌+◌, ◌-◌, ◌<◌, ◌≤◌, ◌^◌, Bool, not, ◌&&◌, List, take, drop, if◌then◌else◌}
use Rattle.std.proofs.Math.Path.{◌≡◌, refl}
use Rattle.std.proofs.Common.{◌∙◌, sym, arith}
use Rattle.std.proofs.Math.Bool.{true, false}
use borrow.Author.Tests.{le-leb, lt-leb, leb-true, leb-false, eq-eqb, ne_eqb}
use Rattle.std.proofs.Math.ListN.{length}
use Rattle.octets.specs.Words.{◌atmost◌, ◌is◌}
use Rattle.octets.specs.Octets.{same}
use Rattle.tlv.specs.declared.Head.{Head}
use Rattle.tlv.specs.declared.Head.TheVariants.{End, Past, SubTlv}
use Rattle.tlv.specs.Layout.{fixed_octets, type_at, length_at, head_at, is_dcbx}

-- ---- the head at a place

module _ (o : List ℕ) (i : ℕ) where
  pub head_end : length o ≤ i → End ≡ head_at o i
  unfolding head_at
  head_end h = simp (le-leb (length o) i h)

  pub head_past : i < length o → length o < i + 2 + length_at o i → Past ≡ head_at o i
  unfolding head_at
  head_past t h = simp (lt-leb (length o) i t, lt-leb (i + 2 + length_at o i) (length o) h)

  pub head_whole : {n : ℕ} → n ≡ length_at o i → i + 2 + n ≤ length o → SubTlv (type_at o i) (i + 2) n ≡ head_at o i
  unfolding head_at
  head_whole {n} e h = rw e (simp (lt-leb (length o) i (omega arith), le-leb (i + 2 + length_at o i) (length o) (rw e at h)))

pub end_is_not_past : End ≡ Past → ⊥
end_is_not_past e = let z : ◌≡◌ {A = ℕ} 0 1 = cc in absurd (omega arith)

-- and what each answer tells
pub at_end : (o : List ℕ) (i : ℕ) → head_at o i ≡ End → length o ≤ i
unfolding head_at
at_end o i e = here (length o atmost i) (i + 2 + length_at o i atmost length o) refl e
  where
    here : (a b : Bool) → (length o atmost i) ≡ a → (if a then End else if b then SubTlv (type_at o i) (i + 2) (length_at o i) else Past) ≡ End → length o ≤ i
    here true b q r = leb-true _ _ q
    here false true q r = let z : ◌≡◌ {A = ℕ} 0 1 = cc in absurd (omega arith)
    here false false q r = absurd (end_is_not_past (sym r))

pub at_past : (o : List ℕ) (i : ℕ) → head_at o i ≡ Past → (i < length o) × (length o < i + 2 + length_at o i)
unfolding head_at
at_past o i e = here (length o atmost i) (i + 2 + length_at o i atmost length o) refl refl e
  where
    here : (a b : Bool) → (length o atmost i) ≡ a → (i + 2 + length_at o i atmost length o) ≡ b
        → (if a then End else if b then SubTlv (type_at o i) (i + 2) (length_at o i) else Past) ≡ Past → (i < length o) × (length o < i + 2 + length_at o i)
    here true b p q r = absurd (end_is_not_past r)
    here false true p q r = let z : ◌≡◌ {A = ℕ} 0 1 = cc in absurd (omega arith)
    here false false p q r = (leb-false _ _ p, leb-false _ _ q)

-- a whole sub-TLV: what its head says, and that it ends within the octets
pub record Within (o : List ℕ) (i type start n : ℕ) : Type 0 where
  pub kind : type ≡ type_at o i
  pub place : start ≡ i + 2
  pub long : n ≡ length_at o i
  pub high : start + n ≤ length o

pub head_within : {o : List ℕ} {i type start n : ℕ} {d : Head} → d ≡ head_at o i → d ≡ SubTlv type start n → Within o i type start n
unfolding head_at
head_within {o} {i} {type} {start} {n} e f = here (length o atmost i) (i + 2 + length_at o i atmost length o) refl (sym e ∙ f)
  where
    here : (a b : Bool) → (i + 2 + length_at o i atmost length o) ≡ b
        → (if a then End else if b then SubTlv (type_at o i) (i + 2) (length_at o i) else Past) ≡ SubTlv type start n → Within o i type start n
    here true b q r = let z : ◌≡◌ {A = ℕ} 0 1 = cc in absurd (omega arith)
    here false true q r =
        let h : i + 2 + length_at o i ≤ length o = leb-true _ _ q in
        let k : type ≡ type_at o i = cc in
        let s : start ≡ i + 2 = cc in
        let l : n ≡ length_at o i = cc in
        record { kind = k; place = s; long = l; high = omega arith }
    here false false q r = let z : ◌≡◌ {A = ℕ} 0 1 = cc in absurd (omega arith)

module _ (o : List ℕ) (i : ℕ) {type start n : ℕ} {d : Head} where
  pub head_ends : d ≡ head_at o i → d ≡ SubTlv type start n → start + n ≤ length o
  head_ends e f = (head_within e f).high

  pub head_fits : d ≡ head_at o i → d ≡ SubTlv type start n → length o < 2 ^ 64 → start + n < 2 ^ 64
  head_fits e f h = let w = head_within e f in omega arith

  pub head_onward : d ≡ head_at o i → d ≡ SubTlv type start n → length o - (start + n) < length o - i
  head_onward e f = let w = head_within e f in omega arith

-- ---- refusals 3 to 8

module _ (o : List ℕ) where
  pub dcbx_short : length o < 6 → false ≡ is_dcbx o
  unfolding is_dcbx
  dcbx_short h = simp (lt-leb 6 (length o) h)

  pub dcbx_type : 6 ≤ length o → (type_at o 0 ≡ 127 → ⊥) → false ≡ is_dcbx o
  unfolding is_dcbx
  dcbx_type h t = simp (le-leb 6 (length o) h, ne_eqb (type_at o 0) 127 t)

  pub dcbx_fixed : {b : Bool} → b ≡ same (take 4 (drop 2 o)) fixed_octets → 6 ≤ length o → type_at o 0 ≡ 127 → b ≡ is_dcbx o
  unfolding is_dcbx
  dcbx_fixed e h t = simp (e, le-leb 6 (length o) h, eq-eqb (type_at o 0) 127 t)

  pub dcbx_six : {b : Bool} → b ≡ is_dcbx o → not b ≡ false → 6 ≤ length o
  unfolding is_dcbx
  dcbx_six {b} e f = here (6 atmost length o) refl (e ∙ refl)
    where
      here : (t : Bool) → (6 atmost length o) ≡ t → b ≡ (t && (type_at o 0 is 127) && same (take 4 (drop 2 o)) fixed_octets) → 6 ≤ length o
      here true q r = leb-true _ _ q
      here false q r = let z : ◌≡◌ {A = ℕ} 0 1 = cc in absurd (omega arith)

  pub dcbx_long : {b : Bool} → b ≡ is_dcbx o → not b ≡ false → 1 < length o
  dcbx_long e f = let h : 6 ≤ length o = dcbx_six e f in omega arith

  pub dcbx_some : {b : Bool} → b ≡ is_dcbx o → not b ≡ false → 0 < length o
  dcbx_some e f = let h : 6 ≤ length o = dcbx_six e f in omega arith
