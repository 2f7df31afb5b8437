-- Laws of the definitions of Contents, one for each answer of the code. Assumes nothing.
use Prim.Native.Nat.{ℕ, ◌+◌, ◌-◌, ◌<◌, ◌≤◌, ◌^◌, min}
use Rattle.std.specs.Prelude.{Ok, Err, ◌≡◌, Bool, true, false, not, List, length, take, drop, if◌then◌else◌}
use Rattle.std.proofs.Math.Path.{sym}
use native.Mathlib.Omega.{arith}
use borrow.Author.Tests.{lt-ltb, le-ltb, eq-eqb, ne_eqb}
use Rattle.octets.specs.Words.{◌is◌}
use Rattle.octets.specs.Octets.{at, number4}
use Rattle.tlv.specs.declared.Refusal.TheVariants.{NoControl, ControlLength, ControlVersion}
use Rattle.contents.specs.declared.Found.{Found}
use Rattle.contents.specs.declared.Contents.{Contents}
use Rattle.tlv.specs.Refusals.{rejection}
use Rattle.contents.specs.Contents.{counts, found_again, head_of, noted_at, no_control, control_in, kept_behind, judged}
use Rattle.std.proofs.Math.Nat.{add-sub_cancel_left}
use Rattle.contents.specs.declared.Control.{Control}

-- ---- one sub-TLV noted

module _ (o : List ℕ) (start n : ℕ) where
  pub counts_short : n < 4 → true ≡ counts o start n
  unfolding counts
  counts_short h = simp (lt-ltb n 4 h)

  pub counts_subtype : 4 ≤ n → (at o (start + 3) is 0) ≡ counts o start n
  unfolding counts
  counts_subtype h = simp (le-ltb n 4 h)

module _ (x : Found) (start n : ℕ) where
  pub found_first : x.count < 1 → record { count = 1; start = start; length = n } ≡ found_again x start n
  unfolding found_again
  found_first h = let e : min 2 (x.count + 1) ≡ 1 = omega arith in rw e

  pub found_more : 1 ≤ x.count → record { count = 2; start = start; length = n } ≡ found_again x start n
  unfolding found_again
  found_more h = let e : min 2 (x.count + 1) ≡ 2 = omega arith in rw e

-- ---- the walk

-- the five tests by which a sub-TLV is noted
abbrev pub choice : {A : Type 0} → Bool → Bool → Bool → Bool → Bool → A → A → A → A → A → A
choice control skipped groups flow applications a b c d e =
    if control then a else if skipped then e else if groups then b else if flow then c else if applications then d else e

-- ---- one sub-TLV noted and kept

-- what noting a value asks: it lies within the octets, and the whole, of which they are those from `base` on, has a length
pub record Room (base : ℕ) (o : List ℕ) (start n : ℕ) : Type 0 where
  pub inside : start + n ≤ length o
  pub fits : base + length o < 2 ^ 64

module _ (base : ℕ) (o : List ℕ) (c : Contents) (type start n : ℕ) where
  pub noted_control : {x : Found} → x ≡ found_again c.control (base + start) n → type ≡ 1
      → record { control = x; groups = c.groups; flow = c.flow; applications = c.applications } ≡ noted_at base o c type start n
  unfolding noted_at
  noted_control e t = simp (e, eq-eqb type 1 t)

  pub noted_skipped : {b : Bool} → b ≡ counts o start n → (type ≡ 1 → ⊥) → not b ≡ true → c ≡ noted_at base o c type start n
  unfolding noted_at
  noted_skipped e t f = simp (ne_eqb type 1 t, sym e, f)

  pub noted_groups : {b : Bool} {x : Found} → b ≡ counts o start n → x ≡ found_again c.groups (base + start) n
      → (type ≡ 1 → ⊥) → not b ≡ false → type ≡ 2
      → record { control = c.control; groups = x; flow = c.flow; applications = c.applications } ≡ noted_at base o c type start n
  unfolding noted_at
  noted_groups e x t f g = simp (x, ne_eqb type 1 t, sym e, f, eq-eqb type 2 g)

  pub noted_flow : {b : Bool} {x : Found} → b ≡ counts o start n → x ≡ found_again c.flow (base + start) n
      → (type ≡ 1 → ⊥) → not b ≡ false → type ≡ 3
      → record { control = c.control; groups = c.groups; flow = x; applications = c.applications } ≡ noted_at base o c type start n
  unfolding noted_at
  noted_flow e x t f h = simp (x, ne_eqb type 1 t, sym e, f, ne_eqb type 2 (omega arith), eq-eqb type 3 h)

  pub noted_applications : {b : Bool} {x : Found} → b ≡ counts o start n → x ≡ found_again c.applications (base + start) n
      → (type ≡ 1 → ⊥) → not b ≡ false → type ≡ 4
      → record { control = c.control; groups = c.groups; flow = c.flow; applications = x } ≡ noted_at base o c type start n
  unfolding noted_at
  noted_applications e x t f k = simp (x, ne_eqb type 1 t, sym e, f, ne_eqb type 2 (omega arith), ne_eqb type 3 (omega arith), eq-eqb type 4 k)

  pub noted_other : {b : Bool} → b ≡ counts o start n
      → (type ≡ 1 → ⊥) → not b ≡ false → (type ≡ 2 → ⊥) → (type ≡ 3 → ⊥) → (type ≡ 4 → ⊥) → c ≡ noted_at base o c type start n
  unfolding noted_at
  noted_other e t f g h k = simp (ne_eqb type 1 t, sym e, f, ne_eqb type 2 g, ne_eqb type 3 h, ne_eqb type 4 k)

module _ (v : List ℕ) where
  pub control_other : {k : Control} → k ≡ no_control → (length v ≡ 10 → ⊥) → k ≡ control_in v
  unfolding control_in
  control_other e l = simp (e, ne_eqb (length v) 10 l)

  pub control_ten : {seq ack : ℕ} → seq ≡ number4 v 2 → ack ≡ number4 v 6 → length v ≡ 10
      → record { oper = at v 0; max = at v 1; seq = seq; ack = ack } ≡ control_in v
  unfolding control_in
  control_ten s a l = simp (s, a, eq-eqb (length v) 10 l)

module _ (o : List ℕ) (k : Control) (type start n : ℕ) where
  pub kept_control : {l : Control} → l ≡ control_in (take (start + n - start) (drop start o)) → type ≡ 1 → l ≡ kept_behind o k type start n
  unfolding kept_behind
  kept_control e t = simp (e, add-sub_cancel_left, eq-eqb type 1 t)

  pub kept_before : (type ≡ 1 → ⊥) → k ≡ kept_behind o k type start n
  unfolding kept_behind
  kept_before t = simp (ne_eqb type 1 t)

-- ---- the judge

module _ (end : ℕ) (c : Contents) (k : Control) where
  pub no_control_lem : c.control.count ≡ 0 → Err (rejection NoControl end) ≡ judged end c k
  unfolding judged
  no_control_lem h = simp (eq-eqb c.control.count 0 h)

  pub several_controls : 1 < c.control.count → Ok c ≡ judged end c k
  unfolding judged
  several_controls h = simp (ne_eqb c.control.count 0 (omega arith), lt-ltb 1 c.control.count h)

  pub control_length : {i : ℕ} → i ≡ head_of c.control → (c.control.count ≡ 0 → ⊥) → c.control.count ≤ 1 → (c.control.length ≡ 10 → ⊥)
      → Err (rejection ControlLength i) ≡ judged end c k
  unfolding judged
  control_length e n h l = simp (e, ne_eqb c.control.count 0 n, le-ltb 1 c.control.count h, ne_eqb c.control.length 10 l)

  pub control_version : {i : ℕ} → i ≡ head_of c.control → (c.control.count ≡ 0 → ⊥) → c.control.count ≤ 1 → c.control.length ≡ 10
      → k.max < k.oper → Err (rejection ControlVersion i) ≡ judged end c k
  unfolding judged
  control_version e n h l v =
      simp (e, ne_eqb c.control.count 0 n, le-ltb 1 c.control.count h, eq-eqb c.control.length 10 l, lt-ltb k.max k.oper v)

  pub one_control : (c.control.count ≡ 0 → ⊥) → c.control.count ≤ 1 → c.control.length ≡ 10
      → k.oper ≤ k.max → Ok c ≡ judged end c k
  unfolding judged
  one_control n h l v =
      simp (ne_eqb c.control.count 0 n, le-ltb 1 c.control.count h, eq-eqb c.control.length 10 l, le-ltb k.max k.oper v)
