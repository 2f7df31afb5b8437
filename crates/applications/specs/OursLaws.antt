-- Laws of the application entries that are ours: where they stand among those that came, and that they are held as they are. Assumes nothing.
use Prim.Native.Nat.{ℕ, zero, suc, ◌+◌, ◌-◌, ◌*◌, ◌%◌, ◌≤◌, ◌<◌}
use Rattle.std.proofs.Common.{add-zero, ◌∙◌, length-append, length-take, length-drop, lit<, get_or-append-add, get_or-take, get_or-drop, take-add, take_all}
use native.Mathlib.Omega.{arith}
use Rattle.std.specs.Prelude.{◌≡◌, Bool, ◌&&◌, take, drop, if◌then◌else◌}
use Rattle.std.proofs.Math.Path.{refl, sym, ap}
use Rattle.std.proofs.Math.Bool.{true, false, not}
use mathlib.Core.List.{List, [], ◌++◌, append-nil, append_assoc}
use Rattle.std.proofs.Math.ListN.{length, get_or-append}
use borrow.Author.Tests.{eqb-true, eqb-false}
use Rattle.octets.specs.Words.{◌is◌}
use Rattle.octets.specs.Octets.{at}
use Rattle.parameters.specs.declared.Feature.{Feature}
use Rattle.parameters.specs.declared.Feature.TheVariants.{Groups, Flow, Applications}
use Rattle.applications.specs.AllLaws.{and_true, all_same, all_alike, all_behind}
use Rattle.parameters.specs.Parameters.{entry_count, id_of, selector_of, map_of, same_name, all_from, is_ours, ours_of, ours, clash, clear_of, compatible}

-- ---- entry i of e is entry j of p, octet by octet

pub record SameEntry (e : List ℕ) (i : ℕ) (p : List ℕ) (j : ℕ) : Type 0 where
  pub octet : (x : ℕ) → x < 6 → at e (6 * i + x) ≡ at p (6 * j + x)

module _ {e : List ℕ} {i : ℕ} {p : List ℕ} {j : ℕ} (s : SameEntry e i p j) where
  id_same : id_of e i ≡ id_of p j
  id_same = let h : at e (6 * i) ≡ at p (6 * j) = rw (add-zero (6 * i), add-zero (6 * j)) at (s.octet 0 (lit< tt)) in rw (h, s.octet 1 (lit< tt))

  pub selector_same : selector_of e i ≡ selector_of p j
  selector_same = rw (s.octet 2 (lit< tt))

  map_same : map_of e i ≡ map_of p j
  map_same = s.octet 5 (lit< tt)

  pub own_same : is_ours e i ≡ is_ours p j
  unfolding is_ours
  own_same = rw (s.octet 2 (lit< tt), s.octet 3 (lit< tt), s.octet 4 (lit< tt))

pub name_same : {e : List ℕ} {i : ℕ} {p : List ℕ} {j : ℕ} {q : List ℕ} {k : ℕ} {r : List ℕ} {l : ℕ} → SameEntry e i p j → SameEntry q k r l
    → same_name e i q k ≡ same_name p j r l
unfolding same_name
name_same s t = rw (id_same s, id_same t, selector_same s, selector_same t)

pub entry_itself : (p : List ℕ) (i : ℕ) → SameEntry p i p i
entry_itself p i = record { octet = λ x h. refl }

pub clash_same : {e : List ℕ} {i : ℕ} {p : List ℕ} {j : ℕ} {q : List ℕ} {k : ℕ} {r : List ℕ} {l : ℕ} → SameEntry e i p j → SameEntry q k r l
    → clash e i q k ≡ clash p j r l
unfolding clash
clash_same s t = rw (name_same s t, own_same s, own_same t, map_same s, map_same t)

-- an entry before the seam of two lists, and the one behind it
pub entry_before : (a b : List ℕ) (k i : ℕ) → length a ≡ 6 * k → i < k → SameEntry (a ++ b) i a i
entry_before a b k i l h = record { octet = λ x m. get_or-append a b 0 (6 * i + x) (omega arith) }

entry_behind : (a p : List ℕ) (k n : ℕ) → length a ≡ 6 * k → SameEntry (a ++ take 6 (drop (6 * n) p)) k p n
entry_behind a p k n l =
    record {
      octet = λ x h. rw (← l) (get_or-append-add a (take 6 (drop (6 * n) p)) x 0) ∙ get_or-take 6 (drop (6 * n) p) x 0 h ∙ get_or-drop (6 * n) p x 0;
    }

pub entry_length : (p : List ℕ) (n : ℕ) → n < entry_count p → length (take 6 (drop (6 * n) p)) ≡ 6
entry_length p n h = simp (length-take, length-drop) (omega arith)

-- ---- one entry more

module _ (p : List ℕ) (n : ℕ) where
  pub ours_own : is_ours p n ≡ true → ours_of (suc n) p ≡ ours_of n p ++ take 6 (drop (6 * n) p)
  unfolding ours_of
  ours_own t = rw t refl

  pub ours_foreign : is_ours p n ≡ false → ours_of (suc n) p ≡ ours_of n p
  unfolding ours_of
  ours_foreign f = rw f (append-nil (ours_of n p))

  pub own_long : n < entry_count p → is_ours p n ≡ true → length (ours_of (suc n) p) ≡ length (ours_of n p) + 6
  own_long h t = ap length (ours_own t) ∙ length-append (ours_of n p) (take 6 (drop (6 * n) p)) ∙ rw (entry_length p n h)

  module _ {k : ℕ} (l : length (ours_of n p) ≡ 6 * k) where
    pub own_last : is_ours p n ≡ true → SameEntry (ours_of (suc n) p) k p n
    own_last t = rw (ours_own t) (entry_behind (ours_of n p) p k n l)

    pub own_before : {i : ℕ} → is_ours p n ≡ true → i < k → SameEntry (ours_of (suc n) p) i (ours_of n p) i
    own_before {i} t h = rw (ours_own t) (entry_before (ours_of n p) (take 6 (drop (6 * n) p)) k i l h)

pub ours_whole : (p : List ℕ) (n : ℕ) → n ≤ entry_count p → length (ours_of n p) % 6 ≡ 0
unfolding ours_of
ours_whole p zero h = refl
ours_whole p (suc n) h = by (is_ours p n) refl (ours_whole p n (omega arith))
  where
    by : (b : Bool) → is_ours p n ≡ b → length (ours_of n p) % 6 ≡ 0 → length (ours_of (suc n) p) % 6 ≡ 0
    by true t w = let l : length (ours_of (suc n) p) ≡ length (ours_of n p) + 6 = own_long p n (omega arith) t in omega arith
    by false f w = ap (λ (l : List ℕ). length l % 6) (ours_foreign p n f) ∙ w

pub ours_count : (p : List ℕ) (n : ℕ) → n ≤ entry_count p → length (ours_of n p) ≡ 6 * entry_count (ours_of n p)
ours_count p n h = let w = ours_whole p n h in omega arith

-- ---- what stands first stays first

pub record Begins (a e : List ℕ) : Type 0 where
  pub rest : List ℕ
  pub whole : e ≡ a ++ rest

begins_by : (p : List ℕ) (n k m : ℕ) → m ≡ k + n → Begins (ours_of n p) (ours_of m p)
unfolding ours_of
begins_by p n zero m e = let z : m ≡ n = omega arith in record { rest = []; whole = rw z (sym (append-nil (ours_of n p))) }
begins_by p n (suc k) zero e = absurd (omega arith)
begins_by p n (suc k) (suc m) e =
    let b : Begins (ours_of n p) (ours_of m p) = begins_by p n k m (omega arith) in
    let x : List ℕ = if is_ours p m then take 6 (drop (6 * m) p) else [] in
    record { rest = b.rest ++ x; whole = ap (λ (l : List ℕ). l ++ x) b.whole ∙ append_assoc (ours_of n p) b.rest x }

pub begins : (p : List ℕ) (n m : ℕ) → n ≤ m → Begins (ours_of n p) (ours_of m p)
begins p n m h = begins_by p n (m - n) m (omega arith)

-- ---- what is ours is ours again, and kept as it is

each_own : (p : List ℕ) (n i : ℕ) → n ≤ entry_count p → i < entry_count (ours_of n p) → is_ours (ours_of n p) i ≡ true
unfolding ours_of
each_own p zero i h k = absurd (omega arith)
each_own p (suc n) i h k = by (is_ours p n) refl (λ j l. each_own p n j (omega arith) l)
  where
    by : (b : Bool) → is_ours p n ≡ b → ((j : ℕ) → j < entry_count (ours_of n p) → is_ours (ours_of n p) j ≡ true) → is_ours (ours_of (suc n) p) i ≡ true
    by false f r = ap (λ (l : List ℕ). is_ours l i) (ours_foreign p n f) ∙ r i (rw (ours_foreign p n f) at k)
    by true t r = here (i is entry_count (ours_of n p)) refl
      where
        l : length (ours_of n p) ≡ 6 * entry_count (ours_of n p)
        l = ours_count p n (omega arith)

        here : (c : Bool) → i is entry_count (ours_of n p) ≡ c → is_ours (ours_of (suc n) p) i ≡ true
        here true q = rw (eqb-true i (entry_count (ours_of n p)) q) (own_same (own_last p n l t) ∙ t)
        here false q =
            let d : i ≡ entry_count (ours_of n p) → ⊥ = eqb-false i (entry_count (ours_of n p)) q in
            let m : length (ours_of (suc n) p) ≡ length (ours_of n p) + 6 = own_long p n (omega arith) t in
            let s : i < entry_count (ours_of n p) = omega (arith, l) in
            own_same (own_before p n l t s) ∙ r i s

all_own_by : (e : List ℕ) (n : ℕ) → n ≤ entry_count e → ((i : ℕ) → i < n → is_ours e i ≡ true) → ours_of n e ≡ take (6 * n) e
unfolding ours_of
all_own_by e zero h k = refl
all_own_by e (suc n) h k =
    let z : 6 * suc n ≡ 6 * n + 6 = omega arith in
    rw (k n (omega arith), all_own_by e n (omega arith) (λ i l. k i (omega arith)), z) (sym (take-add (6 * n) 6 e))

pub all_own : (e : List ℕ) → length e % 6 ≡ 0 → ((i : ℕ) → i < entry_count e → is_ours e i ≡ true) → ours Applications e ≡ e
unfolding ours
all_own e w k = all_own_by e (entry_count e) (omega arith) k ∙ take_all (6 * entry_count e) e (omega arith)

pub ours_ours : (f : Feature) (p : List ℕ) → ours f (ours f p) ≡ ours f p
unfolding ours
ours_ours Groups p = refl
ours_ours Flow p = refl
ours_ours Applications p =
    all_own (ours_of (entry_count p) p) (ours_whole p (entry_count p) (omega arith)) (λ i h. each_own p (entry_count p) i (omega arith) h)

-- ---- a foreign entry clashes with none

module _ (o p : List ℕ) (n : ℕ) where
  clash_foreign : (j : ℕ) → is_ours p j ≡ false → clash o n p j ≡ false
  unfolding clash
  clash_foreign j f = rw f (by (same_name o n p j) (is_ours o n))
    where
      by : (a b : Bool) → (a && b && false && not (map_of o n is map_of p j)) ≡ false
      by true true = refl
      by true false = refl
      by false b = refl

  row_ours : (m : ℕ) → m ≤ entry_count p
      → all_from (entry_count (ours_of m p)) 0 (λ j. not (clash o n (ours_of m p) j)) ≡ all_from m 0 (λ j. not (clash o n p j))
  unfolding ours_of all_from
  row_ours zero h = refl
  row_ours (suc m) h = by (is_ours p m) refl (row_ours m (omega arith)) ∙ sym (all_behind m 0 (λ j. not (clash o n p j)))
    where
      by : (b : Bool) → is_ours p m ≡ b
          → all_from (entry_count (ours_of m p)) 0 (λ j. not (clash o n (ours_of m p) j)) ≡ all_from m 0 (λ j. not (clash o n p j))
          → all_from (entry_count (ours_of (suc m) p)) 0 (λ j. not (clash o n (ours_of (suc m) p) j)) ≡ (all_from m 0 (λ j. not (clash o n p j)) && not (clash o n p (0 + m)))
      by true t r =
          let k : ℕ = entry_count (ours_of m p) in
          let l : length (ours_of m p) ≡ 6 * k = ours_count p m (omega arith) in
          let g : length (ours_of (suc m) p) ≡ length (ours_of m p) + 6 = own_long p m (omega arith) t in
          let c : entry_count (ours_of (suc m) p) ≡ suc k = omega (arith, l) in
          let x : 0 + k ≡ k = omega arith in
          let y : 0 + m ≡ m = omega arith in
          ap (λ (i : ℕ). all_from i 0 (λ j. not (clash o n (ours_of (suc m) p) j))) c
          ∙ all_behind k 0 (λ j. not (clash o n (ours_of (suc m) p) j))
          ∙ rw (all_alike k 0 (λ j. not (clash o n (ours_of (suc m) p) j)) (λ j. not (clash o n (ours_of m p) j)) (λ j i. ap not (clash_same (entry_itself o n) (own_before p m l t (omega arith)))), r, x, y, clash_same (entry_itself o n) (own_last p m l t)) refl
      by false f r =
          let y : 0 + m ≡ m = omega arith in
          ap (λ (q : List ℕ). all_from (entry_count q) 0 (λ j. not (clash o n q j))) (ours_foreign p m f) ∙ r ∙ rw (y, clash_foreign m f) (sym (and_true (all_from m 0 (λ j. not (clash o n p j)))))

pub compatible_ours : (f : Feature) (o p : List ℕ) → compatible f o (ours f p) ≡ compatible f o p
unfolding compatible ours clear_of
compatible_ours Groups o p = refl
compatible_ours Flow o p = refl
compatible_ours Applications o p = all_same (entry_count o) 0 (λ n. row_ours o p n (entry_count p) (omega arith))
