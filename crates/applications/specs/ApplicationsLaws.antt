-- Laws of application entries, for `applications`. Assumes nothing.
use Rattle.std.specs.Prelude.{ℕ, suc, ◌+◌, ◌*◌, ◌%◌, ◌≤◌, ◌<◌, ◌≡◌, Bool, true, false, ◌&&◌, List, [], ◌++◌, take, get_or, set, replicate}
use native.Mathlib.Omega.{arith}
use Rattle.std.proofs.Common.{add-one, ◌∙◌, length-set, get_or-set_same, get_or-set_other}
use Rattle.std.proofs.Math.Path.{refl, sym, ap}
use Rattle.std.proofs.Math.Bool.{not}
use Rattle.std.proofs.Math.ListN.{length, length-append}
use borrow.Author.Tests.{leb-true, eqb-true, eqb-false, le-leb, lt-leb, eq-eqb, ne_eqb}
use Rattle.octets.specs.Words.{◌is◌, ◌below◌, ◌atmost◌}
use Rattle.octets.specs.Laws.{and_left, and_right}
use Rattle.parameters.specs.declared.Feature.TheVariants.{Applications}
use Rattle.applications.specs.AllLaws.{all_at, all_alike, all_behind, all_not}
use Rattle.std.specs.List.{list_all}
use Rattle.applications.specs.Entries.{entries, other_name}
use Rattle.applications.specs.EntriesLaws.{met_within, met_is, met_all, first_listed}
use Rattle.applications.specs.OursLaws.{SameEntry, own_same, name_same, entry_before, ours_own, ours_foreign, own_long, own_last, own_before, Begins, begins}
use Rattle.parameters.specs.Parameters.{entry_count, selector_of, same_name, all_from, new_name, is_ours, ours_of, ours, few_and_new, valid_applications, valid, local_values}

-- ---- valid: what valid entries are, of those that are ours

pub record Entries (p : List ℕ) : Type 0 where
  pub whole : length p % 6 ≡ 0
  pub most : length (ours Applications p) ≤ 96
  pub new : all_from (entry_count (ours Applications p)) 0 (new_name (ours Applications p)) ≡ true

pub entries_told : (p : List ℕ) → valid Applications p ≡ true → Entries p
unfolding valid valid_applications few_and_new
entries_told p e =
    let o : List ℕ = ours Applications p in
    let s : few_and_new o ≡ true = and_right (length p % 6 is 0) (few_and_new o) e in
    record {
      whole = eqb-true (length p % 6) 0 (and_left (length p % 6 is 0) (few_and_new o) e);
      most = leb-true (length o) 96 (and_left (length o atmost 96) (all_from (entry_count o) 0 (new_name o)) s);
      new = and_right (length o atmost 96) (all_from (entry_count o) 0 (new_name o)) s;
    }

pub entries_valid : (p : List ℕ) → Entries p → valid Applications p ≡ true
unfolding valid valid_applications few_and_new
entries_valid p h = rw (eq-eqb (length p % 6) 0 h.whole, le-leb (length (ours Applications p)) 96 h.most, h.new) refl

pub entries_ragged : (p : List ℕ) → (length p % 6 ≡ 0 → ⊥) → false ≡ valid Applications p
unfolding valid valid_applications
entries_ragged p h = simp (ne_eqb (length p % 6) 0 h)

entries_many : (p : List ℕ) → length p % 6 ≡ 0 → 96 < length (ours Applications p) → valid Applications p ≡ false
unfolding valid valid_applications few_and_new
entries_many p h k = simp (eq-eqb (length p % 6) 0 h, lt-leb (length (ours Applications p)) 96 k)

-- ---- of the first i entries `count` are ours, which are gathered, and each of their names is new

pub record Sought (p : List ℕ) (own : List (List ℕ)) (count i : ℕ) : Type 0 where
  pub whole : length p % 6 ≡ 0
  pub within : i ≤ entry_count p
  pub sixteen : length own ≡ 16
  pub few : count ≤ 16
  pub long : length (ours_of i p) ≡ 6 * count
  pub gathered : (j : ℕ) → j < count → SameEntry (get_or own j []) 0 (ours_of i p) j
  pub new : all_from count 0 (new_name (ours_of i p)) ≡ true

pub sought_start : (p : List ℕ) → length p % 6 ≡ 0 → Sought p (replicate 16 (replicate 6 0)) 0 0
unfolding ours_of all_from
sought_start p h =
    record { whole = h; within = omega arith; sixteen = refl; few = omega arith; long = refl; gathered = λ j k. absurd (omega arith); new = refl }

-- a name is new among the first entries if it is among those of which they are the first
new_first : (a b : List ℕ) (k i : ℕ) → length a ≡ 6 * k → i < k → new_name (a ++ b) i ≡ new_name a i
unfolding new_name
new_first a b k i l h =
    all_alike i 0 (λ j. not (same_name (a ++ b) i (a ++ b) j)) (λ j. not (same_name a i a j))
    (λ j m. ap not (name_same (entry_before a b k i l h) (entry_before a b k j l (omega arith))))

module _ {p : List ℕ} {own es : List (List ℕ)} {count i : ℕ} (s : Sought p own count i) (all : es ≡ entries p) (m : i < length es) where
  h : i < entry_count p
  h = met_within p all m

  here : SameEntry (get_or es i []) 0 p i
  here = met_is p all m

  pub sought_foreign : {b : Bool} → b ≡ is_ours (get_or es i []) 0 → b ≡ false → Sought p own count (i + 1)
  sought_foreign q n =
      let o : ours_of (i + 1) p ≡ ours_of i p = rw add-one (ours_foreign p i (sym (own_same here) ∙ sym q ∙ n)) in
      record {
        whole = s.whole;
        within = omega (arith, h);
        sixteen = s.sixteen;
        few = s.few;
        long = rw o s.long;
        gathered = λ j k. rw o (s.gathered j k);
        new = rw o s.new;
      }

  module _ {b : Bool} (q : b ≡ is_ours (get_or es i []) 0) (n : b ≡ true) where
    own_here : is_ours p i ≡ true
    own_here = sym (own_same here) ∙ sym q ∙ n

    -- the name of entry i is new among our own exactly if it is none of those gathered
    new_here : new_name (ours_of (suc i) p) count ≡ list_all (other_name (get_or es i [])) (take count own)
    unfolding new_name other_name
    new_here =
        sym (first_listed count own (λ j. not (same_name (ours_of (suc i) p) count (ours_of (suc i) p) j)) (λ o. not (same_name (get_or es i []) 0 o 0)) (omega (arith, s.sixteen, s.few))
        (λ j k.
        ap not
        (name_same (own_last p i s.long own_here) (own_before p i s.long own_here k)
        ∙ sym (name_same here (s.gathered j k)))))

    new_before : all_from count 0 (new_name (ours_of (suc i) p)) ≡ true
    new_before =
        all_alike count 0 (new_name (ours_of (suc i) p)) (new_name (ours_of i p))
        (λ j k. ap (λ (l : List ℕ). new_name l j) (ours_own p i own_here) ∙ new_first (ours_of i p) _ count j s.long (omega arith))
        ∙ s.new

    longer : length (ours_of (suc i) p) ≡ 6 * (count + 1)
    longer = let l = own_long p i h own_here in omega (arith, s.long)

    pub sought_many : 16 ≤ count → false ≡ valid Applications p
    unfolding ours
    sought_many k =
        let g : Begins (ours_of (suc i) p) (ours_of (entry_count p) p) = begins p (suc i) (entry_count p) (omega (arith, h)) in
        let l : length (ours_of (entry_count p) p) ≡ length (ours_of (suc i) p) + length g.rest = ap length g.whole ∙ length-append (ours_of (suc i) p) g.rest in
        sym (entries_many p s.whole (omega (arith, longer)))

    pub sought_again : {r : Bool} → r ≡ list_all (other_name (get_or es i [])) (take count own) → r ≡ false → false ≡ valid Applications p
    unfolding ours
    sought_again {r} er nr = by (valid Applications p) refl
      where
        g : Begins (ours_of (suc i) p) (ours_of (entry_count p) p)
        g = begins p (suc i) (entry_count p) (omega (arith, h))

        first : new_name (ours_of (entry_count p) p) count ≡ false
        first =
            ap (λ (l : List ℕ). new_name l count) g.whole
            ∙ new_first (ours_of (suc i) p) g.rest (count + 1) count longer (omega arith)
            ∙ new_here
            ∙ sym er
            ∙ nr

        reach : count < entry_count (ours_of (entry_count p) p)
        reach =
            let l : length (ours_of (entry_count p) p) ≡ length (ours_of (suc i) p) + length g.rest = ap length g.whole ∙ length-append (ours_of (suc i) p) g.rest in
            omega (arith, longer)

        by : (v : Bool) → valid Applications p ≡ v → false ≡ v
        by true y =
            sym (all_not (entry_count (ours_of (entry_count p) p)) (new_name (ours_of (entry_count p) p)) count reach first)
            ∙ (entries_told p y).new
        by false y = refl

    pub sought_more : {r : Bool} → count < 16 → r ≡ list_all (other_name (get_or es i [])) (take count own) → r ≡ true
        → Sought p (set own count (get_or es i [])) (count + 1) (i + 1)
    sought_more {r} k er nr =
        record {
          whole = s.whole;
          within = omega (arith, h);
          sixteen = length-set own count (get_or es i []) ∙ s.sixteen;
          few = omega arith;
          long = rw add-one longer;
          gathered = λ j l. rw (add-one i) (by j l (j is count) refl);
          new =
              rw (add-one i, add-one count)
              (all_behind count 0 (new_name (ours_of (suc i) p))
              ∙ (let z : 0 + count ≡ count = omega arith in rw (new_before, z, new_here) (sym er ∙ nr)));
        }
      where
        e : List ℕ
        e = get_or es i []

        by : (j : ℕ) → j < count + 1 → (c : Bool) → j is count ≡ c → SameEntry (get_or (set own count e) j []) 0 (ours_of (suc i) p) j
        by j l true u =
            let z : j ≡ count = eqb-true j count u in
            let y : get_or (set own count e) count [] ≡ e = get_or-set_same own count e [] (omega (arith, s.sixteen)) in
            let w : SameEntry (ours_of (suc i) p) count p i = own_last p i s.long own_here in
            rw (z, y) (record { octet = λ x o. here.octet x o ∙ sym (w.octet x o) })
        by j l false u =
            let d : j ≡ count → ⊥ = eqb-false j count u in
            let k : j < count = omega arith in
            let y : get_or (set own count e) j [] ≡ get_or own j [] = get_or-set_other own count j e [] d in
            let w : SameEntry (ours_of (suc i) p) j (ours_of i p) j = own_before p i s.long own_here k in
            rw y (record { octet = λ x o. (s.gathered j k).octet x o ∙ sym (w.octet x o) })

module _ {p : List ℕ} {own es : List (List ℕ)} {count i : ℕ} where
  pub sought_end : Sought p own count i → es ≡ entries p → length es ≤ i → true ≡ valid Applications p
  unfolding ours
  sought_end s all m =
      let h : entry_count p ≤ i = met_all p all m in
      let e : i ≡ entry_count p = omega (arith, s.within) in
      let l : length (ours_of (entry_count p) p) ≡ 6 * count = rw e at s.long in
      let c : entry_count (ours_of (entry_count p) p) ≡ count = omega arith in
      sym (entries_valid p (record { whole = s.whole; most = omega (arith, s.few); new = rw c (rw e at s.new) }))

-- ---- a local setting: each entry is ours, and its selector is 0 or 1

pub local_own : (p : List ℕ) → local_values Applications p ≡ true → (i : ℕ) → i < entry_count p → is_ours p i ≡ true
unfolding local_values
local_own p e i h =
    and_left (is_ours p i) (selector_of p i below 2)
    (all_at (entry_count p) 0 (λ i. is_ours p i && selector_of p i below 2) e i (omega arith) (omega arith))
