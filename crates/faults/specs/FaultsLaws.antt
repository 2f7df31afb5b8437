-- Laws of the search for a fault. Assumes nothing.
use Rattle.std.specs.Prelude.{ℕ, zero, suc, ◌+◌, ◌-◌, ◌≤◌, ◌<◌, ◌≡◌, refl, Bool, true, false, not, List, [], ◌∷◌, length, get_or, take, ltb, leb, position, Option, Some, None, is_none, MatchOption, IfSome, if◌then◌else◌}
use Rattle.std.proofs.Common.{arith, sym, ap, ◌∙◌, length-take-le, get_or-take}
use Rattle.std.specs.List.{position_from}
use Rattle.std.specs.Option.{unwrap_or}
use Rattle.std.proofs.lemmas.Iterator.Adapters.{position_from-zero}
use Rattle.std.proofs.lemmas.Bool.Decides.{nat_tests}
use Rattle.std.proofs.Math.Bool.{not-not}
use Rattle.std.proofs.lemmas.Bool.{false≢true}
use borrow.Author.Tests.{ltb-true, ltb-false}
use Rattle.octets.specs.Words.{◌below◌}
use Rattle.parameters.specs.Parameters.{entry_count, selector_of, same_name, all_from, new_name, is_ours}
use Rattle.applications.specs.Entries.{entries}
use Rattle.applications.specs.EntriesLaws.{entries_length, entry_is, met_within, met_is, met_all}
use Rattle.applications.specs.OursLaws.{own_same, name_same, selector_same}
use Rattle.faults.specs.declared.Fault.{Fault}
use Rattle.faults.specs.Faults.{first_not, foreign_entry, second_entry, other_entry, first_entry, again, low_selector, high_selector}

-- ---- none fails exactly where all pass

pub all_pass : (n i : ℕ) (test : ℕ → Bool) → is_none (first_not n i test) ≡ all_from n i test
unfolding first_not all_from
all_pass zero i test = refl
all_pass (suc n) i test = here (test i) refl (all_pass n (i + 1) test)
  where
    here : (b : Bool) → test i ≡ b → is_none (first_not n (i + 1) test) ≡ all_from n (i + 1) test → is_none (first_not (suc n) i test) ≡ all_from (suc n) i test
    here true e h = rw e h
    here false e h = rw e refl

-- ---- the one that a search over the numbers finds

module _ (test : ℕ → Bool) where
  pub is_first_not : (n i : ℕ) (r : Option ℕ)
      → MatchOption r ((k : ℕ) → i ≤ k → k < i + n → test k ≡ true) (λ j. (i ≤ j) × (j < i + n) × (test j ≡ false) × ((k : ℕ) → i ≤ k → k < j → test k ≡ true))
      → r ≡ first_not n i test
  unfolding first_not
  is_first_not zero i None h = refl
  is_first_not zero i (Some j) h = absurd (omega (arith, h.0, h.1))
  is_first_not (suc n) i r h = here (test i) refl r h (is_first_not n (i + 1))
    where
      Found : ℕ → ℕ → Option ℕ → Type 0
      Found n i r = MatchOption r ((k : ℕ) → i ≤ k → k < i + n → test k ≡ true) (λ j. (i ≤ j) × (j < i + n) × (test j ≡ false) × ((k : ℕ) → i ≤ k → k < j → test k ≡ true))

      here : (b : Bool) → test i ≡ b → (r : Option ℕ) → Found (suc n) i r → ((r : Option ℕ) → Found n (i + 1) r → r ≡ first_not n (i + 1) test) → r ≡ first_not (suc n) i test
      here true e None h f = rw e (f None (λ k a b. h k (omega arith) (omega arith)))
      here true e (Some j) h f =
          let o : j ≡ i → ⊥ = λ z. false≢true (sym h.2 ∙ ap test z ∙ e) in
          rw e (f (Some j) (omega (arith, h.0), omega (arith, h.1), h.2, λ k a b. h.3 k (omega arith) b))
      here false e None h f = absurd (false≢true (sym e ∙ h i (omega arith) (omega arith)))
      here false e (Some j) h f = rw e (ap Some (same (ltb i j) refl))
        where
          same : (b : Bool) → ltb i j ≡ b → j ≡ i
          same true q = absurd (false≢true (sym e ∙ h.3 i (omega arith) (ltb-true i j q)))
          same false q = let l : j ≤ i = ltb-false i j q in omega (arith, h.0)

-- a search along a list, of which the numbers are the places
searched : {A : Type 0} (xs : List A) (d : A) (t : A → Bool) (i : ℕ) (s : ℕ → Bool) → ((j : ℕ) → j < length xs → s (i + j) ≡ not (t (get_or xs j d)))
    → position_from t i xs ≡ first_not (length xs) i s
unfolding first_not
searched [] d t i s h = refl
searched (x ∷ xs) d t i s h =
    let z : i + 0 ≡ i = omega arith in
    here (t x) refl (rw z at (h 0 (omega arith)))
    (searched xs d t (i + 1) s (λ j l. let y : i + 1 + j ≡ i + suc j = omega arith in rw y (h (suc j) (omega arith))))
  where
    here : (b : Bool) → t x ≡ b → s i ≡ not (t x) → position_from t (i + 1) xs ≡ first_not (length xs) (i + 1) s → position_from t i (x ∷ xs) ≡ first_not (suc (length xs)) i s
    here true e f g = rw (f, e) refl
    here false e f g = rw (f, e) g

pub list_searched : {A : Type 0} (xs : List A) (d : A) (t : A → Bool) (n : ℕ) (s : ℕ → Bool) → length xs ≡ n → ((j : ℕ) → j < n → s j ≡ not (t (get_or xs j d)))
    → position t xs ≡ first_not n 0 s
list_searched xs d t n s l h =
    position_from-zero t xs
    ∙ (rw l at (searched xs d t 0 s (λ j k. let z : 0 + j ≡ j = omega arith in rw z (h j (omega arith)))))

pub entries_searched : (p : List ℕ) (t : List ℕ → Bool) (s : ℕ → Bool) → ((i : ℕ) → i < entry_count p → s i ≡ not (t (get_or (entries p) i [])))
    → position t (entries p) ≡ first_not (entry_count p) 0 s
entries_searched p t s h = list_searched (entries p) [] t (entry_count p) s (entries_length p) h

pub first_within : (n i : ℕ) (test : ℕ → Bool) → IfSome (first_not n i test) (λ j. j < i + n)
unfolding first_not
first_within zero i test = tt
first_within (suc n) i test = here (test i) refl (first_within n (i + 1) test)
  where
    here : (b : Bool) → test i ≡ b → IfSome (first_not n (i + 1) test) (λ j. j < i + 1 + n) → IfSome (first_not (suc n) i test) (λ j. j < i + suc n)
    here true e h = let z : i + suc n ≡ i + 1 + n = omega arith in rw (z, e) h
    here false e h = rw e (omega arith)

-- ---- entries

-- a name is new exactly where the first entry that has it is that entry itself
pub new_is : (p : List ℕ) (i : ℕ) → new_name p i ≡ not (first_entry p i below i)
unfolding new_name first_entry other_entry
new_is p i = sym (all_pass i 0 (other_entry p i)) ∙ by (first_not i 0 (other_entry p i)) (first_within i 0 (other_entry p i))
  where
    by : (o : Option ℕ) → IfSome o (λ j. j < 0 + i) → is_none o ≡ not (unwrap_or o i below i)
    by None h = grind (arith, nat_tests)
    by (Some j) h = grind (arith, nat_tests)

module _ (p : List ℕ) where
  pub foreign_searched : position (λ e. not (is_ours e 0)) (entries p) ≡ foreign_entry p
  unfolding foreign_entry
  foreign_searched =
      entries_searched p (λ e. not (is_ours e 0)) (is_ours p)
      (λ i h. sym (own_same (entry_is p [] h)) ∙ sym (not-not (is_ours (get_or (entries p) i []) 0)))

  pub foreign_within : IfSome (foreign_entry p) (λ i. i < entry_count p)
  unfolding foreign_entry
  foreign_within = let z : 0 + entry_count p ≡ entry_count p = omega arith in rw z at (first_within (entry_count p) 0 (is_ours p))

  pub high_searched : position (λ e. leb 2 (selector_of e 0)) (entries p) ≡ high_selector p
  unfolding high_selector low_selector
  high_searched =
      entries_searched p (λ e. leb 2 (selector_of e 0)) (λ i. selector_of p i below 2)
      (λ i h. rw (← selector_same (entry_is p [] h)) (low (selector_of (get_or (entries p) i []) 0)))
    where
      low : (x : ℕ) → x below 2 ≡ not (leb 2 x)
      low x = grind (arith, nat_tests)

  pub high_within : IfSome (high_selector p) (λ i. i < entry_count p)
  unfolding high_selector
  high_within = let z : 0 + entry_count p ≡ entry_count p = omega arith in rw z at (first_within (entry_count p) 0 (low_selector p))

-- ---- the walk over the entries: each before i has a new name, and those from i on decide

pub record Seeking (p : List ℕ) (i : ℕ) : Type 0 where
  pub within : i ≤ entry_count p
  pub left : first_not (entry_count p - i) i (new_name p) ≡ second_entry p

pub seeking_start : (p : List ℕ) → Seeking p 0
unfolding second_entry
seeking_start p = let e : entry_count p - 0 ≡ entry_count p = omega arith in record { within = omega arith; left = rw e refl }

seeking_here : {p : List ℕ} {i : ℕ} → Seeking p i → i < entry_count p
    → (if new_name p i then first_not (entry_count p - (i + 1)) (i + 1) (new_name p) else Some i) ≡ second_entry p
unfolding first_not
seeking_here {p} {i} s h = let e : entry_count p - i ≡ suc (entry_count p - (i + 1)) = omega arith in rw e at s.left

module _ {p : List ℕ} {es : List (List ℕ)} {i : ℕ} (s : Seeking p i) (all : es ≡ entries p) where
  module _ (m : i < length es) {r : Option ℕ} (e : r ≡ position (λ o. same_name (get_or es i []) 0 o 0) (take i es)) where
    before : r ≡ first_not i 0 (other_entry p i)
    unfolding other_entry
    before =
        e
        ∙ list_searched (take i es) [] (λ o. same_name (get_or es i []) 0 o 0) i (λ j. not (same_name p i p j)) (length-take-le i es (omega arith))
        (λ j k. rw (get_or-take i es j [] k) (ap not (sym (name_same (met_is p all m) (met_is p all (omega arith))))))

    new_here : new_name p i ≡ is_none r
    unfolding new_name other_entry
    new_here = sym (all_pass i 0 (λ j. not (same_name p i p j))) ∙ ap is_none (sym before)

    pub seeking_found : {j : ℕ} → r ≡ Some j → Some (Fault.Again (j + 1) (i + 1)) ≡ again p
    unfolding again first_entry
    seeking_found {j} q =
        let b : new_name p i ≡ false = new_here ∙ ap is_none q in
        let f : Some i ≡ second_entry p = rw b at (seeking_here s (met_within p all m)) in
        let g : first_entry p i ≡ j = rw (← before, q) refl in
        rw (← f, g) refl

    pub seeking_more : r ≡ None → Seeking p (i + 1)
    seeking_more q =
        let h : i < entry_count p = met_within p all m in
        let b : new_name p i ≡ true = new_here ∙ ap is_none q in
        record { within = omega arith; left = rw b at (seeking_here s h) }

  pub seeking_end : length es ≤ i → None ≡ again p
  unfolding again first_not
  seeking_end m =
      let h : entry_count p ≤ i = met_all p all m in
      let e : entry_count p - i ≡ 0 = omega arith in
      let f : None ≡ second_entry p = rw e at s.left in
      rw (← f) refl

-- ---- the selector of an entry that is found

pub selector_at : (p : List ℕ) (i : ℕ) (d : List ℕ) → i < entry_count p → selector_of (get_or (entries p) i d) 0 ≡ selector_of p i
selector_at p i d h = selector_same (entry_is p d h)
