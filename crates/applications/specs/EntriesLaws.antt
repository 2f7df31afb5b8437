-- Laws of whole entries, one by one: entry i of the list of them is entry i of the octets, a test of all is a test of each, and a walk over
-- two lists of them. Assumes nothing.
use Rattle.std.specs.Prelude.{ℕ, zero, suc, ◌+◌, ◌*◌, ◌≤◌, ◌<◌, ◌≡◌, refl, Bool, true, false, not, ◌&&◌, List, [], ◌∷◌, length, get_or, take, drop}
use native.Mathlib.Omega.{arith}
use Rattle.std.proofs.Common.{sym, ap, ◌∙◌, length-take-le, get_or-take, get_or-drop, take_all}
use Rattle.std.proofs.lemmas.List.{drop-drop}
use Rattle.std.proofs.lemmas.List.Folds.{list_all_at}
use Rattle.std.specs.List.{list_all}
use Rattle.std.specs.Simd.{first_chunks}
use Rattle.octets.specs.Words.{◌below◌}
use Rattle.parameters.specs.declared.Feature.TheVariants.{Applications}
use Rattle.parameters.specs.Parameters.{entry_count, selector_of, same_name, all_from, is_ours, local_values, clash, clear_of, compatible}
use Rattle.applications.specs.Entries.{entries, local_entry, no_clash}
use Rattle.applications.specs.OursLaws.{SameEntry, own_same, selector_same, name_same, clash_same}

-- ---- which entries they are

chunk_at : (k i : ℕ) (q d : List ℕ) → i < k → get_or (first_chunks 6 k q) i d ≡ take 6 (drop (6 * i) q)
chunk_at zero i q d h = absurd (omega arith)
chunk_at (suc k) zero q d h = refl
chunk_at (suc k) (suc i) q d h =
    let z : 6 * suc i ≡ 6 + 6 * i = omega arith in
    chunk_at k i (drop 6 q) d (omega arith) ∙ rw (z, drop-drop (6 * i) 6 q) refl

chunks_long : (k : ℕ) (q : List ℕ) → length (first_chunks 6 k q) ≡ k
chunks_long zero q = refl
chunks_long (suc k) q = ap suc (chunks_long k (drop 6 q))

pub entries_length : (p : List ℕ) → length (entries p) ≡ entry_count p
unfolding entries
entries_length p = chunks_long (entry_count p) p

module _ (p : List ℕ) {i : ℕ} (d : List ℕ) (h : i < entry_count p) where
  pub entry_at : get_or (entries p) i d ≡ take 6 (drop (6 * i) p)
  unfolding entries
  entry_at = chunk_at (entry_count p) i p d h

  pub entry_is : SameEntry (get_or (entries p) i d) 0 p i
  entry_is =
      record {
        octet = λ x l. let z : 6 * 0 + x ≡ x = omega arith in rw (z, entry_at) (get_or-take 6 (drop (6 * i) p) x 0 l ∙ get_or-drop (6 * i) p x 0);
      }

-- ---- an entry by its place in the parameters, as the definitions of `parameters` count it, and by its six octets

pub entry_ours : (p : List ℕ) {i : ℕ} (d : List ℕ) → i < entry_count p → is_ours (get_or (entries p) i d) 0 ≡ is_ours p i
entry_ours p d h = own_same (entry_is p d h)

pub entry_names : (p q : List ℕ) {i j : ℕ} (d : List ℕ) → i < entry_count p → j < entry_count q
    → same_name (get_or (entries p) i d) 0 (get_or (entries q) j d) 0 ≡ same_name p i q j
entry_names p q d h k = name_same (entry_is p d h) (entry_is q d k)

-- the same of what a walk over them meets
module _ (p : List ℕ) {es : List (List ℕ)} {i : ℕ} (all : es ≡ entries p) (h : i < length es) where
  pub met_within : i < entry_count p
  met_within = let l : length es ≡ entry_count p = ap length all ∙ entries_length p in omega arith

  pub met_at : get_or es i [] ≡ take 6 (drop (6 * i) p)
  met_at = rw all (entry_at p [] met_within)

  pub met_is : SameEntry (get_or es i []) 0 p i
  met_is = rw all (entry_is p [] met_within)

pub met_all : (p : List ℕ) {es : List (List ℕ)} {i : ℕ} → es ≡ entries p → length es ≤ i → entry_count p ≤ i
met_all p {es} all h = let l : length es ≡ entry_count p = ap length all ∙ entries_length p in omega arith

-- ---- tests of all

-- a test of each number of a run, and of each element of a list
pub all_listed : {A : Type 0} (xs : List A) (d : A) (i : ℕ) (s : ℕ → Bool) (t : A → Bool) → ((j : ℕ) → j < length xs → s (i + j) ≡ t (get_or xs j d))
    → list_all t xs ≡ all_from (length xs) i s
unfolding all_from
all_listed [] d i s t h = refl
all_listed (x ∷ xs) d i s t h =
    let z : i + 0 ≡ i = omega arith in
    let e : s i ≡ t x = rw z at (h 0 (omega arith)) in
    let r : list_all t xs ≡ all_from (length xs) (i + 1) s = all_listed xs d (i + 1) s t (λ j l. let y : i + 1 + j ≡ i + suc j = omega arith in rw y (h (suc j) (omega arith))) in
    rw (e, r) refl

-- of the first n of them
pub first_listed : (n : ℕ) (xs : List (List ℕ)) (s : ℕ → Bool) (t : List ℕ → Bool) → n ≤ length xs → ((j : ℕ) → j < n → s j ≡ t (get_or xs j []))
    → list_all t (take n xs) ≡ all_from n 0 s
first_listed n xs s t h e =
    let l : length (take n xs) ≡ n = length-take-le n xs h in
    rw l at (all_listed (take n xs) [] 0 s t (λ j k. let m : j < n = omega arith in let z : 0 + j ≡ j = omega arith in rw (z, get_or-take n xs j [] m) (e j m)))

pub entries_listed : (p : List ℕ) (s : ℕ → Bool) (t : List ℕ → Bool) → ((i : ℕ) → i < entry_count p → s i ≡ t (get_or (entries p) i [])) → list_all t (entries p) ≡ all_from (entry_count p) 0 s
entries_listed p s t e =
    let l : length (entries p) ≡ entry_count p = entries_length p in
    rw l at (all_listed (entries p) [] 0 s t (λ j k. let z : 0 + j ≡ j = omega arith in rw z (e j (omega arith))))

module _ (p : List ℕ) where
  pub local_listed : list_all local_entry (entries p) ≡ local_values Applications p
  unfolding local_values local_entry
  local_listed =
      entries_listed p (λ i. is_ours p i && selector_of p i below 2) (λ e. is_ours e 0 && selector_of e 0 below 2)
      (λ i h. let s : SameEntry (get_or (entries p) i []) 0 p i = entry_is p [] h in rw (own_same s, selector_same s) refl)

  pub compatible_listed : (q : List ℕ) → list_all (λ e. list_all (no_clash e) (entries q)) (entries p) ≡ compatible Applications p q
  unfolding compatible clear_of no_clash
  compatible_listed q =
      entries_listed p (clear_of p q) (λ e. list_all (λ o. not (clash e 0 o 0)) (entries q))
      (λ i h.
      sym (entries_listed q (λ j. not (clash p i q j)) (λ o. not (clash (get_or (entries p) i []) 0 o 0))
      (λ j k. ap not (sym (clash_same (entry_is p [] h) (entry_is q [] k))))))

-- ---- the walk over the entries of two ends, left at the first clash

-- of the first j of `others` none clashes with e
pub record Clear (e : List ℕ) (others : List (List ℕ)) (clear : Bool) (j : ℕ) : Type 0 where
  pub still : clear ≡ true
  pub none : list_all (no_clash e) (take j others) ≡ true

-- nor with one of the first i of the entries
pub record Walked (p : List ℕ) (others : List (List ℕ)) (clear : Bool) (i : ℕ) : Type 0 where
  pub still : clear ≡ true
  pub none : list_all (λ e. list_all (no_clash e) others) (take i (entries p)) ≡ true

module _ (p q : List ℕ) {es others : List (List ℕ)} {i : ℕ} (all : es ≡ entries p) (os : others ≡ entries q) where
  -- left at a clash
  pub walk_left : {j : ℕ} {b : Bool} → i < length es → j < length others → b ≡ clash (get_or es i []) 0 (get_or others j []) 0 → b ≡ true → false ≡ compatible Applications p q
  unfolding no_clash
  walk_left {j} h k e t =
      let n : not (clash (get_or es i []) 0 (get_or others j []) 0) ≡ false = rw (← e, t) refl in
      let m : list_all (λ o. not (clash (get_or es i []) 0 o 0)) others ≡ false = list_all_at (λ o. not (clash (get_or es i []) 0 o 0)) others j [] k n in
      sym (list_all_at (λ e. list_all (λ o. not (clash e 0 o 0)) others) es i [] h m) ∙ rw (all, os) (compatible_listed p q)

  -- and else no two clash
  pub walk_end : {clear : Bool} → Walked p others clear i → length es ≤ i → clear ≡ compatible Applications p q
  walk_end w h =
      let t : take i (entries p) ≡ entries p = take_all i (entries p) (rw all at h) in
      w.still ∙ sym w.none ∙ rw (t, os) (compatible_listed p q)
