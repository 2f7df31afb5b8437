-- The walk that looks for our own entries among those that came, each where the next is held. Assumes nothing.
use Rattle.std.specs.Prelude.{ℕ, suc, ◌+◌, ◌-◌, ◌*◌, ◌%◌, ◌≤◌, ◌<◌, ◌≡◌, Bool, true, false, List, [], ◌++◌, take, drop, get_or}
use Rattle.std.proofs.Common.{arith, add-one, sym, ap, ◌∙◌, length-append, take-add, take_all, take_at, drop_at, eq-eqb, ne_eqb, eqb-true}
use Rattle.std.proofs.Math.Path.{refl}
use Rattle.std.proofs.lemmas.Bool.{false≢true, eqb-false}
use Rattle.std.proofs.Math.ListN.{length}
use Rattle.octets.specs.Words.{◌is◌}
use Rattle.octets.specs.Octets.{same}
use Rattle.octets.specs.Laws.{same_is, same_refl, unlike}
use Rattle.parameters.specs.declared.Feature.TheVariants.{Applications}
use Rattle.parameters.specs.Parameters.{entry_count, is_ours, ours_of, ours}
use Rattle.applications.specs.Entries.{entries}
use Rattle.applications.specs.EntriesLaws.{met_within, met_at, met_is, met_all}
use Rattle.applications.specs.OursLaws.{Begins, begins, own_same, ours_own, ours_foreign, own_long}
use Rattle.repeating.specs.Repeating.{holds_of}

-- our own of the first i entries are the first `size` octets of what is held
pub record Walked (p held : List ℕ) (size i : ℕ) : Type 0 where
  pub whole : length p % 6 ≡ 0
  pub within : i ≤ entry_count p
  pub long : length (ours_of i p) ≡ size
  pub room : size ≤ length held
  pub octets : ours_of i p ≡ take size held

pub walked_start : (p held : List ℕ) → length p % 6 ≡ 0 → Walked p held 0 0
unfolding ours_of
walked_start p held w = record { whole = w; within = omega arith; long = refl; room = omega arith; octets = refl }

pub walked_ragged : (p held : List ℕ) → (length p % 6 ≡ 0 → ⊥) → false ≡ holds_of Applications p held
unfolding holds_of
walked_ragged p held n = simp (ne_eqb (length p % 6) 0 n)

by_same : (p held : List ℕ) → length p % 6 ≡ 0 → same (ours Applications p) held ≡ holds_of Applications p held
unfolding holds_of
by_same p held w = simp (eq-eqb (length p % 6) 0 w)

-- what holds all of our own begins with our own of the first entries
record Starts (p held : List ℕ) (i : ℕ) : Type 0 where
  room : length (ours_of i p) ≤ length held
  octets : ours_of i p ≡ take (length (ours_of i p)) held

starts : (p held : List ℕ) (i : ℕ) → i ≤ entry_count p → same (ours Applications p) held ≡ true → Starts p held i
unfolding ours
starts p held i h e =
    let g : Begins (ours_of i p) (ours_of (entry_count p) p) = begins p i (entry_count p) h in
    let s : held ≡ ours_of i p ++ g.rest = sym (same_is (ours_of (entry_count p) p) held e) ∙ g.whole in
    let m : length held ≡ length (ours_of i p) + length g.rest = ap length s ∙ length-append (ours_of i p) g.rest in
    record { room = omega arith; octets = sym (ap (take (length (ours_of i p))) s ∙ take_at (ours_of i p) g.rest (length (ours_of i p)) refl) }

module _ {p held : List ℕ} {size i : ℕ} where
  pub walked_room : Walked p held size i → size ≤ length held
  walked_room k = k.room

  pub walked_part : Walked p held size i → 6 ≤ length held - size → size + 6 ≤ length held
  walked_part k l = omega (arith, k.room)

module _ {p held : List ℕ} {es : List (List ℕ)} {size i : ℕ} where
  pub walked_foreign : {b : Bool} → Walked p held size i → es ≡ entries p → i < length es → b ≡ is_ours (get_or es i []) 0 → b ≡ false → Walked p held size (i + 1)
  walked_foreign {b} k all m e n =
      let h : i < entry_count p = met_within p all m in
      let s : ours_of (i + 1) p ≡ ours_of i p = rw add-one (ours_foreign p i (sym (own_same (met_is p all m)) ∙ sym e ∙ n)) in
      record { whole = k.whole; within = omega arith; long = rw s k.long; room = k.room; octets = rw s k.octets }

  module _ {b : Bool} (k : Walked p held size i) (all : es ≡ entries p) (m : i < length es) (e : b ≡ is_ours (get_or es i []) 0) (n : b ≡ true) where
    h : i < entry_count p
    h = met_within p all m

    own_here : is_ours p i ≡ true
    own_here = sym (own_same (met_is p all m)) ∙ sym e ∙ n

    longer : length (ours_of (suc i) p) ≡ size + 6
    longer = own_long p i h own_here ∙ ap (λ (m : ℕ). m + 6) k.long

    -- a test that says no where all of our own would be held
    refuted : ((same (ours Applications p) held ≡ true) → ⊥) → false ≡ holds_of Applications p held
    refuted wrong = by (same (ours Applications p) held) refl ∙ by_same p held k.whole
      where
        by : (v : Bool) → same (ours Applications p) held ≡ v → false ≡ same (ours Applications p) held
        by true y = absurd (wrong y)
        by false y = sym y

    pub walked_short : length held - size < 6 → false ≡ holds_of Applications p held
    walked_short l = refuted (λ y. let r : length (ours_of (suc i) p) ≤ length held = (starts p held (suc i) (omega (arith, h)) y).room in omega (arith, longer, k.room))

    module _ {r : Bool} (l : 6 ≤ length held - size) (er : r ≡ same (get_or es i []) (take (size + 6 - size) (drop size held))) where
      here : get_or es i [] ≡ take 6 (drop (6 * i) p)
      here = met_at p all m

      there : take (size + 6 - size) (drop size held) ≡ take 6 (drop size held)
      there = let six : size + 6 - size ≡ 6 = omega arith in rw six refl

      tested : r ≡ same (take 6 (drop (6 * i) p)) (take 6 (drop size held))
      tested = er ∙ (λ j. same (here j) (there j))

      pub walked_other : r ≡ false → false ≡ holds_of Applications p held
      walked_other nr = refuted wrong
        where
          wrong : (same (ours Applications p) held ≡ true) → ⊥
          wrong y =
              let s : ours_of (suc i) p ≡ take (size + 6) held = (starts p held (suc i) (omega (arith, h)) y).octets ∙ ap (λ (m : ℕ). take m held) longer in
              let t : ours_of i p ++ take 6 (drop (6 * i) p) ≡ ours_of i p ++ take 6 (drop size held) =
              sym (ours_own p i own_here) ∙ s ∙ take-add size 6 held ∙ ap (λ (x : List ℕ). x ++ take 6 (drop size held)) (sym k.octets) in
              let u : take 6 (drop (6 * i) p) ≡ take 6 (drop size held) =
              sym (drop_at (ours_of i p) (take 6 (drop (6 * i) p)) size k.long) ∙ ap (drop size) t ∙ drop_at (ours_of i p) (take 6 (drop size held)) size k.long in
              false≢true (sym nr ∙ tested ∙ ap (λ (x : List ℕ). same x (take 6 (drop size held))) u ∙ same_refl (take 6 (drop size held)))

      pub walked_more : r ≡ true → Walked p held (size + 6) (i + 1)
      walked_more nr =
          let u : take 6 (drop (6 * i) p) ≡ take 6 (drop size held) = same_is (take 6 (drop (6 * i) p)) (take 6 (drop size held)) (sym tested ∙ nr) in
          record {
            whole = k.whole;
            within = omega (arith, h);
            long = rw add-one longer;
            room = omega (arith, k.room);
            octets = rw add-one (ours_own p i own_here ∙ (λ j. k.octets j ++ u j) ∙ sym (take-add size 6 held));
          }

  pub walked_end : Walked p held size i → es ≡ entries p → length es ≤ i → (size is length held) ≡ holds_of Applications p held
  unfolding ours
  walked_end k every m = by (size is length held) refl ∙ by_same p held k.whole
    where
      all : i ≡ entry_count p
      all = omega (arith, k.within, met_all p every m)

      own : ours_of (entry_count p) p ≡ take size held
      own = rw (← all) k.octets

      long : length (ours_of (entry_count p) p) ≡ size
      long = rw (← all) k.long

      by : (b : Bool) → (size is length held) ≡ b → b ≡ same (ours_of (entry_count p) p) held
      by true t =
          let z : size ≡ length held = eqb-true size (length held) t in
          let w : ours_of (entry_count p) p ≡ held = own ∙ take_all size held (omega arith) in
          sym (ap (λ (x : List ℕ). same x held) w ∙ same_refl held)
      by false t = unlike (ours_of (entry_count p) p) held (λ q. eqb-false size (length held) t (sym long ∙ q))
