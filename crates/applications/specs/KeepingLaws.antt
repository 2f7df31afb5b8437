-- Laws of `store`: of the entries that came those that are ours are held. Assumes nothing.
use Prim.Native.Nat.{ℕ, ◌+◌, ◌-◌, ◌*◌, ◌≤◌, ◌<◌}
use native.Mathlib.Omega.{arith}
use Rattle.std.proofs.Common.{add-one, sym, ◌∙◌}
use Rattle.std.specs.Prelude.{◌≡◌, Bool, true, false, [], get_or, drop}
use Rattle.std.proofs.Math.Path.{refl, ap}
use mathlib.Core.List.{List, ◌++◌}
use Rattle.std.proofs.Math.ListN.{length, take, replicate, length-append}
use Rattle.std.proofs.lemmas.List.{length-replicate}
use Rattle.std.proofs.Math.Seq.{take_all, take_at}
use Rattle.std.proofs.lemmas.List.Edits.{sets}
use Rattle.parameters.specs.declared.Feature.TheVariants.{Applications}
use Rattle.parameters.specs.Parameters.{entry_count, is_ours, ours_of, ours, stored}
use Rattle.applications.specs.OursLaws.{Begins, begins, own_same, entry_length, ours_own, ours_foreign, ours_whole}
use Rattle.applications.specs.Entries.{entries}
use Rattle.applications.specs.EntriesLaws.{met_within, met_at, met_is, met_all}
use Rattle.parameters.specs.StoringLaws.{put_behind}

-- ---- of the first i entries those that are ours are stored

pub record Keeping (p kept : List ℕ) (size i : ℕ) : Type 0 where
  pub within : i ≤ entry_count p
  pub long : length (ours_of i p) ≡ size
  pub room : size ≤ 96
  pub octets : kept ≡ ours_of i p ++ replicate (96 - size) 0

pub keeping_start : (p : List ℕ) → Keeping p (replicate 96 0) 0 0
unfolding ours_of
keeping_start p = record { within = omega arith; long = refl; room = omega arith; octets = refl }

module _ (p : List ℕ) {es : List (List ℕ)} {i : ℕ} (all : es ≡ entries p) (m : i < length es) where
  met_six : length (get_or es i []) ≡ 6
  met_six = rw (met_at p all m) (entry_length p i (met_within p all m))

module _ {p kept : List ℕ} {size i : ℕ} where
  -- room for one is room for six octets
  keeping_room : Keeping p kept size i → size < 96 → size + 6 ≤ 96
  keeping_room k h = let w = ours_whole p i k.within in omega (arith, k.long)

  pub keeping_sized : Keeping p kept size i → 96 ≡ length kept
  keeping_sized k = sym (ap length k.octets ∙ length-append (ours_of i p) (replicate (96 - size) 0) ∙ rw (k.long, length-replicate {A = ℕ} (96 - size) 0) (omega (arith, k.room)))

module _ {p kept : List ℕ} {es : List (List ℕ)} {size i : ℕ} where
  pub keeping_foreign : {b : Bool} → Keeping p kept size i → es ≡ entries p → i < length es → b ≡ is_ours (get_or es i []) 0 → b ≡ false → Keeping p kept size (i + 1)
  keeping_foreign k all m e n =
      let h : i < entry_count p = met_within p all m in
      let s : ours_of (i + 1) p ≡ ours_of i p = rw add-one (ours_foreign p i (sym (own_same (met_is p all m)) ∙ sym e ∙ n)) in
      record { within = omega arith; long = rw s k.long; room = k.room; octets = rw s k.octets }

  pub keeping_put : Keeping p kept size i → es ≡ entries p → i < length es → size < 96 → size + length (get_or es i []) ≤ length kept
  keeping_put k all m r =
      let l : length (get_or es i []) ≡ 6 = met_six p all m in
      let o : size + 6 ≤ 96 = keeping_room k r in
      rw (← keeping_sized k) (omega arith)

  pub keeping_more : {b : Bool} {now : List ℕ} → Keeping p kept size i → es ≡ entries p → i < length es → b ≡ is_ours (get_or es i []) 0 → b ≡ true → size < 96
      → now ≡ sets kept size (get_or es i []) → Keeping p now (size + 6) (i + 1)
  keeping_more {b} {now} k all m e n r ew =
      let h : i < entry_count p = met_within p all m in
      let v : List ℕ = get_or es i [] in
      let ev : v ≡ take 6 (drop (6 * i) p) = met_at p all m in
      let t : is_ours p i ≡ true = sym (own_same (met_is p all m)) ∙ sym e ∙ n in
      let s : ours_of (i + 1) p ≡ ours_of i p ++ v = rw (add-one, ev) (ours_own p i t) in
      let f : size + 6 ≤ 96 = keeping_room k r in
      let lv : length v ≡ 6 = met_six p all m in
      let z : 96 - size ≡ length v + (96 - (size + 6)) = omega arith in
      let o : kept ≡ ours_of i p ++ replicate (length v + (96 - (size + 6))) 0 = k.octets ∙ rw z refl in
      record {
        within = omega arith;
        long = rw s (length-append (ours_of i p) v ∙ rw (k.long, lv) refl);
        room = f;
        octets = ew ∙ (λ j. sets (o j) (sym k.long j) v) ∙ put_behind (ours_of i p) v (96 - (size + 6)) ∙ rw s refl;
      }

  -- all were looked at
  pub keeping_end : Keeping p kept size i → es ≡ entries p → length es ≤ i → record { length = size; octets = kept } ≡ stored (ours Applications p)
  unfolding stored ours
  keeping_end k all m =
      let h : entry_count p ≤ i = met_all p all m in
      let e : i ≡ entry_count p = omega (arith, k.within) in
      let s : ours_of i p ≡ ours_of (entry_count p) p = ap (λ (n : ℕ). ours_of n p) e in
      let l : length (ours_of (entry_count p) p) ≡ size = ap length (sym s) ∙ k.long in
      let t : take 96 (ours_of (entry_count p) p) ≡ ours_of (entry_count p) p = take_all 96 (ours_of (entry_count p) p) (omega (arith, k.room)) in
      let a : size ≡ length (take 96 (ours_of (entry_count p) p)) = rw (t, l) refl in
      let o : kept ≡ take 96 (ours_of (entry_count p) p) ++ replicate (96 - length (ours_of (entry_count p) p)) 0 = rw (t, l, ← s) k.octets in
      λ j. record { length = a j; octets = o j }

  -- or 16 are kept, and there is one more
  pub keeping_full : {b : Bool} → Keeping p kept size i → es ≡ entries p → i < length es → b ≡ is_ours (get_or es i []) 0 → b ≡ true → 96 ≤ size → record { length = 96; octets = kept } ≡ stored (ours Applications p)
  unfolding stored ours
  keeping_full k es_all u q n r =
      let h : i < entry_count p = met_within p es_all u in
      let all : List ℕ = ours_of (entry_count p) p in
      let z : size ≡ 96 = omega (arith, k.room) in
      let g : Begins (ours_of i p) all = begins p i (entry_count p) k.within in
      let l : length (ours_of i p) ≡ 96 = k.long ∙ z in
      let t : take 96 all ≡ ours_of i p = ap (take 96) g.whole ∙ take_at (ours_of i p) g.rest 96 l in
      let m : length all ≡ length (ours_of i p) + length g.rest = ap length g.whole ∙ length-append (ours_of i p) g.rest in
      let y : 96 - size ≡ 96 - length all = omega arith in
      let a : 96 ≡ length (take 96 all) = rw (t, l) refl in
      let o : kept ≡ take 96 all ++ replicate (96 - length all) 0 = k.octets ∙ rw (t, y) refl in
      λ j. record { length = a j; octets = o j }
