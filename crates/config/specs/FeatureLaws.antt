-- Laws of the dispatch over the three features. Assumes nothing.
use Rattle.std.specs.Prelude.{ℕ, ◌≤◌, ◌≡◌, true, List, length}
use Rattle.std.proofs.Common.{arith}
use Rattle.std.proofs.Math.Path.{refl}
use borrow.Author.Tests.{eqb-true}
use Rattle.octets.specs.Laws.{and_left, and_right}
use Rattle.parameters.specs.declared.Feature.{Feature}
use Rattle.parameters.specs.declared.Feature.TheVariants.{Groups, Flow, Applications}
use Rattle.applications.specs.OursLaws.{ours_whole, ours_ours, all_own}
use Rattle.applications.specs.ApplicationsLaws.{Entries, entries_told, entries_valid, local_own}
use Rattle.parameters.specs.Parameters.{entry_count, ours_of, ours, valid_groups, valid_flow, valid, local_values, valid_local}

-- ---- what is ours of valid parameters

-- fits in what a state holds
pub ours_length : (f : Feature) (p : List ℕ) → valid f p ≡ true → length (ours f p) ≤ 96
unfolding valid valid_groups valid_flow ours
ours_length Groups p e = let l : length p ≡ 13 = eqb-true (length p) 13 (and_left _ _ (and_left _ _ (and_left _ _ e))) in omega arith
ours_length Flow p e = let l : length p ≡ 2 = eqb-true (length p) 2 (and_left _ _ e) in omega arith
ours_length Applications p e = (entries_told p e).most

-- is valid
pub valid_ours : (f : Feature) (p : List ℕ) → valid f p ≡ true → valid f (ours f p) ≡ true
unfolding ours
valid_ours Groups p e = e
valid_ours Flow p e = e
valid_ours Applications p e =
    let h : Entries p = entries_told p e in
    entries_valid (ours_of (entry_count p) p)
    (record {
      whole = ours_whole p (entry_count p) (omega arith);
      most = rw (ours_ours Applications p) h.most;
      new = rw (ours_ours Applications p) h.new;
    })

-- and is all of a local setting
pub local_ours : (f : Feature) (p : List ℕ) → valid_local f p ≡ true → ours f p ≡ p
unfolding valid_local ours
local_ours Groups p e = refl
local_ours Flow p e = refl
local_ours Applications p e =
    all_own p (entries_told p (and_left (valid Applications p) (local_values Applications p) e)).whole
    (local_own p (and_right (valid Applications p) (local_values Applications p) e))
