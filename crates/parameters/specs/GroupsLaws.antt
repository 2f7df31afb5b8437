-- Laws of priority groups, for `groups`: its recursions are the library's. Assumes nothing.
use Rattle.std.specs.Prelude.{ℕ, ◌/◌, ◌%◌, ◌≡◌, ◌&&◌, true, false, Bool, List, [], ◌∷◌}
use Rattle.std.specs.List.{list_all, sum as list_sum}
use Rattle.std.proofs.Math.Path.{refl}
use Rattle.std.proofs.lemmas.List.Recursion.{is_sum_by}
use Rattle.parameters.specs.StepsLaws.{two_groups}
use Rattle.parameters.specs.Parameters.{good_group, good_halves, sum}

pub halves_all : (s : List ℕ) → list_all two_groups s ≡ good_halves s
unfolding good_halves
halves_all [] = refl
halves_all (x ∷ s) = rw (halves_all s) (and_and (good_group (x / 16)) (good_group (x % 16)) (good_halves s))
  where
    and_and : (a b c : Bool) → ((a && b) && c) ≡ (a && b && c)
    and_and true b c = refl
    and_and false b c = refl

pub sum_by_one : (s : List ℕ) → sum s ≡ list_sum s
unfolding sum
sum_by_one s = is_sum_by sum (λ x. x) refl (λ x xs. refl) s
