-- Laws of parameters as a state holds them. Assumes nothing.
use Rattle.std.specs.Prelude.{ℕ, ◌+◌, ◌-◌, ◌≤◌, min, ◌≡◌, refl, true, eqb, ◌&&◌, List, [], ◌∷◌, ◌++◌, length, take, drop, replicate}
use Rattle.std.proofs.Common.{arith, ap, ◌∙◌, length-append, length-take, take_all, drop_at, eq-eqb, eqb-true}
use Rattle.std.proofs.lemmas.List.{length-replicate, replicate-append-replicate}
use Rattle.std.proofs.Math.Seq.{take-append_seam, drop-append-add}
use Rattle.std.proofs.lemmas.List.Edits.{sets, sets-eq}
use Rattle.std.specs.Cmp.Lexicographic.{pointwise}
use Rattle.octets.specs.Words.{◌is◌}
use Rattle.octets.specs.Octets.{same}
use Rattle.octets.specs.Laws.{and_left, and_right, same_is, same_refl}
use Rattle.parameters.specs.declared.Parameters.{Parameters}
use Rattle.parameters.specs.Parameters.{stored, content, same_parameters}

-- ---- octets put behind those that are held, where zeros were

drop_zeros : (n m : ℕ) → drop n (replicate {A = ℕ} (n + m) 0) ≡ replicate m 0
drop_zeros n m = rw (← replicate-append-replicate {A = ℕ} n m 0) (drop_at (replicate n 0) (replicate m 0) n (length-replicate {A = ℕ} n 0))

pub put_behind : (a v : List ℕ) (m : ℕ) → sets (a ++ replicate (length v + m) 0) (length a) v ≡ a ++ v ++ replicate m 0
put_behind a v m =
    let r : List ℕ = replicate (length v + m) 0 in
    sets-eq v (a ++ r) (length a) (simp (length-append, length-replicate) (omega arith))
    ∙ rw (take-append_seam a r, drop-append-add a r (length v), drop_zeros (length v) m) refl

-- all of them
pub first_room : (p : List ℕ) {s : List ℕ} → s ≡ take 96 p → 0 + length s ≤ 96
first_room p e = let n : length (take 96 p) ≡ min 96 (length p) = length-take 96 p in rw e (omega arith)

pub stored_all : (p : List ℕ) {s kept : List ℕ} → s ≡ take 96 p → kept ≡ sets (replicate 96 0) 0 s → record { length = length s; octets = kept } ≡ stored p
unfolding stored
stored_all p {s} {kept} e k =
    let l : length s ≡ length (take 96 p) = ap length e in
    let n : length (take 96 p) ≡ min 96 (length p) = length-take 96 p in
    let z : 96 ≡ length s + (96 - length p) = omega arith in
    let o : kept ≡ take 96 p ++ replicate (96 - length p) 0 = k ∙ ap (λ (m : ℕ). sets (replicate m 0) 0 s) z ∙ put_behind [] s (96 - length p) ∙ rw e refl in
    λ t. record { length = l t; octets = o t }

-- ---- what is stored, as octets

pub content_stored : (p : List ℕ) → length p ≤ 96 → content (stored p) ≡ p
unfolding content stored
content_stored p h = take-append_seam (take 96 p) (replicate (96 - length p) 0) ∙ take_all 96 p h

-- ---- equality

pub same_parameters_is : (a b : Parameters) → same_parameters a b ≡ true → a ≡ b
unfolding same_parameters
same_parameters_is a b e =
    let l : a.length ≡ b.length = eqb-true a.length b.length (and_left (a.length is b.length) (same a.octets b.octets) e) in
    let o : a.octets ≡ b.octets = same_is a.octets b.octets (and_right (a.length is b.length) (same a.octets b.octets) e) in
    λ t. record { length = l t; octets = o t }

pub same_parameters_refl : (a : Parameters) → same_parameters a a ≡ true
unfolding same_parameters
same_parameters_refl a = rw (eq-eqb a.length a.length refl, same_refl a.octets)

-- the derived `==` finds them the same exactly where these are
same_pointwise : (a b : List ℕ) → pointwise eqb a b ≡ same a b
unfolding same
same_pointwise [] [] = refl
same_pointwise [] (y ∷ b) = refl
same_pointwise (x ∷ a) [] = refl
same_pointwise (x ∷ a) (y ∷ b) = rw (same_pointwise a b)

pub same_parameters_eq : (a b : Parameters) → (eqb a.length b.length && pointwise eqb a.octets b.octets) ≡ same_parameters a b
unfolding same_parameters
same_parameters_eq a b = rw (same_pointwise a.octets b.octets)
