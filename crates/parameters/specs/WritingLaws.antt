-- How many octets a configuration has. Assumes nothing.
use Rattle.std.specs.Prelude.{ℕ, ◌≤◌, ◌≡◌, List, length}
use Rattle.std.proofs.Common.{◌∙◌, arith, length-take}
use Rattle.std.proofs.Math.Path.{ap}
use Rattle.std.proofs.Math.ListN.{take}
use Rattle.parameters.specs.declared.Parameters.{Parameters}
use Rattle.parameters.specs.Parameters.{content}

pub record Size (p : Parameters) (n : ℕ) : Type 0 where
  pub is : n ≡ length (content p)
  pub small : n ≤ 96

-- the part of the octets that the length tells
module _ (p : Parameters) {kept : List ℕ} {n : ℕ} (e : n ≡ p.length) (h : kept ≡ take n p.octets) where
  pub content_of : kept ≡ content p
  unfolding content
  content_of = h ∙ ap (λ (m : ℕ). take m p.octets) e

-- all of which fit
pub size_of : (p : Parameters) → length p.octets ≡ 96 → length (content p) ≤ 96
unfolding content
size_of p l = simp length-take (omega arith)
