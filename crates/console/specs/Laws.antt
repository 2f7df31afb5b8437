-- What is held of a buffer lies in it. Assumes nothing.
use Rattle.std.specs.Prelude.{◌≡◌, ℕ, ◌-◌, ◌≤◌, List, length, take, drop}
use Rattle.std.proofs.Common.{arith, length-take, length-drop}

pub held_length : (b : List ℕ) (n e : ℕ) {t r : List ℕ} → t ≡ take e b → r ≡ drop n t → length r ≤ length b - n
held_length b n e h k = rw (k, h) (simp (length-drop, length-take) (omega arith))
