-- A round as one function runs it: no call stands between its four, and an end whose write is refused gives nothing.
use Rattle.std.specs.Prelude.{ℕ, ◌≡◌, List, []}
use Rattle.std.proofs.Math.Option.{none}
use Rattle.port.specs.declared.Port.{Port}
use Rattle.port.specs.Writing.{output}
use Rattle.rounds.specs.declared.Pair.{Pair}
use Rattle.rounds.specs.Rounds.{Ends, Round, left, lossless, calls, delivered, exec_all}

-- both write, the left end first; then both frames are delivered, the left end handling first
abbrev pub plain : List ℕ → List ℕ → Round
plain ol or =
    record { lent_l = ol; lent_r = or; writer = left; handler = left; calls_0 = []; calls_1 = []; calls_2 = []; calls_3 = []; calls_4 = [] }

abbrev pub after_round : Port → Port → List ℕ → List ℕ → Ends
after_round l r ol or = exec_all (calls lossless (plain ol or)) (record { l = l; r = r; from_l = none; from_r = none })

-- the two ports after it, what each raised when the other's frame was delivered, and the outputs that they were lent
pub record Rounded (l r : Port) (ol or : List ℕ) (p : Pair) (ol' or' : List ℕ) : Type 0 where
  pub left : p.left ≡ (after_round l r ol or).l
  pub right : p.right ≡ (after_round l r ol or).r
  pub of_left : p.of_left ≡ (delivered l (after_round l r ol or).from_r).notices
  pub of_right : p.of_right ≡ (delivered r (after_round l r ol or).from_l).notices
  pub output_l : ol' ≡ output l ol
  pub output_r : or' ≡ output r or
