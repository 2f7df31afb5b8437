-- What the functions look at on their way through an input: the octets before the first line feed, 16 octets at a time; what is held of a line.
use Rattle.std.specs.Prelude.{ℕ, zero, suc, ◌+◌, ◌≤◌, ◌≡◌, Bool, false, ◌||◌, List, [], ◌∷◌, length, take, drop, if◌then◌else◌}
use Rattle.octets.specs.Words.{◌is◌}
use Rattle.words.specs.declared.Held.{Held}
use Rattle.words.specs.Text.{held}

-- how many octets stand before the first line feed, all where there is none
unfoldable pub before : List ℕ → ℕ
before [] = 0
before (c ∷ s) = if c is 10 then 0 else suc (before s)

-- some of the first n octets is a line feed
unfoldable pub feed_in : ℕ → List ℕ → Bool
feed_in zero s = false
feed_in (suc n) [] = false
feed_in (suc n) (c ∷ s) = c is 10 || feed_in n s

-- no line feed stands among the first i octets
pub record Along (s : List ℕ) (i : ℕ) : Type 0 where
  pub within : i ≤ length s
  pub same : i + before (drop i s) ≡ before s

-- where the first line feed stands, or the end
pub record Before (s : List ℕ) (n : ℕ) : Type 0 where
  pub place : n ≡ before s
  pub within : n ≤ length s

-- ---- what is held of a line that has not ended: at most 1101 octets, one more than the longest line that anyone reads

abbrev pub clipped : List ℕ → List ℕ
clipped w = take 1101 w

-- the front of a line, in memory of a fixed size
abbrev pub Front : Type 0
Front = Held 1101

-- as it is held
abbrev pub held_of : List ℕ → Front
held_of w = held 1101 w
