-- A value that each line of an input changes, over octets as they come: a line counts where it ends, whatever reads it stands in.
use Rattle.std.specs.Prelude.{ℕ, List, [], ◌∷◌, ◌++◌, if◌then◌else◌}
use Rattle.octets.specs.Words.{◌is◌}
use Rattle.words.specs.Text.{pending}
use Rattle.capture.specs.declared.Feed.{Feed}
use Rattle.capture.specs.Steps.{clipped, held_of, Front}

-- one after the other: all lines, or all reads
unfoldable pub in_turn : {A : Type 0} → (A → List ℕ → A) → A → List (List ℕ) → A
in_turn step t [] = t
in_turn step t (l ∷ ls) = in_turn step (step t l) ls

-- the octets of all reads, one behind the other
unfoldable pub joined : List (List ℕ) → List ℕ
joined [] = []
joined (s ∷ ss) = s ++ joined ss

-- the value behind the last line feed, and what stands behind that
pub record Fed (A : Type 0) : Type 0 where
  pub value : A
  pub rest : List ℕ

-- where w was read of a line already
unfoldable pub fed_from : {A : Type 0} → (A → List ℕ → A) → A → List ℕ → List ℕ → Fed A
fed_from step t w [] = record { value = t; rest = w }
fed_from step t w (c ∷ s) = if c is 10 then fed_from step (step t w) [] s else fed_from step t (w ++ (c ∷ [])) s

-- as it is kept between two reads, by whoever keeps a value and what is held of a line
unfoldable pub held_fed : {A R : Type 0} → (A → Front → R) → Fed A → R
held_fed make x = make x.value (held_of (clipped x.rest))

-- the input is at its end: what is held is a line too, if it is anything
unfoldable pub ended : {A : Type 0} → (A → List ℕ → A) → A → Front → A
ended step t h = if h.n is 0 then t else step t (pending h)

-- a value and what is held, as the functions keep them
abbrev pub feed_of : {A : Type 0} → A → Front → Feed A
feed_of t h = record { value = t; held = h }

-- the next octets
abbrev pub fed : {A : Type 0} → (A → List ℕ → A) → Feed A → List ℕ → Feed A
fed step r s = held_fed feed_of (fed_from step r.value (pending r.held) s)
