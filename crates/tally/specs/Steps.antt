-- What the functions do, on the values that they hold: octets as they come, and the text of the counts. A line is counting/Steps; what this comes
-- to over a whole capture is Replay and Report: see Replayed.
use Rattle.std.specs.Prelude.{ℕ, ◌≡◌, Bool, true, false, ◌&&◌, List, [], ◌∷◌, ◌++◌, length, drop, replicate, if◌then◌else◌}
use Rattle.octets.specs.Words.{◌below◌}
use Rattle.octets.specs.Texts.{text}
use Rattle.port.specs.declared.Port.{Port}
use Rattle.port.specs.Settled.{settled}
use Rattle.capture.specs.declared.Feed.{Feed}
use Rattle.capture.specs.Steps.{Front, held_of}
use Rattle.capture.specs.Feeding as feeding
use Rattle.capture.specs.Feeding.{ended, feed_of}
use Rattle.numerals.specs.Numerals.{decimal}
use Rattle.counters.specs.Counters.{Changes}
use Rattle.counters.specs.Counters.{unchanged}
use Rattle.counting.specs.declared.Tally.{Tally}
use Rattle.counting.specs.Steps.{with_line}

-- ---- octets as they come

abbrev pub Replay : Type 0
Replay = Feed Tally

abbrev pub replay_of : Tally → Front → Replay
replay_of t h = feed_of t h

abbrev pub fed : Replay → List ℕ → Replay
fed r s = feeding.fed with_line r s

abbrev pub finished : Replay → Tally
finished r = ended with_line r.value r.held

-- ---- the start

unfoldable pub begun : Port → Port → Tally
begun a b =
    record {
      a = a;
      b = b;
      from_a = 0;
      from_b = 0;
      others = 0;
      refusals = replicate 8 0;
      of_a = unchanged;
      of_b = unchanged;
      settled = settled a && settled b;
      frames = 0;
    }

unfoldable pub started : Port → Port → Replay
started a b = replay_of (begun a b) (held_of [])

-- ---- the text

-- "decimal numbers parted by one space", and a line feed
unfoldable pub row : List ℕ → List ℕ
row [] = []
row (n ∷ []) = decimal n ++ (10 ∷ [])
row (n ∷ m ∷ ns) = decimal n ++ (32 ∷ row (m ∷ ns))

unfoldable pub changes_text : Changes → List ℕ
changes_text c = row c.groups ++ (row c.flow ++ row c.applications)

unfoldable pub settled_text : Bool → ℕ → List ℕ
settled_text true n = text "settled " ++ row (n ∷ [])
settled_text false n = text "not settled" ++ (10 ∷ [])

unfoldable pub tally_text : Tally → List ℕ
tally_text t =
    row (t.from_a ∷ t.from_b ∷ t.others ∷ [])
    ++ (row t.refusals ++ (changes_text t.of_a ++ (changes_text t.of_b ++ settled_text t.settled t.frames)))

-- An output of fewer than 1280 octets, which may be too few, is left as it is and answered with 0. In any other the text stands in front.
unfoldable pub report_length : Tally → List ℕ → ℕ
report_length t out = if length out below 1280 then 0 else length (tally_text t)

unfoldable pub report_output : Tally → List ℕ → List ℕ
report_output t out = if length out below 1280 then out else tally_text t ++ drop (length (tally_text t)) out

pub record Reports (t : Tally) (out : List ℕ) (r : ℕ) (now : List ℕ) : Type 0 where
  pub answers : r ≡ report_length t out
  pub octets : now ≡ report_output t out
