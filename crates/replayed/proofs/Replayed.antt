-- The claim of E8, whole: of any two ports, and of any input wherever it is cut into reads. Assumes nothing.
use Prim.Native.Nat.{ℕ}
use mathlib.Core.Path.{◌≡◌, refl, sym, ap, ◌∙◌}
use mathlib.Core.List.{List, [], ◌++◌}
use lib.ListN.{length, drop}
use borrow.Author.Tests.{le-ltb}
use Rattle.capture.specs.Capture.{lines}
use Rattle.capture.specs.Feeding.{in_turn, joined, held_fed}
use Rattle.capture.specs.FeedingLaws.{fed_all, finished_all}
use Rattle.counting.specs.StepLaws.{with_clipped}
use Rattle.replayed.specs.Replay.{Ends}
use Rattle.replayed.specs.Report.{report_on}
use Rattle.counting.specs.Steps.{with_line}
use Rattle.tally.specs.Steps.{replay_of, fed, finished, begun, started, tally_text, report_length, report_output}
use Rattle.replayed.specs.Replayed.{replayed, port_with, Replays}
use Rattle.replayed.proofs.Counts.{counted_text}

lines_are : (e : Ends) (reads : List (List ℕ)) → replayed e reads ≡ in_turn with_line (begun e.a e.b) (lines (joined reads))
unfolding started held_fed
lines_are e reads =
    ap finished (fed_all with_line with_clipped replay_of fed (λ t h s. refl) reads (begun e.a e.b) [])
    ∙ finished_all with_line with_clipped replay_of finished (λ t h. refl) (joined reads) (begun e.a e.b) []

text_is : (e : Ends) (reads : List (List ℕ)) → tally_text (replayed e reads) ≡ report_on e (lines (joined reads))
text_is e reads = ap tally_text (lines_are e reads) ∙ counted_text e (lines (joined reads))

cut_is : (e : Ends) (reads others : List (List ℕ)) → joined reads ≡ joined others → replayed e reads ≡ replayed e others
cut_is e reads others q = lines_are e reads ∙ ap (λ (s : List ℕ). in_turn with_line (begun e.a e.b) (lines s)) q ∙ sym (lines_are e others)

pub replays : Replays
unfolding report_length report_output
replays =
    record {
      text = text_is;
      answer = λ e reads out h. rw (le-ltb (length out) 1280 h) (ap length (text_is e reads));
      output = λ e reads out h. rw (le-ltb (length out) 1280 h) (ap (λ (t : List ℕ). t ++ drop (length t) out) (text_is e reads));
      cuts = cut_is;
      settings = λ x y reads. text_is (record { a = port_with x; b = port_with y }) reads;
    }
