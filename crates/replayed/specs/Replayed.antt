-- 02, E8: "Each number equals its count over the run that the rules define." The claim over a whole capture, of any two ports and of any input,
-- wherever it is cut into reads. The functions' contracts are `started`, `fed`, `finished` and `Reports` (Steps); Replay and Report say what
-- is counted and written. No count is bounded: past 2^64 - 1 of something the number written stays there, as `capped` says.
use Rattle.std.specs.Prelude.{ℕ, ◌≤◌, ◌≡◌, List, ◌++◌, length, drop}
use Rattle.parameters.specs.declared.Feature.{Feature}
use Rattle.feature.specs.declared.Switches.{Switches}
use Rattle.port.specs.declared.Port.{Port}
use Rattle.port.specs.declared.Versions.{Versions}
use Rattle.creation.specs.Creation.{created, blank_port}
use Rattle.capture.specs.Capture.{lines}
use Rattle.capture.specs.Feeding.{in_turn, joined}
use Rattle.counting.specs.declared.Tally.{Tally}
use Rattle.replayed.specs.Replay.{Ends}
use Rattle.replayed.specs.Report.{report_on}
use Rattle.tally.specs.Steps.{started, fed, finished, tally_text, report_length, report_output}

-- `start`, a `feed` for each read, `finish`
abbrev pub replayed : Ends → List (List ℕ) → Tally
replayed e reads = finished (in_turn fed (started e.a e.b) reads)

-- the settings of an end, and the port that creation makes of them
pub record Settings : Type 0 where
  pub versions : Versions
  pub switches : Feature → Switches
  pub parameters : Feature → List ℕ

abbrev pub port_with : Settings → Port
port_with x = (created x.versions x.switches x.parameters blank_port).port

pub record Replays : Type 0 where
  -- the report's octets are those of the counts over the run of the lines
  pub text : (e : Ends) (reads : List (List ℕ)) → tally_text (replayed e reads) ≡ report_on e (lines (joined reads))
  -- and `report` puts them in front of an output of 1280 octets or more, whatever that held before
  pub answer : (e : Ends) (reads : List (List ℕ)) (out : List ℕ) → 1280 ≤ length out → report_length (replayed e reads) out ≡ length (report_on e (lines (joined reads)))
  pub output : (e : Ends) (reads : List (List ℕ)) (out : List ℕ) → 1280 ≤ length out
      → report_output (replayed e reads) out ≡ report_on e (lines (joined reads)) ++ drop (length (report_on e (lines (joined reads)))) out
  -- so where the input is cut into reads makes no difference, to any count
  pub cuts : (e : Ends) (reads others : List (List ℕ)) → joined reads ≡ joined others → replayed e reads ≡ replayed e others
  -- so of the ports that creation makes: an instance of `text` (of refused settings `port_with` is the blank port, and the program writes
  -- `bad settings` instead)
  pub settings : (x y : Settings) (reads : List (List ℕ))
      → tally_text (replayed (record { a = port_with x; b = port_with y }) reads) ≡ report_on (record { a = port_with x; b = port_with y }) (lines (joined reads))
