-- 02, E12: what a line of one end's capture says, and what it does to the port.
use Rattle.std.specs.Prelude.{ℕ, Bool, true, false, List, [], Option, Some, None, Ok, Err}
use Rattle.port.specs.declared.Port.{Port}
use Rattle.recorder.specs.declared.Change.{Change}
use Rattle.recorder.specs.declared.Change.TheVariants as change
use Rattle.recorder.specs.Recorder.{happens}
use Rattle.lines.specs.declared.Kind.{Kind}
use Rattle.lines.specs.declared.Kind.TheVariants as said
use Rattle.words.specs.Text.{pending}
use Rattle.lines.specs.Lines.{Parsed}
use Rattle.script.specs.Events.{event_line}
use Rattle.capture.specs.declared.Form.{Form}
use Rattle.capture.specs.declared.Form.TheVariants.{FromA, FromB, Other}
use Rattle.capture.specs.Capture.{form_of, frame_of}

-- "Frames are E8's lines, `A` the judged end. Settings changes, flag changes and peer gone are lines too, in a form docs/ fixes; other lines are
-- passed over."
pub data Entry : Type 0 where
  Sent : List ℕ → Entry
  Given : List ℕ → Entry
  Changed : Change → List ℕ → Entry
  Passed : Entry

-- the octets of a frame or of parameters
unfoldable pub octets_in : Entry → List ℕ
octets_in (Sent o) = o
octets_in (Given o) = o
octets_in (Changed x o) = o
octets_in Passed = []

-- the changes among the lines of `desk`
unfoldable pub told_by : Kind → Option Change
told_by said.Gone = Some change.PeerGone
told_by (said.Flag x on) = Some (change.Flag x on)
told_by (said.Setting n switches) = Some (change.Setting n switches)
told_by (said.Control n r) = None
told_by said.Frame = None
told_by (said.Write room) = None
told_by said.Take = None
told_by said.Show = None

unfoldable pub entry_by : Option Change → List ℕ → Entry
entry_by (Some x) o = Changed x o
entry_by None o = Passed

-- what a line of `desk` says, with the octets of its parameters; one that cannot be read is passed over
unfoldable pub change_on : Parsed → Entry
change_on (Ok l) = entry_by (told_by l.kind) (pending l.octets)
change_on (Err why) = Passed

unfoldable pub entry_as : Form → List ℕ → Entry
entry_as FromA l = Sent (frame_of l)
entry_as FromB l = Given (frame_of l)
entry_as Other l = change_on (event_line l)

abbrev pub entry_of : List ℕ → Entry
entry_of l = entry_as (form_of l) l

unfoldable pub is_sent : Entry → Bool
is_sent (Sent o) = true
is_sent (Given o) = false
is_sent (Changed x o) = false
is_sent Passed = false

-- what was given, and a change, happen to the port, "refused" or not; what was sent does nothing to it
unfoldable pub port_after : Port → Entry → Port
port_after p (Sent o) = p
port_after p (Given o) = (happens p change.Frame o).port
port_after p (Changed x o) = (happens p x o).port
port_after p Passed = p
