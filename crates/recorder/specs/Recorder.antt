-- 02, E10: a recorder, "four ports that share one log of 64 notices", and its operations. Each names its port by a number.
use Rattle.std.specs.Prelude.{ℕ, ◌-◌, ◌≡◌, List, get_or, set, replicate, if◌then◌else◌, Err}
use Rattle.tlv.specs.declared.Refusal.TheVariants.{NoPort}
use Rattle.parameters.specs.declared.Feature.{Feature}
use Rattle.feature.specs.declared.Switches.{Switches}
use Rattle.notices.specs.Notices.{is_port, empty_log}
use Rattle.port.specs.declared.Port.{Port}
use Rattle.port.specs.declared.Versions.{Versions}
use Rattle.port.specs.declared.Event.{Event}
use Rattle.port.specs.Types.{Written}
use Rattle.creation.specs.Creation.{blank_port}
use Rattle.events.specs.PortEvents.{refused}
use Rattle.flags.specs.Flags as flags
use Rattle.changes.specs.Changes as changes
use Rattle.creation.specs.Creation as creation
use Rattle.handling.specs.Handling as handling
use Rattle.port.specs.Writing as writing
use Rattle.logging.specs.Logging.{kept}
use Rattle.recorder.specs.declared.Recorder.{Recorder}
use Rattle.recorder.specs.declared.Change.{Change}
use Rattle.recorder.specs.declared.Change.TheVariants.{Frame, PeerGone, Flag, Setting}

-- ---- ports by their numbers

-- port n of the four stands at n - 1; a number that names no port, which every operation refuses, is given the first place
unfoldable pub place_of : ℕ → ℕ
place_of n = if is_port n then n - 1 else 0

abbrev pub port_at : Recorder → ℕ → Port
port_at r n = get_or r.ports (place_of n) blank_port

-- before a port is made a blank stands in its place
unfoldable pub blank : Recorder
blank = record { ports = replicate 4 blank_port; log = empty_log }

-- ---- what happens at port n, which is p: "ports are 1 to 4, and any other number gives refusal 16, before all others"

unfoldable pub happens : Port → Change → List ℕ → Event
happens p Frame o = handling.handled p o
happens p PeerGone o = flags.peer_gone p
happens p (Flag x on) o = flags.flagged x on p
happens p (Setting number w) o = changes.changed_setting number w o p

unfoldable pub changed : ℕ → Port → Change → List ℕ → Event
changed n p x o = if is_port n then happens p x o else refused NoPort p

unfoldable pub created : ℕ → Port → Versions → (Feature → Switches) → (Feature → List ℕ) → Event
created n p v w o = if is_port n then creation.created v w o p else refused NoPort p

-- an event at port n: the port is stored, and what it raised is written into the log; a number that names no port changes nothing
unfoldable pub stored : Recorder → ℕ → Event → Recorder
stored r n e =
    if is_port n then record { ports = set r.ports (place_of n) e.port; log = kept r.log n e.notices }
    else r

-- ---- a request to write at port n: the answer, and the lent output afterwards

unfoldable pub written : ℕ → Port → List ℕ → Written
written n p out = if is_port n then writing.written p out else Err NoPort

unfoldable pub output : ℕ → Port → List ℕ → List ℕ
output n p out = if is_port n then writing.output p out else out

pub record Wrote (n : ℕ) (p : Port) (out : List ℕ) (r : Written) (now : List ℕ) : Type 0 where
  pub answers : r ≡ written n p out
  pub octets : now ≡ output n p out
