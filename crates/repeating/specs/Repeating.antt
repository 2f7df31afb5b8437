-- A frame that repeats what is held of the peer, at a port whose features are all Syncd: a settled peer sends one every 30 seconds. At a port
-- of a reachable recorder it changes the control alone (`ControlAlone`, proofs/Reachable).
use Rattle.std.specs.Prelude.{ℕ, ◌%◌, Bool, true, false, not, ◌&&◌, ◌≡◌, List, length, if◌then◌else◌, Ok, Err, Option, None, Some}
use Rattle.std.specs.Bool.{beq}
use Rattle.octets.specs.Words.{◌below◌, ◌atmost◌, ◌is◌}
use Rattle.octets.specs.Octets.{at, same}
use Rattle.contents.specs.declared.Contents.{Contents}
use Rattle.contents.specs.Contents.{Reading, value_of}
use Rattle.reading.specs.Revisions.{read_for}
use Rattle.parameters.specs.declared.Feature.{Feature}
use Rattle.parameters.specs.declared.Feature.TheVariants.{Groups, Flow, Applications}
use Rattle.parameters.specs.Parameters.{content, ours}
use Rattle.feature.specs.declared.Peer.{Peer}
use Rattle.feature.specs.declared.State.{State}
use Rattle.turn.specs.declared.Course.{Course}
use Rattle.turn.specs.declared.Course.TheVariants.{Twice, OtherVersion, Exchange}
use Rattle.feature.specs.Outcome.{oper_of, max_of, parameters_of, lower}
use Rattle.notices.specs.Notices.{is_port}
use Rattle.port.specs.declared.Port.{Port}
use Rattle.port.specs.declared.Event.{Event}
use Rattle.port.specs.Parts.{with_control, running}
use Rattle.port.specs.Writing.{control_value}
use Rattle.events.specs.PortEvents.{silent}
use Rattle.admission.specs.AdmissionLaws.{heard_of}
use Rattle.recorder.specs.declared.Recorder.{Recorder}
use Rattle.recorder.specs.declared.Change.TheVariants.{Frame}
use Rattle.recorder.specs.Recorder.{port_at, changed}
use Rattle.calls.specs.Sound.{Reachable}
use Rattle.repeating.specs.declared.Repetition.{Repetition}

-- ---- one feature

abbrev pub flags_are : ℕ → Bool → Bool → Bool → Bool
flags_are bits enable willing error = beq (128 atmost bits) enable && beq (64 atmost bits % 128) willing && beq (32 atmost bits % 64) error

-- 01: applications have "length 4 + 6n", whoever's the entries are
abbrev pub whole_entries : Feature → List ℕ → Bool
whole_entries Groups p = true
whole_entries Flow p = true
whole_entries Applications p = length p % 6 is 0

-- what would be held of parameters that came is what is held: of applications our own entries (02, E3)
unfoldable pub holds_of : Feature → List ℕ → List ℕ → Bool
holds_of f p held = whole_entries f p && same (ours f p) held

-- the value of a sub-TLV is what is held of the peer: at the version in force, with its flags and its parameters
unfoldable pub repeats_peer : Feature → ℕ → ℕ → Peer → List ℕ → Bool
repeats_peer f max oper q v =
    if length v below 4 then false
    else if not (oper_of v is oper) then false
    else if not (lower max (max_of v) is oper) then false
    else if not (flags_are (at v 2) q.enable q.willing q.error) then false
    else holds_of f (parameters_of v) (content q.parameters)

abbrev pub repeats_by : Feature → ℕ → ℕ → Option Peer → List ℕ → Bool
repeats_by f max oper None v = false
repeats_by f max oper (Some q) v = repeats_peer f max oper q v

unfoldable pub repeats_held : Feature → State → List ℕ → Bool
repeats_held f x v = repeats_by f x.max x.outcome.oper x.outcome.peer v

-- the sub-TLVs of a feature, so many, with the value of the last: one, with what is held; of a feature that is not advertised any
unfoldable pub repeats_in : Feature → State → ℕ → List ℕ → Bool
repeats_in f x n v =
    if not x.setting.advertise then true
    else if n is 1 then repeats_held f x v
    else false

-- ---- the frame

unfoldable pub is_exchange : Course → Bool
is_exchange Twice = false
is_exchange OtherVersion = false
is_exchange Exchange = true

unfoldable pub repeats_all : List ℕ → Contents → Port → Bool
repeats_all o c p =
    repeats_in Flow p.flow c.flow.count (value_of o c.flow)
    && repeats_in Groups p.groups c.groups.count (value_of o c.groups)
    && repeats_in Applications p.applications c.applications.count (value_of o c.applications)

-- the frame is handled to the end (01, Handling a frame, 2 and 3), and each feature's sub-TLV is what is held
unfoldable pub repeat_in : List ℕ → Contents → Port → Option Repetition
repeat_in o c p =
    if not (is_exchange (heard_of o c p.control).course) then None
    else if not (repeats_all o c p) then None
    else Some (record {
      wish = not (same (control_value p.control) (control_value (heard_of o c p.control).control));
      control = (heard_of o c p.control).control;
    })

unfoldable pub repeat_given : List ℕ → Reading → Port → Option Repetition
repeat_given o (Err r) p = None
repeat_given o (Ok c) p = repeat_in o c p

-- the port takes frames (01, Refusal numbers, 1 and 2; 02, E10: 16), and none of its features waits
unfoldable pub none_waits : ℕ → Port → Bool
none_waits n p = (is_port n && running p && not p.several) && p.groups.syncd && p.flow.syncd && p.applications.syncd

unfoldable pub repeat_of : ℕ → Port → List ℕ → Option Repetition
repeat_of n p o = if not (none_waits n p) then None else repeat_given o (read_for p.revision o) p

-- ---- what is promised

-- what a repeated frame does: the control alone changes, nothing is raised
abbrev pub repetition : Port → Repetition → Event
repetition p r = record { answer = Ok r.wish; port = with_control p r.control; notices = silent }

-- at every port that calls lead to
abbrev pub ControlAlone : Type 0
ControlAlone = (r : Recorder) → Reachable r → (n : ℕ) (o : List ℕ) (x : Repetition) → repeat_of n (port_at r n) o ≡ Some x
    → changed n (port_at r n) Frame o ≡ repetition (port_at r n) x
