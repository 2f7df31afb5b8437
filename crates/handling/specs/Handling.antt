-- 01, Handling a frame: steps 1 to 5. What steps 1 to 3 do to the control, and what a frame that is refused does, is in admission/Admission.
use Rattle.std.specs.Prelude.{ℕ, not, List, if◌then◌else◌, Ok, Err}
use Rattle.octets.specs.Words.{◌below◌, ◌is◌}
use Rattle.tlv.specs.declared.Refusal.TheVariants as refusal
use Rattle.contents.specs.declared.Contents.{Contents}
use Rattle.contents.specs.Contents.{Reading}
use Rattle.reading.specs.Revisions.{read_for}
use Rattle.feature.specs.Outcome.{lower}
use Rattle.turn.specs.Turn.{control_twice, acknowledged, received}
use Rattle.notices.specs.declared.Kind.TheVariants as kind
use Rattle.port.specs.declared.Port.{Port}
use Rattle.port.specs.declared.Event.{Event}
use Rattle.port.specs.Types.{Raised}
use Rattle.port.specs.Parts.{feature_of, with_control, with_features, running}
use Rattle.events.specs.PortEvents.{event}
use Rattle.sending.specs.Sending.{completed}
use Rattle.admission.specs.Admission.{Message, message, seen_twice, met, numbered, newly_marked, rejected}

-- 1. "Two or more controls: peer seen; each advertised feature gets reason "control twice", .. numbers and versions stay."
unfoldable pub twice : Port → Port
twice p = with_features (with_control p (seen_twice p.control)) (λ f. control_twice (feature_of p f))

-- 3 and 4. "A feature whose FeatureSeqNo equals both RcvdAckNo and SeqNo becomes Syncd." Then "by the outcome rules".
unfoldable pub exchanged : ℕ → Message → Port → Port
exchanged oper m p =
    with_features (with_control p (numbered oper m p.control))
    (λ f. received f (m.has f) (acknowledged m.ack p.control.seq (feature_of p f)))

-- 2. "If received Oper differs from it, the features and numbers are not handled; go to 5."
unfoldable pub once : Message → Port → Port
once m p =
    let oper : ℕ = lower p.control.max m.max in
    if m.oper is oper then exchanged oper m p
    else with_control p (met oper p.control)

unfoldable pub steps1to4 : List ℕ → Contents → Port → Port
steps1to4 o c p = if 1 below c.control.count then twice p else once (message o c) p

-- "6 duplicate control (unmarked to marked ..)"
abbrev pub mark_notice : Port → Port → Raised
mark_notice before after = newly_marked kind.DuplicateControl before.control.duplicate after.control.duplicate

unfoldable pub frame_event : Port → Port → Event
frame_event before after = event (mark_notice before after) before after

unfoldable pub accepted : List ℕ → Contents → Port → Event
accepted o c p = frame_event p (completed p (steps1to4 o c p))

unfoldable pub given : List ℕ → Reading → Port → Event
given o (Err r) p = rejected r.why r.place p
given o (Ok c) p = accepted o c p

-- "1: the port isn't running: a frame, ..", "2: a frame while several neighbours are flagged", then 3 to 8; 02, E11: the reader is told the revision
unfoldable pub handled : Port → List ℕ → Event
handled p o =
    if not (running p) then rejected refusal.NotRunning 0 p
    else if p.several then rejected refusal.SeveralNeighbours 0 p
    else given o (read_for p.revision o) p
