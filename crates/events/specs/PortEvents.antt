-- 01, Notices: which an event raises; and what an event gives.
use Rattle.tlv.specs.Refusals.{rejection}
use Rattle.std.specs.Prelude.{ℕ, false, List, [], ◌∷◌, if◌then◌else◌, None, Some, Ok, Err}
use Rattle.octets.specs.Words.{◌is◌}
use Rattle.tlv.specs.declared.Refusal.{Refusal}
use Rattle.parameters.specs.declared.Feature.TheVariants.{Groups, Flow, Applications}
use Rattle.feature.specs.declared.Reason.{Reason}
use Rattle.feature.specs.declared.Reason.TheVariants as reason
use Rattle.feature.specs.Reasons.{reason_number}
use Rattle.parameters.specs.Parameters.{feature_number}
use Rattle.notices.specs.declared.Kind.TheVariants as kind
use Rattle.notices.specs.declared.Notice.{Notice}
use Rattle.port.specs.declared.Port.{Port}
use Rattle.port.specs.Types.{Raised}
use Rattle.port.specs.declared.Notices.{Notices}
use Rattle.port.specs.declared.Event.{Event}
use Rattle.port.specs.Writing.{asks}

-- ---- Notices

-- "Per feature, when its reason becomes: 7 duplicate, 2 bad, 8 absent, 10 not compatible."
abbrev pub noticed : Reason → Raised
noticed reason.NoPeerYet = None
noticed reason.NotAdvertised = None
noticed reason.Absent = Some kind.Absent
noticed reason.Duplicate = Some kind.Duplicate
noticed reason.Bad = Some kind.Bad
noticed reason.Waiting = None
noticed reason.Disabled = None
noticed reason.Agreed = None
noticed reason.NotCompatible = Some kind.NotCompatible
noticed reason.ControlTwice = None

unfoldable pub becomes : Reason → Reason → Raised
becomes before after = if reason_number before is reason_number after then None else noticed after

-- what the features raise, beside a notice of the port
abbrev pub raises : Raised → Port → Port → Notices
raises x before after =
    record {
      port = x;
      groups = becomes before.groups.outcome.reason after.groups.outcome.reason;
      flow = becomes before.flow.outcome.reason after.flow.outcome.reason;
      applications = becomes before.applications.outcome.reason after.applications.outcome.reason;
    }

abbrev pub silent : Notices
silent = record { port = None; groups = None; flow = None; applications = None }

-- "Port notices come first, then ascending features." "its feature, 0 for a port notice"; 02, E10: "each with its port number"
unfoldable pub listed : ℕ → Raised → ℕ → List Notice → List Notice
listed port None feature rest = rest
listed port (Some k) feature rest = record { port = port; kind = k; feature = feature } ∷ rest

unfoldable pub in_order : ℕ → Notices → List Notice
in_order port n =
    listed port n.port 0
    (listed port n.groups (feature_number Groups) (listed port n.flow (feature_number Flow) (listed port n.applications (feature_number Applications) [])))

-- ---- Events

-- "A refusal returns its number alone and changes nothing": of a frame see admission/specs (02, E1). Beside a refusal that is no frame's the place
-- of 02, E2, is 0.
abbrev pub refused : Refusal → Port → Event
refused why p = record { answer = Err (rejection why 0); port = p; notices = silent }

-- an event that changes nothing at all
abbrev pub unchanged : Port → Event
unchanged p = record { answer = Ok false; port = p; notices = silent }

-- an event that leads from one port to another and raises a notice of the port, or none
abbrev pub event : Raised → Port → Port → Event
event x before after = record { answer = Ok (asks before after); port = after; notices = raises x before after }
