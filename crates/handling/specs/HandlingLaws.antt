-- Handling a frame by its small part, decided first, and the port that is made of it: laws for each way out of the functions. Assumes
-- nothing.
use Rattle.std.specs.Prelude.{ℕ, Bool, ◌&&◌, List, if◌then◌else◌}
use Rattle.std.proofs.Math.Bool.{not}
use Rattle.octets.specs.Words.{◌is◌}
use Rattle.contents.specs.declared.Contents.{Contents}
use Rattle.contents.specs.declared.Found.{Found}
use Rattle.contents.specs.Contents.{value_of}
use Rattle.parameters.specs.declared.Feature.{Feature}
use Rattle.parameters.specs.declared.Feature.TheVariants.{Groups, Flow, Applications}
use Rattle.feature.specs.declared.State.{State}
use Rattle.turn.specs.declared.Turn.{Turn}
use Rattle.turn.specs.TurnLaws.{after, turn_of}
use Rattle.admission.specs.declared.Heard.{Heard}
use Rattle.handling.specs.declared.Change.{Change}
use Rattle.port.specs.declared.Control.{Control}
use Rattle.port.specs.declared.Port.{Port}
use Rattle.parameters.specs.declared.Each.{Each}
use Rattle.feature.specs.declared.Release.{Release}
use Rattle.port.specs.Parts.{feature_of, with_control, with_features, presents, with_released, some}
use Rattle.port.specs.Writing.{asks}
use Rattle.sending.specs.SendingLaws.{counted}
use Rattle.sending.specs.Sending.{unacknowledged, raises_seq_no, step5, completed}
use Rattle.events.specs.PortEvents.{raises}
use Rattle.admission.specs.Admission.{has_of}
use Rattle.admission.specs.AdmissionLaws.{heard_of}
use Rattle.handling.specs.Handling.{steps1to4, mark_notice}

-- ---- one feature

abbrev pub after_in : Feature → State → Heard → ℕ → List ℕ → Found → Turn
after_in f x h seq o found = turn_of (after h.course f (record { count = found.count; value = value_of o found }) h.control.rcvd seq x)

abbrev pub waits_by : Turn → Bool
waits_by t = not t.syncd

-- ---- the port

-- what is released behind it
abbrev pub released_by : Each Release → Bool → State → State → State → Each Release
released_by r up g w a = if up then presents g w a else r

-- the port after a frame, by the way that the frame takes
module _ (o : List ℕ) (c : Contents) (p : Port) where
  abbrev pub state_by : Heard → Feature → State
  state_by h f = after h.course f (has_of o c f) h.control.rcvd p.control.seq (feature_of p f)

  abbrev pub up_by : Heard → Bool
  up_by h = some (λ f. unacknowledged (state_by h f)) && h.control.rcvd is h.control.seq

  abbrev pub control_after : Heard → Control
  control_after h = counted (up_by h) h.control

  abbrev pub port_by : Heard → Port
  port_by h =
      with_released (with_features (with_control p (control_after h)) (state_by h))
      (released_by p.released (up_by h) (state_by h Groups) (state_by h Flow) (state_by h Applications))

-- the port after a frame, before anything is released
abbrev pub unreleased : List ℕ → Contents → Port → Port
unreleased o c p = with_released (completed p (steps1to4 o c p)) p.released

-- what a frame changes, of the port before it and after it
unfoldable pub change_of : List ℕ → Contents → Port → Change
change_of o c p =
    let q : Port = completed p (steps1to4 o c p) in
    record {
      course = (heard_of o c p.control).course;
      wish = asks p q;
      releases = raises_seq_no (step5 p (steps1to4 o c p));
      control = q.control;
      groups = turn_of q.groups;
      flow = turn_of q.flow;
      applications = turn_of q.applications;
      notices = raises (mark_notice p q) p q;
    }
