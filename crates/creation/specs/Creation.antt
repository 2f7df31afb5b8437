-- 01, Port events: creation; and what stands where no port has been made.
use Rattle.std.specs.Prelude.{ℕ, Bool, true, false, List, [], ◌∷◌, if◌then◌else◌, Ok}
use Rattle.tlv.specs.declared.Refusal.TheVariants.{InvalidSetting}
use Rattle.tlv.specs.declared.Revision.{Revision}
use Rattle.tlv.specs.declared.Revision.TheVariants.{Rev101}
use Rattle.tlv.specs.Revisions.{has_applications}
use Rattle.parameters.specs.declared.Feature.{Feature}
use Rattle.parameters.specs.declared.Feature.TheVariants.{Groups, Flow, Applications}
use Rattle.feature.specs.declared.Setting.{Setting}
use Rattle.feature.specs.declared.Switches.{Switches}
use Rattle.feature.specs.declared.State.{State}
use Rattle.parameters.specs.Parameters.{valid_local}
use Rattle.machine.specs.State.{fresh, setting_of}
use Rattle.port.specs.declared.Port.{Port}
use Rattle.port.specs.declared.Versions.{Versions}
use Rattle.port.specs.declared.Event.{Event}
use Rattle.port.specs.Parts.{switched_off, three, presents, each}
use Rattle.port.specs.Writing.{asks}
use Rattle.sending.specs.Sending.{sent, fresh_control}
use Rattle.events.specs.PortEvents.{silent, refused}

-- All flags "start on; the several-neighbours flag starts off".
unfoldable pub started : Versions → Setting → Setting → Setting → Port
started v g w a =
    sent
    (record {
      revision = v.revision;
      admin = true;
      receive = true;
      transmit = true;
      several = false;
      control = fresh_control v.control;
      groups = fresh v.groups g;
      flow = fresh v.flow w;
      applications = fresh v.applications a;
      released = presents (fresh v.groups g) (fresh v.flow w) (fresh v.applications a);
    })

abbrev pub created_port : Versions → (Feature → Switches) → (Feature → List ℕ) → Port
created_port v w p = started v (setting_of Groups (w Groups) (p Groups)) (setting_of Flow (w Flow) (p Flow)) (setting_of Applications (w Applications) (p Applications))

-- what stands where no port has been made, which document 01 leaves free: stopped, versions 0, nothing advertised or enabled; all
-- priorities in group 0, which has 100 per cent, none under flow control, no applications
unfoldable pub blank_parameters : Feature → List ℕ
blank_parameters Groups = 0 ∷ 0 ∷ 0 ∷ 0 ∷ 100 ∷ 0 ∷ 0 ∷ 0 ∷ 0 ∷ 0 ∷ 0 ∷ 0 ∷ 0 ∷ []
blank_parameters Flow = 0 ∷ 0 ∷ []
blank_parameters Applications = []

abbrev pub blank_state : Feature → State
blank_state f = fresh 0 (setting_of f switched_off (blank_parameters f))

unfoldable pub blank_port : Port
blank_port =
    record {
      revision = Rev101;
      admin = false;
      receive = false;
      transmit = false;
      several = false;
      control = fresh_control 0;
      groups = blank_state Groups;
      flow = blank_state Flow;
      applications = blank_state Applications;
      released = presents (blank_state Groups) (blank_state Flow) (blank_state Applications);
    }

unfoldable pub settings_valid : (Feature → List ℕ) → Bool
settings_valid p = each (λ f. valid_local f (p f))

-- a port in the place of another: "a stopped port has none, so creation .. ask", and so it does wherever the octets differ
abbrev pub made : Port → Port → Event
made before p = record { answer = Ok (asks before p); port = p; notices = silent }

-- "creation with an invalid setting gives 9 and makes no port": what stood in its place stays
unfoldable pub created_with : Versions → (Feature → Switches) → (Feature → List ℕ) → Port → Event
created_with v w o p = if settings_valid o then made p (created_port v w o) else refused InvalidSetting p

-- 02, E11: "A port is created for either revision; for 1.0 creation takes no setting for type 4, which is held unadvertised, not enabled and
-- empty", and its highest version is 0
abbrev pub versions_for : Versions → Versions
versions_for v =
    record {
      revision = v.revision;
      control = v.control;
      groups = v.groups;
      flow = v.flow;
      applications = if has_applications v.revision then v.applications else 0;
    }

abbrev pub switches_for : Revision → (Feature → Switches) → Feature → Switches
switches_for r w = three (w Groups) (w Flow) (if has_applications r then w Applications else switched_off)

abbrev pub parameters_for : Revision → (Feature → List ℕ) → Feature → List ℕ
parameters_for r o = three (o Groups) (o Flow) (if has_applications r then o Applications else [])

unfoldable pub created : Versions → (Feature → Switches) → (Feature → List ℕ) → Port → Event
created v w o p = created_with (versions_for v) (switches_for v.revision w) (parameters_for v.revision o) p
