-- A port by its control, its three features and its four flags.
use Rattle.std.specs.Prelude.{ℕ, Bool, false, ◌&&◌, ◌||◌}
use Rattle.parameters.specs.declared.Feature.{Feature}
use Rattle.parameters.specs.declared.Feature.TheVariants.{Groups, Flow, Applications}
use Rattle.feature.specs.declared.State.{State}
use Rattle.feature.specs.declared.Switches.{Switches}
use Rattle.feature.specs.declared.Release.{Release}
use Rattle.machine.specs.State.{present}
use Rattle.port.specs.declared.Flag.{Flag}
use Rattle.port.specs.declared.Flag.TheVariants.{Admin, Receive, Transmit, Several}
use Rattle.port.specs.declared.Control.{Control}
use Rattle.port.specs.declared.Port.{Port}
use Rattle.parameters.specs.declared.Each.{Each}
use Rattle.port.specs.declared.Versions.{Versions}

abbrev pub feature_of : Port → Feature → State
feature_of p Groups = p.groups
feature_of p Flow = p.flow
feature_of p Applications = p.applications

abbrev pub released_of : Port → Feature → Release
released_of p Groups = p.released.groups
released_of p Flow = p.released.flow
released_of p Applications = p.released.applications

abbrev pub max_of : Versions → Feature → ℕ
max_of v Groups = v.groups
max_of v Flow = v.flow
max_of v Applications = v.applications

-- nothing advertised, enabled or willing
abbrev pub switched_off : Switches
switched_off = record { advertise = false; enable = false; willing = false }

-- a function on the features by its three values
abbrev pub three : {A : Type 0} → A → A → A → Feature → A
three g w a Groups = g
three g w a Flow = w
three g w a Applications = a

abbrev pub with_control : Port → Control → Port
with_control p c =
    record {
      revision = p.revision;
      admin = p.admin;
      receive = p.receive;
      transmit = p.transmit;
      several = p.several;
      control = c;
      groups = p.groups;
      flow = p.flow;
      applications = p.applications;
      released = p.released;
    }

abbrev pub with_features : Port → (Feature → State) → Port
with_features p x =
    record {
      revision = p.revision;
      admin = p.admin;
      receive = p.receive;
      transmit = p.transmit;
      several = p.several;
      control = p.control;
      groups = x Groups;
      flow = x Flow;
      applications = x Applications;
      released = p.released;
    }

-- what a release would write of three features at present
abbrev pub presents : State → State → State → Each Release
presents g w a = record { groups = present g; flow = present w; applications = present a }

abbrev pub with_released : Port → Each Release → Port
with_released p r =
    record {
      revision = p.revision;
      admin = p.admin;
      receive = p.receive;
      transmit = p.transmit;
      several = p.several;
      control = p.control;
      groups = p.groups;
      flow = p.flow;
      applications = p.applications;
      released = r;
    }

-- 02, E5: all features are released at once
abbrev pub release : Port → Port
release p = with_released p (presents p.groups p.flow p.applications)

-- a test holds of some feature; of each feature
abbrev pub some : (Feature → Bool) → Bool
some test = test Groups || test Flow || test Applications

abbrev pub each : (Feature → Bool) → Bool
each test = test Groups && test Flow && test Applications

-- the four flags
abbrev pub flag_of : Port → Flag → Bool
flag_of p Admin = p.admin
flag_of p Receive = p.receive
flag_of p Transmit = p.transmit
flag_of p Several = p.several

abbrev pub with_flag : Port → Flag → Bool → Port
with_flag p Admin b = record { revision = p.revision; admin = b; receive = p.receive; transmit = p.transmit; several = p.several; control = p.control; groups = p.groups; flow = p.flow; applications = p.applications; released = p.released }
with_flag p Receive b = record { revision = p.revision; admin = p.admin; receive = b; transmit = p.transmit; several = p.several; control = p.control; groups = p.groups; flow = p.flow; applications = p.applications; released = p.released }
with_flag p Transmit b = record { revision = p.revision; admin = p.admin; receive = p.receive; transmit = b; several = p.several; control = p.control; groups = p.groups; flow = p.flow; applications = p.applications; released = p.released }
with_flag p Several b = record { revision = p.revision; admin = p.admin; receive = p.receive; transmit = p.transmit; several = b; control = p.control; groups = p.groups; flow = p.flow; applications = p.applications; released = p.released }

-- 01, Port events: "Running means administratively enabled, LLDP receive on and transmit on"
abbrev pub running : Port → Bool
running p = p.admin && p.receive && p.transmit
