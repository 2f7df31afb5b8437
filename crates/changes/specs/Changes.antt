-- 01, Port events: changing one feature's setting.
use Rattle.std.specs.Prelude.{ℕ, List, if◌then◌else◌, None}
use Rattle.octets.specs.Words.{◌is◌}
use Rattle.tlv.specs.declared.Refusal.TheVariants.{InvalidSetting, UnknownFeature}
use Rattle.tlv.specs.Revisions.{has_applications}
use Rattle.parameters.specs.declared.Feature.{Feature}
use Rattle.parameters.specs.declared.Feature.TheVariants.{Groups, Flow, Applications}
use Rattle.feature.specs.declared.Setting.{Setting}
use Rattle.feature.specs.declared.Switches.{Switches}
use Rattle.feature.specs.declared.State.{State}
use Rattle.parameters.specs.Parameters.{valid_local}
use Rattle.machine.specs.State.{setting_of, same_setting, reset}
use Rattle.port.specs.declared.Port.{Port}
use Rattle.port.specs.declared.Event.{Event}
use Rattle.port.specs.Parts.{feature_of, three, with_features, running}
use Rattle.sending.specs.Sending.{fresh_port, completed}
use Rattle.events.specs.PortEvents.{refused, unchanged, event}

abbrev pub with_feature : Port → Feature → State → Port
with_feature p Groups x = with_features p (three x p.flow p.applications)
with_feature p Flow x = with_features p (three p.groups x p.applications)
with_feature p Applications x = with_features p (three p.groups p.flow x)

abbrev pub with_setting : State → Setting → State
with_setting x s = record { max = x.max; setting = s; outcome = x.outcome; syncd = x.syncd; sequence = x.sequence }

-- "Then step 5; a newly advertised sub-TLV counts as changed. A stopped port stores the setting and holds the fresh stopped state."
unfoldable pub setting_changed : Feature → Setting → Port → Port
setting_changed f s p =
    if running p then completed p (with_feature p f (reset f p.control.seq s (feature_of p f)))
    else fresh_port (with_feature p f (with_setting (feature_of p f) s))

-- "An equal setting changes nothing at all."
unfoldable pub set_to : Feature → Setting → Port → Event
set_to f s p =
    if same_setting (feature_of p f).setting s then unchanged p
    else event None p (setting_changed f s p)

unfoldable pub changed_feature : Feature → Switches → List ℕ → Port → Event
changed_feature f w o p =
    if valid_local f o then set_to f (setting_of f w o) p
    else refused InvalidSetting p

-- 02, E11: under 1.0 "a setting for it is refused with 11"
unfoldable pub changed_applications : Switches → List ℕ → Port → Event
changed_applications w o p = if has_applications p.revision then changed_feature Applications w o p else refused UnknownFeature p

-- "11: feature number not 2, 3 or 4", "except 11 before 9"
unfoldable pub changed_setting : ℕ → Switches → List ℕ → Port → Event
changed_setting number w o p =
    if number is 2 then changed_feature Groups w o p
    else if number is 3 then changed_feature Flow w o p
    else if number is 4 then changed_applications w o p
    else refused UnknownFeature p
