-- 01, Port events and Handling a frame: one feature's state, what it writes, and its settings.
use Rattle.std.specs.Prelude.{Option, None, Some, ℕ, ◌+◌, ◌%◌, ◌^◌, Bool, true, false, not, ◌&&◌, List, [], ◌∷◌, if◌then◌else◌}
use Rattle.std.specs.Bool.{beq}
use Rattle.octets.specs.Octets.{headed, same}
use Rattle.parameters.specs.declared.Feature.{Feature}
use Rattle.feature.specs.declared.Reason.TheVariants.{NoPeerYet, NotAdvertised}
use Rattle.feature.specs.declared.Switches.{Switches}
use Rattle.feature.specs.declared.Setting.{Setting}
use Rattle.feature.specs.declared.Peer.{Peer}
use Rattle.feature.specs.declared.Outcome.{Outcome}
use Rattle.feature.specs.declared.State.{State}
use Rattle.feature.specs.declared.Release.{Release}
use Rattle.parameters.specs.Parameters.{feature_number, ours, stored, content, same_parameters}
use Rattle.feature.specs.Outcome.{no_peer, without_peer, judged}

-- "SeqNo goes up by one, 4,294,967,295 going to 0"
abbrev pub next : ℕ → ℕ
next n = (n + 1) % 2 ^ 32

abbrev pub with_outcome : State → Outcome → State
with_outcome x o = record { max = x.max; setting = x.setting; outcome = o; syncd = x.syncd; sequence = x.sequence }

-- "Each feature: Oper = Max, peer none, Error false, OperCfg = DesiredCfg. Advertised: reason "no peer yet", mode false, Syncd
-- false, FeatureSeqNo 1. Not advertised: reason "not advertised", mode = enable, Syncd true, FeatureSeqNo 1."
unfoldable pub fresh_at : ℕ → ℕ → Setting → State
fresh_at sequence max s =
    if s.advertise then record { max = max; setting = s; outcome = without_peer NoPeerYet max false; syncd = false; sequence = sequence }
    else
    record {
      max = max;
      setting = s;
      outcome = record { reason = NotAdvertised; oper = max; error = false; mode = s.enable; peer = no_peer; adopts = false };
      syncd = true;
      sequence = sequence;
    }

abbrev pub fresh : ℕ → Setting → State
fresh max s = fresh_at 1 max s

-- "A port that isn't running holds that state with every mode false."
abbrev pub mode_off : Outcome → Outcome
mode_off o = record { reason = o.reason; oper = o.oper; error = o.error; mode = false; peer = o.peer; adopts = o.adopts }

abbrev pub stopped : State → State
stopped x = with_outcome x (mode_off x.outcome)

-- ---- Writing

-- "Flags: enable 80, willing 40, error 20 (hex); other bits are .. zero on writing."
abbrev pub flags : Bool → Bool → Bool → ℕ
flags enable willing error = (if enable then 128 else 0) + (if willing then 64 else 0) + (if error then 32 else 0)

-- "Types 2 to 4, features: Oper, Max, flags, SubType, then parameters."
abbrev pub value : ℕ → Release → List ℕ
value max r = r.oper ∷ max ∷ flags r.setting.enable r.setting.willing r.error ∷ 0 ∷ content r.setting.desired

-- the sub-TLV that a release writes: none where the feature is not advertised
unfoldable pub release_tlv : Feature → ℕ → Release → List ℕ
release_tlv f max r = if r.setting.advertise then headed (feature_number f) (value max r) else []

-- what a release would write at present
abbrev pub present : State → Release
present x = record { setting = x.setting; oper = x.outcome.oper; error = x.outcome.error }

-- 02, E5: "The port shall keep, beside each feature's present state, the sub-TLV last released": this is the present one
abbrev pub sub_tlv : Feature → State → List ℕ
sub_tlv f x = release_tlv f x.max (present x)

-- ---- Handling

-- two releases write different sub-TLVs, each of a feature with its Max
unfoldable pub differing : Feature → ℕ → Release → ℕ → Release → Bool
differing f m r n s = not (same (release_tlv f m r) (release_tlv f n s))

-- Step 5: "For each advertised feature whose written sub-TLV changed in this event: Syncd false, FeatureSeqNo = SeqNo + 1
-- (wrapping)." 02, E5: "step 5 compares present sub-TLVs, a withdrawal is a change", so that it is of each feature. The state before the event
-- and after it.
abbrev pub changed : Feature → State → State → Bool
changed f before after = differing f before.max (present before) after.max (present after)

unfoldable pub marked : Feature → ℕ → State → State → State
marked f seq before after =
    if changed f before after then record { max = after.max; setting = after.setting; outcome = after.outcome; syncd = false; sequence = next seq }
    else after

-- ---- Settings

-- a setting whose parameters are given as octets, read as received ones are
abbrev pub setting_of : Feature → Switches → List ℕ → Setting
setting_of f w p = record { advertise = w.advertise; enable = w.enable; willing = w.willing; desired = stored (ours f p) }

-- "two settings are equal only if advertise, enable, willing and these all are"
unfoldable pub same_setting : Setting → Setting → Bool
same_setting s t =
    beq s.advertise t.advertise && beq s.enable t.enable && beq s.willing t.willing
    && same_parameters s.desired t.desired

-- a feature that stays advertised, by the peer that is held, or none
abbrev pub again_with : Feature → Setting → Outcome → Option Peer → Outcome
again_with f s o (Some p) = judged f s o.oper p
again_with f s o None = record { reason = o.reason; oper = o.oper; error = o.error; mode = o.mode; peer = o.peer; adopts = false }

-- "if Advertise stays true, a held peer goes through outcome rules 6 to 9 again, and without one the reason, Error and mode stay
-- and OperCfg = DesiredCfg. If Advertise stays false, OperCfg = DesiredCfg and mode = enable, nothing else."
unfoldable pub judged_again : Feature → Setting → Outcome → Outcome
judged_again f s o =
    if not s.advertise then
    record { reason = o.reason; oper = o.oper; error = o.error; mode = s.enable; peer = o.peer; adopts = false }
    else again_with f s o o.peer

-- "If Advertise goes false or true, the feature becomes as in the fresh state, except that FeatureSeqNo = SeqNo + 1." Step 5 then takes Syncd away, also
-- of one that is withdrawn (02, E5).
unfoldable pub reset : Feature → ℕ → Setting → State → State
reset f seq s x =
    if beq x.setting.advertise s.advertise then
    record { max = x.max; setting = s; outcome = judged_again f s x.outcome; syncd = x.syncd; sequence = x.sequence }
    else fresh_at (next seq) x.max s
