-- 01, Outcome rules for one feature: once for all three.
use Rattle.std.specs.Prelude.{Option, None, Some, ℕ, ◌%◌, min, Bool, true, false, not, ◌&&◌, ◌||◌, List, length, drop, if◌then◌else◌}
use Rattle.std.specs.Bool.{beq}
use Rattle.octets.specs.Words.{◌below◌, ◌atmost◌, ◌is◌}
use Rattle.octets.specs.Octets.{at}
use Rattle.parameters.specs.declared.Feature.{Feature}
use Rattle.feature.specs.declared.Reason.{Reason}
use Rattle.feature.specs.declared.Reason.TheVariants.{Absent, Duplicate, Bad, Waiting, Disabled, Agreed, NotCompatible}
use Rattle.parameters.specs.declared.Parameters.{Parameters}
use Rattle.feature.specs.declared.Setting.{Setting}
use Rattle.feature.specs.declared.Peer.{Peer}
use Rattle.feature.specs.declared.Outcome.{Outcome}
use Rattle.parameters.specs.Parameters.{valid, compatible, ours, stored, content, no_parameters}

-- What a frame has of one feature: how often it came, counted up to two, and the value of the last, "Oper, Max, flags, SubType, then parameters".
pub record Received : Type 0 where
  pub count : ℕ
  pub value : List ℕ

abbrev pub oper_of : List ℕ → ℕ
oper_of v = at v 0

abbrev pub max_of : List ℕ → ℕ
max_of v = at v 1

-- "Flags: enable 80, willing 40, error 20 (hex); other bits are ignored on reading"
abbrev pub enable_of : List ℕ → Bool
enable_of v = 128 atmost at v 2

abbrev pub willing_of : List ℕ → Bool
willing_of v = 64 atmost at v 2 % 128

abbrev pub error_of : List ℕ → Bool
error_of v = 32 atmost at v 2 % 64

abbrev pub parameters_of : List ℕ → List ℕ
parameters_of v = drop 4 v

-- the lower of two versions
abbrev pub lower : ℕ → ℕ → ℕ
lower a b = min a b

abbrev pub no_peer : Option Peer
no_peer = None

-- the parameters held of a peer
abbrev pub parameters_held : Option Peer → Parameters
parameters_held None = no_parameters
parameters_held (Some p) = p.parameters

-- "Otherwise the peer is held, its three flags and its parameters"; of application entries those that are ours (02, E3)
abbrev pub held_peer : Feature → List ℕ → Peer
held_peer f v = record { enable = enable_of v; willing = willing_of v; error = error_of v; parameters = stored (ours f (parameters_of v)) }

-- "In 1 to 5 peer is none, mode false, OperCfg = DesiredCfg."
abbrev pub without_peer : Reason → ℕ → Bool → Outcome
without_peer why oper error = record { reason = why; oper = oper; error = error; mode = false; peer = no_peer; adopts = false }

-- what rules 6 to 9 share: the version, and the peer that is held
abbrev pub with_peer : Reason → ℕ → Bool → Bool → Peer → Bool → Outcome
with_peer why oper error mode p adopts = record { reason = why; oper = oper; error = error; mode = mode; peer = Some p; adopts = adopts }

-- OperCfg, of a setting and what the rules decided: the peer's configuration where it is adopted, and else DesiredCfg
abbrev pub configuration : Setting → Outcome → Parameters
configuration s o = if o.adopts then parameters_held o.peer else s.desired

-- Rules 6 to 9, at a version and with a peer that is held. "In 7 and 8 the reason is "agreed" and the mode is true exactly if the
-- peer's error flag is clear."
unfoldable pub judged : Feature → Setting → ℕ → Peer → Outcome
judged f s oper p =
    -- 6. "Either end not enabled: "disabled", mode and Error false, own configuration."
    if not (s.enable && p.enable) then with_peer Disabled oper false false p false
    -- 7. "Willing differs: the unwilling end's configuration, Error false." A willing end adopts the peer's.
    else if not (beq s.willing p.willing) then with_peer Agreed oper false (not p.error) p s.willing
    -- 8. "Willing equal and compatible: own, Error false."
    else if compatible f (content s.desired) (content p.parameters) then with_peer Agreed oper false (not p.error) p false
    -- 9. "Else "not compatible": own, Error true, mode false."
    else with_peer NotCompatible oper true false p false

-- "First that applies", of a feature that runs at `oper` and has `max` and a setting
unfoldable pub outcome : Feature → ℕ → Setting → ℕ → Received → Outcome
outcome f max s oper r =
    -- 1. "Absent: reason "absent", Oper = Max, Error false."
    if r.count is 0 then without_peer Absent max false
    -- 2. "Twice or more: "duplicate", Error true." "In 2 and 3 Oper stays."
    else if 1 below r.count then without_peer Duplicate oper true
    -- 3. "Length under 4, or Oper above Max: "bad", Error true."
    else if length r.value below 4 || max_of r.value below oper_of r.value then without_peer Bad oper true
    -- 4. "Oper becomes the lower of the two Max. Received Oper differs: "waiting", Error false. The parameters are not read."
    else if not (oper_of r.value is lower max (max_of r.value)) then without_peer Waiting (lower max (max_of r.value)) false
    -- 5. "Wrong length or invalid parameters: "bad", Error true."
    else if not (valid f (parameters_of r.value)) then without_peer Bad (lower max (max_of r.value)) true
    else judged f s (lower max (max_of r.value)) (held_peer f r.value)
