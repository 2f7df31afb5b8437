-- 01, Rounds of two ends: the outcome rules of two settings alone.
use Rattle.std.specs.Prelude.{ℕ, Bool, false, [], ◌∷◌, if◌then◌else◌}
use Rattle.parameters.specs.declared.Feature.{Feature}
use Rattle.parameters.specs.Parameters.{content}
use Rattle.feature.specs.declared.Setting.{Setting}
use Rattle.feature.specs.declared.Outcome.{Outcome}
use Rattle.feature.specs.Outcome.{Received, lower, outcome}
use Rattle.machine.specs.State.{flags, fresh}
use Rattle.port.specs.declared.Port.{Port}
use Rattle.port.specs.Parts.{feature_of}

-- one end's highest version and setting of a feature
pub record Side : Type 0 where
  pub max : ℕ
  pub setting : Setting

abbrev pub side_of : Port → Feature → Side
side_of p f = record { max = (feature_of p f).max; setting = (feature_of p f).setting }

-- "a feature the other end doesn't advertise is absent; otherwise the received Oper is the lower of the two Max"
unfoldable pub received_alone : Side → Side → Bool → Received
received_alone own peer error =
    if peer.setting.advertise then
    record {
      count = 1;
      value = lower own.max peer.max ∷ peer.max ∷ flags peer.setting.enable peer.setting.willing error ∷ 0 ∷ content peer.setting.desired;
    }
    else record { count = 0; value = [] }

unfoldable pub ruled : Feature → Side → Side → Bool → Outcome
ruled f own peer error = outcome f own.max own.setting own.max (received_alone own peer error)

-- "and the peer's error flag is the Error these rules give at the other end" (which no rule makes depend on the error flag received)
unfoldable pub alone : Feature → Side → Side → Outcome
alone f own peer = ruled f own peer (ruled f peer own false).error

-- and where this end does not advertise the feature it ignores what came (Handling a frame, 4)
unfoldable pub expected : Feature → Side → Side → Outcome
expected f own peer = if own.setting.advertise then alone f own peer else (fresh own.max own.setting).outcome
