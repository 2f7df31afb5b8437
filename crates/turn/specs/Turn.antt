-- 01, Handling a frame: what steps 1, 3 and 4 make of one feature.
use Rattle.std.specs.Prelude.{ℕ, true, ◌&&◌, ◌||◌, if◌then◌else◌}
use Rattle.octets.specs.Words.{◌is◌}
use Rattle.parameters.specs.declared.Feature.{Feature}
use Rattle.feature.specs.declared.Reason.TheVariants.{ControlTwice}
use Rattle.feature.specs.declared.State.{State}
use Rattle.feature.specs.Outcome.{Received, without_peer, outcome}
use Rattle.machine.specs.State.{with_outcome}

-- Step 1: "each advertised feature gets reason "control twice", Error true, mode false, peer none, OperCfg = DesiredCfg"
unfoldable pub control_twice : State → State
control_twice x =
    if x.setting.advertise then with_outcome x (without_peer ControlTwice x.outcome.oper true)
    else x

-- Step 3: "A feature whose FeatureSeqNo equals both RcvdAckNo and SeqNo becomes Syncd."
unfoldable pub acknowledged : ℕ → ℕ → State → State
acknowledged rcvd seq x =
    record { max = x.max; setting = x.setting; outcome = x.outcome; syncd = x.syncd || (x.sequence is rcvd && x.sequence is seq); sequence = x.sequence }

-- Step 4: "Each advertised feature, by the outcome rules. Others ignore what came."
unfoldable pub received : Feature → Received → State → State
received f r x =
    if x.setting.advertise then with_outcome x (outcome f x.max x.setting x.outcome.oper r)
    else x
