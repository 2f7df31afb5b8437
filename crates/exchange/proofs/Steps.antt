-- Steps 3 to 5 of one feature, seen as what they do to its machine; they leave its side. Assumes nothing.
use Prim.Native.Nat.{ℕ}
use native.Mathlib.Omega.{arith}
use mathlib.Core.Path.{◌≡◌, ap, ◌∙◌}
use mathlib.Core.Bool.{Bool, true, false, not, beq, and-true}
use mathlib.Core.List.{[]}
use Rattle.std.specs.Prelude.{if◌then◌else◌}
use Rattle.octets.specs.Words.{◌is◌}
use Rattle.octets.specs.Octets.{same, headed}
use Rattle.octets.specs.Laws.{same_refl}
use Rattle.parameters.specs.declared.Feature.{Feature}
use Rattle.parameters.specs.Parameters.{feature_number, content}
use Rattle.feature.specs.declared.Outcome.{Outcome}
use Rattle.feature.specs.declared.State.{State}
use Rattle.feature.specs.Outcome.{Received, outcome}
use Rattle.machine.specs.State.{next, flags, value, with_outcome, present, release_tlv, sub_tlv}
use Rattle.turn.specs.Turn as turn
use Rattle.machine.specs.State as machine
use Rattle.exchange.specs.Expected.{Side}
use Rattle.exchange.proofs.Core as core
use Rattle.exchange.proofs.Core.{machine_of}
use Rattle.invariants.proofs.Tests.{is_same}

-- ---- a feature's written sub-TLV differs exactly if Oper or Error does

same_flags : (en wi e d : Bool) → (flags en wi e is flags en wi d) ≡ beq e d
same_flags en wi e d = grind arith

sub_tlv_is : (f : Feature) (x : State) → x.setting.advertise ≡ true → sub_tlv f x ≡ headed (feature_number f) (value x.max (present x))
unfolding release_tlv
sub_tlv_is f x a = ap (λ b. if b then headed (feature_number f) (value x.max (present x)) else []) a

abbrev pub side_of_state : State → Side
side_of_state x = record { max = x.max; setting = x.setting }

-- the state after steps 3 and 4, with an outcome
abbrev after : ℕ → ℕ → State → Outcome → State
after rcvd seq x o = with_outcome (turn.acknowledged rcvd seq x) o

changed_octets : (f : Feature) (x : State) (rcvd seq : ℕ) (o : Outcome) → x.setting.advertise ≡ true →
    machine.changed f x (after rcvd seq x o) ≡ core.changed x.outcome o
unfolding machine.differing core.changed turn.acknowledged same
changed_octets f x rcvd seq o a =
    simp (sub_tlv_is f x a, sub_tlv_is f (after rcvd seq x o) a, is_same, same_flags)
    (rw (same_refl (content x.setting.desired), and-true (beq x.outcome.error o.error)))

-- ---- one feature

-- Syncd false, FeatureSeqNo = SeqNo + 1
abbrev asked : ℕ → State → State
asked seq x = record { max = x.max; setting = x.setting; outcome = x.outcome; syncd = false; sequence = next seq }

marked_by : (f : Feature) (seq : ℕ) (x y : State) (b : Bool) → machine.changed f x y ≡ b →
    machine.marked f seq x y ≡ (if b then asked seq y else y)
unfolding machine.marked
marked_by f seq x y b e = ap (λ c. if c then asked seq y else y) e

pub marked_same : (f : Feature) (seq : ℕ) (x : State) → machine.marked f seq x x ≡ x
unfolding machine.differing
marked_same f seq x = marked_by f seq x x false (ap not (same_refl (sub_tlv f x)))

-- a feature after steps 3 to 5
abbrev pub stepped : Feature → ℕ → ℕ → Received → State → State
stepped f rcvd seq r x = machine.marked f seq x (turn.received f r (turn.acknowledged rcvd seq x))

module _ (f : Feature) (rcvd seq : ℕ) (r : Received) (x : State) where
  -- what the outcome rules give
  abbrev ruled : Outcome
  ruled = outcome f x.max x.setting x.outcome.oper r

  received_by : (b : Bool) → x.setting.advertise ≡ b →
      turn.received f r (turn.acknowledged rcvd seq x) ≡ (if b then after rcvd seq x ruled else turn.acknowledged rcvd seq x)
  unfolding turn.received turn.acknowledged
  received_by b a = ap (λ c. if c then after rcvd seq x ruled else turn.acknowledged rcvd seq x) a

  stepped_idle : x.setting.advertise ≡ false → stepped f rcvd seq r x ≡ turn.acknowledged rcvd seq x
  unfolding turn.acknowledged machine.differing
  stepped_idle a =
      ap (machine.marked f seq x) (received_by false a) ∙ marked_by f seq x (turn.acknowledged rcvd seq x) false (ap not (same_refl (sub_tlv f x)))

  stepped_by : x.setting.advertise ≡ true →
      stepped f rcvd seq r x ≡ (if core.changed x.outcome ruled then asked seq (after rcvd seq x ruled) else after rcvd seq x ruled)
  unfolding turn.acknowledged
  stepped_by a =
      ap (machine.marked f seq x) (received_by true a)
      ∙ marked_by f seq x (after rcvd seq x ruled) (core.changed x.outcome ruled) (changed_octets f x rcvd seq ruled a)

  asked_side : (b : Bool) → side_of_state (if b then asked seq (after rcvd seq x ruled) else after rcvd seq x ruled) ≡ side_of_state x
  unfolding turn.acknowledged
  asked_side b = grind arith

  asked_machine : (b : Bool) →
      machine_of (if b then asked seq (after rcvd seq x ruled) else after rcvd seq x ruled) ≡ core.marked b seq ruled (core.synced rcvd seq (machine_of x))
  unfolding turn.acknowledged core.marked core.synced
  asked_machine b = grind arith

  pub side_stepped : (b : Bool) → x.setting.advertise ≡ b → side_of_state (stepped f rcvd seq r x) ≡ side_of_state x
  unfolding turn.acknowledged
  side_stepped true a = ap side_of_state (stepped_by a) ∙ asked_side (core.changed x.outcome ruled)
  side_stepped false a = ap side_of_state (stepped_idle a)

  pub machine_stepped : (b : Bool) → x.setting.advertise ≡ b →
      machine_of (stepped f rcvd seq r x) ≡ core.handled b f (side_of_state x) rcvd seq r (machine_of x)
  unfolding turn.acknowledged core.handled core.synced
  machine_stepped true a = ap machine_of (stepped_by a) ∙ asked_machine (core.changed x.outcome ruled)
  machine_stepped false a = ap machine_of (stepped_idle a)
