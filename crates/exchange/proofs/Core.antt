-- What frames change of a running port over fixed settings, and the messages that two such ports exchange. Assumes nothing.
use Prim.Native.Nat.{ℕ, min}
use mathlib.Core.Bool.{Bool, true, false, not, ◌&&◌, ◌||◌, beq}
use mathlib.Core.List.{[], ◌∷◌}
use Rattle.octets.specs.Words.{◌is◌}
use Rattle.tlv.specs.declared.Revision.{Revision}
use Rattle.parameters.specs.declared.Feature.{Feature}
use Rattle.parameters.specs.Parameters.{content}
use Rattle.feature.specs.declared.Outcome.{Outcome}
use Rattle.feature.specs.declared.State.{State}
use Rattle.feature.specs.Outcome.{Received, outcome}
use Rattle.machine.specs.State.{next, flags, fresh}
use Rattle.port.specs.Parts.{some}
use Rattle.admission.specs.Admission.{Message}
use Rattle.exchange.specs.Expected.{Side}

-- what an end is set to: control's highest version, and each feature's with its setting
pub record Settings : Type 0 where
  pub revision : Revision
  pub max : ℕ
  pub of : Feature → Side

abbrev pub advertised : Settings → Feature → Bool
advertised s f = (s.of f).setting.advertise

-- of a sub-TLV what frames change: the settings are fixed
pub record Offer : Type 0 where
  pub oper : ℕ
  pub error : Bool

-- what an outcome offers
abbrev pub offer_of : Outcome → Offer
offer_of o = record { oper = o.oper; error = o.error }

-- what changes of a feature
pub record Machine : Type 0 where
  pub outcome : Outcome
  pub syncd : Bool
  pub sequence : ℕ

abbrev pub machine_of : State → Machine
machine_of x = record { outcome = x.outcome; syncd = x.syncd; sequence = x.sequence }

-- what changes of a port; `offer` is what was last released, and is written until the next release (02, E5)
pub record Core : Type 0 where
  pub oper : ℕ
  pub seq : ℕ
  pub ack : ℕ
  pub rcvd : ℕ
  pub seen : Bool
  pub duplicate : Bool
  pub feat : Feature → Machine
  pub offer : Feature → Offer

-- ---- what is written: nothing of a feature that is not advertised

unfoldable pub written : Bool → Side → Offer → Received
written false x o = record { count = 0; value = [] }
written true x o =
    record {
      count = 1;
      value = o.oper ∷ x.max ∷ flags x.setting.enable x.setting.willing o.error ∷ 0 ∷ content x.setting.desired;
    }

unfoldable pub message : Settings → Core → Message
message s p =
    record {
      oper = p.oper;
      max = s.max;
      seq = p.seq;
      ack = p.ack;
      has = λ f. written (advertised s f) (s.of f) (p.offer f);
    }

-- ---- steps 3 to 5 for one feature

-- the Syncd law
unfoldable pub synced : ℕ → ℕ → Machine → Machine
synced rcvd seq x = record { outcome = x.outcome; syncd = x.syncd || (x.sequence is rcvd && x.sequence is seq); sequence = x.sequence }

-- the present sub-TLV changed; the setting did not
unfoldable pub changed : Outcome → Outcome → Bool
changed o n = not (o.oper is n.oper && beq o.error n.error)

unfoldable pub marked : Bool → ℕ → Outcome → Machine → Machine
marked true seq o x = record { outcome = o; syncd = false; sequence = next seq }
marked false seq o x = record { outcome = o; syncd = x.syncd; sequence = x.sequence }

-- is the feature advertised
unfoldable pub handled : Bool → Feature → Side → ℕ → ℕ → Received → Machine → Machine
handled false f own rcvd seq r x = synced rcvd seq x
handled true f own rcvd seq r x =
    let o = outcome f own.max own.setting x.outcome.oper r in
    marked (changed x.outcome o) seq o (synced rcvd seq x)

-- ---- the send rule: does it raise SeqNo, and what is released afterwards

unfoldable pub bump : Bool → ℕ → ℕ
bump true n = next n
bump false n = n

-- a feature that is not advertised is always Syncd here: nothing is withdrawn
unfoldable pub pending : (Feature → Machine) → Bool
pending x = some (λ f. not (x f).syncd)

unfoldable pub raises : (Feature → Machine) → ℕ → ℕ → Bool
raises x rcvd seq = pending x && rcvd is seq

unfoldable pub released : Bool → (Feature → Machine) → (Feature → Offer) → Feature → Offer
released true x old = λ f. offer_of (x f).outcome
released false x old = old

-- ---- just started, and a message received

abbrev pub fresh_machine : Side → Machine
fresh_machine x = machine_of (fresh x.max x.setting)

abbrev pub fresh_machines : Settings → Feature → Machine
fresh_machines s f = fresh_machine (s.of f)

unfoldable pub started : Settings → Core
started s =
    record {
      oper = s.max;
      seq = bump (raises (fresh_machines s) 0 0) 0;
      ack = 0;
      rcvd = 0;
      seen = false;
      duplicate = false;
      feat = fresh_machines s;
      offer = λ f. offer_of (fresh_machines s f).outcome;
    }

abbrev pub features : Settings → Core → Message → Feature → Machine
features s p m f = handled (advertised s f) f (s.of f) m.ack p.seq (m.has f) (p.feat f)

-- steps 3 to 5, behind step 2's test
unfoldable pub gated : Bool → ℕ → Settings → Core → Message → Core
gated false low s p m =
    let raised : Bool = raises p.feat p.rcvd p.seq in
    record {
      oper = low;
      seq = bump raised p.seq;
      ack = p.ack;
      rcvd = p.rcvd;
      seen = true;
      duplicate = false;
      feat = p.feat;
      offer = released raised p.feat p.offer;
    }
gated true low s p m =
    let raised : Bool = raises (features s p m) m.ack p.seq in
    record {
      oper = low;
      seq = bump raised p.seq;
      ack = m.seq;
      rcvd = m.ack;
      seen = true;
      duplicate = false;
      feat = features s p m;
      offer = released raised (features s p m) p.offer;
    }

unfoldable pub recv : Settings → Core → Message → Core
recv s p m = gated (m.oper is min s.max m.max) (min s.max m.max) s p m
