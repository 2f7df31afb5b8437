-- 02, E13, "Laws we rely on at handover. When a cabinet is recabled the ends swap roles." All of it.
use Rattle.std.specs.Prelude.{ℕ, ◌≤◌, ◌≡◌, true, false, List, [], ◌∷◌, ◌++◌, length}
use Rattle.parameters.specs.declared.Feature.{Feature}
use Rattle.parameters.specs.declared.Feature.TheVariants.{Flow, Applications}
use Rattle.parameters.specs.Parameters.{valid, compatible, stored, content}
use Rattle.feature.specs.declared.Outcome.{Outcome}
use Rattle.feature.specs.Outcome.{lower}
use Rattle.feature.specs.Outcome as rules
use Rattle.port.specs.declared.Port.{Port}
use Rattle.port.specs.Parts.{feature_of}
use Rattle.port.specs.Settled.{settled}
use Rattle.rounds.specs.Rounds.{Ends, Round, Lossy, rounds, lossy_rounds, exec_all, Proper}
use Rattle.exchange.specs.Expected.{Side, side_of, expected}
use Rattle.exchange.specs.Demand3.{Begun}
use Rattle.exchange.specs.Recorders as recorders
use Rattle.exchange.specs.Recorders.{Cable, Recorders, Happening, ends, exchanged, Joins}

-- ---- the rules

-- "the lower of two versions is commutative, associative and idempotent"
pub record LowerLaws : Type 0 where
  pub commutative : (a b : ℕ) → lower a b ≡ lower b a
  pub associative : (a b c : ℕ) → lower (lower a b) c ≡ lower a (lower b c)
  pub idempotent : (a : ℕ) → lower a a ≡ a

-- a list of one application entry: FCoE, id 8906 with selector 0, on a priority map
abbrev pub fcoe_on : ℕ → List ℕ
fcoe_on map = 0x89 ∷ 0x06 ∷ 0x00 ∷ 0x1b ∷ 0x21 ∷ map ∷ []

-- a list of two, which maps it to 08 and to 10
abbrev pub fcoe_twice : List ℕ
fcoe_twice = fcoe_on 0x08 ++ fcoe_on 0x10

-- "compatibility is reflexive over valid parameters and symmetric for all three features"
pub record CompatibleLaws : Type 0 where
  -- validity is asked of application lists alone: groups and flow control are compatible with themselves whatever they are
  pub reflexive : (f : Feature) (p : List ℕ) → (f ≡ Applications → valid f p ≡ true) → compatible f p p ≡ true
  -- and there it is needed: a list that names 8906 twice is not valid, and not compatible with itself
  pub needs_valid : (valid Applications fcoe_twice ≡ false) × (compatible Applications fcoe_twice fcoe_twice ≡ false)
  pub symmetric : (f : Feature) (p q : List ℕ) → compatible f p q ≡ compatible f q p
  -- "Record that application compatibility is not transitive: one list maps 8906 to 08, one is empty, one maps it to 10." All are valid.
  pub all_valid : (valid Applications (fcoe_on 0x08) ≡ true) × (valid Applications [] ≡ true) × (valid Applications (fcoe_on 0x10) ≡ true)
  pub not_transitive : (compatible Applications (fcoe_on 0x08) [] ≡ true) × (compatible Applications [] (fcoe_on 0x10) ≡ true)
      × (compatible Applications (fcoe_on 0x08) (fcoe_on 0x10) ≡ false)

-- ---- the settled outcomes of two settings alone

-- "for a feature both advertise", with valid parameters, as every reachable port has them
pub record BothAdvertise (f : Feature) (a b : Side) : Type 0 where
  pub advertised_a : a.setting.advertise ≡ true
  pub advertised_b : b.setting.advertise ≡ true
  pub valid_a : valid f (content a.setting.desired) ≡ true
  pub valid_b : valid f (content b.setting.desired) ≡ true

-- "mode and Error being the same at both ends", and with them the reason and the version
pub record SameAtBoth (o p : Outcome) : Type 0 where
  pub reason : o.reason ≡ p.reason
  pub version : o.oper ≡ p.oper
  pub error : o.error ≡ p.error
  pub mode : o.mode ≡ p.mode

-- flow control, advertised and enabled, with mask 08 and a number of classes
abbrev pub flow_side : ℕ → Side
flow_side number = record { max = 0; setting = record { advertise = true; enable = true; willing = false; desired = stored (0x08 ∷ number ∷ []) } }

-- `expected` has an own side and a peer's, and knows no left and right: swapped sides have swapped outcomes by its form
pub record AloneLaws : Type 0 where
  pub same : (f : Feature) (a b : Side) → BothAdvertise f a b → SameAtBoth (expected f a b) (expected f b a)
  -- that both advertise is needed: where one end alone does, its mode is false and the other's is what enable says there
  pub needs_both : (f : Feature) (a b : Side) → a.setting.advertise ≡ true → b.setting.advertise ≡ false
      → ((expected f a b).mode ≡ false) × ((expected f b a).mode ≡ b.setting.enable)
  -- and so is validity: the number 9 is bad, which the end that has it does not see
  pub needs_valid : ((expected Flow (flow_side 8) (flow_side 9)).error ≡ true) × ((expected Flow (flow_side 9) (flow_side 8)).error ≡ false)

-- ---- the exchange itself: "swapping the ends swaps the settled outcomes"

-- two ports with the same highest versions and settings. Of a revision (02, E11) nothing is asked: what it means for the outcome stands in the
-- settings, so that the revision of each end may go with it or not.
pub record SameSettings (p q : Port) : Type 0 where
  pub max : p.control.max ≡ q.control.max
  pub features : (f : Feature) → side_of p f ≡ side_of q f

-- who was left is right, and who was right is left
pub record RolesSwapped (c d : Ends) : Type 0 where
  pub left_right : SameSettings c.l d.r
  pub right_left : SameSettings c.r d.l

-- two ports run control at one version, and have the same outcome and OperCfg of each feature
pub record Alike (p q : Port) : Type 0 where
  pub version : p.control.oper ≡ q.control.oper
  pub outcome : (f : Feature) → (feature_of p f).outcome ≡ (feature_of q f).outcome
  pub configuration : (f : Feature)
      → rules.configuration (feature_of p f).setting (feature_of p f).outcome ≡ rules.configuration (feature_of q f).setting (feature_of q f).outcome

-- each end now is as it was before the swap
abbrev pub OutcomesSwapped : Ends → Ends → Type 0
OutcomesSwapped before now = Alike before.l now.r × Alike before.r now.l

-- if both were settled, and both are
abbrev pub SettledSwapped : Ends → Ends → Type 0
SettledSwapped before now =
    settled before.l ≡ true → settled before.r ≡ true → settled now.l ≡ true → settled now.r ≡ true → OutcomesSwapped before now

-- a feature that both advertise has one mode and one Error
abbrev pub SameEnds : Ends → Ends → Type 0
SameEnds started now =
    (f : Feature) → (feature_of started.l f).setting.advertise ≡ true → (feature_of started.r f).setting.advertise ≡ true
    → SameAtBoth (feature_of now.l f).outcome (feature_of now.r f).outcome

-- Of two ends that have just started, and of the same ends just started with their roles swapped: six or more rounds each, in whatever
-- order and with whatever refused calls; or rounds of any number with any losses, if they have settled.
pub record Handover (c d : Ends) : Type 0 where
  pub swaps : (rs ss : List Round) → Proper (rounds rs) c → Proper (rounds ss) d → 6 ≤ length rs → 6 ≤ length ss
      → OutcomesSwapped (exec_all (rounds rs) c) (exec_all (rounds ss) d)
  pub settled_swaps : (rs ss : List Lossy) → Proper (lossy_rounds rs) c → Proper (lossy_rounds ss) d
      → SettledSwapped (exec_all (lossy_rounds rs) c) (exec_all (lossy_rounds ss) d)
  pub same : (rs : List Round) → Proper (rounds rs) c → 6 ≤ length rs → SameEnds c (exec_all (rounds rs) c)
  pub settled_same : (rs : List Lossy) → Proper (lossy_rounds rs) c → settled (exec_all (lossy_rounds rs) c).l ≡ true
      → settled (exec_all (lossy_rounds rs) c).r ≡ true → SameEnds c (exec_all (lossy_rounds rs) c)

-- The same of a port of one recorder and a port of another, whatever happens at their other ports. The second cable may join other
-- ports with the same settings.
pub record JoinedHandover (k : Cable) (c : Recorders) (j : Cable) (d : Recorders) : Type 0 where
  pub swaps : (xs ys : List Happening) → recorders.Proper k xs c → recorders.Proper j ys d
      → (rs ss : List Round) → exchanged xs ≡ rounds rs → exchanged ys ≡ rounds ss → 6 ≤ length rs → 6 ≤ length ss
      → OutcomesSwapped (ends k (recorders.exec_all k xs c)) (ends j (recorders.exec_all j ys d))
  pub settled_swaps : (xs ys : List Happening) → recorders.Proper k xs c → recorders.Proper j ys d
      → (rs ss : List Lossy) → exchanged xs ≡ lossy_rounds rs → exchanged ys ≡ lossy_rounds ss
      → SettledSwapped (ends k (recorders.exec_all k xs c)) (ends j (recorders.exec_all j ys d))
  pub same : (xs : List Happening) → recorders.Proper k xs c → (rs : List Round) → exchanged xs ≡ rounds rs → 6 ≤ length rs
      → SameEnds (ends k c) (ends k (recorders.exec_all k xs c))
  pub settled_same : (xs : List Happening) → recorders.Proper k xs c → (rs : List Lossy) → exchanged xs ≡ lossy_rounds rs
      → settled (ends k (recorders.exec_all k xs c)).l ≡ true → settled (ends k (recorders.exec_all k xs c)).r ≡ true
      → SameEnds (ends k c) (ends k (recorders.exec_all k xs c))

-- ---- all of it

pub record HandoverLaws : Type 0 where
  pub lower_of_two : LowerLaws
  pub compatibility : CompatibleLaws
  pub alone : AloneLaws
  pub of_ports : (c d : Ends) → Begun c → Begun d → RolesSwapped c d → Handover c d
  pub of_recorders : (k : Cable) (c : Recorders) (j : Cable) (d : Recorders) → Joins k c.l c.r → Joins j d.l d.r
      → Begun (ends k c) → Begun (ends j d) → RolesSwapped (ends k c) (ends j d) → JoinedHandover k c j d
