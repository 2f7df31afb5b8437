-- The claims of demand 3 of a port, from what the exchange of messages shows. Assumes nothing.
use Prim.Native.Nat.{ℕ}
use native.Mathlib.Nat.{min-le_right}
use native.Mathlib.Omega.{arith}
use mathlib.Core.Path.{◌≡◌, refl, sym, ap, ◌∙◌, subst}
use mathlib.Core.Bool.{Bool, true, false, ◌&&◌}
use mathlib.Core.List.{List, [], ◌∷◌}
use borrow.Author.Tests.{eqb-true}
use Rattle.std.specs.Prelude.{if◌then◌else◌}
use Rattle.octets.specs.Words.{◌is◌}
use Rattle.octets.specs.Laws.{and_left, and_right}
use Rattle.parameters.specs.declared.Feature.{Feature}
use Rattle.parameters.specs.Parameters.{content}
use Rattle.feature.specs.declared.Outcome.{Outcome}
use Rattle.feature.specs.Outcome.{lower, outcome}
use Rattle.feature.specs.Outcome as rules
use Rattle.machine.specs.State.{flags, fresh}
use Rattle.port.specs.declared.Port.{Port}
use Rattle.port.specs.Parts.{feature_of}
use Rattle.port.specs.Settled.{settled}
use Rattle.port.specs.Sound.{SoundPort}
use Rattle.exchange.specs.Expected.{Side, side_of, received_alone, ruled, alone, expected}
use Rattle.exchange.specs.Demand3.{Agreed, Truthful}
use Rattle.exchange.proofs.Core.{Settings, advertised, Machine, Core}
use Rattle.exchange.proofs.View.{settings, view}
use Rattle.exchange.proofs.Stages.{Fit, Full, Concluded}
use Rattle.exchange.proofs.Losses.{Own, Honest}
use Rattle.exchange.proofs.Idle.{Idle}
use Rattle.exchange.proofs.Acknowledged.{Acknowledged}
use Rattle.exchange.proofs.Laws.{lower_of_two}

pub fit : (p : Port) → SoundPort p → Fit (settings p)
fit p h f = (h.features f).setting.desired

expected_as : (s t : Settings) (p : Core) → Full s t p → Idle s p → (f : Feature) (b : Bool) → advertised s f ≡ b →
    (p.feat f).outcome ≡ expected f (s.of f) (t.of f)
unfolding expected
expected_as s t p h k f true a =
    h f a ∙ sym (ap (λ b. if b then alone f (s.of f) (t.of f) else (fresh (s.of f).max (s.of f).setting).outcome) a)
expected_as s t p h k f false a =
    ap (λ (x : Machine). x.outcome) (k f a)
    ∙ sym (ap (λ b. if b then alone f (s.of f) (t.of f) else (fresh (s.of f).max (s.of f).setting).outcome) a)

-- a feature that both advertise runs at the lower of the two Max
ruled_version : (f : Feature) (own peer : Side) (error : Bool) → peer.setting.advertise ≡ true → (ruled f own peer error).oper ≡ lower own.max peer.max
unfolding ruled received_alone
ruled_version f own peer error b =
    let v : List ℕ =
    lower own.max peer.max ∷ peer.max ∷ flags peer.setting.enable peer.setting.willing error ∷ 0 ∷ content peer.setting.desired in
    ap (λ b. (outcome f own.max own.setting own.max (if b then record { count = 1; value = v } else record { count = 0; value = [] })).oper) b
    ∙ lower_of_two f own.max own.setting own.max (record { count = 1; value = v }) refl (omega arith) (min-le_right own.max peer.max)

expected_version : (f : Feature) (own peer : Side) → own.setting.advertise ≡ true → peer.setting.advertise ≡ true →
    (expected f own peer).oper ≡ lower own.max peer.max
unfolding expected alone
expected_version f own peer a b =
    ap (λ b. (if b then alone f own peer else (fresh own.max own.setting).outcome).oper) a ∙ ruled_version f own peer _ b

module _ (own peer p : Port) (q : Core) (e : view p ≡ q) where
  abbrev p_outcome : Feature → Type 0
  p_outcome f = (feature_of p f).outcome ≡ expected f (side_of own f) (side_of peer f)

  pub agreed : settings p ≡ settings own → Concluded (settings own) (settings peer) q → Idle (settings own) q → Agreed own peer p
  agreed s h i =
      let o : (f : Feature) → p_outcome f = λ f. ap (λ (x : Core). (x.feat f).outcome) e ∙ expected_as (settings own) (settings peer) q h.full i f _ refl in
      record {
        seen = ap (λ (x : Core). x.seen) e ∙ h.seen;
        acknowledged = ap (λ (x : Core). x.rcvd) e ∙ h.rcvd ∙ sym (ap (λ (x : Core). x.seq) e);
        synced = λ f a. ap (λ (x : Core). (x.feat f).syncd) e ∙ h.synced f;
        version = ap (λ (x : Core). x.oper) e ∙ h.low;
        versions = λ f a b. ap (λ (x : Outcome). x.oper) (o f) ∙ expected_version f (side_of own f) (side_of peer f) a b;
        outcome = o;
        configuration = λ f i. rules.configuration ((s i).of f).setting (o f i);
      }

  pub truthful : Honest (settings peer) q → Truthful peer p
  truthful h = record { own = λ f. subst (λ (x : Core). Own ((settings peer).of f) (x.feat f).outcome.peer) (sym e) (h f) }

-- a settled port has seen a peer, and its SeqNo is acknowledged
pub settled_acknowledged : (p : Port) (q : Core) → view p ≡ q → settled p ≡ true → Acknowledged q
unfolding settled
settled_acknowledged p q e d =
    let n : (p.control.seen && p.control.rcvd is p.control.seq) ≡ true = and_left (p.control.seen && p.control.rcvd is p.control.seq) _ d in
    let a : p.control.rcvd ≡ p.control.seq = eqb-true p.control.rcvd p.control.seq (and_right p.control.seen _ n) in
    (sym (ap (λ (x : Core). x.seen) e) ∙ and_left p.control.seen _ n, sym (ap (λ (x : Core). x.rcvd) e) ∙ a ∙ ap (λ (x : Core). x.seq) e)
