-- Two ends fresh together: nothing is acknowledged and nothing is told. Assumes nothing.
use Prim.Native.Nat.{ℕ}
use native.Mathlib.Omega.{arith}
use mathlib.Core.Path.{◌≡◌, refl, sym, ap, ◌∙◌}
use mathlib.Core.Logic.{◌⊎◌, inl, inr}
use mathlib.Core.Bool.{true, false, false≢true}
use mathlib.Core.Option.{none}
use Rattle.parameters.specs.declared.Feature.{Feature}
use Rattle.feature.specs.declared.Setting.{Setting}
use Rattle.feature.specs.declared.State.{State}
use Rattle.machine.specs.State.{next, fresh_at, fresh}
use Rattle.port.specs.declared.Port.{Port}
use Rattle.port.specs.Parts.{feature_of}
use Rattle.sending.specs.Sending.{sent, fresh_parts, fresh_port}
use Rattle.invariants.proofs.Waiting.{fresh_in_step}
use Rattle.exchange.specs.Demand3.{JustStarted}
use Rattle.ticks.proofs.Events.{sent_feature, sent_rcvd, sent_ack, sent_seq}
use Rattle.ticks.proofs.Ways.{Way}
use Rattle.ticks.proofs.Given.{Up}

module _ (max : ℕ) (s : Setting) where
  fresh_sequence : (fresh max s).sequence ≡ 1
  unfolding fresh_at
  fresh_sequence = grind arith

  fresh_syncd : (fresh max s).setting.advertise ≡ true → (fresh max s).syncd ≡ false
  unfolding fresh_at
  fresh_syncd e = grind arith

pub record Begins (p : Port) : Type 0 where
  pub rcvd : p.control.rcvd ≡ 0
  pub ack : p.control.ack ≡ 0
  pub seq : (p.control.seq ≡ 0) ⊎ (p.control.seq ≡ next 0)
  pub feature : (f : Feature) → feature_of p f ≡ fresh (feature_of p f).max (feature_of p f).setting

parts_feature : (p : Port) (f : Feature) → feature_of (fresh_parts p) f ≡ fresh (feature_of p f).max (feature_of p f).setting
parts_feature p f = grind arith

module _ (p : Port) (h : JustStarted p) where
  is_sent_lem : p ≡ sent (fresh_parts p)
  unfolding fresh_port
  is_sent_lem = sym h.fresh ∙ rw h.runs refl

  started_begins : Begins p
  started_begins =
      record {
        rcvd = ap (λ (q : Port). q.control.rcvd) is_sent_lem ∙ sent_rcvd (fresh_parts p);
        ack = ap (λ (q : Port). q.control.ack) is_sent_lem ∙ sent_ack (fresh_parts p);
        seq = by (sent_seq (fresh_parts p));
        feature = λ f. ap (λ (q : Port). feature_of q f) is_sent_lem ∙ sent_feature (fresh_parts p) f ∙ parts_feature p f;
      }
    where
      by : ((sent (fresh_parts p)).control.seq ≡ 0) ⊎ (((sent (fresh_parts p)).control.seq ≡ next 0) × ((fresh_parts p).control.rcvd ≡ 0)) → (p.control.seq ≡ 0) ⊎ (p.control.seq ≡ next 0)
      by (inl e) = inl (ap (λ (q : Port). q.control.seq) is_sent_lem ∙ e)
      by (inr e) = inr (ap (λ (q : Port). q.control.seq) is_sent_lem ∙ e.0)

  pub started_up : Up p
  started_up = record { sound = h.sound; steps = rw h.fresh at (fresh_in_step p); runs = h.runs; single = h.single }

module _ (p q : Port) (h : JustStarted p) (k : JustStarted q) (T : Feature → Type 0) where
  abbrev b : Begins p
  b = started_begins p h

  a_is : q.control.ack ≡ 0
  a_is = (started_begins q k).ack

  pub started_way : Way T p q.control.ack none none
  started_way =
      record {
        acknowledged = λ e. a_is ∙ sym b.rcvd ∙ e;
        near = near b.seq;
        last_own = tt;
        last_peer = tt;
        told = λ f adv out. absurd (untold f adv out);
      }
    where
      near : (p.control.seq ≡ 0) ⊎ (p.control.seq ≡ next 0) → (q.control.ack ≡ p.control.seq) ⊎ (next q.control.ack ≡ p.control.seq)
      near (inl e) = inl (a_is ∙ sym e)
      near (inr e) = inr (ap next a_is ∙ sym e)

      untold : (f : Feature) → (feature_of p f).setting.advertise ≡ true → ((feature_of p f).syncd ≡ true) ⊎ (((feature_of p f).sequence ≡ p.control.seq) × (q.control.ack ≡ p.control.seq)) → ⊥
      untold f adv (inl e) = false≢true (sym (ap (λ (x : State). x.syncd) (b.feature f) ∙ fresh_syncd _ _ (sym (ap (λ (x : State). x.setting.advertise) (b.feature f)) ∙ adv)) ∙ e)
      untold f adv (inr e) =
          let one : (feature_of p f).sequence ≡ 1 = ap (λ (x : State). x.sequence) (b.feature f) ∙ fresh_sequence _ _ in
          let z : ◌≡◌ {A = ℕ} 1 0 = sym one ∙ e.0 ∙ sym e.1 ∙ a_is in
          omega arith
