-- Two ends that have just started follow two ends of messages that have. Assumes nothing.
use Prim.Native.Nat.{ℕ}
use native.Mathlib.Omega.{arith}
use mathlib.Core.Path.{◌≡◌, refl, sym, ap, ◌∙◌, subst}
use mathlib.Core.Bool.{Bool, true, false}
use Rattle.std.specs.Prelude.{if◌then◌else◌}
use Rattle.parameters.specs.declared.Feature.{Feature}
use Rattle.parameters.specs.declared.Feature.TheVariants.{Groups, Flow, Applications}
use Rattle.feature.specs.declared.Setting.{Setting}
use Rattle.machine.specs.State.{fresh_at, fresh, stopped}
use Rattle.port.specs.declared.Port.{Port}
use Rattle.port.specs.Parts.{feature_of, with_features, running}
use Rattle.sending.specs.Sending.{fresh_parts, fresh_port, sent}
use Rattle.rounds.specs.Rounds.{Ends}
use Rattle.exchange.specs.Expected.{side_of}
use Rattle.exchange.specs.Demand3.{JustStarted, Begun}
use Rattle.exchange.proofs.Core as core
use Rattle.exchange.proofs.Core.{offer_of, machine_of, fresh_machine, started}
use Rattle.exchange.proofs.Steps.{side_of_state}
use Rattle.exchange.proofs.View.{settings, view, offer_at, Offers, offers_sent, view_sent}
use Rattle.exchange.proofs.Pairs.{begin}
use Rattle.exchange.proofs.Simulation.{Runs, Like}

pub fresh_side : (max : ℕ) (s : Setting) (b : Bool) → s.advertise ≡ b → side_of_state (fresh max s) ≡ record { max = max; setting = s }
unfolding fresh_at
fresh_side max s b e = grind arith

module _ (p : Port) where
  pub fresh_settings : settings (fresh_parts p) ≡ settings p
  fresh_settings = λ i. record { revision = p.revision; max = p.control.max; of = λ f. sides f i }
    where
      sides : (f : Feature) → side_of (fresh_parts p) f ≡ side_of p f
      sides Groups = fresh_side p.groups.max p.groups.setting _ refl
      sides Flow = fresh_side p.flow.max p.flow.setting _ refl
      sides Applications = fresh_side p.applications.max p.applications.setting _ refl

  fresh_machine_lem : (f : Feature) → machine_of (feature_of (fresh_parts p) f) ≡ fresh_machine (side_of p f)
  fresh_machine_lem f = grind arith

  pub fresh_runs : running p ≡ true → fresh_port p ≡ sent (fresh_parts p)
  unfolding fresh_port
  fresh_runs r = ap (λ b. if b then sent (fresh_parts p) else with_features (fresh_parts p) (λ f. stopped (feature_of (fresh_parts p) f))) r

  -- all of it is released
  fresh_offer : (f : Feature) → offer_at (fresh_parts p) f ≡ offer_of (fresh_machine (side_of p f)).outcome
  fresh_offer f = grind arith

  fresh_offers_lem : Offers (fresh_parts p)
  fresh_offers_lem f = grind arith

  view_fresh : view (sent (fresh_parts p)) ≡ started (settings p)
  unfolding started core.released
  view_fresh =
      view_sent (fresh_parts p)
      ∙ (λ i. record {
        oper = p.control.max;
        seq = core.bump (core.raises (λ f. fresh_machine_lem f i) 0 0) 0;
        ack = 0;
        rcvd = 0;
        seen = false;
        duplicate = false;
        feat = λ f. fresh_machine_lem f i;
        offer = core.released (core.raises (λ f. fresh_machine_lem f i) 0 0) (λ f. fresh_machine_lem f i) (λ f. fresh_offer f i);
      })
      ∙ (λ i. record {
        oper = p.control.max;
        seq = core.bump (core.raises (core.fresh_machines (settings p)) 0 0) 0;
        ack = 0;
        rcvd = 0;
        seen = false;
        duplicate = false;
        feat = core.fresh_machines (settings p);
        offer = released_same (core.raises (core.fresh_machines (settings p)) 0 0) i;
      })
    where
      released_same : (b : Bool) → core.released b (core.fresh_machines (settings p)) (λ f. offer_of (core.fresh_machines (settings p) f).outcome) ≡ (λ f. offer_of (core.fresh_machines (settings p) f).outcome)
      released_same b = grind arith

pub view_started : (p : Port) → JustStarted p → view p ≡ started (settings p)
view_started p h = ap view (sym h.fresh ∙ fresh_runs p h.runs) ∙ view_fresh p

pub runs_started : (p : Port) → JustStarted p → Runs (settings p) p
runs_started p h =
    record {
      sound = h.sound;
      runs = h.runs;
      single = h.single;
      set = refl;
      offers = subst Offers (sym (fresh_runs p h.runs) ∙ h.fresh) (offers_sent (fresh_parts p) (fresh_offers_lem p));
    }

pub like_begun : (c : Ends) → Begun c → Like (settings c.l) (settings c.r) c (begin (settings c.l) (settings c.r))
unfolding begin
like_begun c h =
    record {
      runs_l = runs_started c.l h.l;
      runs_r = runs_started c.r h.r;
      view_l = view_started c.l h.l;
      view_r = view_started c.r h.r;
      link_l = rw h.no_l tt;
      link_r = rw h.no_r tt;
    }
