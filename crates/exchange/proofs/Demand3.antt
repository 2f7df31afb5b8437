-- Demand 3, whole, of every two ports that have just started. Assumes nothing.
use Rattle.rounds.specs.Rounds.{Ends, rounds, lossy_rounds}
use Rattle.exchange.specs.Demand3.{Begun, Demand3}
use Rattle.exchange.proofs.View.{settings}
use Rattle.exchange.proofs.Pairs.{begin}
use Rattle.exchange.proofs.Stages.{six_concluded}
use Rattle.exchange.proofs.Settling.{after_six}
use Rattle.exchange.proofs.Idle.{run_idle}
use Rattle.exchange.proofs.Losses.{run_truthful}
use Rattle.exchange.proofs.Acknowledged.{run_concluded}
use Rattle.exchange.proofs.Simulation.{follows_all}
use Rattle.exchange.proofs.Started.{like_begun}
use Rattle.exchange.proofs.Claims.{fit, agreed, settled_acknowledged, truthful}

pub demand3 : (c : Ends) → Begun c → Demand3 c
demand3 c h =
    let s = settings c.l in
    let t = settings c.r in
    let fit-s = fit c.l h.l.sound in
    let fit-t = fit c.r h.r.sound in
    record {
      settles = λ rs p n.
          let k = follows_all s t (rounds rs) c (begin s t) p (like_begun c h) in
          let z = after_six s t fit-s fit-t rs n in
          let i = run_idle s t (rounds rs) in (
            agreed c.l c.r _ _ k.view_l k.runs_l.set (six_concluded s t _ _ z.0) i.0,
            agreed c.r c.l _ _ k.view_r k.runs_r.set (six_concluded t s _ _ z.1) i.1,
          );
      truthful = λ rs p.
          let k = follows_all s t (lossy_rounds rs) c (begin s t) p (like_begun c h) in
          let z = run_truthful s t fit-s fit-t (lossy_rounds rs) in
          (truthful c.l c.r _ _ k.view_l z.at_l, truthful c.r c.l _ _ k.view_r z.at_r);
      agrees = λ rs p a b.
          let k = follows_all s t (lossy_rounds rs) c (begin s t) p (like_begun c h) in
          let z =
          run_concluded s t fit-s fit-t (lossy_rounds rs) (settled_acknowledged _ _ k.view_l a) (settled_acknowledged _ _ k.view_r b) in
          let i = run_idle s t (lossy_rounds rs) in (
            agreed c.l c.r _ _ k.view_l k.runs_l.set z.0 i.0,
            agreed c.r c.l _ _ k.view_r k.runs_r.set z.1 i.1,
          );
    }
