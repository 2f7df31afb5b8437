-- After six rounds a further round changes nothing of the two ports but the marks of refused frames. Assumes nothing.
use Prim.Native.Nat.{◌≤◌}
use mathlib.Core.Path.{◌≡◌, sym, ap, ◌∙◌}
use mathlib.Core.Bool.{true, false, ◌&&◌}
use mathlib.Core.List.{List}
use lib.ListN.{length}
use Rattle.octets.specs.Laws.{and_left, and_right}
use Rattle.parameters.specs.declared.Feature.{Feature}
use Rattle.parameters.specs.declared.Feature.TheVariants.{Groups, Flow, Applications}
use Rattle.feature.specs.declared.Release.{Release}
use Rattle.feature.specs.declared.State.{State}
use Rattle.port.specs.declared.Port.{Port}
use Rattle.port.specs.Parts.{released_of, running}
use Rattle.calls.specs.Demand1.{unmarked}
use Rattle.rounds.specs.Rounds.{Ends, Round, lossless, calls, rounds, exec_all, Proper}
use Rattle.exchange.specs.Demand3.{Begun}
use Rattle.exchange.proofs.Core.{Settings, Core}
use Rattle.exchange.proofs.View.{settings, view}
use Rattle.exchange.proofs.Pairs.{Pair, run, begin}
use Rattle.exchange.proofs.Settling.{run_round, after_six}
use Rattle.exchange.proofs.Fixed.{stays_same}
use Rattle.exchange.proofs.Simulation.{Runs, follows_all}
use Rattle.exchange.proofs.Started.{like_begun}
use Rattle.exchange.proofs.Claims.{fit}

-- a port that runs is known, but for its mark, by its settings and by what frames change
same_port : (s : Settings) (p q : Port) → Runs s p → Runs s q → view p ≡ view q → unmarked p ≡ unmarked q
same_port s p q h k e =
    let a : settings p ≡ settings q = h.set ∙ sym k.set in
    λ i. record {
      revision = (a i).revision;
      admin = (first p h.runs ∙ sym (first q k.runs)) i;
      receive = (second p h.runs ∙ sym (second q k.runs)) i;
      transmit = (third p h.runs ∙ sym (third q k.runs)) i;
      several = (h.single ∙ sym k.single) i;
      control = record { max = (a i).max; oper = (e i).oper; seq = (e i).seq; ack = (e i).ack; rcvd = (e i).rcvd; seen = (e i).seen; duplicate = (e i).duplicate; broken = false };
      groups = state_of (a i) (e i) Groups;
      flow = state_of (a i) (e i) Flow;
      applications = state_of (a i) (e i) Applications;
      released = record { groups = release a Groups i; flow = release a Flow i; applications = release a Applications i };
    }
  where
    first : (x : Port) → running x ≡ true → x.admin ≡ true
    first x r = and_left x.admin x.receive (and_left (x.admin && x.receive) x.transmit r)

    second : (x : Port) → running x ≡ true → x.receive ≡ true
    second x r = and_right x.admin x.receive (and_left (x.admin && x.receive) x.transmit r)

    third : (x : Port) → running x ≡ true → x.transmit ≡ true
    third x r = and_right (x.admin && x.receive) x.transmit r

    release_of : Settings → Core → Feature → Release
    release_of a e f = record { setting = (a.of f).setting; oper = (e.offer f).oper; error = (e.offer f).error }

    own : (x : Port) → Runs s x → (f : Feature) → released_of x f ≡ release_of (settings x) (view x) f
    own x r f = λ i. record { setting = r.offers f i; oper = (released_of x f).oper; error = (released_of x f).error }

    release : settings p ≡ settings q → (f : Feature) → released_of p f ≡ released_of q f
    release a f = own p h f ∙ (λ i. release_of (a i) (e i) f) ∙ sym (own q k f)

    state_of : Settings → Core → Feature → State
    state_of a e f =
        record { max = (a.of f).max; setting = (a.of f).setting; outcome = (e.feat f).outcome; syncd = (e.feat f).syncd; sequence = (e.feat f).sequence }

pub steady : (c : Ends) → Begun c → (rs : List Round) (r : Round) → 6 ≤ length rs → Proper (rounds rs) c → Proper (calls lossless r) (exec_all (rounds rs) c) →
    (unmarked (exec_all (calls lossless r) (exec_all (rounds rs) c)).l ≡ unmarked (exec_all (rounds rs) c).l)
    × (unmarked (exec_all (calls lossless r) (exec_all (rounds rs) c)).r ≡ unmarked (exec_all (rounds rs) c).r)
steady c h rs r n p o =
    let s = settings c.l in
    let t = settings c.r in
    let d : Pair = run s t (rounds rs) (begin s t) in
    let k = follows_all s t (rounds rs) c (begin s t) p (like_begun c h) in
    let j = follows_all s t (calls lossless r) (exec_all (rounds rs) c) d o k in
    let fit-s = fit c.l h.l.sound in
    let fit-t = fit c.r h.r.sound in
    let z = after_six s t fit-s fit-t rs n in (
      same_port s _ _ j.runs_l k.runs_l
          (j.view_l ∙ ap (λ (x : Pair). x.l) (run_round s t r d) ∙ stays_same s t fit-t d.l d.r z.0 z.1 ∙ sym k.view_l),
      same_port t _ _ j.runs_r k.runs_r
          (j.view_r ∙ ap (λ (x : Pair). x.r) (run_round s t r d) ∙ stays_same t s fit-s d.r d.l z.1 z.0 ∙ sym k.view_r),
    )
