-- 02, E7: a tick says that the other end has handled a frame with the present sub-TLV, since that last changed. Assumes nothing.
use Prim.Native.Nat.{◌≤◌}
use mathlib.Core.Path.{◌≡◌, refl, sym, ap, ◌∙◌, subst}
use mathlib.Core.Logic.{inl}
use mathlib.Core.Bool.{true}
use mathlib.Core.List.{List, [], ◌∷◌, map}
use lib.ListN.{length}
use Rattle.parameters.specs.declared.Feature.{Feature}
use Rattle.port.specs.Parts.{feature_of}
use Rattle.rounds.specs.Rounds.{End, left, right, Ends, Call, Round, rounds, exec, exec_all}
use Rattle.rounds.specs.Rounds as ports
use Rattle.exchange.specs.Demand3.{Begun, BothAgreed}
use Rattle.exchange.proofs.Core.{Settings, advertised}
use Rattle.exchange.proofs.View.{settings}
use Rattle.exchange.proofs.Pairs.{begin}
use Rattle.exchange.proofs.Simulation.{follows_all}
use Rattle.exchange.proofs.Started.{like_begun}
use Rattle.exchange.proofs.Demand3.{demand3}
use Rattle.ticks.specs.Ticks.{Happening, call, port_of, happened, after, Proper, Ticked, Told, Ticks}
use Rattle.ticks.proofs.Runs.{held_all}

-- ---- the calls of rounds are a run

calls_after : (xs : List Call) (c : Ends) → after (map call xs) c ≡ exec_all xs c
unfolding after happened exec_all
calls_after [] c = refl
calls_after (x ∷ xs) c = calls_after xs (exec x c)

calls_proper : (xs : List Call) (c : Ends) → ports.Proper xs c → Proper (map call xs) c
unfolding happened
calls_proper [] c p = tt
calls_proper (x ∷ xs) c p = (p.0, calls_proper xs (exec x c) p.1)

module _ (c : Ends) (b : Begun c) where
  told : (xs : List Happening) → Proper xs c → (e : End) (f : Feature) → Ticked (port_of e (after xs c)) f → Told xs c e f
  told xs p left f t = (held_all c b xs p).way_l.told f t.advertised (inl t.syncd)
  told xs p right f t = (held_all c b xs p).way_r.told f t.advertised (inl t.syncd)

  -- no call of a round changes a setting
  module _ (xs : List Call) (p : ports.Proper xs c) where
    abbrev s : Settings
    s = settings c.l

    abbrev t : Settings
    t = settings c.r

    set_same : (e : End) (f : Feature) → (feature_of (port_of e (exec_all xs c)) f).setting.advertise ≡ (feature_of (port_of e c) f).setting.advertise
    set_same left f = ap (λ (x : Settings). advertised x f) (follows_all s t xs c (begin s t) p (like_begun c b)).runs_l.set
    set_same right f = ap (λ (x : Settings). advertised x f) (follows_all s t xs c (begin s t) p (like_begun c b)).runs_r.set

  occur : (rs : List Round) → ports.Proper (rounds rs) c → 6 ≤ length rs → (e : End) (f : Feature) → (feature_of (port_of e c) f).setting.advertise ≡ true
      → Ticked (port_of e (after (map call (rounds rs)) c)) f
  occur rs p n e f a = subst (λ d. Ticked (port_of e d) f) (sym (calls_after (rounds rs) c)) (record { advertised = set_same (rounds rs) p e f ∙ a; syncd = by e a })
    where
      d : BothAgreed c (exec_all (rounds rs) c)
      d = (demand3 c b).settles rs p n

      by : (e : End) → (feature_of (port_of e c) f).setting.advertise ≡ true → (feature_of (port_of e (exec_all (rounds rs) c)) f).syncd ≡ true
      by left a = d.0.synced f a
      by right a = d.1.synced f a

  pub ticks : Ticks c
  ticks = record { told = told; handled = λ xs p e f t. (told xs p e f t).moment; run = λ rs p. calls_proper (rounds rs) c p; occur = occur }
