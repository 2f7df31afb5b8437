-- Ends of messages that six rounds have settled stay as they are in every further round. Assumes nothing.
use Prim.Native.Nat.{ℕ, min}
use mathlib.Core.Path.{◌≡◌, refl, sym, ap, ◌∙◌}
use mathlib.Core.Bool.{Bool, true, false}
use Rattle.parameters.specs.declared.Feature.{Feature}
use Rattle.feature.specs.declared.Outcome.{Outcome}
use Rattle.exchange.proofs.Core.{Settings, advertised, Machine, Core, message, synced, marked, features, gated, recv}
use Rattle.exchange.proofs.Numbers.{Quiet, turned, new_out, feature_is, Stays, stays, quiet_waits, done_held}
use Rattle.exchange.proofs.Stages.{Fit, Version, Error, bound_of, version_shown, error_shown, answers_full, answers_next, out_is, quiet_of, takes, After6}

-- an unmarked feature whose outcome is the same, and that is Syncd, is the same
same_machine : (b : Bool) (rcvd seq : ℕ) (o : Outcome) (x : Machine) → b ≡ false → o ≡ x.outcome → x.syncd ≡ true →
    marked b seq o (synced rcvd seq x) ≡ x
unfolding marked synced
same_machine b rcvd seq o x e h k = rw (e, h, k)

module _ (s t : Settings) (good : Fit t) (p q : Core) (a : After6 s t p q.ack) (b : After6 t s q p.ack) where
  abbrev lowest : ℕ
  lowest = min s.max t.max

  abbrev new : Core
  new = gated true lowest s p (message t q)

  offered : Version t s q.offer
  offered = version_shown t s q b.done.shown b.version

  quiet : Quiet s lowest p (message t q)
  quiet = quiet_of s t p q lowest good a.version a.error offered

  same_outcome : (f : Feature) (y : Bool) → advertised s f ≡ y → new_out s lowest p (message t q) f ≡ (p.feat f).outcome
  unfolding turned
  same_outcome f true y =
      let e : Error t s q.offer = error_shown t s q b.done.shown b.error in
      sym (out_is s t p q lowest f)
      ∙ answers_full s t new q.offer (answers_next s t p q lowest good (bound_of t s q.offer offered)) good offered e f y
      ∙ sym (a.full f y)
  same_outcome f false y = ap (λ z. turned z f (s.of f) ((message t q).has f) (p.feat f).outcome) y

  same_feature : (f : Feature) → features s p (message t q) f ≡ p.feat f
  unfolding message
  same_feature f =
      feature_is s lowest p (message t q) f
      ∙ same_machine _ q.ack p.seq _ (p.feat f) (quiet f) (same_outcome f _ refl) (a.done.synced f)

  same_offers : Stays p new
  unfolding message
  same_offers = stays s lowest p (message t q) (quiet_waits s lowest p (message t q) quiet (done_held p q.ack a.done))

  pub stays_same : recv s p (message t q) ≡ p
  unfolding gated message
  stays_same =
      takes s t p q b.low
      ∙ (λ j. record {
        oper = sym a.low j;
        seq = same_offers.seq j;
        ack = sym b.done.ack j;
        rcvd = (a.done.ack ∙ sym a.done.rcvd) j;
        seen = sym a.seen j;
        duplicate = sym a.single j;
        feat = λ f. same_feature f j;
        offer = same_offers.offer j;
      })
