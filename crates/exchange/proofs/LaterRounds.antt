-- What holds of an end after the second to sixth round, and after every later one. Assumes nothing.
use Prim.Native.Nat.{ℕ, min}
use mathlib.Core.Path.{◌≡◌, refl, sym, ◌∙◌, subst}
use mathlib.Core.Logic.{◌⊎◌, inl, inr, ⊎_elim}
use mathlib.Core.Bool.{Bool, true, false}
use Rattle.exchange.proofs.Core.{Settings, Core, message, gated, recv}
use Rattle.exchange.proofs.Numbers.{Sent, SentMarked, Held, HeldMarked, Done, to_marked, near_shown, done_held, Quiet, stays, waits, quiet_waits, sent_any, sent_quiet, held_any, held_quiet}
use Rattle.exchange.proofs.Stages.{Fit, Silent, present, Bound, fresh_offers, bound_fresh, Version, Error, Answers, bound_of, version_shown, error_shown, answers_version, answers_error, answers_full, answers_next, version_next, quiet_silent, quiet_again, quiet_of, takes, After1, After2, After3, After4, After5, After6}

-- what an end with nothing waiting, or with its fresh offers, offers after the second round
module _ (s t : Settings) (p : Core) (k : ℕ) (taken : Bool) (a : After2 s t p k taken) where
  pub version2 : Version s t (present p)
  version2 = answers_version s t p (fresh_offers t) a.answers (bound_fresh t (fresh_offers t) refl)

  pub offered2 : taken ≡ true → Version s t p.offer
  offered2 e = version_shown s t p (near_shown p k (a.fast e)) version2

  pub bound2 : Bound s p.offer
  bound2 = by taken refl
    where
      by : (b : Bool) → taken ≡ b → Bound s p.offer
      by true e = bound_of s t p.offer (offered2 e)
      by false e = bound_fresh s p.offer (a.slow e).1

-- both ends handle what the other wrote
module _ (s t : Settings) (good : Fit t) (p q : Core) where
  abbrev here : Core
  here = recv s p (message t q)

  abbrev there : Core
  there = recv t q (message s p)

  -- the version that control runs at
  abbrev lowest : ℕ
  lowest = min s.max t.max

  abbrev new : Core
  new = gated true lowest s p (message t q)

  -- ---- the numbers

  abbrev Still : Type 0
  Still = Quiet s lowest p (message t q)

  marked_any : HeldMarked p q.ack → Held new p.seq ⊎ Sent new p.seq
  unfolding message
  marked_any h = held_any s lowest p (message t q) p.seq refl h

  marked_sent : SentMarked p q.ack → HeldMarked new p.seq
  unfolding message
  marked_sent h = sent_any s lowest p (message t q) p.seq refl h

  held_done : Still → Held p q.ack → Done new p.seq
  unfolding message
  held_done z h = held_quiet s lowest p (message t q) p.seq refl z h

  sent_held : Still → Sent p q.ack → Held new p.seq
  unfolding message
  sent_held z h = sent_quiet s lowest p (message t q) p.seq refl z h

  near_held : Still → Held p q.ack ⊎ Sent p q.ack → Held new p.seq
  near_held z = ⊎_elim (λ h. done_held new p.seq (held_done z h)) (sent_held z)

  -- ---- the second round

  slow2 : p.offer ≡ fresh_offers s → SentMarked p q.ack ⊎ (Held p q.ack × Silent s) → HeldMarked new p.seq × (new.offer ≡ fresh_offers s)
  unfolding message
  slow2 e (inl h) = (marked_sent h, (stays s lowest p (message t q) (waits s lowest p (message t q) h.0)).offer ∙ e)
  slow2 e (inr h) =
      let z : Still = quiet_silent s t p q lowest h.1 in
      let k : Held new p.seq = done_held new p.seq (held_done z h.0) in
      ((k.0, to_marked new k.1), (stays s lowest p (message t q) (quiet_waits s lowest p (message t q) z h.0)).offer ∙ e)

  pub round2 : (took taken : Bool) → After1 s t p q.ack taken → After1 t s q p.ack took → After2 s t here there.ack taken
  unfolding gated message
  round2 took taken a b =
      rw (takes s t p q b.low, takes t s q p a.low)
      (record {
        low = refl;
        answers = subst (Answers s t new) b.fresh (answers_next s t p q lowest good (bound_fresh t q.offer b.fresh));
        fast = λ e. marked_any (a.fast e);
        slow = λ e. slow2 a.fresh (a.slow e);
      })

  -- ---- the third

  module _ (took taken : Bool) (a : After2 s t p q.ack taken) (b : After2 t s q p.ack took) where
    version3 : Version s t (present new)
    version3 = let h = bound2 t s q p.ack took b in answers_version s t new q.offer (answers_next s t p q lowest good h) h

    offered3 : (y : Bool) → taken ≡ y → Version s t new.offer
    offered3 true e = version_next s t p q lowest (offered2 s t p q.ack taken a e) version3
    offered3 false e = version_shown s t new (near_shown new p.seq (marked_any (a.slow e).0)) version3

    error3 : took ≡ true → Error s t (present new)
    error3 e =
        answers_error s t new q.offer (answers_next s t p q lowest good (bound2 t s q p.ack took b)) good (offered2 t s q p.ack took b e)

    to_near : Held new p.seq ⊎ Sent new p.seq → HeldMarked new p.seq ⊎ Sent new p.seq
    to_near = ⊎_elim (λ h. inl (h.0, to_marked new h.1)) inr

    fast3 : (y : Bool) → taken ≡ y → HeldMarked new p.seq ⊎ Sent new p.seq
    fast3 true e = ⊎_elim (λ h. to_near (marked_any (h.0, to_marked p h.1))) (λ h. inl (marked_sent (h.0, to_marked p h.1))) (a.fast e)
    fast3 false e = to_near (marked_any (a.slow e).0)

    -- the peer still has its fresh offers
    quiet3 : took ≡ false → Still
    quiet3 e =
        let f = (b.slow e).1 in
        quiet_again s t p q lowest good (subst (Answers s t p) (sym f) a.answers) (bound_fresh t q.offer f)

    pub round3 : (took ≡ false → taken ≡ true) → After3 s t here there.ack took
    unfolding gated message
    round3 either =
        rw (takes s t p q b.low, takes t s q p a.low)
        (record {
          low = refl;
          version = version3;
          offered = offered3 taken refl;
          fast = λ e. (error3 e, fast3 taken refl);
          slow = λ e. near_held (quiet3 e) (a.fast (either e));
        })

  -- ---- the fourth to sixth, and every later one: the peer offers what the settings lead to

  module _ (v : Version t s q.offer) where
    answers_now : Answers s t new q.offer
    answers_now = answers_next s t p q lowest good (bound_of t s q.offer v)

    version_now : Version s t (present new)
    version_now = answers_version s t new q.offer answers_now (bound_of t s q.offer v)

    error_now : Error s t (present new)
    error_now = answers_error s t new q.offer answers_now good v

  near4 : (took y : Bool) → took ≡ y → After3 s t p q.ack took → Version t s q.offer → Held new p.seq ⊎ Sent new p.seq
  near4 took true e a v =
      let z : Still = quiet_of s t p q lowest good a.version (a.fast e).0 v in
      ⊎_elim marked_any (λ h. inl (sent_held z h)) (a.fast e).1
  near4 took false e a v = let h = a.slow e in marked_any (h.0, to_marked p h.1)

  pub round4 : (took taken : Bool) → After3 s t p q.ack took → After3 t s q p.ack taken → After4 s t here there.ack
  unfolding gated message
  round4 took taken a b =
      rw (takes s t p q b.low, takes t s q p a.low)
      (record { low = refl; version = version_now b.offered; error = error_now b.offered; phase = near4 took took refl a b.offered })

  pub round5 : After4 s t p q.ack → After4 t s q p.ack → After5 s t here there.ack
  unfolding gated message
  round5 a b =
      let v = version_shown t s q (near_shown q p.ack b.phase) b.version in
      rw (takes s t p q b.low, takes t s q p a.low)
      (record {
        low = refl;
        version = version_now v;
        error = error_now v;
        held = near_held (quiet_of s t p q lowest good a.version a.error v) a.phase;
      })

  pub round6 : After5 s t p q.ack → After5 t s q p.ack → After6 s t here there.ack
  unfolding gated message
  round6 a b =
      let v = version_shown t s q b.held.1 b.version in
      rw (takes s t p q b.low, takes t s q p a.low)
      (record {
        low = refl;
        seen = refl;
        single = refl;
        version = version_now v;
        error = error_now v;
        full = answers_full s t new q.offer (answers_now v) good v (error_shown t s q b.held.1 b.error);
        done = held_done (quiet_of s t p q lowest good a.version a.error v) a.held;
      })

  -- what is settled is as after the fifth round, and so stays
  before6 : (s t : Settings) (p : Core) (k : ℕ) → After6 s t p k → After5 s t p k
  before6 s t p k h = record { low = h.low; version = h.version; error = h.error; held = done_held p k h.done }

  pub stays_settled : After6 s t p q.ack → After6 t s q p.ack → After6 s t here there.ack
  stays_settled a b = round6 (before6 s t p q.ack a) (before6 t s q p.ack b)
