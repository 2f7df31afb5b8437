-- What holds of one end after each of the first six rounds, and after every later one. Assumes nothing.
use Prim.Native.Nat.{ℕ, ◌≤◌, min}
use native.Mathlib.Nat.{min_comm, le_refl}
use native.Mathlib.Omega.{arith}
use mathlib.Core.Path.{◌≡◌, refl, sym, ap, ◌∙◌}
use mathlib.Core.Logic.{◌⊎◌}
use mathlib.Core.Bool.{Bool, true, false, false≢true}
use borrow.Author.Tests.{eq-eqb}
use Rattle.parameters.specs.declared.Feature.{Feature}
use Rattle.feature.specs.declared.Outcome.{Outcome}
use Rattle.port.specs.Sound.{SoundParameters}
use Rattle.exchange.specs.Expected.{ruled, alone}
use Rattle.exchange.proofs.Core.{Settings, advertised, Offer, offer_of, Machine, Core, message, changed, synced, marked, released, features, gated, recv}
use Rattle.exchange.proofs.Outcomes.{version, version_le, version_is, answer, answer_is, error_final, outcome_final, unchanged}
use Rattle.exchange.proofs.Numbers.{All-synced, All-shown, Sent, SentMarked, Held, HeldMarked, Done, turned, Quiet, new_out, feature_is, raised}

-- the parameters that an end is set to are valid, and held as they are written
abbrev pub Fit : Settings → Type 0
Fit s = (f : Feature) → SoundParameters f (s.of f).setting.desired

-- nothing is advertised
abbrev pub Silent : Settings → Type 0
Silent s = (f : Feature) → advertised s f ≡ false

-- what an end would offer now
abbrev pub present : Core → Feature → Offer
present p f = offer_of (p.feat f).outcome

-- ---- what comes to hold of an end with the settings `s` whose peer has `t`: of what it offers, or would offer now

-- no advertised feature runs above its Max
abbrev pub Bound : Settings → (Feature → Offer) → Type 0
Bound s o = (f : Feature) → advertised s f ≡ true → (o f).oper ≤ (s.of f).max

-- each has the highest version and no Error, as in the fresh state
abbrev pub fresh_offers : Settings → Feature → Offer
fresh_offers s f = record { oper = (s.of f).max; error = false }

pub bound_fresh : (s : Settings) (o : Feature → Offer) → o ≡ fresh_offers s → Bound s o
bound_fresh s o e f a = rw e (le_refl _)

module _ (s t : Settings) where
  module _ (o : Feature → Offer) where
    -- each advertised feature runs at the version that the settings lead to
    abbrev pub Version : Type 0
    Version = (f : Feature) → advertised s f ≡ true → (o f).oper ≡ version (advertised t f) (s.of f) (t.of f)

    -- and has the Error of the rules on the settings alone
    abbrev pub Error : Type 0
    Error = (f : Feature) → advertised s f ≡ true → (o f).error ≡ (ruled f (s.of f) (t.of f) false).error

    pub bound_of : Version → Bound s o
    bound_of h f a = rw (h f a) (version_le (advertised t f) (s.of f) (t.of f))

    meets : Version → (f : Feature) → advertised t f ≡ true → advertised s f ≡ true → (o f).oper ≡ min (t.of f).max (s.of f).max
    unfolding version
    meets h f b a = h f a ∙ rw b (min_comm _ _)

  module _ (p : Core) where
    -- control runs at the lower of the two Max
    abbrev pub Low : Type 0
    Low = p.oper ≡ min s.max t.max

    -- each advertised feature has the outcome of what the peer offered
    abbrev pub Answers : (Feature → Offer) → Type 0
    Answers o = (f : Feature) → advertised s f ≡ true → (p.feat f).outcome ≡ answer f (s.of f) (t.of f) (o f)

    -- and the whole outcome of the rules on the settings alone
    abbrev pub Full : Type 0
    Full = (f : Feature) → advertised s f ≡ true → (p.feat f).outcome ≡ alone f (s.of f) (t.of f)

    -- all that demand 3 asks of an end
    pub record Concluded : Type 0 where
      pub low : Low
      pub seen : p.seen ≡ true
      pub rcvd : p.rcvd ≡ p.seq
      pub synced : All-synced p.feat
      pub full : Full

    -- nothing waits: what holds of the present holds of what is offered
    pub version_shown : All-shown p → Version (present p) → Version p.offer
    version_shown h v f a = ap (λ (o : Offer). o.oper) (h f).1 ∙ v f a

    pub error_shown : All-shown p → Error (present p) → Error p.offer
    error_shown h e f a = ap (λ (o : Offer). o.error) (h f).1 ∙ e f a

-- ---- the outcomes of what the peer offered

module _ (s t : Settings) (p : Core) (o : Feature → Offer) (h : Answers s t p o) where
  pub answers_version : Bound t o → Version s t (present p)
  unfolding answer
  answers_version b f a = ap (λ (x : Outcome). x.oper) (h f a) ∙ version_is (advertised t f) f (s.of f) (t.of f) _ (o f) (b f)

  module _ (good : Fit t) (v : Version t s o) where
    pub answers_error : Error s t (present p)
    unfolding answer
    answers_error f a =
        ap (λ (x : Outcome). x.error) (h f a)
        ∙ error_final (advertised t f) f (s.of f) (t.of f) _ (o f) (good f) refl (λ b. meets t s o v f a b)

    pub answers_full : Error t s o → Full s t p
    unfolding answer alone
    answers_full e f a =
        h f a ∙ outcome_final (advertised t f) f (s.of f) (t.of f) _ (o f) _ (good f) refl (λ b. meets t s o v f a b) (e f)

-- ---- one end handles the other's message

module _ (s t : Settings) (p q : Core) (low : ℕ) where
  abbrev next_port : Core
  next_port = gated true low s p (message t q)

  pub out_is : (f : Feature) → (next_port.feat f).outcome ≡ new_out s low p (message t q) f
  unfolding gated message marked
  out_is f = ap (λ (x : Machine). x.outcome) (feature_is s low p (message t q) f) ∙ both (changed (p.feat f).outcome (new_out s low p (message t q) f))
    where
      both : (c : Bool) →
          (marked c p.seq (new_out s low p (message t q) f) (synced q.ack p.seq (p.feat f))).outcome ≡ new_out s low p (message t q) f
      both c = grind arith

  pub answers_next : Fit t → Bound t q.offer → Answers s t next_port q.offer
  unfolding message turned
  answers_next good b f a =
      out_is f ∙ ap (λ y. turned y f (s.of f) ((message t q).has f) (p.feat f).outcome) a
      ∙ answer_is (advertised t f) f (s.of f) (t.of f) _ (q.offer f) (good f) refl (b f)

  -- what was released before, or is now
  pub version_next : Version s t p.offer → Version s t (present next_port) → Version s t next_port.offer
  unfolding gated released
  version_next h k = by (raised s low p (message t q))
    where
      by : (b : Bool) → Version s t (released b (features s p (message t q)) p.offer)
      by true = k
      by false = h

  -- no sub-TLV changes: those that are advertised are the same afterwards
  quiet_same : ((f : Feature) → advertised s f ≡ true → present p f ≡ present next_port f) → Quiet s low p (message t q)
  unfolding turned
  quiet_same h f = by (advertised s f) refl
    where
      by : (b : Bool) → advertised s f ≡ b → changed (p.feat f).outcome (new_out s low p (message t q) f) ≡ false
      by true a =
          let e : present p f ≡ offer_of (new_out s low p (message t q) f) = h f a ∙ ap offer_of (out_is f) in
          unchanged (p.feat f).outcome _ (ap (λ (o : Offer). o.oper) e) (ap (λ (o : Offer). o.error) e)
      by false a = rw a (unchanged (p.feat f).outcome (p.feat f).outcome refl refl)

  pub quiet_silent : Silent s → Quiet s low p (message t q)
  quiet_silent e = quiet_same (λ f a. absurd (false≢true (sym (e f) ∙ a)))

  module _ (good : Fit t) where
    -- the peer offers what it did
    pub quiet_again : Answers s t p q.offer → Bound t q.offer → Quiet s low p (message t q)
    quiet_again h b = quiet_same (λ f a. ap offer_of (h f a ∙ sym (answers_next good b f a)))

    pub quiet_of : Version s t (present p) → Error s t (present p) → Version t s q.offer → Quiet s low p (message t q)
    quiet_of h k v =
        let n = answers_next good (bound_of t s q.offer v) in
        quiet_same (λ f a i. record {
          oper = (h f a ∙ sym (answers_version s t next_port q.offer n (bound_of t s q.offer v) f a)) i;
          error = (k f a ∙ sym (answers_error s t next_port q.offer n good v f a)) i;
        })

-- the other end runs control at the lower of the two Max: its frame is handled past step 2
pub takes : (s t : Settings) (p q : Core) → Low t s q → recv s p (message t q) ≡ gated true (min s.max t.max) s p (message t q)
unfolding recv message
takes s t p q e = ap (λ b. gated b (min s.max t.max) s p (message t q)) (eq-eqb q.oper (min s.max t.max) (e ∙ min_comm _ _))

-- ---- one end after each round

-- `k` is the other end's AckNo. `took`: this end handled the other's first message past step 2; `taken`: the other handled this end's.
--
-- | after    | present                    | offered                             | numbers                                                            |
-- | 0        | fresh                      | fresh                               | Sent; nothing advertised: Held                                     |
-- | 1        |                            | fresh                               | taken: HeldMarked; not taken: SentMarked; nothing advertised: Held |
-- | 2        | of the peer's fresh offers | taken: as present; not taken: fresh | taken: Held or Sent; not taken: HeldMarked                         |
-- | 3        | version; took: Error       | version                             | took: HeldMarked or Sent; not: Held                                |
-- | 4        | version, Error             | as present                          | Held or Sent                                                       |
-- | 5        | version, Error             | as present                          | Held                                                               |
-- | 6 and on | the whole outcome          | as present                          | Done                                                               |
module _ (s t : Settings) (p : Core) (k : ℕ) where
  pub record After0 : Type 0 where
    pub low : p.oper ≡ s.max
    pub fresh : p.offer ≡ fresh_offers s
    pub asked : p.rcvd ≡ p.seq → All-synced p.feat
    pub phase : Sent p k ⊎ (Held p k × Silent s)

  pub record After1 (taken : Bool) : Type 0 where
    pub low : Low s t p
    pub fresh : p.offer ≡ fresh_offers s
    pub fast : taken ≡ true → HeldMarked p k
    pub slow : taken ≡ false → SentMarked p k ⊎ (Held p k × Silent s)

  pub record After2 (taken : Bool) : Type 0 where
    pub low : Low s t p
    pub answers : Answers s t p (fresh_offers t)
    pub fast : taken ≡ true → Held p k ⊎ Sent p k
    pub slow : taken ≡ false → HeldMarked p k × (p.offer ≡ fresh_offers s)

  pub record After3 (took : Bool) : Type 0 where
    pub low : Low s t p
    pub version : Version s t (present p)
    pub offered : Version s t p.offer
    pub fast : took ≡ true → Error s t (present p) × (HeldMarked p k ⊎ Sent p k)
    pub slow : took ≡ false → Held p k

  pub record After4 : Type 0 where
    pub low : Low s t p
    pub version : Version s t (present p)
    pub error : Error s t (present p)
    pub phase : Held p k ⊎ Sent p k

  pub record After5 : Type 0 where
    pub low : Low s t p
    pub version : Version s t (present p)
    pub error : Error s t (present p)
    pub held : Held p k

  pub record After6 : Type 0 where
    pub low : Low s t p
    pub seen : p.seen ≡ true
    pub single : p.duplicate ≡ false
    pub version : Version s t (present p)
    pub error : Error s t (present p)
    pub full : Full s t p
    pub done : Done p k

  pub six_concluded : After6 → Concluded s t p
  six_concluded h = record { low = h.low; seen = h.seen; rcvd = h.done.rcvd; synced = h.done.synced; full = h.full }
