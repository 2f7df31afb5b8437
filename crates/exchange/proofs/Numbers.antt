-- SeqNo, RcvdAckNo, Syncd, FeatureSeqNo and what was last released of one end, with the other end's AckNo. Assumes nothing.
use Prim.Native.Nat.{ℕ}
use native.Mathlib.Omega.{arith}
use mathlib.Core.Path.{◌≡◌, refl, sym, ap, ◌∙◌, subst}
use mathlib.Core.Logic.{◌⊎◌, inl, inr, ⊎_elim}
use mathlib.Core.Bool.{Bool, true, false, not, or-true, and-false, false≢true}
use borrow.Author.Tests.{ne_eqb, eq-eqb, eqb-true, not-false}
use Rattle.octets.specs.Words.{◌is◌}
use Rattle.parameters.specs.declared.Feature.{Feature}
use Rattle.feature.specs.declared.Outcome.{Outcome}
use Rattle.feature.specs.Outcome.{Received, outcome}
use Rattle.machine.specs.State.{next}
use Rattle.admission.specs.Admission.{Message}
use Rattle.exchange.specs.Expected.{Side}
use Rattle.exchange.proofs.Core.{Settings, advertised, Offer, offer_of, Machine, Core, changed, synced, marked, handled, bump, pending, raises, released, features, gated}
use Rattle.exchange.proofs.Outcomes.{unchanged, same_offer}
use Rattle.invariants.proofs.Tests.{is_same, some_false, none_of}

pub next_other : (n : ℕ) → next n ≡ n → ⊥
next_other n e = omega arith

-- ---- one feature, and what was last released of it

-- it is Syncd, or was asked for under this SeqNo
abbrev pub Current : ℕ → Machine → Type 0
Current seq x = (x.syncd ≡ true) ⊎ (x.sequence ≡ seq)

-- and is written as it is
abbrev pub Shown : ℕ → Machine → Offer → Type 0
Shown seq x o = Current seq x × (o ≡ offer_of x.outcome)

-- or it changed since, and waits for the next SeqNo
abbrev pub Marked : ℕ → Machine → Offer → Type 0
Marked seq x o = Shown seq x o ⊎ ((x.syncd ≡ false) × (x.sequence ≡ next seq))

shown_synced : (seq : ℕ) (x : Machine) (o : Offer) → Marked seq x o → x.syncd ≡ true → o ≡ offer_of x.outcome
shown_synced seq x o (inl h) e = h.1
shown_synced seq x o (inr h) e = absurd (false≢true (sym h.0 ∙ e))

-- its outcome becomes `n`
module _ (n : Outcome) (x : Machine) (rcvd seq : ℕ) where
  abbrev after : Machine
  after = marked (changed x.outcome n) seq n (synced rcvd seq x)

  shown_by : (c : Bool) → changed x.outcome n ≡ c → c ≡ false → (o : Offer) → Shown seq x o → Shown seq (marked c seq n (synced rcvd seq x)) o
  unfolding marked synced
  shown_by true d e o h = absurd (false≢true (sym e))
  shown_by false d e o (inl h, k) = (inl (rw h), k ∙ same_offer x.outcome n d)
  shown_by false d e o (inr h, k) = (inr h, k ∙ same_offer x.outcome n d)

  marked_by : (c : Bool) → changed x.outcome n ≡ c → (o : Offer) → Marked seq x o → Marked seq (marked c seq n (synced rcvd seq x)) o
  unfolding marked synced
  marked_by true d o h = inr (refl, refl)
  marked_by false d o (inl h) = inl (shown_by false d refl o h)
  marked_by false d o (inr h) = inr (rw (h.0, h.1, ne_eqb (next seq) seq (next_other seq)) (and-false (next seq is rcvd)), h.1)

  -- SeqNo is acknowledged: what was asked for under it is Syncd, and all that changed meanwhile waits for the next
  current_by : (c : Bool) → rcvd ≡ seq → (o : Offer) → Marked seq x o → Current (next seq) (marked c seq n (synced rcvd seq x))
  unfolding marked synced
  current_by true r o h = inr refl
  current_by false r o (inl (inl e, k)) = inl (rw e)
  current_by false r o (inl (inr e, k)) = inl (rw (e, r, is_same seq) (or-true x.syncd))
  current_by false r o (inr h) = inr h.1

  synced_by : (c : Bool) → c ≡ false → rcvd ≡ seq → (o : Offer) → Shown seq x o → (marked c seq n (synced rcvd seq x)).syncd ≡ true
  unfolding marked synced
  synced_by c e r o h = grind arith

-- ---- the send rule

module _ (x : Feature → Machine) where
  abbrev pub All-synced : Type 0
  All-synced = (f : Feature) → (x f).syncd ≡ true

  none_pending : All-synced → pending x ≡ false
  unfolding pending
  none_pending h = none_of _ (λ f. ap not (h f))

  all_synced : pending x ≡ false → All-synced
  unfolding pending
  all_synced e f = not-false (x f).syncd (some_false (λ g. not (x g).syncd) e f)

  pub raises_wait : (r q : ℕ) → (r ≡ q → ⊥) → raises x r q ≡ false
  unfolding raises
  raises_wait r q e = rw (ne_eqb r q e) (and-false (pending x))

  -- SeqNo stays, and where it is acknowledged nothing is left to ask; or it was acknowledged and goes up
  pub raises_cases : (r q : ℕ) → ((raises x r q ≡ false) × (r ≡ q → All-synced)) ⊎ ((raises x r q ≡ true) × (r ≡ q))
  unfolding raises
  raises_cases r q = by (r is q) refl (pending x) refl
    where
      by : (b : Bool) → (r is q) ≡ b → (c : Bool) → pending x ≡ c → ((raises x r q ≡ false) × (r ≡ q → All-synced)) ⊎ ((raises x r q ≡ true) × (r ≡ q))
      by true e true d = inr (rw (d, e), eqb-true r q e)
      by true e false d = inl (rw d, λ k. all_synced d)
      by false e c d = inl (rw e (and-false (pending x)), λ k. absurd (false≢true (sym e ∙ eq-eqb r q k)))

  -- the send rule was done before
  pub raises_none : (r q : ℕ) → (r ≡ q → All-synced) → raises x r q ≡ false
  unfolding raises
  raises_none r q h = ⊎_elim (λ k. k.0) (λ k. rw (none_pending (h k.1))) (raises_cases r q)

-- ---- one end: `k` is the other end's AckNo

module _ (p : Core) where
  abbrev pub All-shown : Type 0
  All-shown = (f : Feature) → Shown p.seq (p.feat f) (p.offer f)

  abbrev pub All-marked : Type 0
  All-marked = (f : Feature) → Marked p.seq (p.feat f) (p.offer f)

  -- SeqNo is not acknowledged yet by the other end; it is, and this end may not know. Nothing waits, or something may.
  module _ (k : ℕ) where
    abbrev pub Sent : Type 0
    Sent = (p.seq ≡ next k) × All-shown

    abbrev pub SentMarked : Type 0
    SentMarked = (p.seq ≡ next k) × All-marked

    abbrev pub Held : Type 0
    Held = (k ≡ p.seq) × All-shown

    abbrev pub HeldMarked : Type 0
    HeldMarked = (k ≡ p.seq) × All-marked

    pub record Done : Type 0 where
      pub rcvd : p.rcvd ≡ p.seq
      pub ack : k ≡ p.seq
      pub synced : All-synced p.feat
      pub shown : All-shown

    pub near_shown : Held ⊎ Sent → All-shown
    near_shown = ⊎_elim (λ h. h.1) (λ h. h.1)

    pub done_held : Done → Held
    done_held h = (h.ack, h.shown)

  pub to_marked : All-shown → All-marked
  to_marked h f = inl (h f)

  pub shown_all : All-marked → All-synced p.feat → All-shown
  shown_all h e f = (inl (e f), shown_synced p.seq (p.feat f) (p.offer f) (h f) (e f))

-- SeqNo stays, and with it what is released
pub record Stays (p p' : Core) : Type 0 where
  pub seq : p'.seq ≡ p.seq
  pub offer : p'.offer ≡ p.offer

-- ---- the end handles a message

-- the outcome of a feature that is advertised or not
unfoldable pub turned : Bool → Feature → Side → Received → Outcome → Outcome
turned true f own r o = outcome f own.max own.setting o.oper r
turned false f own r o = o

handled_is : (b : Bool) (f : Feature) (own : Side) (rcvd seq : ℕ) (r : Received) (x : Machine) →
    handled b f own rcvd seq r x ≡ after (turned b f own r x.outcome) x rcvd seq
unfolding handled turned marked synced
handled_is true f own rcvd seq r x = refl
handled_is false f own rcvd seq r x = ap (λ c. marked c seq x.outcome (synced rcvd seq x)) (sym (unchanged x.outcome x.outcome refl refl))

module _ (s : Settings) (low : ℕ) (p : Core) (m : Message) where
  abbrev pub new : Core
  new = gated true low s p m

  abbrev pub new_out : Feature → Outcome
  new_out f = turned (advertised s f) f (s.of f) (m.has f) (p.feat f).outcome

  -- no sub-TLV changes
  abbrev pub Quiet : Type 0
  Quiet = (f : Feature) → changed (p.feat f).outcome (new_out f) ≡ false

  abbrev pub stepped : Feature → Machine
  stepped f = after (new_out f) (p.feat f) m.ack p.seq

  pub feature_is : (f : Feature) → features s p m f ≡ stepped f
  feature_is f = handled_is (advertised s f) f (s.of f) m.ack p.seq (m.has f) (p.feat f)

  -- a property of a feature's new state
  lift : (P : Machine → Type 0) (f : Feature) → P (stepped f) → P (features s p m f)
  lift P f h = subst P (sym (feature_is f)) h

  abbrev pub raised : Bool
  raised = raises (features s p m) m.ack p.seq

  pub stays : raised ≡ false → Stays p new
  unfolding gated bump released
  stays e = record { seq = ap (λ b. bump b p.seq) e; offer = ap (λ b. released b (features s p m) p.offer) e }

  -- a property of each feature as long as SeqNo stays
  kept : (P : ℕ → Machine → Offer → Type 0) → raised ≡ false → ((f : Feature) → P p.seq (stepped f) (p.offer f)) →
      (f : Feature) → P new.seq (new.feat f) (new.offer f)
  unfolding gated bump released
  kept P e h f =
      subst (λ b. P (bump b p.seq) (features s p m f) (released b (features s p m) p.offer f)) (sym e)
      (lift (λ x. P p.seq x (p.offer f)) f (h f))

  pub keeps_marked : raised ≡ false → All-marked p → All-marked new
  keeps_marked e h = kept Marked e (λ f. marked_by (new_out f) (p.feat f) m.ack p.seq _ refl (p.offer f) (h f))

  pub keeps_shown : raised ≡ false → Quiet → All-shown p → All-shown new
  keeps_shown e q h = kept Shown e (λ f. shown_by (new_out f) (p.feat f) m.ack p.seq _ refl (q f) (p.offer f) (h f))

  -- SeqNo goes up: all that changed meanwhile is asked for under the new one, and released
  pub raised_shown : raised ≡ true → m.ack ≡ p.seq → All-marked p → (new.seq ≡ next p.seq) × All-shown new
  unfolding gated bump released
  raised_shown e d h = (
    ap (λ b. bump b p.seq) e,
    λ f. subst (λ b. Shown (bump b p.seq) (features s p m f) (released b (features s p m) p.offer f)) (sym e)
        (lift (Current (next p.seq)) f (current_by (new_out f) (p.feat f) m.ack p.seq _ d (p.offer f) (h f)), refl),
  )

  -- an end that is not acknowledged waits
  pub waits : p.seq ≡ next m.ack → raised ≡ false
  waits e = raises_wait (features s p m) m.ack p.seq (λ d. next_other m.ack (sym (d ∙ e)))

  -- and one that is, and at which nothing changes, has nothing left to ask
  quiet_synced : Quiet → Held p m.ack → All-synced (features s p m)
  quiet_synced q h f =
      lift (λ x. x.syncd ≡ true) f (synced_by (new_out f) (p.feat f) m.ack p.seq _ (q f) h.0 (p.offer f) (h.1 f))

  pub quiet_waits : Quiet → Held p m.ack → raised ≡ false
  quiet_waits q h = raises_none (features s p m) m.ack p.seq (λ d. quiet_synced q h)

  module _ (k : ℕ) (e : k ≡ p.seq) where
    pub sent_any : SentMarked p m.ack → HeldMarked new k
    sent_any h = let w = waits h.0 in (e ∙ sym (stays w).seq, keeps_marked w h.1)

    pub sent_quiet : Quiet → Sent p m.ack → Held new k
    sent_quiet q h = let w = waits h.0 in (e ∙ sym (stays w).seq, keeps_shown w q h.1)

    pub held_any : HeldMarked p m.ack → Held new k ⊎ Sent new k
    unfolding gated
    held_any h =
        ⊎_elim (λ w. inl (e ∙ sym (stays w.0).seq, shown_all new (keeps_marked w.0 h.1) (w.1 h.0)))
        (λ w. let j = raised_shown w.0 h.0 h.1 in inr (j.0 ∙ ap next (sym e), j.1))
        (raises_cases (features s p m) m.ack p.seq)

    pub held_quiet : Quiet → Held p m.ack → Done new k
    unfolding gated
    held_quiet q h =
        let z : new.seq ≡ p.seq = (stays (quiet_waits q h)).seq in
        record { rcvd = h.0 ∙ sym z; ack = e ∙ sym z; synced = quiet_synced q h; shown = keeps_shown (quiet_waits q h) q h.1 }

-- ---- a message that is not handled past step 2

module _ (s : Settings) (low : ℕ) (p : Core) (m : Message) (h : p.rcvd ≡ p.seq → All-synced p.feat) where
  pub skipped : Stays p (gated false low s p m)
  unfolding gated bump released
  skipped =
      let e = raises_none p.feat p.rcvd p.seq h in
      record { seq = ap (λ b. bump b p.seq) e; offer = ap (λ b. released b p.feat p.offer) e }

  pub skipped_all : (P : ℕ → Machine → Offer → Type 0) → ((f : Feature) → P p.seq (p.feat f) (p.offer f)) →
      (f : Feature) → P (gated false low s p m).seq ((gated false low s p m).feat f) ((gated false low s p m).offer f)
  unfolding gated bump released
  skipped_all P k f =
      subst (λ b. P (bump b p.seq) (p.feat f) (released b p.feat p.offer f)) (sym (raises_none p.feat p.rcvd p.seq h)) (k f)
