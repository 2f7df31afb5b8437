-- What holds of an end that has just started, and after the first round. Assumes nothing.
use Prim.Native.Nat.{ℕ, min}
use native.Mathlib.Omega.{arith}
use mathlib.Core.Path.{◌≡◌, refl, sym, ap, ◌∙◌}
use mathlib.Core.Logic.{◌⊎◌, inl, inr, ⊎_elim}
use mathlib.Core.Bool.{Bool, true, false, cond, false≢true}
use borrow.Author.Tests.{eq-eqb}
use Rattle.octets.specs.Words.{◌is◌}
use Rattle.machine.specs.State.{next, fresh_at}
use Rattle.admission.specs.Admission.{Message}
use Rattle.exchange.specs.Expected.{Side}
use Rattle.exchange.proofs.Core.{Settings, offer_of, Core, message, bump, raises, fresh_machine, fresh_machines, started, gated, recv}
use Rattle.exchange.proofs.Numbers.{next_other, Shown, Marked, raises_cases, All-shown, All-marked, SentMarked, Held, to_marked, Stays, raised, stays, keeps_marked, keeps_shown, waits, quiet_waits, skipped, skipped_all}
use Rattle.exchange.proofs.Stages.{Silent, quiet_silent, After0, After1}

-- ---- just started

module _ (x : Side) where
  fresh_offer : offer_of (fresh_machine x).outcome ≡ record { oper = x.max; error = false }
  unfolding fresh_at
  fresh_offer = grind arith

  -- an advertised feature is asked for under SeqNo 1
  fresh_sequence : (fresh_machine x).sequence ≡ 1
  unfolding fresh_at
  fresh_sequence = grind arith

  fresh_asked : x.setting.advertise ≡ true → (fresh_machine x).syncd ≡ false
  unfolding fresh_at
  fresh_asked e = rw e

  pub fresh_synced : (fresh_machine x).syncd ≡ true → x.setting.advertise ≡ false
  unfolding fresh_at
  fresh_synced h = grind arith

pub start : (s t : Settings) → After0 s t (started s) 0
unfolding started bump
start s t =
    let cases = raises_cases (fresh_machines s) 0 0 in
    record {
      low = refl;
      fresh = λ i f. fresh_offer (s.of f) i;
      asked = ⊎_elim (λ h d. h.1 refl) (λ h d. absurd (next_other 0 (sym (d ∙ up h.0)))) cases;
      phase =
          ⊎_elim (λ h. inr ((sym (ap (λ b. bump b 0) h.0), λ f. (inl (h.1 refl f), refl)), λ f. fresh_synced (s.of f) (h.1 refl f)))
          (λ h. inl (up h.0, λ f. (inr (fresh_sequence (s.of f) ∙ sym (up h.0)), refl)))
          cases;
    }
  where
    up : raises (fresh_machines s) 0 0 ≡ true → (started s).seq ≡ next 0
    up e = ap (λ b. bump b 0) e

-- ---- the first round: each end may or may not get past step 2

-- does `t` handle the first message of `s` past step 2
abbrev pub first : Settings → Settings → Bool
first t s = s.max is min t.max s.max

-- one of the two does
pub first_either : (s t : Settings) → first s t ≡ false → first t s ≡ true
first_either s t e =
    let n : t.max ≡ min s.max t.max → ⊥ = λ d. false≢true (sym e ∙ eq-eqb t.max (min s.max t.max) d) in
    eq-eqb s.max (min t.max s.max) (omega arith)

low_next : (b : Bool) (low : ℕ) (s : Settings) (p : Core) (m : Message) → (gated b low s p m).oper ≡ low
unfolding gated
low_next b low s p m = grind arith

module _ (s t : Settings) (p q : Core) (low : ℕ) where
  there_ack : (taken : Bool) → (gated taken low t q (message s p)).ack ≡ cond taken p.seq q.ack
  unfolding gated message
  there_ack taken = grind arith

  abbrev after_first : Bool → Core
  after_first took = gated took low s p (message t q)

  module _ (a : After0 s t p q.ack) where
    -- SeqNo is not acknowledged yet, or there is nothing to ask
    first_waits : raised s low p (message t q) ≡ false
    unfolding message
    first_waits =
        ⊎_elim (λ h. waits s low p (message t q) h.0) (λ h. quiet_waits s low p (message t q) (quiet_silent s t p q low h.1) h.0) a.phase

    first_stays : (took : Bool) → Stays p (after_first took)
    first_stays true = stays s low p (message t q) first_waits
    first_stays false = skipped s low p (message t q) a.asked

    shown : All-shown p
    shown = ⊎_elim (λ h. h.1) (λ h. h.0.1) a.phase

    first_marked : (took : Bool) → All-marked (after_first took)
    first_marked true = keeps_marked s low p (message t q) first_waits (to_marked p shown)
    first_marked false = skipped_all s low p (message t q) a.asked Marked (to_marked p shown)

    first_silent : (took : Bool) → Silent s → All-shown (after_first took)
    first_silent true n = keeps_shown s low p (message t q) first_waits (quiet_silent s t p q low n) shown
    first_silent false n = skipped_all s low p (message t q) a.asked Shown shown

    first_slow : (took : Bool) (k : ℕ) → k ≡ q.ack → SentMarked (after_first took) k ⊎ (Held (after_first took) k × Silent s)
    first_slow took k e =
        let z : (after_first took).seq ≡ p.seq = (first_stays took).seq in
        ⊎_elim (λ h. inl (z ∙ h.0 ∙ ap next (sym e), first_marked took)) (λ h. inr ((e ∙ h.0.0 ∙ sym z, first_silent took h.1), h.1)) a.phase

opens : (s t : Settings) (p q : Core) → q.oper ≡ t.max →
    recv s p (message t q) ≡ gated (first s t) (min s.max t.max) s p (message t q)
unfolding recv message
opens s t p q e = ap (λ n. gated (n is min s.max t.max) (min s.max t.max) s p (message t q)) e

pub round1 : (s t : Settings) (p q : Core) → After0 s t p q.ack → After0 t s q p.ack →
    After1 s t (recv s p (message t q)) (recv t q (message s p)).ack (first t s)
round1 s t p q a b =
    let low : ℕ = min s.max t.max in
    let z = first_stays s t p q low a (first s t) in
    let k = there_ack s t p q _ (first t s) in
    rw (opens s t p q b.low, opens t s q p a.low)
    (record {
      low = low_next (first s t) _ s p (message t q);
      fresh = z.offer ∙ a.fresh;
      fast = λ e. (k ∙ ap (λ y. cond y p.seq q.ack) e ∙ sym z.seq, first_marked s t p q low a (first s t));
      slow = λ e. first_slow s t p q low a (first s t) _ (k ∙ ap (λ y. cond y p.seq q.ack) e);
    })
