-- Where RcvdAckNo = SeqNo at both ends, each has answered what the other offers now: whichever calls were made, both then have the
-- outcome that the rules give of the two settings alone. Assumes nothing.
use Prim.Native.Nat.{ℕ, min}
use mathlib.Core.Path.{◌≡◌, refl, sym, ◌∙◌, subst}
use mathlib.Core.Logic.{⊎_elim}
use mathlib.Core.Bool.{Bool, true, false, false≢true}
use mathlib.Core.List.{List}
use mathlib.Core.Option.{Option, none, some}
use Rattle.machine.specs.State.{next}
use Rattle.admission.specs.Admission.{Message}
use Rattle.rounds.specs.Rounds.{left, right, Call, refused, writes, handles}
use Rattle.exchange.proofs.Core.{Settings, Core, message, features, started, gated, recv}
use Rattle.exchange.proofs.Numbers.{next_other, Marked, raises_cases, All-synced, All-shown, All-marked, to_marked, shown_all, Stays, stays, keeps_marked, raised_shown, skipped, skipped_all}
use Rattle.exchange.proofs.Stages.{Fit, present, Bound, bound_fresh, Version, Error, Low, Answers, Concluded, bound_of, version_shown, error_shown, answers_version, answers_error, answers_full, answers_next, After0}
use Rattle.exchange.proofs.FirstRound.{fresh_synced}
use Rattle.exchange.proofs.FirstRound as first
use Rattle.exchange.proofs.Pairs.{Pair, given, step, run, begin, run_keeps}

-- ---- what an end `p` and its peer know of each other

-- a message on its way, by the state in which its end wrote it
abbrev Carried : Settings → (Core → Type 0) → Option Message → Type 0
Carried s P none = Unit {0}
Carried s P (some m) = (w : Core) × (m ≡ message s w) × P w

carried_map : (s : Settings) (P Q : Core → Type 0) → ((w : Core) → P w → Q w) → (m : Option Message) → Carried s P m → Carried s Q m
carried_map s P Q k none h = tt
carried_map s P Q k (some m) h = (h.0, h.1, k h.0 h.2)

module _ (s t : Settings) (p : Core) where
  -- what `p` wrote last, as `w`, beside the peer's AckNo: under the present SeqNo it offers what is offered now
  record Told (ack : ℕ) (w : Core) : Type 0 where
    pub bound : Bound s w.offer
    pub latest : ack ≡ p.seq → w.seq ≡ p.seq
    pub same : w.seq ≡ p.seq → w.offer ≡ p.offer

  -- what the peer wrote last, as `q`, beside its present AckNo
  record Heard (ack : ℕ) (q : Core) : Type 0 where
    pub bound : Bound t q.offer
    pub latest : q.ack ≡ p.seq → ack ≡ p.seq

  -- what every call keeps. `answers`: a peer that has handled nothing yet either asks for something, its RcvdAckNo then not being its
  -- SeqNo, or advertises nothing
  record Known (q : Core) (from-p from-q : Option Message) : Type 0 where
    pub low : p.seen ≡ true → Low s t p
    pub bound : Bound s p.offer
    pub marks : All-marked p
    pub synced : p.rcvd ≡ p.seq → All-synced p.feat
    pub reached : p.rcvd ≡ p.seq → q.ack ≡ p.seq
    pub told : Carried s (Told q.ack) from-p
    pub heard : Carried t (Heard q.ack) from-q
    pub answers : q.ack ≡ p.seq → q.rcvd ≡ q.seq → Answers t s q p.offer

-- ---- the end handles a message

module _ (s t : Settings) (p p' q : Core) (from-p from-q : Option Message) (h : Known s t p q from-p from-q) where
  -- SeqNo stays, and with it what is offered
  known_stays : Stays p p' → (p'.seen ≡ true → Low s t p') → All-marked p' → (p'.rcvd ≡ p.seq → All-synced p'.feat) → (p'.rcvd ≡ p.seq → q.ack ≡ p.seq) →
      Known s t p' q from-p from-q
  known_stays e l m a r =
      record {
        low = l;
        bound = subst (Bound s) (sym e.offer) h.bound;
        marks = m;
        synced = λ d. a (d ∙ e.seq);
        reached = λ d. r (d ∙ e.seq) ∙ sym e.seq;
        told =
            carried_map s _ _
            (λ w k. record { bound = k.bound; latest = λ d. k.latest (d ∙ e.seq) ∙ sym e.seq; same = λ d. k.same (d ∙ e.seq) ∙ sym e.offer })
            from-p h.told;
        heard = carried_map t _ _ (λ x k. record { bound = k.bound; latest = λ d. k.latest (d ∙ e.seq) ∙ sym e.seq }) from-q h.heard;
        answers = λ d g. subst (Answers t s q) (sym e.offer) (h.answers (d ∙ e.seq) g);
      }

  -- SeqNo goes up: nobody has seen the new one
  module _ (e : p'.seq ≡ next p.seq) where
    unseen : {A : Type 0} (n : ℕ) → n ≡ p.seq → n ≡ p'.seq → A
    unseen n d g = absurd (next_other p.seq (sym e ∙ sym g ∙ d))

    known_raised : (p'.seen ≡ true → Low s t p') → Bound s p'.offer → All-shown p' → p'.rcvd ≡ p.seq → q.ack ≡ p.seq →
        Carried t (λ x. Bound t x.offer × (x.ack ≡ p.seq)) from-q → Known s t p' q from-p from-q
    known_raised l b m d r k =
        record {
          low = l;
          bound = b;
          marks = to_marked p' m;
          synced = unseen p'.rcvd d;
          reached = unseen p'.rcvd d;
          told =
              carried_map s _ _ (λ w j. record { bound = j.bound; latest = unseen q.ack r; same = unseen w.seq (j.latest r) }) from-p h.told;
          heard = carried_map t _ _ (λ x j. record { bound = j.0; latest = unseen x.ack j.1 }) from-q k;
          answers = unseen q.ack r;
        }

module _ (s t : Settings) (good : Fit t) (p q q₀ : Core) (from-p : Option Message)
    (h : Known s t p q from-p (some (message t q₀))) (r : Heard s t p q.ack q₀) where
  abbrev low : ℕ
  low = min s.max t.max

  abbrev m : Message
  m = message t q₀

  abbrev handled : Bool → Core
  handled b = gated b low s p m

  version_handled : Version s t (present (handled true))
  version_handled = answers_version s t (handled true) q₀.offer (answers_next s t p q₀ low good r.bound) r.bound

  known_handled : (b : Bool) → Known s t (handled b) q from-p (some m)
  unfolding gated message
  known_handled true =
      ⊎_elim
      (λ k. known_stays s t p (handled true) q from-p (some m) h (stays s low p m k.0) (λ d. refl) (keeps_marked s low p m k.0 h.marks) k.1 r.latest)
      (λ k.
      let j = raised_shown s low p m k.0 k.1 h.marks in
      known_raised s t p (handled true) q from-p (some m) h j.0 (λ d. refl)
      (bound_of s t (handled true).offer (version_shown s t (handled true) j.1 version_handled))
      j.1 k.1 (r.latest k.1) (q₀, refl, (r.bound, k.1)))
      (raises_cases (features s p m) q₀.ack p.seq)
  -- step 2 ends it: the send rule was done before
  known_handled false =
      known_stays s t p (handled false) q from-p (some m) h (skipped s low p m h.synced) (λ d. refl) (skipped_all s low p m h.synced Marked h.marks) h.synced h.reached

-- ---- the four calls

module _ (s t : Settings) (p q : Core) where
  own_write : (from-p from-q : Option Message) → Known s t p q from-p from-q → Known s t p q (some (message s p)) from-q
  own_write from-p from-q h =
      record {
        low = h.low;
        bound = h.bound;
        marks = h.marks;
        synced = h.synced;
        reached = h.reached;
        told = (p, refl, record { bound = h.bound; latest = λ d. refl; same = λ d. refl });
        heard = h.heard;
        answers = h.answers;
      }

  peer_write : (from-p from-q : Option Message) → Bound t q.offer → Known s t p q from-p from-q → Known s t p q from-p (some (message t q))
  peer_write from-p from-q b h =
      record {
        low = h.low;
        bound = h.bound;
        marks = h.marks;
        synced = h.synced;
        reached = h.reached;
        told = h.told;
        heard = (q, refl, record { bound = b; latest = λ d. d });
        answers = h.answers;
      }

  own_handle : Fit t → (from-p from-q : Option Message) → Known s t p q from-p from-q → Known s t (given s p from-q) q from-p from-q
  unfolding given recv message
  own_handle good from-p none h = h
  own_handle good from-p (some m) h =
      let k = h.heard in
      subst (λ (x : Message). Known s t (recv s p x) q from-p (some x)) (sym k.1)
      (known_handled s t good p q k.0 from-p (subst (λ (x : Message). Known s t p q from-p (some x)) k.1 h) k.2 _)

  module _ (good : Fit s) (asked : q.rcvd ≡ q.seq → All-synced q.feat) where
    module _ (w : Core) (from-q : Option Message) (h : Known s t p q (some (message s w)) from-q) (k : Told s t p q.ack w) where
      abbrev answered : Bool → Core
      answered b = gated b (min t.max s.max) t q (message s w)

      -- the peer handles what `p` wrote, and answers it; or step 2 ends it
      peer_handled : (b : Bool) → Known s t p (answered b) (some (message s w)) from-q
      unfolding gated message
      peer_handled true =
          record {
            low = h.low;
            bound = h.bound;
            marks = h.marks;
            synced = h.synced;
            reached = λ d. k.latest (h.reached d);
            told = (w, refl, record { bound = k.bound; latest = λ d. d; same = k.same });
            heard = carried_map t _ _ (λ x y. record { bound = y.bound; latest = λ d. k.latest (y.latest d) }) from-q h.heard;
            answers = λ d g. subst (Answers t s (answered true)) (k.same d) (answers_next t s q w (min t.max s.max) good k.bound);
          }
      peer_handled false =
          record {
            low = h.low;
            bound = h.bound;
            marks = h.marks;
            synced = h.synced;
            reached = h.reached;
            told = h.told;
            heard = h.heard;
            answers = λ d g. h.answers d (g ∙ (skipped t (min t.max s.max) q (message s w) asked).seq);
          }

    peer_handle : (from-p from-q : Option Message) → Known s t p q from-p from-q → Known s t p (given t q from-p) from-p from-q
    unfolding given recv message
    peer_handle none from-q h = h
    peer_handle (some m) from-q h =
        let k = h.told in
        subst (λ (x : Message). Known s t p (recv t q x) (some x) from-q) (sym k.1)
        (peer_handled k.0 from-q (subst (λ (x : Message). Known s t p q (some x) from-q) k.1 h) k.2 _)

-- ---- any calls, from the start

start : (s t : Settings) → Known s t (started s) (started t) none none
unfolding started
start s t =
    let a : After0 s t (started s) 0 = first.start s t in
    record {
      low = λ d. absurd (false≢true d);
      bound = bound_fresh s _ a.fresh;
      marks = to_marked (started s) (⊎_elim (λ h. h.1) (λ h. h.0.1) a.phase);
      synced = a.asked;
      reached = λ d. d;
      told = tt;
      heard = tt;
      answers = λ d g f y. absurd (false≢true (sym (fresh_synced (t.of f) ((first.start t s).asked g f)) ∙ y));
    }

-- an end of which nothing is left to ask: it has seen its peer, and RcvdAckNo = SeqNo
abbrev pub Acknowledged : Core → Type 0
Acknowledged p = (p.seen ≡ true) × (p.rcvd ≡ p.seq)

module _ (s t : Settings) (fit-s : Fit s) (fit-t : Fit t) where
  abbrev Both : Pair → Type 0
  Both c = Known s t c.l c.r c.from_l c.from_r × Known t s c.r c.l c.from_r c.from_l

  step_known : (x : Call) (c : Pair) → Both c → Both (step s t x c)
  unfolding step
  step_known (refused x) c h = h
  step_known (writes left out) c h = (own_write s t c.l c.r c.from_l c.from_r h.0, peer_write t s c.r c.l c.from_r c.from_l h.0.bound h.1)
  step_known (writes right out) c h = (peer_write s t c.l c.r c.from_l c.from_r h.1.bound h.0, own_write t s c.r c.l c.from_r c.from_l h.1)
  step_known (handles left) c h = (own_handle s t c.l c.r fit-t c.from_l c.from_r h.0, peer_handle t s c.r c.l fit-t h.0.synced c.from_r c.from_l h.1)
  step_known (handles right) c h = (peer_handle s t c.l c.r fit-s h.1.synced c.from_l c.from_r h.0, own_handle t s c.r c.l fit-s c.from_r c.from_l h.1)

  run_known : (xs : List Call) → Both (run s t xs (begin s t))
  unfolding begin
  run_known xs = run_keeps s t Both step_known xs (begin s t) (start s t, start t s)

-- each has answered what the other offers, and nothing waits: the versions are right at both, hence the Errors, hence all
module _ (s t : Settings) (fit-s : Fit s) (fit-t : Fit t) (p q : Core) (from-p from-q : Option Message) where
  concluded : Known s t p q from-p from-q → Known t s q p from-q from-p → Acknowledged p → Acknowledged q → Concluded s t p
  concluded h k (e, d) (e', d') =
      let x : Answers s t p q.offer = k.answers (k.reached d') d in
      let y : Answers t s q p.offer = h.answers (h.reached d) d' in
      let shown : All-shown q = shown_all q k.marks (k.synced d') in
      let v : Version s t p.offer =
      version_shown s t p (shown_all p h.marks (h.synced d)) (answers_version s t p q.offer x k.bound) in
      let v' : Version t s q.offer = version_shown t s q shown (answers_version t s q p.offer y h.bound) in
      let e' : Error t s q.offer = error_shown t s q shown (answers_error t s q p.offer y fit-s v) in
      record { low = h.low e; seen = e; rcvd = d; synced = h.synced d; full = answers_full s t p q.offer x fit-t v' e' }

pub run_concluded : (s t : Settings) → Fit s → Fit t → (xs : List Call) → let c : Pair = run s t xs (begin s t) in
    Acknowledged c.l → Acknowledged c.r → Concluded s t c.l × Concluded t s c.r
run_concluded s t fit-s fit-t xs a b =
    let h = run_known s t fit-s fit-t xs in
    (concluded s t fit-s fit-t _ _ _ _ h.0 h.1 a b, concluded t s fit-t fit-s _ _ _ _ h.1 h.0 b a)
