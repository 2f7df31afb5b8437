-- What is released is what the features are at present, but for changes that wait: every event keeps it. Assumes nothing.
use Prim.Native.Nat.{ℕ}
use native.Mathlib.Omega.{arith}
use mathlib.Core.Path.{◌≡◌, refl, sym, ap, ◌∙◌}
use mathlib.Core.Logic.{◌⊎◌, inl, inr}
use mathlib.Core.Bool.{Bool, true, false, not, ◌&&◌, ◌||◌, beq, false≢true}
use mathlib.Core.List.{List}
use borrow.Author.Tests.{not-false, eq-eqb, eqb-true}
use Rattle.std.specs.Prelude.{if◌then◌else◌}
use Rattle.octets.specs.Words.{◌below◌, ◌is◌}
use Rattle.octets.specs.Octets.{same}
use Rattle.octets.specs.Laws.{and_right, same_is}
use Rattle.contents.specs.declared.Contents.{Contents}
use Rattle.parameters.specs.declared.Feature.{Feature}
use Rattle.parameters.specs.declared.Feature.TheVariants.{Groups, Flow, Applications}
use Rattle.feature.specs.declared.Setting.{Setting}
use Rattle.feature.specs.declared.Release.{Release}
use Rattle.feature.specs.declared.State.{State}
use Rattle.feature.specs.Outcome.{Received, lower, outcome}
use Rattle.machine.specs.State.{next, fresh_at, fresh, stopped, with_outcome, present, release_tlv, sub_tlv, differing, changed, marked, judged_again, reset}
use Rattle.turn.specs.Turn.{control_twice, acknowledged, received}
use Rattle.machine.specs.StateLaws.{changed_shown}
use Rattle.port.specs.declared.Control.{Control}
use Rattle.port.specs.declared.Port.{Port}
use Rattle.port.specs.Parts.{feature_of, released_of, with_control, with_features, release, some, running}
use Rattle.sending.specs.Sending.{with_seq, unacknowledged, raises_seq_no, sent, fresh_parts, fresh_port, step5, completed}
use Rattle.changes.specs.Changes.{with_feature}
use Rattle.port.specs.Sound.{InStep}
use Rattle.admission.specs.Admission.{Message, message, met}
use Rattle.handling.specs.Handling.{twice, exchanged, once, steps1to4}
use Rattle.invariants.proofs.Tests.{or_cases, some_false}
use Rattle.invariants.proofs.Fresh.{fresh_setting}

next_other : (n : ℕ) → next n ≡ n → ⊥
next_other n e = omega arith

-- ---- one feature: its state, what is released of it, and the control

module _ (f : Feature) (c : Control) (r : Release) (x : State) where
  pub record Stepped : Type 0 where
    pub number : x.syncd ≡ false → (x.sequence ≡ c.seq) ⊎ (x.sequence ≡ next c.seq)
    pub synced : x.syncd ≡ true → release_tlv f x.max r ≡ sub_tlv f x
    pub asked : x.sequence ≡ c.seq → release_tlv f x.max r ≡ sub_tlv f x

  -- before the send rule: what waits for an acknowledged SeqNo is released under the next
  pub record Ready : Type 0 where
    pub number : x.syncd ≡ false → (x.sequence ≡ next c.seq) ⊎ ((x.sequence ≡ c.seq) × (c.rcvd ≡ c.seq → ⊥))
    pub synced : x.syncd ≡ true → release_tlv f x.max r ≡ sub_tlv f x
    pub asked : x.sequence ≡ c.seq → release_tlv f x.max r ≡ sub_tlv f x

-- step 5 after a change
asked_anew : (f : Feature) (c : Control) (r : Release) (x y : State) → changed f x y ≡ true → Ready f c r (marked f c.seq x y)
unfolding marked
asked_anew f c r x y e =
    rw e (record { number = λ s. inl refl; synced = λ s. absurd (false≢true s); asked = λ d. absurd (next_other c.seq d) })

-- step 5, of a feature that keeps its FeatureSeqNo: it is Syncd only if it was or is acknowledged now
module _ (f : Feature) (c d : Control) (r : Release) (x y : State) (h : Stepped f c r x) (seq : d.seq ≡ c.seq) (max : y.max ≡ x.max) (sequence : y.sequence ≡ x.sequence)
    (gains : y.syncd ≡ true → (x.syncd ≡ true) ⊎ (x.sequence ≡ c.seq)) (lacks : y.syncd ≡ false → (x.syncd ≡ false) × (x.sequence ≡ c.seq → d.rcvd ≡ d.seq → ⊥)) where
  alike : changed f x y ≡ false → sub_tlv f x ≡ sub_tlv f y
  unfolding differing
  alike e = same_is (sub_tlv f x) (sub_tlv f y) (not-false (same (sub_tlv f x) (sub_tlv f y)) e)

  kept : changed f x y ≡ false → release_tlv f x.max r ≡ sub_tlv f x → release_tlv f y.max r ≡ sub_tlv f y
  kept e k = ap (λ (n : ℕ). release_tlv f n r) max ∙ k ∙ alike e

  unmarked : changed f x y ≡ false → marked f d.seq x y ≡ y
  unfolding marked
  unmarked e = rw e refl

  pub ready_marked : Ready f d r (marked f d.seq x y)
  ready_marked = by (changed f x y) refl
    where
      still : changed f x y ≡ false → Ready f d r y
      still e =
          record {
            number = λ s. number (lacks s) (h.number (lacks s).0);
            synced = λ s. kept e (synced (gains s));
            asked = λ q. kept e (h.asked (sym sequence ∙ q ∙ seq));
          }
        where
          number : (x.syncd ≡ false) × (x.sequence ≡ c.seq → d.rcvd ≡ d.seq → ⊥) → (x.sequence ≡ c.seq) ⊎ (x.sequence ≡ next c.seq)
              → (y.sequence ≡ next d.seq) ⊎ ((y.sequence ≡ d.seq) × (d.rcvd ≡ d.seq → ⊥))
          number k (inl q) = inr (sequence ∙ q ∙ sym seq, k.1 q)
          number k (inr q) = inl (sequence ∙ q ∙ ap next (sym seq))

          synced : (x.syncd ≡ true) ⊎ (x.sequence ≡ c.seq) → release_tlv f x.max r ≡ sub_tlv f x
          synced (inl q) = h.synced q
          synced (inr q) = h.asked q

      by : (b : Bool) → changed f x y ≡ b → Ready f d r (marked f d.seq x y)
      by true e = asked_anew f d r x y e
      by false e = rw (unmarked e) (still e)

-- a fresh feature, all of it released
module _ (f : Feature) (max : ℕ) (s : Setting) where
  fresh_sequence : (b : Bool) → s.advertise ≡ b → (fresh max s).sequence ≡ 1
  unfolding fresh_at
  fresh_sequence true e = rw e refl
  fresh_sequence false e = rw e refl

  pub fresh_ready : (c : Control) → c.seq ≡ 0 → Ready f c (present (fresh max s)) (fresh max s)
  fresh_ready c e = record { number = λ d. inl (rw e (fresh_sequence _ refl)); synced = λ d. refl; asked = λ d. refl }

  pub fresh_stepped : (c : Control) → c.seq ≡ 0 → Stepped f c (present (fresh max s)) (fresh max s)
  fresh_stepped c e = record { number = λ d. inr (rw e (fresh_sequence _ refl)); synced = λ d. refl; asked = λ d. refl }

  fresh_stopped : (c : Control) → c.seq ≡ 0 → Stepped f c (present (fresh max s)) (stopped (fresh max s))
  fresh_stopped c e = record { number = λ d. inr (rw e (fresh_sequence _ refl)); synced = λ d. refl; asked = λ d. refl }

-- ---- the port

abbrev pub AllStepped : Port → Type 0
AllStepped p = (f : Feature) → Stepped f p.control (released_of p f) (feature_of p f)

abbrev pub AllReady : Port → Type 0
AllReady p = (f : Feature) → Ready f p.control (released_of p f) (feature_of p f)

pub in_step : (p : Port) → AllStepped p → (running p ≡ true → p.control.rcvd ≡ p.control.seq → (f : Feature) → (feature_of p f).syncd ≡ true) → InStep p
in_step p h d = record { number = λ f. (h f).number; synced = λ f. (h f).synced; asked = λ f. (h f).asked; done = d }

pub stepped : (p : Port) → InStep p → AllStepped p
stepped p h f = record { number = h.number f; synced = h.synced f; asked = h.asked f }

and_before : (a b : Bool) → (a && b) ≡ false → b ≡ true → a ≡ false
and_before true b e d = sym d ∙ e
and_before false b e d = refl

module _ (p : Port) (h : AllReady p) where
  abbrev up : Port
  up = release (with_control p (with_seq p.control (next p.control.seq)))

  raised : {n : ℕ} → p.control.rcvd ≡ p.control.seq → (n ≡ next p.control.seq) ⊎ ((n ≡ p.control.seq) × (p.control.rcvd ≡ p.control.seq → ⊥)) → n ≡ next p.control.seq
  raised r (inl e) = e
  raised r (inr k) = absurd (k.1 r)

  up_stepped : p.control.rcvd ≡ p.control.seq → AllStepped up
  up_stepped r Groups = record { number = λ s. inl (raised r ((h Groups).number s)); synced = λ s. refl; asked = λ s. refl }
  up_stepped r Flow = record { number = λ s. inl (raised r ((h Flow).number s)); synced = λ s. refl; asked = λ s. refl }
  up_stepped r Applications = record { number = λ s. inl (raised r ((h Applications).number s)); synced = λ s. refl; asked = λ s. refl }

  same_stepped : AllStepped p
  same_stepped f = record { number = λ s. turned ((h f).number s); synced = (h f).synced; asked = (h f).asked }
    where
      turned : ((feature_of p f).sequence ≡ next p.control.seq) ⊎ (((feature_of p f).sequence ≡ p.control.seq) × (p.control.rcvd ≡ p.control.seq → ⊥))
          → ((feature_of p f).sequence ≡ p.control.seq) ⊎ ((feature_of p f).sequence ≡ next p.control.seq)
      turned (inl e) = inr e
      turned (inr k) = inl k.0

  all_synced : raises_seq_no p ≡ false → p.control.rcvd ≡ p.control.seq → (f : Feature) → (feature_of p f).syncd ≡ true
  unfolding raises_seq_no unacknowledged
  all_synced e r f =
      not-false (feature_of p f).syncd
      (some_false (λ g. unacknowledged (feature_of p g)) (and_before _ _ e (eq-eqb p.control.rcvd p.control.seq r)) f)

  acknowledged_now : raises_seq_no p ≡ true → p.control.rcvd ≡ p.control.seq
  unfolding raises_seq_no
  acknowledged_now e = eqb-true p.control.rcvd p.control.seq (and_right (some (λ g. unacknowledged (feature_of p g))) (p.control.rcvd is p.control.seq) e)

  pub sent_in_step : InStep (sent p)
  unfolding sent
  sent_in_step = by (raises_seq_no p) refl
    where
      by : (b : Bool) → raises_seq_no p ≡ b → InStep (if b then up else p)
      by true e =
          let r = acknowledged_now e in
          in_step up (up_stepped r) (λ k d. absurd (next_other p.control.seq (sym d ∙ r)))
      by false e = in_step p same_stepped (λ k. all_synced e)

-- the fresh state
module _ (p : Port) where
  parts_ready : AllReady (fresh_parts p)
  parts_ready Groups = fresh_ready Groups p.groups.max p.groups.setting (fresh_parts p).control refl
  parts_ready Flow = fresh_ready Flow p.flow.max p.flow.setting (fresh_parts p).control refl
  parts_ready Applications = fresh_ready Applications p.applications.max p.applications.setting (fresh_parts p).control refl

  abbrev still : Port
  still = with_features (fresh_parts p) (λ f. stopped (feature_of (fresh_parts p) f))

  still_stepped : AllStepped still
  still_stepped Groups = fresh_stopped Groups p.groups.max p.groups.setting still.control refl
  still_stepped Flow = fresh_stopped Flow p.flow.max p.flow.setting still.control refl
  still_stepped Applications = fresh_stopped Applications p.applications.max p.applications.setting still.control refl

  pub fresh_in_step : InStep (fresh_port p)
  unfolding fresh_port
  fresh_in_step = by (running p) refl
    where
      by : (b : Bool) → running p ≡ b → InStep (if b then sent (fresh_parts p) else still)
      by true r = sent_in_step (fresh_parts p) parts_ready
      by false r = in_step still still_stepped (λ k d f. absurd (false≢true (sym r ∙ k)))

-- ---- frames

module _ (p : Port) (h : InStep p) (runs : running p ≡ true) where
  -- not acknowledged now, as RcvdAckNo stays
  waits : (f : Feature) → (feature_of p f).syncd ≡ false → ((feature_of p f).syncd ≡ false) × ((feature_of p f).sequence ≡ p.control.seq → p.control.rcvd ≡ p.control.seq → ⊥)
  waits f e = (e, λ q r. false≢true (sym e ∙ h.done runs r f))

  module _ (f : Feature) where
    abbrev x : State
    x = feature_of p f

    -- the feature stays, or changes in nothing but its outcome
    kept_ready : (c : Control) → c.seq ≡ p.control.seq → c.rcvd ≡ p.control.rcvd → (y : State) → y.max ≡ x.max → y.sequence ≡ x.sequence → y.syncd ≡ x.syncd
        → Ready f c (released_of p f) (marked f c.seq x y)
    kept_ready c es er y em eq ey =
        ready_marked f p.control c (released_of p f) x y (stepped p h f) es em eq (λ s. inl (sym ey ∙ s))
        (λ s. let k = waits f (sym ey ∙ s) in (k.0, λ q r. k.1 q (sym er ∙ r ∙ es)))

    twice_ready : (c : Control) → c.seq ≡ p.control.seq → c.rcvd ≡ p.control.rcvd → Ready f c (released_of p f) (marked f c.seq x (control_twice x))
    unfolding control_twice
    twice_ready c es er = by x.setting.advertise _
      where
        by : (b : Bool) (o : _) → Ready f c (released_of p f) (marked f c.seq x (if b then with_outcome x o else x))
        by true o = kept_ready c es er (with_outcome x o) refl refl refl
        by false o = kept_ready c es er x refl refl refl

    module _ (c : Control) (es : c.seq ≡ p.control.seq) where
      abbrev now : Bool
      now = x.sequence is c.rcvd && x.sequence is p.control.seq

      gains : (x.syncd || now) ≡ true → (x.syncd ≡ true) ⊎ (x.sequence ≡ p.control.seq)
      gains e = by (or_cases x.syncd now e)
        where
          by : (x.syncd ≡ true) ⊎ (now ≡ true) → (x.syncd ≡ true) ⊎ (x.sequence ≡ p.control.seq)
          by (inl k) = inl k
          by (inr k) = inr (eqb-true x.sequence p.control.seq (and_right (x.sequence is c.rcvd) (x.sequence is p.control.seq) k))

      or_left : (a b : Bool) → (a || b) ≡ false → (a ≡ false) × (b ≡ false)
      or_left true b e = absurd (false≢true (sym e))
      or_left false b e = (refl, e)

      lacks : (x.syncd || now) ≡ false → (x.syncd ≡ false) × (x.sequence ≡ p.control.seq → c.rcvd ≡ c.seq → ⊥)
      lacks e =
          let k = or_left x.syncd now e in (
            k.0,
            λ q r. false≢true (sym k.1 ∙ rw (eq-eqb x.sequence c.rcvd (q ∙ sym es ∙ sym r), eq-eqb x.sequence p.control.seq q) refl),
          )

      received_ready : (r : Received) → Ready f c (released_of p f) (marked f c.seq x (received f r (acknowledged c.rcvd p.control.seq x)))
      unfolding received acknowledged
      received_ready r = by x.setting.advertise
        where
          by : (b : Bool) → Ready f c (released_of p f)
              (marked f c.seq x
              (if b then with_outcome (acknowledged c.rcvd p.control.seq x) (outcome f x.max x.setting x.outcome.oper r)
              else acknowledged c.rcvd p.control.seq x))
          by true = ready_marked f p.control c (released_of p f) x _ (stepped p h f) es refl refl gains lacks
          by false = ready_marked f p.control c (released_of p f) x _ (stepped p h f) es refl refl gains lacks

  twice_steps : AllReady (step5 p (twice p))
  unfolding twice
  twice_steps Groups = twice_ready Groups _ refl refl
  twice_steps Flow = twice_ready Flow _ refl refl
  twice_steps Applications = twice_ready Applications _ refl refl

  met_steps : (low : ℕ) → AllReady (step5 p (with_control p (met low p.control)))
  met_steps low Groups = kept_ready Groups _ refl refl p.groups refl refl refl
  met_steps low Flow = kept_ready Flow _ refl refl p.flow refl refl refl
  met_steps low Applications = kept_ready Applications _ refl refl p.applications refl refl refl

  exchanged_steps : (low : ℕ) (m : Message) → AllReady (step5 p (exchanged low m p))
  unfolding exchanged
  exchanged_steps low m Groups = received_ready Groups _ refl (m.has Groups)
  exchanged_steps low m Flow = received_ready Flow _ refl (m.has Flow)
  exchanged_steps low m Applications = received_ready Applications _ refl (m.has Applications)

  once_in_step : (m : Message) → InStep (completed p (once m p))
  unfolding once
  once_in_step m = by (lower p.control.max m.max) (m.oper is lower p.control.max m.max)
    where
      by : (low : ℕ) (b : Bool) → InStep (completed p (if b then exchanged low m p else with_control p (met low p.control)))
      by low true = sent_in_step _ (exchanged_steps low m)
      by low false = sent_in_step _ (met_steps low)

  pub steps_in_step : (o : List ℕ) (c : Contents) → InStep (completed p (steps1to4 o c p))
  unfolding steps1to4
  steps_in_step o c = by (1 below c.control.count)
    where
      by : (b : Bool) → InStep (completed p (if b then twice p else once (message o c) p))
      by true = sent_in_step _ twice_steps
      by false = once_in_step (message o c)

  -- ---- setting changes

  reset_ready : (f : Feature) (s : Setting) → Ready f p.control (released_of p f) (marked f p.control.seq (feature_of p f) (reset f p.control.seq s (feature_of p f)))
  unfolding reset
  reset_ready f s = by (beq (feature_of p f).setting.advertise s.advertise) refl
    where
      x : State
      x = feature_of p f

      anew : State
      anew = fresh_at (next p.control.seq) x.max s

      by : (b : Bool) → beq x.setting.advertise s.advertise ≡ b
          → Ready f p.control (released_of p f)
          (marked f p.control.seq x
          (if b then record { max = x.max; setting = s; outcome = judged_again f s x.outcome; syncd = x.syncd; sequence = x.sequence } else anew))
      by true e = kept_ready f p.control refl refl _ refl refl refl
      by false e =
          asked_anew f p.control (released_of p f) x anew
          (sym (changed_shown f x.max anew.max (present x) (present anew)
          (ap (λ (t : Setting). not (beq x.setting.advertise t.advertise)) (fresh_setting (next p.control.seq) x.max s) ∙ ap not e)))

  stays_ready : (f : Feature) → Ready f p.control (released_of p f) (marked f p.control.seq (feature_of p f) (feature_of p f))
  stays_ready f = kept_ready f p.control refl refl (feature_of p f) refl refl refl

  set-steps : (f : Feature) (s : Setting) → AllReady (step5 p (with_feature p f (reset f p.control.seq s (feature_of p f))))
  set-steps Groups s Groups = reset_ready Groups s
  set-steps Groups s Flow = stays_ready Flow
  set-steps Groups s Applications = stays_ready Applications
  set-steps Flow s Groups = stays_ready Groups
  set-steps Flow s Flow = reset_ready Flow s
  set-steps Flow s Applications = stays_ready Applications
  set-steps Applications s Groups = stays_ready Groups
  set-steps Applications s Flow = stays_ready Flow
  set-steps Applications s Applications = reset_ready Applications s

  pub set_in_step : (f : Feature) (s : Setting) → InStep (completed p (with_feature p f (reset f p.control.seq s (feature_of p f))))
  set_in_step Groups s = sent_in_step _ (set-steps Groups s)
  set_in_step Flow s = sent_in_step _ (set-steps Flow s)
  set_in_step Applications s = sent_in_step _ (set-steps Applications s)
