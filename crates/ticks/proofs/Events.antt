-- What an event does to the numbers and the features of the port at which it happens. Assumes nothing.
use Prim.Native.Nat.{ℕ}
use native.Mathlib.Omega.{arith}
use mathlib.Core.Path.{◌≡◌, refl, sym, ap, ◌∙◌, subst}
use mathlib.Core.Logic.{◌⊎◌, inl, inr}
use mathlib.Core.Bool.{Bool, true, false, not, ◌&&◌, ◌||◌, beq, false≢true}
use mathlib.Core.List.{List}
use borrow.Author.Tests.{not-false, eqb-true}
use Rattle.std.specs.Prelude.{if◌then◌else◌, None}
use Rattle.octets.specs.Words.{◌is◌}
use Rattle.octets.specs.Octets.{same}
use Rattle.octets.specs.Laws.{and_left, and_right, same_is}
use Rattle.tlv.specs.declared.Refusal.TheVariants.{InvalidSetting, UnknownFeature}
use Rattle.tlv.specs.Revisions.{has_applications}
use Rattle.parameters.specs.declared.Feature.{Feature}
use Rattle.parameters.specs.declared.Feature.TheVariants.{Groups, Flow, Applications}
use Rattle.parameters.specs.Parameters.{valid_local}
use Rattle.feature.specs.declared.Setting.{Setting}
use Rattle.feature.specs.declared.Switches.{Switches}
use Rattle.feature.specs.declared.State.{State}
use Rattle.feature.specs.Outcome.{Received, lower, outcome}
use Rattle.machine.specs.State.{next, fresh_at, with_outcome, present, sub_tlv, differing, changed, marked, setting_of, same_setting, judged_again, reset}
use Rattle.turn.specs.Turn.{acknowledged, received}
use Rattle.machine.specs.StateLaws.{changed_shown}
use Rattle.port.specs.declared.Port.{Port}
use Rattle.port.specs.Parts.{feature_of, some, with_control, release, running}
use Rattle.sending.specs.Sending.{with_seq, unacknowledged, raises_seq_no, sent, step5, completed, fresh_port}
use Rattle.events.specs.PortEvents.{event, unchanged, refused}
use Rattle.changes.specs.Changes.{with_feature, with_setting, setting_changed, set_to, changed_feature, changed_applications, changed_setting}
use Rattle.admission.specs.Admission.{Message, met, with_broken}
use Rattle.handling.specs.Handling.{exchanged, once}
use Rattle.invariants.proofs.Tests.{beq_not, or_cases}
use Rattle.invariants.proofs.Fresh.{Alike, sent_alike, runs_alike, fresh_setting}

pub next_other : (n : ℕ) → next n ≡ n → ⊥
next_other n e = omega arith

-- ---- one feature over an event: x before, y after; SeqNo before it, and RcvdAckNo after step 3

-- its sub-TLV does not change; it is Syncd only if it was, or is acknowledged now
pub record Stays (f : Feature) (seq rcvd : ℕ) (x y : State) : Type 0 where
  pub advertised : y.setting.advertise ≡ x.setting.advertise
  pub tlv : sub_tlv f y ≡ sub_tlv f x
  pub sequence : y.sequence ≡ x.sequence
  pub syncd : y.syncd ≡ true → (x.syncd ≡ true) ⊎ ((x.sequence ≡ rcvd) × (x.sequence ≡ seq))

-- step 5
pub record Changes (seq : ℕ) (y : State) : Type 0 where
  pub syncd : y.syncd ≡ false
  pub sequence : y.sequence ≡ next seq

abbrev pub Moves : Feature → ℕ → ℕ → State → State → Type 0
Moves f seq rcvd x y = Stays f seq rcvd x y ⊎ Changes seq y

-- the port
pub record Moved (k : ℕ) (p q : Port) : Type 0 where
  pub rcvd : q.control.rcvd ≡ k
  -- the send rule
  pub seq : (q.control.seq ≡ p.control.seq) ⊎ ((q.control.seq ≡ next p.control.seq) × (k ≡ p.control.seq))
  pub feature : (f : Feature) → Moves f p.control.seq k (feature_of p f) (feature_of q f)

-- ---- step 5 and the send rule

-- before step 5
record Keeps (seq rcvd : ℕ) (x y : State) : Type 0 where
  pub advertised : y.setting.advertise ≡ x.setting.advertise
  pub sequence : y.sequence ≡ x.sequence
  pub syncd : y.syncd ≡ true → (x.syncd ≡ true) ⊎ ((x.sequence ≡ rcvd) × (x.sequence ≡ seq))

keeps_itself : (seq rcvd : ℕ) (x : State) → Keeps seq rcvd x x
keeps_itself seq rcvd x = record { advertised = refl; sequence = refl; syncd = λ e. inl e }

module _ (f : Feature) (seq rcvd : ℕ) (x y : State) where
  alike : changed f x y ≡ false → sub_tlv f x ≡ sub_tlv f y
  unfolding differing
  alike e = same_is (sub_tlv f x) (sub_tlv f y) (not-false (same (sub_tlv f x) (sub_tlv f y)) e)

  marked_moves : (changed f x y ≡ false → Keeps seq rcvd x y) → Moves f seq rcvd x (marked f seq x y)
  unfolding marked
  marked_moves k = by (changed f x y) refl
    where
      by : (b : Bool) → changed f x y ≡ b
          → Moves f seq rcvd x (if b then record { max = y.max; setting = y.setting; outcome = y.outcome; syncd = false; sequence = next seq } else y)
      by true e = inr (record { syncd = refl; sequence = refl })
      by false e = inl (record { advertised = (k e).advertised; tlv = sym (alike e); sequence = (k e).sequence; syncd = (k e).syncd })

module _ (p : Port) where
  abbrev up : Port
  up = release (with_control p (with_seq p.control (next p.control.seq)))

  pub sent_feature : (f : Feature) → feature_of (sent p) f ≡ feature_of p f
  unfolding sent
  sent_feature f = grind arith

  pub sent_rcvd : (sent p).control.rcvd ≡ p.control.rcvd
  unfolding sent
  sent_rcvd = grind arith

  pub sent_ack : (sent p).control.ack ≡ p.control.ack
  unfolding sent
  sent_ack = grind arith

  acknowledged_now : raises_seq_no p ≡ true → p.control.rcvd ≡ p.control.seq
  unfolding raises_seq_no
  acknowledged_now e = eqb-true p.control.rcvd p.control.seq (and_right (some (λ g. unacknowledged (feature_of p g))) (p.control.rcvd is p.control.seq) e)

  pub sent_seq : ((sent p).control.seq ≡ p.control.seq) ⊎ (((sent p).control.seq ≡ next p.control.seq) × (p.control.rcvd ≡ p.control.seq))
  unfolding sent
  sent_seq = by (raises_seq_no p) refl
    where
      by : (b : Bool) → raises_seq_no p ≡ b → ((if b then up else p).control.seq ≡ p.control.seq) ⊎ (((if b then up else p).control.seq ≡ next p.control.seq) × (p.control.rcvd ≡ p.control.seq))
      by true e = inr (refl, acknowledged_now e)
      by false e = inl refl

step5_feature : (p q : Port) (f : Feature) → feature_of (step5 p q) f ≡ marked f q.control.seq (feature_of p f) (feature_of q f)
step5_feature p q f = grind arith

module _ (p q : Port) (same : q.control.seq ≡ p.control.seq)
    (keeps : (f : Feature) → changed f (feature_of p f) (feature_of q f) ≡ false → Keeps p.control.seq q.control.rcvd (feature_of p f) (feature_of q f)) where
  completed_feature : (f : Feature) → feature_of (completed p q) f ≡ marked f p.control.seq (feature_of p f) (feature_of q f)
  completed_feature f = sent_feature (step5 p q) f ∙ step5_feature p q f ∙ ap (λ (n : ℕ). marked f n (feature_of p f) (feature_of q f)) same

  completed_moved : Moved q.control.rcvd p (completed p q)
  completed_moved =
      record {
        rcvd = sent_rcvd (step5 p q);
        seq = by (sent_seq (step5 p q));
        feature = λ f. subst (Moves f p.control.seq q.control.rcvd (feature_of p f)) (sym (completed_feature f)) (marked_moves f p.control.seq q.control.rcvd (feature_of p f) (feature_of q f) (keeps f));
      }
    where
      by : ((completed p q).control.seq ≡ q.control.seq) ⊎ (((completed p q).control.seq ≡ next q.control.seq) × (q.control.rcvd ≡ q.control.seq))
          → ((completed p q).control.seq ≡ p.control.seq) ⊎ (((completed p q).control.seq ≡ next p.control.seq) × (q.control.rcvd ≡ p.control.seq))
      by (inl e) = inl (e ∙ same)
      by (inr e) = inr (e.0 ∙ ap next same, e.1 ∙ same)

-- ---- a message

-- what an event at an end leaves of the rest
pub record Rest (p q : Port) : Type 0 where
  pub runs : running q ≡ running p
  pub several : q.several ≡ p.several
  pub ack : q.control.ack ≡ p.control.ack

rest_completed : (p q : Port) → Rest p q → Rest p (completed p q)
rest_completed p q h =
    let a : Alike (step5 p q) (completed p q) = sent_alike (step5 p q) in
    record { runs = runs_alike (step5 p q) (completed p q) a ∙ h.runs; several = a.several ∙ h.several; ack = sent_ack (step5 p q) ∙ h.ack }

module _ (f : Feature) (r : Received) (rcvd seq : ℕ) (x : State) where
  received_keeps : Keeps seq rcvd x (received f r (acknowledged rcvd seq x))
  unfolding received acknowledged
  received_keeps = by x.setting.advertise
    where
      now : Bool
      now = x.sequence is rcvd && x.sequence is seq

      gains : (x.syncd || now) ≡ true → (x.syncd ≡ true) ⊎ ((x.sequence ≡ rcvd) × (x.sequence ≡ seq))
      gains e = which (or_cases x.syncd now e)
        where
          which : (x.syncd ≡ true) ⊎ (now ≡ true) → (x.syncd ≡ true) ⊎ ((x.sequence ≡ rcvd) × (x.sequence ≡ seq))
          which (inl k) = inl k
          which (inr k) = inr (eqb-true x.sequence rcvd (and_left (x.sequence is rcvd) (x.sequence is seq) k), eqb-true x.sequence seq (and_right (x.sequence is rcvd) (x.sequence is seq) k))

      by : (b : Bool) → Keeps seq rcvd x
          (if b then with_outcome (acknowledged rcvd seq x) (outcome f x.max x.setting x.outcome.oper r) else acknowledged rcvd seq x)
      by true = record { advertised = refl; sequence = refl; syncd = gains }
      by false = record { advertised = refl; sequence = refl; syncd = gains }

module _ (m : Message) (p : Port) where
  abbrev low : ℕ
  low = lower p.control.max m.max

  exchanged_keeps : (f : Feature) → Keeps p.control.seq m.ack (feature_of p f) (feature_of (exchanged low m p) f)
  unfolding exchanged
  exchanged_keeps Groups = received_keeps Groups (m.has Groups) m.ack p.control.seq p.groups
  exchanged_keeps Flow = received_keeps Flow (m.has Flow) m.ack p.control.seq p.flow
  exchanged_keeps Applications = received_keeps Applications (m.has Applications) m.ack p.control.seq p.applications

  met_keeps : (f : Feature) → Keeps p.control.seq p.control.rcvd (feature_of p f) (feature_of (with_control p (met low p.control)) f)
  met_keeps Groups = keeps_itself p.control.seq p.control.rcvd p.groups
  met_keeps Flow = keeps_itself p.control.seq p.control.rcvd p.flow
  met_keeps Applications = keeps_itself p.control.seq p.control.rcvd p.applications

  -- handled past step 3: RcvdAckNo and AckNo are what came
  pub record Heard (q : Port) : Type 0 where
    pub version : m.oper ≡ low
    pub moved : Moved m.ack p q
    pub ack : q.control.ack ≡ m.seq

  -- or not
  pub record Unheard (q : Port) : Type 0 where
    pub moved : Moved p.control.rcvd p q
    pub ack : q.control.ack ≡ p.control.ack

  exchanged_heard : m.oper ≡ low → Heard (completed p (exchanged low m p))
  unfolding exchanged
  exchanged_heard e =
      record {
        version = e;
        moved = completed_moved p (exchanged low m p) refl (λ f d. exchanged_keeps f);
        ack = sent_ack (step5 p (exchanged low m p));
      }

  met_unheard : Unheard (completed p (with_control p (met low p.control)))
  met_unheard =
      let q : Port = with_control p (met low p.control) in
      record { moved = completed_moved p q refl (λ f d. met_keeps f); ack = sent_ack (step5 p q) }

  pub once_moved : Heard (completed p (once m p)) ⊎ Unheard (completed p (once m p))
  unfolding once
  once_moved = by (m.oper is low) refl
    where
      by : (b : Bool) → (m.oper is low) ≡ b
          → Heard (completed p (if b then exchanged low m p else with_control p (met low p.control)))
          ⊎ Unheard (completed p (if b then exchanged low m p else with_control p (met low p.control)))
      by true e = inl (exchanged_heard (eqb-true m.oper low e))
      by false e = inr met_unheard

-- ---- no message

pub still_moved : (p : Port) → Moved p.control.rcvd p p
still_moved p =
    record {
      rcvd = refl;
      seq = inl refl;
      feature = λ f. inl (record { advertised = refl; tlv = refl; sequence = refl; syncd = λ e. inl e });
    }

pub mark_moved : (p : Port) (b : Bool) → Moved p.control.rcvd p (with_broken p b)
mark_moved p b = record { rcvd = refl; seq = inl refl; feature = feature }
  where
    feature : (f : Feature) → Moves f p.control.seq p.control.rcvd (feature_of p f) (feature_of (with_broken p b) f)
    feature Groups = inl (record { advertised = refl; tlv = refl; sequence = refl; syncd = λ e. inl e })
    feature Flow = inl (record { advertised = refl; tlv = refl; sequence = refl; syncd = λ e. inl e })
    feature Applications = inl (record { advertised = refl; tlv = refl; sequence = refl; syncd = λ e. inl e })

-- ---- a setting

module _ (f : Feature) (seq rcvd : ℕ) (s : Setting) (x : State) where
  reset_keeps : changed f x (reset f seq s x) ≡ false → Keeps seq rcvd x (reset f seq s x)
  unfolding reset
  reset_keeps = by (beq x.setting.advertise s.advertise) refl
    where
      anew : State
      anew = fresh_at (next seq) x.max s

      by : (b : Bool) → beq x.setting.advertise s.advertise ≡ b → (let y : State =
          if b then record { max = x.max; setting = s; outcome = judged_again f s x.outcome; syncd = x.syncd; sequence = x.sequence } else anew in
          changed f x y ≡ false → Keeps seq rcvd x y)
      by true e d = record { advertised = sym (beq_not x.setting.advertise s.advertise (ap not e)); sequence = refl; syncd = λ e. inl e }
      by false e d =
          absurd
          (false≢true
          (sym d
          ∙ sym (changed_shown f x.max anew.max (present x) (present anew)
          (ap (λ (t : Setting). not (beq x.setting.advertise t.advertise)) (fresh_setting (next seq) x.max s) ∙ ap not e))))

module _ (p : Port) where
  abbrev n : ℕ
  n = p.control.seq

  abbrev k : ℕ
  k = p.control.rcvd

  set_keeps : (g : Feature) (s : Setting) (f : Feature) → (let q : Port = with_feature p g (reset g n s (feature_of p g)) in
      changed f (feature_of p f) (feature_of q f) ≡ false → Keeps n k (feature_of p f) (feature_of q f))
  set_keeps Groups s Groups = reset_keeps Groups n k s p.groups
  set_keeps Groups s Flow = λ e. keeps_itself n k p.flow
  set_keeps Groups s Applications = λ e. keeps_itself n k p.applications
  set_keeps Flow s Groups = λ e. keeps_itself n k p.groups
  set_keeps Flow s Flow = reset_keeps Flow n k s p.flow
  set_keeps Flow s Applications = λ e. keeps_itself n k p.applications
  set_keeps Applications s Groups = λ e. keeps_itself n k p.groups
  set_keeps Applications s Flow = λ e. keeps_itself n k p.flow
  set_keeps Applications s Applications = reset_keeps Applications n k s p.applications

  -- an event at a running port that is no frame
  pub record Local (q : Port) : Type 0 where
    pub moved : Moved k p q
    pub rest : Rest p q

  unmoved : Local p
  unmoved = record { moved = still_moved p; rest = record { runs = refl; several = refl; ack = refl } }

  feature_local : (g : Feature) (s : Setting) → Local (completed p (with_feature p g (reset g n s (feature_of p g))))
  feature_local Groups s =
      let q : Port = with_feature p Groups (reset Groups n s p.groups) in
      record { moved = completed_moved p q refl (set_keeps Groups s); rest = rest_completed p q (record { runs = refl; several = refl; ack = refl }) }
  feature_local Flow s =
      let q : Port = with_feature p Flow (reset Flow n s p.flow) in
      record { moved = completed_moved p q refl (set_keeps Flow s); rest = rest_completed p q (record { runs = refl; several = refl; ack = refl }) }
  feature_local Applications s =
      let q : Port = with_feature p Applications (reset Applications n s p.applications) in
      record { moved = completed_moved p q refl (set_keeps Applications s); rest = rest_completed p q (record { runs = refl; several = refl; ack = refl }) }

  module _ (r : running p ≡ true) where
    changed_local : (g : Feature) (w : Switches) (o : List ℕ) → Local (changed_feature g w o p).port
    unfolding changed_feature set_to setting_changed
    changed_local g w o = by (valid_local g o) (same_setting (feature_of p g).setting (setting_of g w o)) (running p) r
      where
        s : Setting
        s = setting_of g w o

        by : (a b c : Bool) → c ≡ true
            → Local
            (if a then
            if b then unchanged p
            else event None p (if c then completed p (with_feature p g (reset g n s (feature_of p g))) else fresh_port (with_feature p g (with_setting (feature_of p g) s)))
            else refused InvalidSetting p).port
        by false b c e = unmoved
        by true true c e = unmoved
        by true false true e = feature_local g s
        by true false false e = absurd (false≢true e)

    applications_local : (w : Switches) (o : List ℕ) → Local (changed_applications w o p).port
    unfolding changed_applications
    applications_local w o = by (has_applications p.revision)
      where
        by : (b : Bool) → Local (if b then changed_feature Applications w o p else refused UnknownFeature p).port
        by true = changed_local Applications w o
        by false = unmoved

    pub setting_local : (number : ℕ) (w : Switches) (o : List ℕ) → Local (changed_setting number w o p).port
    unfolding changed_setting
    setting_local number w o = by (number is 2) (number is 3) (number is 4)
      where
        by : (a b c : Bool)
            → Local
            (if a then changed_feature Groups w o p
            else if b then changed_feature Flow w o p
            else if c then changed_applications w o p
            else refused UnknownFeature p).port
        by true b c = changed_local Groups w o
        by false true c = changed_local Flow w o
        by false false true = applications_local w o
        by false false false = unmoved
