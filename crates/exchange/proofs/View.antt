-- A port seen by its settings and by what frames change of it, and what one message does to it. Assumes nothing.
use Prim.Native.Nat.{ℕ, min}
use native.Mathlib.Omega.{arith}
use mathlib.Core.Path.{◌≡◌, refl, sym, ap, ◌∙◌}
use mathlib.Core.Bool.{Bool, true, false, ◌&&◌}
use Rattle.std.specs.Prelude.{if◌then◌else◌}
use Rattle.octets.specs.Words.{◌is◌}
use Rattle.parameters.specs.declared.Feature.{Feature}
use Rattle.parameters.specs.declared.Feature.TheVariants.{Groups, Flow, Applications}
use Rattle.machine.specs.State.{next}
use Rattle.port.specs.declared.Control.{Control}
use Rattle.port.specs.declared.Port.{Port}
use Rattle.parameters.specs.declared.Each.{Each}
use Rattle.feature.specs.declared.Release.{Release}
use Rattle.port.specs.Parts.{feature_of, released_of, with_control, release, running}
use Rattle.sending.specs.Sending.{with_seq, step5, completed}
use Rattle.sending.specs.Sending as sending
use Rattle.admission.specs.Admission.{Message, met, with_broken}
use Rattle.handling.specs.Handling.{exchanged, once}
use Rattle.exchange.specs.Expected.{Side, side_of}
use Rattle.exchange.proofs.Core as core
use Rattle.exchange.proofs.Core.{Settings, Core, Offer, offer_of, machine_of}
use Rattle.exchange.proofs.Steps.{side_of_state, marked_same, stepped, side_stepped, machine_stepped}

abbrev pub settings : Port → Settings
settings p = record { revision = p.revision; max = p.control.max; of = side_of p }

abbrev pub offer_at : Port → Feature → Offer
offer_at p f = record { oper = (released_of p f).oper; error = (released_of p f).error }

abbrev pub view : Port → Core
view p =
    record {
      oper = p.control.oper;
      seq = p.control.seq;
      ack = p.control.ack;
      rcvd = p.control.rcvd;
      seen = p.control.seen;
      duplicate = p.control.duplicate;
      feat = λ f. machine_of (feature_of p f);
      offer = offer_at p;
    }

-- ---- a port by its parts

module _ (p : Port) (c : Control) where
  of_control : (f : Feature) → feature_of (with_control p c) f ≡ feature_of p f
  of_control f = grind arith

  offer_control : (f : Feature) → offer_at (with_control p c) f ≡ offer_at p f
  offer_control f = grind arith

  of_release : (f : Feature) → feature_of (release (with_control p c)) f ≡ feature_of p f
  of_release f = grind arith

  offer_release : (f : Feature) → offer_at (release (with_control p c)) f ≡ offer_of (feature_of p f).outcome
  offer_release f = grind arith

-- what is released of each feature is of its present setting: no setting changes in an exchange
abbrev pub Offers : Port → Type 0
Offers p = (f : Feature) → (released_of p f).setting ≡ (feature_of p f).setting

offers_release : (p : Port) → Offers (release p)
offers_release p f = grind arith

pub offers_sent : (p : Port) → Offers p → Offers (sending.sent p)
unfolding sending.sent
offers_sent p h = by (sending.raises_seq_no p)
  where
    by : (b : Bool) → Offers (if b then release (with_control p (with_seq p.control (next p.control.seq))) else p)
    by true = offers_release (with_control p (with_seq p.control (next p.control.seq)))
    by false = h

-- a port with the same releases and settings
offers_kept : (p q : Port) → q.released ≡ p.released → ((f : Feature) → side_of q f ≡ side_of p f) → Offers p → Offers q
offers_kept p q r s h Groups = ap (λ (x : Each Release). x.groups.setting) r ∙ h Groups ∙ sym (ap (λ (x : Side). x.setting) (s Groups))
offers_kept p q r s h Flow = ap (λ (x : Each Release). x.flow.setting) r ∙ h Flow ∙ sym (ap (λ (x : Side). x.setting) (s Flow))
offers_kept p q r s h Applications = ap (λ (x : Each Release). x.applications.setting) r ∙ h Applications ∙ sym (ap (λ (x : Side). x.setting) (s Applications))

-- what no frame changes: settings and flags
pub record Kept (p q : Port) : Type 0 where
  pub settings : settings q ≡ settings p
  pub admin : q.admin ≡ p.admin
  pub receive : q.receive ≡ p.receive
  pub transmit : q.transmit ≡ p.transmit
  pub several : q.several ≡ p.several

pub runs_same : (p q : Port) → Kept p q → running q ≡ running p
runs_same p q h = λ i. h.admin i && h.receive i && h.transmit i

-- ---- the send rule

unfoldable counted : Bool → Port → Port
counted b p = if b then release (with_control p (with_seq p.control (next p.control.seq))) else p

sent_by_lem : (p : Port) → sending.sent p ≡ counted (core.raises (view p).feat p.control.rcvd p.control.seq) p
unfolding sending.sent sending.raises_seq_no sending.unacknowledged core.raises core.pending counted
sent_by_lem p = refl

view_counted : (b : Bool) (p : Port) →
    view (counted b p)
    ≡ record {
      oper = p.control.oper;
      seq = core.bump b p.control.seq;
      ack = p.control.ack;
      rcvd = p.control.rcvd;
      seen = p.control.seen;
      duplicate = p.control.duplicate;
      feat = (view p).feat;
      offer = core.released b (view p).feat (offer_at p);
    }
unfolding counted core.bump core.released
view_counted true p =
    λ i. record {
      oper = p.control.oper;
      seq = next p.control.seq;
      ack = p.control.ack;
      rcvd = p.control.rcvd;
      seen = p.control.seen;
      duplicate = p.control.duplicate;
      feat = λ f. machine_of (of_release p (with_seq p.control (next p.control.seq)) f i);
      offer = λ f. offer_release p (with_seq p.control (next p.control.seq)) f i;
    }
view_counted false p = refl

kept_counted : (b : Bool) (p : Port) → Kept p (counted b p)
unfolding counted
kept_counted true p =
    record {
      settings = λ i. record { revision = p.revision; max = p.control.max; of = λ f. side_of_state (of_release p (with_seq p.control (next p.control.seq)) f i) };
      admin = refl;
      receive = refl;
      transmit = refl;
      several = refl;
    }
kept_counted false p = record { settings = refl; admin = refl; receive = refl; transmit = refl; several = refl }

pub view_sent : (p : Port) → let up : Bool = core.raises (view p).feat p.control.rcvd p.control.seq in
    view (sending.sent p)
    ≡ record {
      oper = p.control.oper;
      seq = core.bump up p.control.seq;
      ack = p.control.ack;
      rcvd = p.control.rcvd;
      seen = p.control.seen;
      duplicate = p.control.duplicate;
      feat = (view p).feat;
      offer = core.released up (view p).feat (offer_at p);
    }
view_sent p = ap view (sent_by_lem p) ∙ view_counted (core.raises (view p).feat p.control.rcvd p.control.seq) p

-- the mark of a broken control is no part of what is seen
pub view_marked : (p : Port) (b : Bool) → view (with_broken p b) ≡ view p
view_marked p b =
    λ i. record {
      oper = p.control.oper;
      seq = p.control.seq;
      ack = p.control.ack;
      rcvd = p.control.rcvd;
      seen = p.control.seen;
      duplicate = p.control.duplicate;
      feat = λ f. machine_of (of_control p (with_broken p b).control f i);
      offer = λ f. offer_control p (with_broken p b).control f i;
    }

pub offers_marked : (p : Port) (b : Bool) → Offers p → Offers (with_broken p b)
offers_marked p b = offers_kept p (with_broken p b) refl (λ f i. side_of_state (of_control p (with_broken p b).control f i))

pub kept_marked : (p : Port) (b : Bool) → Kept p (with_broken p b)
kept_marked p b =
    record {
      settings = λ i. record { revision = p.revision; max = p.control.max; of = λ f. side_of_state (of_control p (with_broken p b).control f i) };
      admin = refl;
      receive = refl;
      transmit = refl;
      several = refl;
    }

pub kept_sent : (p q : Port) → Kept p q → Kept p (sending.sent q)
kept_sent p q h =
    let k : Kept q (sending.sent q) = rw (sent_by_lem q) (kept_counted (core.raises (view q).feat q.control.rcvd q.control.seq) q) in
    record {
      settings = k.settings ∙ h.settings;
      admin = k.admin ∙ h.admin;
      receive = k.receive ∙ h.receive;
      transmit = k.transmit ∙ h.transmit;
      several = k.several ∙ h.several;
    }

-- ---- a message, past step 2 or not

module _ (low : ℕ) (m : Message) (p : Port) where
  feature_exchanged : (f : Feature) → feature_of (step5 p (exchanged low m p)) f ≡ stepped f m.ack p.control.seq (m.has f) (feature_of p f)
  unfolding exchanged
  feature_exchanged f = grind arith

  feature_met : (f : Feature) → feature_of (step5 p (with_control p (met low p.control))) f ≡ feature_of p f
  feature_met Groups = marked_same Groups p.control.seq p.groups
  feature_met Flow = marked_same Flow p.control.seq p.flow
  feature_met Applications = marked_same Applications p.control.seq p.applications

  -- what is released stays until the send rule
  offer_exchanged : (f : Feature) → offer_at (step5 p (exchanged low m p)) f ≡ offer_at p f
  unfolding exchanged
  offer_exchanged f = grind arith

  offer_met : (f : Feature) → offer_at (step5 p (with_control p (met low p.control))) f ≡ offer_at p f
  offer_met f = grind arith

  machines : (f : Feature) → machine_of (feature_of (step5 p (exchanged low m p)) f) ≡ core.features (settings p) (view p) m f
  machines f = ap machine_of (feature_exchanged f) ∙ machine_stepped f m.ack p.control.seq (m.has f) (feature_of p f) _ refl

  kept_exchanged : Kept p (step5 p (exchanged low m p))
  unfolding exchanged
  kept_exchanged =
      record {
        settings = λ i. record {
          revision = p.revision;
          max = p.control.max;
          of = λ f. (ap side_of_state (feature_exchanged f) ∙ side_stepped f m.ack p.control.seq (m.has f) (feature_of p f) _ refl) i;
        };
        admin = refl;
        receive = refl;
        transmit = refl;
        several = refl;
      }

  kept_met : Kept p (step5 p (with_control p (met low p.control)))
  kept_met =
      record {
        settings = λ i. record { revision = p.revision; max = p.control.max; of = λ f. side_of_state (feature_met f i) };
        admin = refl;
        receive = refl;
        transmit = refl;
        several = refl;
      }

  view_exchanged : view (completed p (exchanged low m p)) ≡ core.gated true low (settings p) (view p) m
  unfolding exchanged core.gated
  view_exchanged =
      view_sent (step5 p (exchanged low m p))
      ∙ (λ i. record {
        oper = low;
        seq = core.bump (core.raises (λ f. machines f i) m.ack p.control.seq) p.control.seq;
        ack = m.seq;
        rcvd = m.ack;
        seen = true;
        duplicate = false;
        feat = λ f. machines f i;
        offer = core.released (core.raises (λ f. machines f i) m.ack p.control.seq) (λ f. machines f i) (λ f. offer_exchanged f i);
      })

  view_met : view (completed p (with_control p (met low p.control))) ≡ core.gated false low (settings p) (view p) m
  unfolding core.gated
  view_met =
      view_sent (step5 p (with_control p (met low p.control)))
      ∙ (λ i. record {
        oper = low;
        seq = core.bump (core.raises (λ f. machine_of (feature_met f i)) p.control.rcvd p.control.seq) p.control.seq;
        ack = p.control.ack;
        rcvd = p.control.rcvd;
        seen = true;
        duplicate = false;
        feat = λ f. machine_of (feature_met f i);
        offer =
            core.released (core.raises (λ f. machine_of (feature_met f i)) p.control.rcvd p.control.seq) (λ f. machine_of (feature_met f i)) (λ f. offer_met f i);
      })

  offers_exchanged : Offers p → Offers (completed p (exchanged low m p))
  unfolding exchanged
  offers_exchanged h = offers_sent (step5 p (exchanged low m p)) (offers_kept p (step5 p (exchanged low m p)) refl (λ f i. (kept_exchanged.settings i).of f) h)

  offers_met : Offers p → Offers (completed p (with_control p (met low p.control)))
  offers_met h =
      offers_sent (step5 p (with_control p (met low p.control))) (offers_kept p (step5 p (with_control p (met low p.control))) refl (λ f i. (kept_met.settings i).of f) h)

  -- step 2's test
  abbrev tested : Bool → Port
  tested b = if b then exchanged low m p else with_control p (met low p.control)

  view_tested : (b : Bool) → view (completed p (tested b)) ≡ core.gated b low (settings p) (view p) m
  view_tested true = view_exchanged
  view_tested false = view_met

  kept_tested : (b : Bool) → Kept p (completed p (tested b))
  kept_tested true = kept_sent p (step5 p (exchanged low m p)) kept_exchanged
  kept_tested false = kept_sent p (step5 p (with_control p (met low p.control))) kept_met

  offers_tested : (b : Bool) → Offers p → Offers (completed p (tested b))
  offers_tested true = offers_exchanged
  offers_tested false = offers_met

pub view_once : (m : Message) (p : Port) → view (completed p (once m p)) ≡ core.recv (settings p) (view p) m
unfolding once core.recv
view_once m p = view_tested (min p.control.max m.max) m p (m.oper is min p.control.max m.max)

pub kept_once : (m : Message) (p : Port) → Kept p (completed p (once m p))
unfolding once
kept_once m p = kept_tested (min p.control.max m.max) m p (m.oper is min p.control.max m.max)

pub offers_once : (m : Message) (p : Port) → Offers p → Offers (completed p (once m p))
unfolding once
offers_once m p = offers_tested (min p.control.max m.max) m p (m.oper is min p.control.max m.max)
