-- What a port that runs with one neighbour becomes when it is given a frame, and what a frame carries. Assumes nothing.
use Prim.Native.Nat.{ℕ, ◌<◌, ◌^◌}
use native.Mathlib.Omega.{arith}
use mathlib.Core.Path.{◌≡◌, refl, sym, ap, ◌∙◌, subst}
use mathlib.Core.Logic.{◌⊎◌, inl, inr}
use mathlib.Core.Bool.{Bool, true, false, false≢true}
use mathlib.Core.List.{List, []}
use lib.ListN.{length}
use borrow.Author.Tests.{eq-eqb}
use Rattle.octets.specs.Octets.{at, headed}
use Rattle.contents.specs.declared.Contents.{Contents}
use Rattle.contents.specs.declared.Found.{Found}
use Rattle.contents.specs.Contents.{value_of}
use Rattle.parameters.specs.declared.Feature.{Feature}
use Rattle.parameters.specs.Parameters.{feature_number}
use Rattle.feature.specs.declared.Switches.{Switches}
use Rattle.feature.specs.declared.State.{State}
use Rattle.feature.specs.Outcome.{Received, lower}
use Rattle.machine.specs.State.{present, value, release_tlv, sub_tlv}
use Rattle.port.specs.declared.Port.{Port}
use Rattle.port.specs.Parts.{feature_of, released_of, running}
use Rattle.port.specs.Writing.{released_tlv, frame}
use Rattle.port.specs.Sound.{SoundPort, InStep}
use Rattle.changes.specs.Changes.{changed_setting}
use Rattle.sending.specs.Sending.{completed}
use Rattle.admission.specs.Admission.{Message, message, has_of, breaks, with_broken, rejected}
use Rattle.handling.specs.Handling.{exchanged, once, steps1to4, frame_event, accepted, given, handled}
use Rattle.invariants.proofs.Soundness.{once_kept, completed_sound}
use Rattle.invariants.proofs.Standing.{Standing, rejected_sound, rejected_in_step, setting_stands}
use Rattle.invariants.proofs.Waiting.{steps_in_step}
use Rattle.rounds.specs.Rounds.{RefusesFrame}
use Rattle.exchange.proofs.Core as core
use Rattle.exchange.proofs.View.{Kept, runs_same, kept_once}
use Rattle.exchange.proofs.Frames as frames
use Rattle.exchange.proofs.Calls.{contents_for, read_as, control_as, delivered_read, refused_marks}
use Rattle.ticks.specs.Ticks.{PastStep3, Carries}
use Rattle.ticks.proofs.Events.{Moved, Rest, Heard, Unheard, Local, once_moved, mark_moved, setting_local}

-- a sound port that runs with one neighbour
pub record Up (p : Port) : Type 0 where
  pub sound : SoundPort p
  pub steps : InStep p
  pub runs : running p ≡ true
  pub single : p.several ≡ false

-- ---- what "past step 3" says: the frame goes through steps 3, 4 and 5

pub past_exchanges : (p : Port) (o : List ℕ) (h : PastStep3 p o) → (let m : Message = message o h.contents in
    (handled p o).port ≡ completed p (exchanged (lower p.control.max m.max) m p))
unfolding handled given accepted frame_event steps1to4 once
past_exchanges p o h =
    let m : Message = message o h.contents in
    let low : ℕ = lower p.control.max m.max in
    rw (h.runs, h.single, h.accepted, h.control, eq-eqb m.oper low h.version)

-- ---- a frame that a port wrote

module _ (p : Port) (h : Up p) (q : Port) (k : SoundPort q) where
  abbrev c : Contents
  c = frames.contents q k

  abbrev m : Message
  m = message (frame q) c

  past : m.oper ≡ lower p.control.max m.max → PastStep3 p (frame q)
  past e =
      let same : (contents_for p.revision c).control ≡ c.control = control_as p.revision c in
      record {
        runs = h.runs;
        single = h.single;
        contents = contents_for p.revision c;
        accepted = read_as p.revision (frame q) c (frames.accepted q k);
        control = ap (λ (x : Found). x.count) same ∙ frames.one_control q k;
        version = ap (λ (x : Found). at (value_of (frame q) x) 0) same ∙ e ∙ sym (ap (λ (x : Found). lower p.control.max (at (value_of (frame q) x) 1)) same);
      }

  -- handled past step 3, or not
  pub record Took (r : Port) : Type 0 where
    pub past : PastStep3 p (frame q)
    pub moved : Moved q.control.ack p r
    pub ack : r.control.ack ≡ q.control.seq

  pub record Left (r : Port) : Type 0 where
    pub moved : Moved p.control.rcvd p r
    pub ack : r.control.ack ≡ p.control.ack

  abbrev next_port : Port
  next_port = completed p (once m p)

  is_next : (handled p (frame q)).port ≡ next_port
  is_next = delivered_read p q h.runs h.single h.sound k

  took : Took next_port ⊎ Left next_port
  took = by (once_moved m p)
    where
      by : Heard m p next_port ⊎ Unheard m p next_port → Took next_port ⊎ Left next_port
      by (inl e) =
          inl
          (record {
            past = past e.version;
            moved = subst (λ n. Moved n p next_port) (frames.ack_read q k) e.moved;
            ack = e.ack ∙ frames.seq_read q k;
          })
      by (inr e) = inr (record { moved = e.moved; ack = e.ack })

  pub given_took : Took (handled p (frame q)).port ⊎ Left (handled p (frame q)).port
  given_took = subst (λ r. Took r ⊎ Left r) (sym is_next) took

  one_step : steps1to4 (frame q) c p ≡ once m p
  unfolding steps1to4
  one_step = rw (frames.one_control q k) refl

  next_up : Up next_port
  next_up =
      let e : Kept p next_port = kept_once m p in
      record {
        sound = completed_sound p (once m p) (once_kept p h.sound m (subst (λ n. n < 2 ^ 32) (sym (frames.seq_read q k)) k.control.seq) (subst (λ n. n < 2 ^ 32) (sym (frames.ack_read q k)) k.control.ack));
        steps = subst (λ r. InStep (completed p r)) one_step (steps_in_step p h.steps h.runs (frame q) c);
        runs = runs_same p next_port e ∙ h.runs;
        single = e.several ∙ h.single;
      }

  pub given_up : Up (handled p (frame q)).port
  given_up = subst Up (sym is_next) next_up

-- ---- a refused frame

module _ (p : Port) (h : Up p) where
  abbrev marked_port : Bool → Port
  marked_port b = with_broken p b

  pub refused_local : (o : List ℕ) → RefusesFrame p o → Local p (handled p o).port
  refused_local o a =
      subst (Local p) (sym (refused_marks p o a.0 a.1 a.2))
      (record { moved = mark_moved p (breaks a.0); rest = record { runs = refl; several = refl; ack = refl } })

  pub refused_up : (o : List ℕ) → RefusesFrame p o → Up (handled p o).port
  unfolding rejected
  refused_up o a =
      let q : Port = with_broken p (breaks a.0) in
      subst Up (sym (refused_marks p o a.0 a.1 a.2))
      (record { sound = rejected_sound a.0 0 p h.sound; steps = rejected_in_step a.0 0 p h.steps; runs = h.runs; single = h.single })

  -- ---- a setting

  pub set_local : (number : ℕ) (w : Switches) (o : List ℕ) → Local p (changed_setting number w o p).port
  set_local number w o = setting_local p h.runs number w o

  pub set-up : (number : ℕ) (w : Switches) (o : List ℕ) → Up (changed_setting number w o p).port
  set-up number w o =
      let s : Standing (changed_setting number w o p).port =
      setting_stands p (record { sound = h.sound; steps = h.steps; stopped = λ e. absurd (false≢true (sym e ∙ h.runs)) }) number w o in
      let r : Rest p (changed_setting number w o p).port = (set_local number w o).rest in
      record { sound = s.sound; steps = s.steps; runs = r.runs ∙ h.runs; single = r.several ∙ h.single }

-- ---- what a frame carries: a sub-TLV that was released and is the present one of an advertised feature

module _ (q : Port) (k : SoundPort q) (f : Feature) (x : State) (adv : x.setting.advertise ≡ true) where
  shown : sub_tlv f x ≡ headed (feature_number f) (value x.max (present x))
  unfolding release_tlv
  shown = rw adv refl

  never_empty : (n : ℕ) (v : List ℕ) → [] ≡ headed n v → ⊥
  never_empty n v e = let l : 0 ≡ length (headed n v) = ap length e in omega arith

  pub carries : released_tlv q f ≡ sub_tlv f x → Carries f (sub_tlv f x) (frame q)
  unfolding release_tlv core.written
  carries e = by (released_of q f).setting.advertise refl
    where
      has : has_of (frame q) (frames.contents q k) f
          ≡ core.written (released_of q f).setting.advertise (record { max = (feature_of q f).max; setting = (released_of q f).setting }) (record { oper = (released_of q f).oper; error = (released_of q f).error })
      has = frames.has_released q k f

      withheld : (released_of q f).setting.advertise ≡ false → released_tlv q f ≡ []
      withheld a = rw a refl

      by : (b : Bool) → (released_of q f).setting.advertise ≡ b → Carries f (sub_tlv f x) (frame q)
      by true a =
          let has1 : has_of (frame q) (frames.contents q k) f ≡ record { count = 1; value = value (feature_of q f).max (released_of q f) } = has ∙ rw a refl in
          record {
            contents = frames.contents q k;
            read = frames.accepted q k;
            once = ap (λ (r : Received). r.count) has1;
            same = sym e ∙ rw a refl ∙ ap (λ (r : Received). headed (feature_number f) r.value) (sym has1);
          }
      by false a = absurd (never_empty (feature_number f) (value x.max (present x)) (sym (withheld a) ∙ e ∙ shown))
