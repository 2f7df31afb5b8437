-- What an event answers tells what it did to the port: whether that writes otherwise, and that a refusal leaves it. Assumes nothing.
use Prim.Native.Nat.{ℕ}
use mathlib.Core.Path.{◌≡◌, refl, sym, ap}
use mathlib.Core.Bool.{Bool, true, false, not, beq, false≢true}
use mathlib.Core.List.{List}
use Rattle.std.specs.Prelude.{if◌then◌else◌}
use Rattle.octets.specs.Words.{◌is◌}
use Rattle.tlv.specs.declared.Refusal.{Refusal}
use Rattle.tlv.specs.declared.Refusal.TheVariants.{NotRunning, SeveralNeighbours, InvalidSetting, UnknownFeature}
use Rattle.std.specs.Prelude.{None, Ok, Err}
use Rattle.tlv.specs.Refusals.{rejection}
use Rattle.contents.specs.Contents.{Reading}
use Rattle.tlv.specs.Revisions.{has_applications}
use Rattle.reading.specs.Revisions.{read_for}
use Rattle.parameters.specs.declared.Feature.{Feature}
use Rattle.parameters.specs.declared.Feature.TheVariants.{Groups, Flow, Applications}
use Rattle.parameters.specs.Parameters.{valid_local}
use Rattle.feature.specs.declared.Switches.{Switches}
use Rattle.machine.specs.State.{setting_of, same_setting}
use Rattle.port.specs.Types.{Answer, Raised}
use Rattle.port.specs.declared.Flag.{Flag}
use Rattle.port.specs.declared.Port.{Port}
use Rattle.port.specs.Parts.{feature_of, flag_of, running}
use Rattle.port.specs.Writing.{sub_tlvs, frame, to_write, asks}
use Rattle.events.specs.PortEvents.{event, unchanged, refused}
use Rattle.flags.specs.Flags.{flag_notice, flag_set, flagged, peer_gone}
use Rattle.sending.specs.Sending.{fresh_port}
use Rattle.changes.specs.Changes.{setting_changed, set_to, changed_feature, changed_applications, changed_setting}
use Rattle.admission.specs.Admission.{breaks, with_broken, rejected}
use Rattle.handling.specs.Handling.{frame_event, accepted, given, handled}
use Rattle.recorder.specs.declared.Change.{Change}
use Rattle.recorder.specs.declared.Change.TheVariants as change
use Rattle.recorder.specs.Recorder.{happens}
use Rattle.verdicts.specs.Verdicts.{asked, Answers}
use Rattle.verdicts.proofs.Exact.{is_same}

is_done : Answer → Bool
is_done (Ok send) = true
is_done (Err r) = false

not_refused : {b : Bool} {why : Refusal} {place : ℕ} → ◌≡◌ {A = Answer} (Ok b) (Err (rejection why place)) → ⊥
unfolding is_done
not_refused e = false≢true (sym (ap is_done e))

-- the mark of a broken control is not written
mark_unwritten : (p : Port) (b : Bool) → to_write (with_broken p b) ≡ to_write p
unfolding to_write frame sub_tlvs
mark_unwritten p b = refl

module _ (p : Port) where
  done_tells : (x : Raised) (q : Port) → Answers p (event x p q)
  unfolding asked
  done_tells x q = record { send = refl; refused = λ why place e. absurd (not_refused e) }

  unchanged_tells : Answers p (unchanged p)
  unfolding asked asks
  unchanged_tells = record { send = rw (is_same (to_write p)) refl; refused = λ why place e. absurd (not_refused e) }

  refused_tells : (why : Refusal) → Answers p (refused why p)
  unfolding asked asks
  refused_tells why = record { send = rw (is_same (to_write p)) refl; refused = λ other place e. refl }

  rejected_tells : (why : Refusal) (place : ℕ) → Answers p (rejected why place p)
  unfolding asked asks rejected
  rejected_tells why place = record { send = rw (mark_unwritten p (breaks why), is_same (to_write p)) refl; refused = λ other at e. refl }

  frame_tells : (o : List ℕ) → Answers p (handled p o)
  unfolding handled given accepted frame_event
  frame_tells o = by (running p) p.several (read_for p.revision o)
    where
      by : (a b : Bool) (x : Reading) → Answers p (if not a then rejected NotRunning 0 p else if b then rejected SeveralNeighbours 0 p else given o x p)
      by false b x = rejected_tells NotRunning 0
      by true true x = rejected_tells SeveralNeighbours 0
      by true false (Err r) = rejected_tells r.why r.place
      by true false (Ok c) = done_tells _ _

  gone_tells : Answers p (peer_gone p)
  unfolding peer_gone
  gone_tells = by (running p) _
    where
      by : (b : Bool) (x : Raised) → Answers p (if not b then refused NotRunning p else event x p (fresh_port p))
      by false x = refused_tells NotRunning
      by true x = done_tells x (fresh_port p)

  flag_tells : (x : Flag) (on : Bool) → Answers p (flagged x on p)
  unfolding flagged
  flag_tells x on = by (beq (flag_of p x) on)
    where
      by : (b : Bool) → Answers p (if b then unchanged p else event (flag_notice x on) p (flag_set x on p))
      by true = unchanged_tells
      by false = done_tells (flag_notice x on) (flag_set x on p)

  module _ (w : Switches) (o : List ℕ) where
    feature_tells : (f : Feature) → Answers p (changed_feature f w o p)
    unfolding changed_feature set_to
    feature_tells f = by (valid_local f o) (same_setting (feature_of p f).setting (setting_of f w o))
      where
        by : (a b : Bool) → Answers p (if a then if b then unchanged p else event None p (setting_changed f (setting_of f w o) p) else refused InvalidSetting p)
        by false b = refused_tells InvalidSetting
        by true true = unchanged_tells
        by true false = done_tells None (setting_changed f (setting_of f w o) p)

    setting_tells : (number : ℕ) → Answers p (changed_setting number w o p)
    unfolding changed_setting changed_applications
    setting_tells number = by (number is 2) (number is 3) (number is 4) (has_applications p.revision)
      where
        by : (a b c d : Bool)
            → Answers p
            (if a then changed_feature Groups w o p
            else if b then changed_feature Flow w o p
            else if c then (if d then changed_feature Applications w o p else refused UnknownFeature p)
            else refused UnknownFeature p)
        by true b c d = feature_tells Groups
        by false true c d = feature_tells Flow
        by false false true true = feature_tells Applications
        by false false true false = refused_tells UnknownFeature
        by false false false d = refused_tells UnknownFeature

pub tells : (p : Port) (x : Change) (o : List ℕ) → Answers p (happens p x o)
unfolding happens
tells p change.Frame o = frame_tells p o
tells p change.PeerGone o = gone_tells p
tells p (change.Flag x on) o = flag_tells p x on
tells p (change.Setting n w) o = setting_tells p w o n
