-- The operations of a recorder, a law for each way out. Assumes nothing.
use Rattle.std.specs.Prelude.{ℕ, ◌≡◌, Bool, true, false, not, List, set, replicate, if◌then◌else◌, Err}
use Rattle.std.proofs.Math.Path.{refl}
use Rattle.std.proofs.Common.{ap, ◌∙◌}
use borrow.Author.Tests.{not-true, not-false}
use Rattle.tlv.specs.declared.Rejection.{Rejection}
use Rattle.tlv.specs.declared.Refusal.TheVariants.{NoPort}
use Rattle.contents.specs.Contents.{Reading}
use Rattle.parameters.specs.declared.Feature.{Feature}
use Rattle.feature.specs.declared.Switches.{Switches}
use Rattle.notices.specs.declared.Log.{Log}
use Rattle.notices.specs.Notices.{is_port, empty_log}
use Rattle.port.specs.declared.Flag.{Flag}
use Rattle.port.specs.declared.Port.{Port}
use Rattle.port.specs.declared.Versions.{Versions}
use Rattle.port.specs.declared.Event.{Event}
use Rattle.port.specs.Types.{Written}
use Rattle.creation.specs.Creation.{blank_port}
use Rattle.events.specs.PortEvents.{refused}
use Rattle.creation.specs.Creation as creation
use Rattle.flags.specs.Flags as flags
use Rattle.changes.specs.Changes as changes
use Rattle.admission.specs.Admission as admission
use Rattle.handling.specs.Handling as handling
use Rattle.admission.specs.AdmissionLaws.{Admits}
use Rattle.handling.proofs.HandlingLaws.{handle_refused}
use Rattle.port.specs.Writing as writing
use Rattle.recorder.specs.declared.Recorder.{Recorder}
use Rattle.recorder.specs.declared.Change.{Change}
use Rattle.recorder.specs.declared.Change.TheVariants as change
use Rattle.logging.specs.Logging.{kept, is_silent}
use Rattle.logging.specs.LoggingLaws.{silent_kept}
use Rattle.recorder.specs.Recorder.{place_of, blank, happens, changed, created, stored, written, output, Wrote}

pub blank_is : {p : Port} {l : Log} → p ≡ blank_port → l ≡ empty_log → record { ports = replicate 4 p; log = l } ≡ blank
unfolding blank
blank_is ep el = rw (ep, el) refl

-- ---- events and writes at a port

pub changed_as_frame : (n : ℕ) (p : Port) {x : Change} (o : List ℕ) {e : Event} → x ≡ change.Frame → e ≡ changed n p change.Frame o → e ≡ changed n p x o
changed_as_frame n p o ex er = er ∙ rw ex refl

module _ (n : ℕ) (p : Port) {b : Bool} (eb : b ≡ is_port n) where
  module _ {e : Event} (v : Versions) (w : Feature → Switches) (o : Feature → List ℕ) where
    pub created_nowhere : not b ≡ true → e ≡ refused NoPort p → e ≡ created n p v w o
    unfolding created
    created_nowhere t er = er ∙ rw (← eb, not-true b t) refl

    pub created_at : not b ≡ false → e ≡ creation.created v w o p → e ≡ created n p v w o
    unfolding created
    created_at t er = er ∙ rw (← eb, not-false b t) refl

  module _ (x : Change) (o : List ℕ) where
    pub changed_nowhere : {e : Event} → not b ≡ true → e ≡ refused NoPort p → e ≡ changed n p x o
    unfolding changed
    changed_nowhere t er = er ∙ rw (← eb, not-true b t) refl

    module _ (t : not b ≡ false) where
      here : happens p x o ≡ changed n p x o
      unfolding changed
      here = rw (← eb, not-false b t) refl

      pub changed_frame : {e : Event} → x ≡ change.Frame → e ≡ handling.handled p o → e ≡ changed n p x o
      unfolding happens
      changed_frame ex er = er ∙ rw (← here, ex) refl

      pub changed_gone : {e : Event} → x ≡ change.PeerGone → e ≡ flags.peer_gone p → e ≡ changed n p x o
      unfolding happens
      changed_gone ex er = er ∙ rw (← here, ex) refl

      pub changed_flag : {e : Event} {flag : Flag} {on : Bool} → x ≡ change.Flag flag on → e ≡ flags.flagged flag on p → e ≡ changed n p x o
      unfolding happens
      changed_flag ex er = er ∙ rw (← here, ex) refl

      pub changed_setting_lem : {e : Event} {number : ℕ} {w : Switches} → x ≡ change.Setting number w → e ≡ changes.changed_setting number w o p → e ≡ changed n p x o
      unfolding happens
      changed_setting_lem ex er = er ∙ rw (← here, ex) refl

  pub changed_handled : {e : Event} (o : List ℕ) → not b ≡ false → e ≡ handling.handled p o → e ≡ changed n p change.Frame o
  changed_handled o t er = changed_frame change.Frame o t refl er

  pub changed_refused : {e : Event} {r : Reading} {x : Rejection} (o : List ℕ) → not b ≡ false → Admits p o r → r ≡ Err x
      → e ≡ admission.rejected x.why x.place p → e ≡ changed n p change.Frame o
  changed_refused o t a er ee = changed_handled o t (handle_refused p o a er ee)

  module _ (out : List ℕ) where
    pub wrote_nowhere : not b ≡ true → Wrote n p out (Err NoPort) out
    unfolding written output
    wrote_nowhere t = record { answers = rw (← eb, not-true b t) refl; octets = rw (← eb, not-true b t) refl }

    pub wrote_at : {r : Written} {now : List ℕ} → not b ≡ false → writing.Wrote p out r now → Wrote n p out r now
    unfolding written output
    wrote_at t h = record { answers = h.answers ∙ rw (← eb, not-false b t) refl; octets = h.octets ∙ rw (← eb, not-false b t) refl }

-- ---- what is stored

module _ (r : Recorder) (n : ℕ) (e : Event) {b : Bool} (eb : b ≡ is_port n) where
  pub stored_nowhere : not b ≡ true → r ≡ stored r n e
  unfolding stored
  stored_nowhere t = rw (← eb, not-true b t) refl

  pub stored_is : {i : ℕ} {l : Log} → not b ≡ false → i ≡ place_of n → l ≡ kept r.log n e.notices
      → record { ports = set r.ports i e.port; log = l } ≡ stored r n e
  unfolding stored
  stored_is t ei el = rw (ei, el, ← eb, not-false b t) refl

-- what a loop does that stores the parts itself, at a port: the log only where something was raised
pub stored_parts : (r : Recorder) (n : ℕ) (e : Event) → is_port n ≡ true
    → stored r n e ≡ record { ports = set r.ports (place_of n) e.port; log = if is_silent e.notices then r.log else kept r.log n e.notices }
unfolding stored
stored_parts r n e t = rw t (ap (λ (l : Log). record { ports = set r.ports (place_of n) e.port; log = l }) (by (is_silent e.notices) refl))
  where
    by : (b : Bool) → is_silent e.notices ≡ b → kept r.log n e.notices ≡ (if b then r.log else kept r.log n e.notices)
    by true k = silent_kept e.notices r.log n k
    by false k = refl
