-- Setting changes, a law for each way out of the functions: premises in the form in which a test or a call leaves them.
-- Assumes nothing.
use Rattle.std.specs.Prelude.{ℕ, Bool, true, false, not, ◌≡◌, List, None}
use Rattle.std.proofs.Common.{◌∙◌}
use Rattle.std.proofs.Math.Path.{refl, ap}
use borrow.Author.Tests.{not-true, not-false, ne_eqb}
use Rattle.tlv.specs.declared.Refusal.TheVariants.{InvalidSetting, UnknownFeature}
use Rattle.parameters.specs.Parameters.{valid_local}
use Rattle.tlv.specs.Revisions.{has_applications}
use Rattle.parameters.specs.declared.Feature.{Feature}
use Rattle.parameters.specs.declared.Feature.TheVariants.{Groups, Flow, Applications}
use Rattle.feature.specs.declared.State.{State}
use Rattle.feature.specs.declared.Setting.{Setting}
use Rattle.feature.specs.declared.Switches.{Switches}
use Rattle.machine.specs.State.{marked, reset, setting_of, same_setting}
use Rattle.port.specs.declared.Port.{Port}
use Rattle.port.specs.declared.Event.{Event}
use Rattle.port.specs.Parts.{feature_of, three, with_features, running}
use Rattle.sending.specs.Sending.{sent, fresh_port, completed}
use Rattle.events.specs.PortEvents.{event, unchanged, refused}
use Rattle.changes.specs.Changes.{with_feature, with_setting, setting_changed, set_to, changed_feature, changed_applications, changed_setting}

pub complete_is : (p q : Port) {g w a : State} {r s : Port} → g ≡ marked Groups q.control.seq p.groups q.groups
    → w ≡ marked Flow q.control.seq p.flow q.flow → a ≡ marked Applications q.control.seq p.applications q.applications
    → r ≡ with_features q (three g w a) → s ≡ sent r → s ≡ completed p q
complete_is p q eg ew ea er es = es ∙ ap sent (er ∙ simp (eg, ew, ea))

module _ (f : Feature) (s : Setting) (p : Port) {x y : State} {q r : Port} {b : Bool} (ex : x ≡ feature_of p f) (eb : b ≡ running p) (eq : q ≡ with_feature p f y) where
  pub set-running : b ≡ true → y ≡ reset f p.control.seq s x → r ≡ completed p q → r ≡ setting_changed f s p
  unfolding setting_changed
  set-running t ey er = er ∙ rw (← eb, t) (ap (completed p) (eq ∙ ap (with_feature p f) (ey ∙ ap (reset f p.control.seq s) ex)))

  pub set-stopped : b ≡ false → y ≡ with_setting x s → r ≡ fresh_port q → r ≡ setting_changed f s p
  unfolding setting_changed
  set-stopped t ey er = er ∙ rw (← eb, t) (ap fresh_port (eq ∙ ap (with_feature p f) (ey ∙ ap (λ (z : State). with_setting z s) ex)))

module _ (f : Feature) (s : Setting) (p : Port) {x : State} {b : Bool} (ex : x ≡ feature_of p f) (eb : b ≡ same_setting x.setting s) where
  told : b ≡ same_setting (feature_of p f).setting s
  told = eb ∙ ap (λ (x : State). same_setting x.setting s) ex

  pub set_same : {e : Event} → b ≡ true → e ≡ unchanged p → e ≡ set_to f s p
  unfolding set_to
  set_same t er = er ∙ rw (← told, t) refl

  pub set_other : {e : Event} {q : Port} → b ≡ false → q ≡ setting_changed f s p → e ≡ event None p q → e ≡ set_to f s p
  unfolding set_to
  set_other t eq er = er ∙ rw (eq, ← told, t) refl

module _ (f : Feature) (w : Switches) (o : List ℕ) (p : Port) {b : Bool} {e : Event} (eb : b ≡ valid_local f o) where
  pub change_invalid : not b ≡ true → e ≡ refused InvalidSetting p → e ≡ changed_feature f w o p
  unfolding changed_feature
  change_invalid t er = er ∙ rw (← eb, not-true b t) refl

  pub change_valid : {s : Setting} → not b ≡ false → s ≡ setting_of f w o → e ≡ set_to f s p → e ≡ changed_feature f w o p
  unfolding changed_feature
  change_valid t es er = er ∙ rw (es, ← eb, not-false b t) refl

module _ (n : ℕ) (w : Switches) (o : List ℕ) (p : Port) {e : Event} where
  pub change_unknown : (n ≡ 2 → ⊥) → (n ≡ 3 → ⊥) → (n ≡ 4 → ⊥) → e ≡ refused UnknownFeature p → e ≡ changed_setting n w o p
  unfolding changed_setting
  change_unknown n2 n3 n4 er = er ∙ rw (ne_eqb n 2 n2, ne_eqb n 3 n3, ne_eqb n 4 n4) refl

module _ (w : Switches) (o : List ℕ) (p : Port) {b : Bool} (eb : b ≡ has_applications p.revision) {e : Event} where
  pub change_no_applications : not b ≡ true → e ≡ refused UnknownFeature p → e ≡ changed_applications w o p
  unfolding changed_applications
  change_no_applications t er = er ∙ rw (← eb, not-true b t) refl

  pub change_applications : not b ≡ false → e ≡ changed_feature Applications w o p → e ≡ changed_applications w o p
  unfolding changed_applications
  change_applications t er = er ∙ rw (← eb, not-false b t) refl
