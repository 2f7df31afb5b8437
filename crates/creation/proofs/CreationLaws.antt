-- Creation, a law for each way out of the functions: premises in the form in which a test or a call leaves them.
-- Assumes nothing.
use Rattle.std.specs.Prelude.{ℕ, Bool, true, false, not, ◌≡◌, replicate, List, [], ◌∷◌, Ok}
use Rattle.std.proofs.Common.{◌∙◌}
use Rattle.std.proofs.Math.Path.{refl}
use borrow.Author.Tests.{not-true, not-false}
use Rattle.tlv.specs.declared.Refusal.TheVariants.{InvalidSetting}
use Rattle.parameters.specs.Parameters.{valid_local}
use Rattle.tlv.specs.declared.Revision.TheVariants.{Rev101}
use Rattle.tlv.specs.Revisions.{has_applications}
use Rattle.parameters.specs.declared.Feature.{Feature}
use Rattle.parameters.specs.declared.Feature.TheVariants.{Groups, Flow, Applications}
use Rattle.feature.specs.declared.State.{State}
use Rattle.feature.specs.declared.Setting.{Setting}
use Rattle.feature.specs.declared.Switches.{Switches}
use Rattle.machine.specs.State.{fresh_at, fresh, setting_of}
use Rattle.port.specs.declared.Control.{Control}
use Rattle.port.specs.declared.Port.{Port}
use Rattle.parameters.specs.declared.Each.{Each}
use Rattle.feature.specs.declared.Release.{Release}
use Rattle.port.specs.declared.Versions.{Versions}
use Rattle.port.specs.declared.Notices.{Notices}
use Rattle.port.specs.declared.Event.{Event}
use Rattle.port.specs.Writing.{asks}
use Rattle.port.specs.Parts.{switched_off, three, presents}
use Rattle.sending.specs.Sending.{sent, fresh_control}
use Rattle.events.specs.PortEvents.{silent, refused}
use Rattle.creation.specs.Creation.{blank_parameters, blank_port, started, made, created_with, created, settings_valid}

pub start_is : (v : Versions) (g w a : Setting) {x y z : State} {c : Control} {p : Port} → x ≡ fresh_at 1 v.groups g → y ≡ fresh_at 1 v.flow w
    → z ≡ fresh_at 1 v.applications a → c ≡ fresh_control v.control → {r : Each Release} → r ≡ presents x y z
    → p ≡ sent (record { revision = v.revision; admin = true; receive = true; transmit = true; several = false; control = c; groups = x; flow = y; applications = z; released = r })
    → p ≡ started v g w a
unfolding started
start_is v g w a ex ey ez ec er ep = ep ∙ rw (er, ex, ey, ez, ec) refl

pub blank_state_lem : (f : Feature) (o : List ℕ) {s : Setting} {x : State} → s ≡ setting_of f switched_off o → x ≡ fresh_at 1 0 s → x ≡ fresh 0 (setting_of f switched_off o)
blank_state_lem f o es ex = ex ∙ rw es refl

pub blank_is : {c : Control} {g w a : State} {o : List ℕ} → c ≡ fresh_control 0 → g ≡ fresh 0 (setting_of Groups switched_off (0 ∷ 0 ∷ 0 ∷ 0 ∷ 100 ∷ 0 ∷ 0 ∷ 0 ∷ 0 ∷ 0 ∷ 0 ∷ 0 ∷ 0 ∷ []))
    → w ≡ fresh 0 (setting_of Flow switched_off (replicate 2 0)) → o ≡ [] → a ≡ fresh 0 (setting_of Applications switched_off o) → {r : Each Release} → r ≡ presents g w a
    → record { revision = Rev101; admin = false; receive = false; transmit = false; several = false; control = c; groups = g; flow = w; applications = a; released = r } ≡ blank_port
unfolding blank_port blank_parameters
blank_is ec eg ew eo ea er = rw (er, ec, eg, ew, ea, eo) refl

pub made_is : (before : Port) (v : Versions) (g w a : Setting) {p : Port} {b : Bool} {n : Notices} → p ≡ started v g w a → b ≡ asks before p → n ≡ silent
    → record { answer = Ok b; port = p; notices = n } ≡ made before (started v g w a)
made_is before v g w a ep eb en = rw (eb, ep, en) refl

module _ (p : Port) (v : Versions) (g w a : Switches) (gp wp ap : List ℕ) {e : Event} {b : Bool} (eb : b ≡ valid_local Groups gp) where
  pub created_groups : not b ≡ true → e ≡ refused InvalidSetting p → e ≡ created_with v (three g w a) (three gp wp ap) p
  unfolding created_with settings_valid
  created_groups t er = er ∙ rw (← eb, not-true b t) refl

  module _ (t : not b ≡ false) {c : Bool} (ec : c ≡ valid_local Flow wp) where
    pub created_flow : not c ≡ true → e ≡ refused InvalidSetting p → e ≡ created_with v (three g w a) (three gp wp ap) p
    unfolding created_with settings_valid
    created_flow u er = er ∙ rw (← eb, not-false b t, ← ec, not-true c u) refl

    module _ (u : not c ≡ false) {d : Bool} (ed : d ≡ valid_local Applications ap) where
      pub created_applications : not d ≡ true → e ≡ refused InvalidSetting p → e ≡ created_with v (three g w a) (three gp wp ap) p
      unfolding created_with settings_valid
      created_applications x er = er ∙ rw (← eb, not-false b t, ← ec, not-false c u, ← ed, not-true d x) refl

      pub created_made : {x y z : Setting} → not d ≡ false → x ≡ setting_of Groups g gp → y ≡ setting_of Flow w wp → z ≡ setting_of Applications a ap
          → e ≡ made p (started v x y z) → e ≡ created_with v (three g w a) (three gp wp ap) p
      unfolding created_with settings_valid
      created_made k ex ey ez er = er ∙ rw (ex, ey, ez, ← eb, not-false b t, ← ec, not-false c u, ← ed, not-false d k) refl

-- 02, E11: what a revision takes of what is given
module _ (p : Port) (v : Versions) (g w a : Switches) (gp wp ap : List ℕ) {b : Bool} (eb : b ≡ has_applications v.revision) {e : Event} where
  pub created_101 : b ≡ true → e ≡ created_with v (three g w a) (three gp wp ap) p → e ≡ created v (three g w a) (three gp wp ap) p
  unfolding created
  created_101 t er = er ∙ rw (← eb, t) refl

  pub created_10 : {o : List ℕ} → b ≡ false → o ≡ []
      → e ≡ created_with (record { revision = v.revision; control = v.control; groups = v.groups; flow = v.flow; applications = 0 }) (three g w switched_off) (three gp wp o) p
      → e ≡ created v (three g w a) (three gp wp ap) p
  unfolding created
  created_10 t eo er = er ∙ rw (← eb, t, eo) refl
