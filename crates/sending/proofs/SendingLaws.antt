-- The send rule and fresh states, a law for each way out of the functions: premises in the form in which a test or a call leaves them.
-- Assumes nothing.
use Rattle.std.specs.Prelude.{◌≡◌, ℕ, Bool, true, false, not, ◌&&◌, ◌||◌, if◌then◌else◌}
use Rattle.std.proofs.Common.{◌∙◌}
use Rattle.std.proofs.Math.Path.{refl, ap}
use borrow.Author.Tests.{not-true, not-false}
use Rattle.octets.specs.Words.{◌is◌}
use Rattle.parameters.specs.declared.Feature.{Feature}
use Rattle.parameters.specs.declared.Feature.TheVariants.{Groups, Flow, Applications}
use Rattle.feature.specs.declared.State.{State}
use Rattle.feature.specs.declared.Release.{Release}
use Rattle.machine.specs.State.{next, fresh, stopped, present}
use Rattle.port.specs.declared.Control.{Control}
use Rattle.port.specs.declared.Port.{Port}
use Rattle.parameters.specs.declared.Each.{Each}
use Rattle.port.specs.Parts.{feature_of, three, with_control, with_features, presents, with_released, release, some, running}
use Rattle.sending.specs.Sending.{unacknowledged, raises_seq_no, sent, with_seq, fresh_control, fresh_parts, fresh_port}
use Rattle.sending.specs.SendingLaws.{counted}

module _ (k : Control) (b : Bool) where
  pub count_idle : not b ≡ true → k ≡ counted b k
  count_idle t = simp (not-true b t)

  pub count_next : {n : ℕ} → not b ≡ false → n ≡ next k.seq → with_seq k n ≡ counted b k
  count_next t h = simp (h, not-false b t)

pub presents_is : (g w a : State) {x y z : Release} → x ≡ present g → y ≡ present w → z ≡ present a → record { groups = x; flow = y; applications = z } ≡ presents g w a
presents_is g w a ex ey ez = rw (ex, ey, ez) refl

-- it changes SeqNo and what is released, if anything
pub sent_counted : (p : Port) (k : Control) (x : Feature → State) → let up : Bool = some (λ f. unacknowledged (x f)) && k.rcvd is k.seq in
    sent (with_features (with_control p k) x)
    ≡ with_released (with_features (with_control p (counted up k)) x) (if up then presents (x Groups) (x Flow) (x Applications) else p.released)
unfolding sent raises_seq_no
sent_counted p k x = by (some (λ f. unacknowledged (x f)) && k.rcvd is k.seq)
  where
    by : (b : Bool) → (if b then release (with_features (with_control p (with_seq k (next k.seq))) x) else with_features (with_control p k) x)
        ≡ with_released (with_features (with_control p (counted b k)) x) (if b then presents (x Groups) (x Flow) (x Applications) else p.released)
    by true = refl
    by false = refl

-- where SeqNo goes up, all features are released
module _ (p : Port) {g w a : Bool} (eg : g ≡ unacknowledged p.groups) (ew : w ≡ unacknowledged p.flow) (ea : a ≡ unacknowledged p.applications) {u : Bool}
    (eu : u ≡ ((g || w || a) && p.control.rcvd is p.control.seq)) where
  up : u ≡ raises_seq_no p
  unfolding raises_seq_no
  up = eu ∙ rw (eg, ew, ea) refl

  pub sent_stays : not u ≡ true → p ≡ sent p
  unfolding sent
  sent_stays t = rw (← up, not-true u t) refl

  pub sent_raised : not u ≡ false → {c : Control} → c ≡ counted u p.control → {r : Each Release} → r ≡ presents p.groups p.flow p.applications
      → record { revision = p.revision; admin = p.admin; receive = p.receive; transmit = p.transmit; several = p.several; control = c; groups = p.groups; flow = p.flow; applications = p.applications; released = r }
      ≡ sent p
  unfolding sent
  sent_raised t ec er = rw (er, ec, ← up, not-false u t) refl

module _ (p : Port) {g w a : State} {q : Port} where
  pub fresh_parts_lem : {c : Control} → g ≡ fresh p.groups.max p.groups.setting → w ≡ fresh p.flow.max p.flow.setting
      → a ≡ fresh p.applications.max p.applications.setting → q ≡ with_features p (three g w a) → c ≡ fresh_control p.control.max → {r : Each Release} → r ≡ presents q.groups q.flow q.applications
      → record { revision = q.revision; admin = q.admin; receive = q.receive; transmit = q.transmit; several = q.several; control = c; groups = q.groups; flow = q.flow; applications = q.applications; released = r }
      ≡ fresh_parts p
  fresh_parts_lem eg ew ea eq ec er = simp (er, eq, eg, ew, ea, ec)

  pub stop_is : g ≡ stopped p.groups → w ≡ stopped p.flow → a ≡ stopped p.applications → q ≡ with_features p (three g w a)
      → q ≡ with_features p (λ f. stopped (feature_of p f))
  stop_is eg ew ea eq = eq ∙ simp (eg, ew, ea)

module _ (p : Port) {q r : Port} {b : Bool} (e : b ≡ running p) (f : q ≡ fresh_parts p) where
  pub fresh_running : b ≡ true → r ≡ sent q → r ≡ fresh_port p
  unfolding fresh_port
  fresh_running t h = rw (← e, t) (h ∙ ap sent f)

  pub fresh_stopped : b ≡ false → r ≡ with_features q (λ x. stopped (feature_of q x)) → r ≡ fresh_port p
  unfolding fresh_port
  fresh_stopped t h = rw (← e, t) (h ∙ ap (λ (q : Port). with_features q (λ x. stopped (feature_of q x))) f)
