-- What an event gives, a law for each way out of the functions: premises in the form in which a test or a call leaves them.
-- Assumes nothing.
use Rattle.std.specs.Prelude.{Bool, true, false, not, ◌&&◌, ◌||◌, ◌≡◌, refl, None, Ok}
use Rattle.octets.specs.Words.{◌is◌}
use denote.Enum.Bare.{sameb}
use denote.Enum.Declared.{tag_of}
use Rattle.std.proofs.Math.Dec.{eqb}
use Rattle.std.proofs.Common.{◌∙◌}
use Rattle.feature.specs.contracts.Reason.{the_type}
use Rattle.feature.specs.declared.Reason.{Reason}
use Rattle.feature.specs.declared.Reason.TheVariants as reason
use Rattle.feature.specs.Reasons.{reason_number}
use Rattle.port.specs.declared.Port.{Port}
use Rattle.port.specs.Types.{Raised}
use Rattle.port.specs.declared.Notices.{Notices}
use Rattle.port.specs.Writing.{asks}
use Rattle.port.specs.Settled.{unsynced, settled}
use Rattle.events.specs.PortEvents.{noticed, becomes, raises, event}

-- ---- settled

none : (x y z : Bool) → not (x || y || z) ≡ (not x && not y && not z)
none true y z = refl
none false true z = refl
none false false z = refl

pub settled_is : (p : Port) {g w a : Bool} → g ≡ unsynced p.groups → w ≡ unsynced p.flow → a ≡ unsynced p.applications
    → ((p.control.seen && (p.control.rcvd is p.control.seq)) && not ((g || w) || a)) ≡ settled p
unfolding settled
settled_is p eg ew ea = rw (eg, ew, ea, none (unsynced p.groups) (unsynced p.flow) (unsynced p.applications)) refl

-- ---- notices

tag_is : (r : Reason) → tag_of the_type r ≡ reason_number r
tag_is reason.NoPeerYet = refl
tag_is reason.NotAdvertised = refl
tag_is reason.Absent = refl
tag_is reason.Duplicate = refl
tag_is reason.Bad = refl
tag_is reason.Waiting = refl
tag_is reason.Disabled = refl
tag_is reason.Agreed = refl
tag_is reason.NotCompatible = refl
tag_is reason.ControlTwice = refl

-- what `==` says of two reasons
module _ (r t : Reason) {b : Bool} (e : b ≡ sameb the_type r t) where
  alike : b ≡ (reason_number r is reason_number t)
  alike = e ∙ (λ i. eqb (tag_is r i) (tag_is t i))

  pub becomes_same : b ≡ true → None ≡ becomes r t
  unfolding becomes
  becomes_same h = rw (← alike, h) refl

  pub becomes_new : {x : Raised} → b ≡ false → x ≡ noticed t → x ≡ becomes r t
  unfolding becomes
  becomes_new h f = rw (← alike, h) f

pub raises_is : (x : Raised) (p q : Port) {a b c d e f : Reason} {g w s : Raised} → a ≡ p.groups.outcome.reason → b ≡ q.groups.outcome.reason → g ≡ becomes a b
    → c ≡ p.flow.outcome.reason → d ≡ q.flow.outcome.reason → w ≡ becomes c d
    → e ≡ p.applications.outcome.reason → f ≡ q.applications.outcome.reason → s ≡ becomes e f
    → record { port = x; groups = g; flow = w; applications = s } ≡ raises x p q
raises_is x p q ea eb eg ec ed ew ee ef es = rw (eg, ew, es, ea, eb, ec, ed, ee, ef) refl

-- ---- events

pub event_is : (x : Raised) (p q : Port) {b : Bool} {n : Notices} → b ≡ asks p q → n ≡ raises x p q
    → record { answer = Ok b; port = q; notices = n } ≡ event x p q
event_is x p q eb en = rw (eb, en) refl
