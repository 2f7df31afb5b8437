-- Which frames a port takes, the way that a frame takes, and a frame that is refused: laws for each way out of the functions. Assumes
-- nothing.
use Rattle.std.specs.Prelude.{ℕ, ◌+◌, ◌-◌, ◌<◌, ◌≤◌, Bool, true, false, not, ◌≡◌, refl, List, take, drop, if◌then◌else◌, Err, Ok}
use Rattle.std.proofs.Math.Nat.{add-sub_cancel_left}
use Rattle.std.proofs.Common.{arith, ◌∙◌, ap}
use Rattle.std.proofs.Math.Path.{sym}
use borrow.Author.Tests.{not-false, lt-ltb, le-ltb, eq-eqb, ne_eqb}
use Rattle.octets.specs.Words.{◌below◌, ◌is◌}
use Rattle.octets.specs.Octets.{at, number4}
use Rattle.contents.specs.declared.Contents.{Contents}
use Rattle.contents.specs.declared.Found.{Found}
use Rattle.tlv.specs.declared.Refusal.{Refusal}
use Rattle.tlv.specs.declared.Rejection.{Rejection}
use Rattle.tlv.specs.declared.Refusal.TheVariants.{NotRunning, SeveralNeighbours}
use Rattle.tlv.specs.Refusals.{rejection}
use Rattle.reading.specs.Revisions.{read_for}
use Rattle.reading.specs.Promises.{Inside, ReadsFor}
use Rattle.contents.specs.Contents.{Reading, value_of}
use Rattle.turn.specs.declared.Course.{Course}
use Rattle.turn.specs.declared.Course.TheVariants.{Twice, OtherVersion, Exchange}
use Rattle.feature.specs.Outcome.{lower}
use Rattle.admission.specs.declared.Heard.{Heard}
use Rattle.port.specs.declared.Control.{Control}
use Rattle.port.specs.declared.Port.{Port}
use Rattle.port.specs.Types.{Raised}
use Rattle.notices.specs.declared.Kind.TheVariants.{ControlError}
use Rattle.port.specs.Parts.{running}
use Rattle.admission.specs.Admission.{Message, message, seen_twice, met, numbered, newly_marked, breaks, with_broken, alone, rejected}

-- ---- which frames are taken

unfoldable pub admitted : Port → List ℕ → Reading
admitted p o =
    if not (running p) then Err (rejection NotRunning 0)
    else if p.several then Err (rejection SeveralNeighbours 0)
    else read_for p.revision o

-- a frame that is taken lies inside the octets, and the port runs
pub record Admits (p : Port) (o : List ℕ) (r : Reading) : Type 0 where
  pub answers : r ≡ admitted p o
  pub inside : (c : Contents) → r ≡ Ok c → Inside o c
  pub runs : (c : Contents) → r ≡ Ok c → running p ≡ true

refused_admits : {p : Port} {o : List ℕ} {r : Rejection} → Err r ≡ admitted p o → Admits p o (Err r)
refused_admits e =
    record {
      answers = e;
      inside = λ c q. let z : ◌≡◌ {A = ℕ} 0 1 = cc in absurd (omega arith);
      runs = λ c q. let z : ◌≡◌ {A = ℕ} 0 1 = cc in absurd (omega arith);
    }

module _ (p : Port) (o : List ℕ) {b : Bool} (e : b ≡ running p) where
  pub admit_stopped : {r : Rejection} → not b ≡ true → r ≡ rejection NotRunning 0 → Admits p o (Err r)
  unfolding admitted
  admit_stopped t f = refused_admits (rw (f, ← e, t) refl)

  module _ (t : not b ≡ false) where
    pub admit_several : {r : Rejection} → p.several ≡ true → r ≡ rejection SeveralNeighbours 0 → Admits p o (Err r)
    unfolding admitted
    admit_several u f = refused_admits (rw (f, ← e, t, u) refl)

    pub admit_read : {r : Reading} → p.several ≡ false → ReadsFor p.revision o r → Admits p o r
    unfolding admitted
    admit_read u h = record { answers = h.is ∙ rw (← e, t, u) refl; inside = h.inside; runs = λ c q. sym e ∙ not-false b t }

-- what the calls on the way need of a frame that is accepted
pub admits_accepted : {p : Port} {o : List ℕ} {r : Reading} {c : Contents} → Admits p o r → r ≡ Ok c → Admits p o (Ok c)
admits_accepted a e = rw (← e) a

module _ {p : Port} {o : List ℕ} {c : Contents} (a : Admits p o (Ok c)) where
  pub accepted_inside : Inside o c
  accepted_inside = a.inside c refl

  pub accepted_runs : running p ≡ true
  accepted_runs = a.runs c refl

-- ---- the way that a frame takes

-- a value that was found, as the code cuts it out of the frame
pub part_is : (o : List ℕ) (x : Found) → take (x.start + x.length - x.start) (drop x.start o) ≡ value_of o x
part_is o x = rw add-sub_cancel_left refl

abbrev pub course_of : List ℕ → Contents → Control → Course
course_of o c k =
    if 1 below c.control.count then Twice
    else if (message o c).oper is lower k.max (message o c).max then Exchange
    else OtherVersion

abbrev pub control_by : Course → Message → Control → Control
control_by Twice m k = seen_twice k
control_by OtherVersion m k = met (lower k.max m.max) k
control_by Exchange m k = numbered (lower k.max m.max) m k

unfoldable pub heard_of : List ℕ → Contents → Control → Heard
heard_of o c k = record { course = course_of o c k; control = control_by (course_of o c k) (message o c) k }

module _ (o : List ℕ) (c : Contents) (k : Control) where
  pub hear_twice : 1 < c.control.count → record { course = Twice; control = seen_twice k } ≡ heard_of o c k
  unfolding heard_of
  hear_twice t = simp (lt-ltb 1 c.control.count t)

  module _ (t : c.control.count ≤ 1) {v : List ℕ} (ev : v ≡ value_of o c.control) {a b low : ℕ} (ea : a ≡ at v 0) (eb : b ≡ at v 1) (el : low ≡ lower k.max b) where
    heard_low : low ≡ lower k.max (message o c).max
    heard_low = el ∙ ap (lower k.max) (eb ∙ ap (λ (v : List ℕ). at v 1) ev)

    heard_oper : a ≡ (message o c).oper
    heard_oper = ea ∙ ap (λ (v : List ℕ). at v 0) ev

    pub hear_other : (a ≡ low → ⊥) → record { course = OtherVersion; control = met low k } ≡ heard_of o c k
    unfolding heard_of
    hear_other n = simp (le-ltb 1 c.control.count t, ← heard_low, ← heard_oper, ne_eqb a low n)

    pub hear_exchange : {m n : ℕ} → a ≡ low → m ≡ number4 v 2 → n ≡ number4 v 6
        → record {
          course = Exchange;
          control = record { max = k.max; oper = low; seq = k.seq; ack = m; rcvd = n; seen = true; duplicate = false; broken = false };
        } ≡ heard_of o c k
    unfolding heard_of
    hear_exchange q em en = simp (em, en, ev, le-ltb 1 c.control.count t, ← heard_low, ← heard_oper, eq-eqb a low q)

-- steps 1 to 3 leave SeqNo
pub heard_seq : (o : List ℕ) (c : Contents) (k : Control) → (heard_of o c k).control.seq ≡ k.seq
unfolding heard_of
heard_seq o c k = by (course_of o c k)
  where
    by : (w : Course) → (control_by w (message o c) k).seq ≡ k.seq
    by Twice = refl
    by OtherVersion = refl
    by Exchange = refl

-- ---- a frame that is refused

pub reject_is : (why : Refusal) (place : ℕ) (p : Port) {b : Bool} {x : Raised} → b ≡ breaks why → x ≡ newly_marked ControlError p.control.broken b
    → record { answer = Err (rejection why place); port = with_broken p b; notices = alone x } ≡ rejected why place p
unfolding rejected
reject_is why place p eb ex = rw (ex, eb) refl
