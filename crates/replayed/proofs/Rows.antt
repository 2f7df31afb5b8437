-- A row of eight counters after a line: each is one more exactly if its test holds. Assumes nothing.
use Prim.Native.Nat.{ℕ, ◌+◌, ◌-◌}
use native.Mathlib.Omega.{arith}
use native.Mathlib.Nat.{add-zero}
use mathlib.Core.Path.{◌≡◌, refl, sym, ap, ◌∙◌}
use mathlib.Core.Bool.{Bool, true, false, not, ◌&&◌}
use mathlib.Core.List.{List, [], ◌∷◌, map}
use borrow.Author.Tests.{eqb-true}
use Rattle.std.specs.Prelude.{if◌then◌else◌}
use Rattle.octets.specs.Words.{◌below◌, ◌is◌}
use Rattle.tlv.specs.declared.Refusal.{Refusal}
use Rattle.tlv.specs.declared.Refusal.TheVariants.{NotRunning, SeveralNeighbours, NotDcbx, WrongLength, PastEnd, NoControl, ControlLength, ControlVersion, InvalidSetting, ShortOutput, UnknownFeature, NoNotice, NoPort}
use Rattle.tlv.specs.Refusals.{refusal_number}
use Rattle.feature.specs.declared.Reason.{Reason}
use Rattle.feature.specs.declared.Reason.TheVariants.{NoPeerYet, NotAdvertised, Absent, Duplicate, Bad, Waiting, Disabled, Agreed, NotCompatible, ControlTwice}
use Rattle.feature.specs.Reasons.{reason_number}
use Rattle.std.specs.Prelude.{Ok, Err}
use Rattle.port.specs.Types.{Answer}
use Rattle.port.specs.Replies.{event_reply, bit}
use Rattle.numerals.specs.Numerals.{capped, more}
use Rattle.replayed.specs.Report.{reasons}
use Rattle.counters.specs.Counters.{counted, refusal_counted, reason_counted}

-- a counter that is at its highest stays there
pub tick : (b : Bool) (n : ℕ) → (if b then more (capped n) else capped n) ≡ capped (n + bit b)
tick true n = omega arith
tick false n = ap capped (sym (add-zero n))

-- ---- refusals

abbrev pub refusals : List ℕ
refusals = 1 ∷ 2 ∷ 3 ∷ 4 ∷ 5 ∷ 6 ∷ 7 ∷ 8 ∷ []

refusal_places : (why : Refusal) (f : ℕ → ℕ) → refusal_counted (map f refusals) (refusal_number why) ≡ map (λ k. if refusal_number why is k then more (f k) else f k) refusals
unfolding refusal_counted counted refusal_number
refusal_places NotRunning f = refl
refusal_places SeveralNeighbours f = refl
refusal_places NotDcbx f = refl
refusal_places WrongLength f = refl
refusal_places PastEnd f = refl
refusal_places NoControl f = refl
refusal_places ControlLength f = refl
refusal_places ControlVersion f = refl
refusal_places InvalidSetting f = refl
refusal_places ShortOutput f = refl
refusal_places UnknownFeature f = refl
refusal_places NoNotice f = refl
refusal_places NoPort f = refl

answer_places : (a : Answer) (f : ℕ → ℕ) → refusal_counted (map f refusals) (event_reply a).number ≡ map (λ k. if (event_reply a).number is k then more (f k) else f k) refusals
unfolding refusal_counted counted
answer_places (Ok wish) f = refl
answer_places (Err r) f = refusal_places r.why f

pub refusal_row : (a : Answer) (g : ℕ → ℕ)
    → refusal_counted (map (λ k. capped (g k)) refusals) (event_reply a).number ≡ map (λ k. capped (g k + bit ((event_reply a).number is k))) refusals
refusal_row a g = answer_places a (λ k. capped (g k)) ∙ (λ t. map (λ k. tick ((event_reply a).number is k) (g k) t) refusals)

-- ---- reasons

reason_places : (y : Reason) (f : Reason → ℕ) → (if reason_number y below 2 then map f reasons else counted (map f reasons) (reason_number y - 2))
    ≡ map (λ r. if reason_number y is reason_number r then more (f r) else f r) reasons
unfolding counted
reason_places NoPeerYet f = refl
reason_places NotAdvertised f = refl
reason_places Absent f = refl
reason_places Duplicate f = refl
reason_places Bad f = refl
reason_places Waiting f = refl
reason_places Disabled f = refl
reason_places Agreed f = refl
reason_places NotCompatible f = refl
reason_places ControlTwice f = refl

pub and_not : (b : Bool) → (b && not b) ≡ false
and_not true = refl
and_not false = refl

-- the reason before is another one: the test is whether it is r after
other_before : (x y r : ℕ) → (x is y) ≡ false → (y is r) ≡ (y is r && not (x is r))
other_before x y r n = here (y is r) refl
  where
    here : (b : Bool) → (y is r) ≡ b → b ≡ (b && not (x is r))
    here true q = rw (← eqb-true y r q, n) refl
    here false q = refl

pub reason_row_lem : (x y : Reason) (g : Reason → ℕ) → reason_counted (map (λ r. capped (g r)) reasons) (reason_number x) (reason_number y)
    ≡ map (λ r. capped (g r + bit (reason_number y is reason_number r && not (reason_number x is reason_number r)))) reasons
unfolding reason_counted
reason_row_lem x y g = here (reason_number x is reason_number y) refl
  where
    here : (b : Bool) → (reason_number x is reason_number y) ≡ b
        → (if b then map (λ r. capped (g r)) reasons else if reason_number y below 2 then map (λ r. capped (g r)) reasons else counted (map (λ r. capped (g r)) reasons) (reason_number y - 2))
        ≡ map (λ r. capped (g r + bit (reason_number y is reason_number r && not (reason_number x is reason_number r)))) reasons
    here true q =
        let e : (r : Reason) → capped (g r) ≡ capped (g r + bit (reason_number y is reason_number r && not (reason_number x is reason_number r))) =
        (λ r. tick false (g r) ∙ rw (eqb-true (reason_number x) (reason_number y) q, and_not (reason_number y is reason_number r)) refl) in
        (λ t. map (λ r. e r t) reasons)
    here false q =
        let e : (r : Reason) → (if reason_number y is reason_number r then more (capped (g r)) else capped (g r))
        ≡ capped (g r + bit (reason_number y is reason_number r && not (reason_number x is reason_number r))) =
        (λ r. ap (λ (b : Bool). if b then more (capped (g r)) else capped (g r)) (other_before (reason_number x) (reason_number y) (reason_number r) q)
        ∙ tick (reason_number y is reason_number r && not (reason_number x is reason_number r)) (g r)) in
        reason_places y (λ r. capped (g r)) ∙ (λ t. map (λ r. e r t) reasons)
