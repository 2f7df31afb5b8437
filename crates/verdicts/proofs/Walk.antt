-- Counters over the lines of a capture come to its course, none above its highest, and to its verdict. Assumes nothing.
use Prim.Native.Nat.{ℕ, suc, ◌+◌}
use native.Mathlib.Omega.{arith}
use native.Mathlib.Numerals.{add-one}
use native.Mathlib.Nat.{add-zero}
use mathlib.Core.Path.{◌≡◌, refl, sym, ap, ◌∙◌}
use mathlib.Core.Bool.{Bool, true, false, not}
use mathlib.Core.List.{List, [], ◌∷◌}
use Rattle.std.specs.Prelude.{if◌then◌else◌}
use Rattle.std.specs.Prelude.{None, Ok, Err}
use Rattle.std.specs.Option.{is_some}
use Rattle.port.specs.Types.{Answer}
use Rattle.port.specs.declared.Port.{Port}
use Rattle.port.specs.Replies.{bit}
use Rattle.capture.specs.Feeding.{in_turn}
use Rattle.numerals.specs.Numerals.{capped, more}
use Rattle.judgement.specs.declared.Course.{Course}
use Rattle.judgement.specs.declared.Judged.{Judged}
use Rattle.comparison.specs.Comparison.{is_due, place_in}
use Rattle.judgement.specs.Entries.{Entry, Sent, Given, Changed, Passed, entry_of, octets_in, port_after, is_sent}
use Rattle.judgement.specs.Courses.{since_by, taken_by, sent_on, given_on, changed_on, passed_on, course_on}
use Rattle.ruling.specs.Ruling.{Rejected}
use Rattle.conformance.specs.Conformance.{port_behind, other, verdict_at, verdict_from, course_from, before_other}
use Rattle.judgement.specs.Steps.{rejected_with, sent_at, with_entry, with_line}
use Rattle.conformance.specs.Steps.{verdict_by, verdict_of}
use Rattle.verdicts.specs.Verdicts.{capped_course, capped_verdict}

-- the value behind lines that agree, whose course is c
abbrev pub state_of : Port → Course → Judged
state_of p c = record { port = p; course = capped_course c; rejected = None }

-- ---- a line

since_capped : (a : Answer) (l n : ℕ) → since_by a (more (capped l)) (capped n) ≡ capped (since_by a (suc l) n)
unfolding since_by
since_capped (Ok true) l n = omega arith
since_capped (Ok false) l n = refl
since_capped (Err r) l n = refl

taken_capped : (a : Answer) (l n : ℕ) → taken_by a (more (capped l)) (capped n) ≡ capped (taken_by a (suc l) n)
unfolding taken_by
taken_capped (Ok b) l n = omega arith
taken_capped (Err r) l n = refl

more_capped : (n : ℕ) → more (capped n) ≡ capped (suc n)
more_capped n = omega arith

module _ (c : Course) where
  sent_capped : sent_on more (capped_course c) ≡ capped_course (sent_on suc c)
  unfolding sent_on
  sent_capped = rw (more_capped c.lines, more_capped c.sent) refl

  passed_capped : passed_on more (capped_course c) ≡ capped_course (passed_on suc c)
  unfolding passed_on
  passed_capped = rw (more_capped c.lines, more_capped c.passed) refl

  given_capped : (a : Answer) → given_on more a (capped_course c) ≡ capped_course (given_on suc a c)
  unfolding given_on
  given_capped a = rw (since_capped a c.lines c.since, taken_capped a c.lines c.taken, more_capped c.lines, more_capped c.given) refl

  changed_capped : (a : Answer) → changed_on more a (capped_course c) ≡ capped_course (changed_on suc a c)
  unfolding changed_on
  changed_capped a = rw (since_capped a c.lines c.since, taken_capped a c.lines c.taken, more_capped c.lines, more_capped c.changes) refl

-- where a frame is not due it is kept
unfoldable pub stepped : Entry → Port → Course → Judged
stepped e p c = if other e p then rejected_with (state_of p c) (place_in p (octets_in e)) (octets_in e) else state_of (port_after p e) (course_on suc p e c)

step_is : (e : Entry) (p : Port) (c : Course) → with_entry (state_of p c) e ≡ stepped e p c
unfolding with_entry stepped other port_after course_on octets_in sent_at
step_is (Sent o) p c = by (is_due p o)
  where
    by : (b : Bool) → (if b then record { port = p; course = sent_on more (capped_course c); rejected = None } else rejected_with (state_of p c) (place_in p o) o)
        ≡ (if not b then rejected_with (state_of p c) (place_in p o) o else state_of p (sent_on suc c))
    by true = rw (sent_capped c) refl
    by false = refl
step_is (Given o) p c = rw (given_capped c _) refl
step_is (Changed x o) p c = rw (changed_capped c _) refl
step_is Passed p c = rw (passed_capped c) refl

-- ---- all lines

-- behind a frame that is not due nothing changes
stays : (ls : List (List ℕ)) (t : Judged) → is_some t.rejected ≡ true → in_turn with_line t ls ≡ t
unfolding in_turn with_line
stays [] t e = refl
stays (l ∷ ls) t e = ap (λ (b : Bool). in_turn with_line (if b then t else with_entry t (entry_of l)) ls) e ∙ stays ls t e

line_is : (l : List ℕ) (p : Port) (c : Course) → with_line (state_of p c) l ≡ stepped (entry_of l) p c
unfolding with_line
line_is l p c = step_is (entry_of l) p c

unfoldable pub walked : Port → Course → List (List ℕ) → Judged
walked p c [] = state_of p c
walked p c (l ∷ ls) = if other (entry_of l) p then rejected_with (state_of p c) (place_in p (octets_in (entry_of l))) (octets_in (entry_of l)) else walked (port_after p (entry_of l)) (course_on suc p (entry_of l) c) ls

pub walk : (ls : List (List ℕ)) (p : Port) (c : Course) → in_turn with_line (state_of p c) ls ≡ walked p c ls
unfolding in_turn walked stepped rejected_with
walk [] p c = refl
walk (l ∷ ls) p c = ap (λ (t : Judged). in_turn with_line t ls) (line_is l p c) ∙ by (other (entry_of l) p) (walk ls (port_after p (entry_of l)) (course_on suc p (entry_of l) c))
  where
    by : (b : Bool) → in_turn with_line (state_of (port_after p (entry_of l)) (course_on suc p (entry_of l) c)) ls ≡ walked (port_after p (entry_of l)) (course_on suc p (entry_of l) c) ls
        → in_turn with_line (if b then rejected_with (state_of p c) (place_in p (octets_in (entry_of l))) (octets_in (entry_of l)) else state_of (port_after p (entry_of l)) (course_on suc p (entry_of l) c)) ls
        ≡ (if b then rejected_with (state_of p c) (place_in p (octets_in (entry_of l))) (octets_in (entry_of l)) else walked (port_after p (entry_of l)) (course_on suc p (entry_of l) c) ls)
    by true f = stays ls _ refl
    by false f = f

-- ---- what they come to

pub walked_port : (ls : List (List ℕ)) (p : Port) (c : Course) → (walked p c ls).port ≡ port_behind p (before_other p ls)
unfolding walked before_other port_behind rejected_with
walked_port [] p c = refl
walked_port (l ∷ ls) p c = by (other (entry_of l) p) (walked_port ls (port_after p (entry_of l)) (course_on suc p (entry_of l) c))
  where
    by : (b : Bool) → (walked (port_after p (entry_of l)) (course_on suc p (entry_of l) c) ls).port ≡ port_behind (port_after p (entry_of l)) (before_other (port_after p (entry_of l)) ls)
        → (if b then rejected_with (state_of p c) (place_in p (octets_in (entry_of l))) (octets_in (entry_of l)) else walked (port_after p (entry_of l)) (course_on suc p (entry_of l) c) ls).port
        ≡ port_behind p (if b then [] else l ∷ before_other (port_after p (entry_of l)) ls)
    by true f = refl
    by false f = f

pub walked_course : (ls : List (List ℕ)) (p : Port) (c : Course) → (walked p c ls).course ≡ capped_course (course_from p c (before_other p ls))
unfolding walked before_other course_from rejected_with
walked_course [] p c = refl
walked_course (l ∷ ls) p c = by (other (entry_of l) p) (walked_course ls (port_after p (entry_of l)) (course_on suc p (entry_of l) c))
  where
    by : (b : Bool)
        → (walked (port_after p (entry_of l)) (course_on suc p (entry_of l) c) ls).course ≡ capped_course (course_from (port_after p (entry_of l)) (course_on suc p (entry_of l) c) (before_other (port_after p (entry_of l)) ls))
        → (if b then rejected_with (state_of p c) (place_in p (octets_in (entry_of l))) (octets_in (entry_of l)) else walked (port_after p (entry_of l)) (course_on suc p (entry_of l) c) ls).course
        ≡ capped_course (course_from p c (if b then [] else l ∷ before_other (port_after p (entry_of l)) ls))
    by true f = refl
    by false f = f

-- a line more, and a frame more where it is one
counted : (e : Entry) (p : Port) (c : Course) → (course_on suc p e c).lines ≡ suc c.lines
unfolding course_on sent_on given_on changed_on passed_on
counted (Sent o) p c = refl
counted (Given o) p c = refl
counted (Changed x o) p c = refl
counted Passed p c = refl

compared : (e : Entry) (p : Port) (c : Course) → (course_on suc p e c).sent ≡ c.sent + bit (is_sent e)
unfolding course_on sent_on given_on changed_on passed_on is_sent
compared (Sent o) p c = sym (add-one c.sent)
compared (Given o) p c = sym (add-zero c.sent)
compared (Changed x o) p c = sym (add-zero c.sent)
compared Passed p c = sym (add-zero c.sent)

pub walked_verdict : (ls : List (List ℕ)) (p : Port) (c : Course) → verdict_of (walked p c ls) ≡ capped_verdict (verdict_from p (suc c.lines) c.sent ls)
unfolding walked verdict_from verdict_at verdict_by capped_verdict rejected_with
walked_verdict [] p c = refl
walked_verdict (l ∷ ls) p c = by (other (entry_of l) p) (walked_verdict ls (port_after p (entry_of l)) (course_on suc p (entry_of l) c))
  where
    next : Port
    next = port_after p (entry_of l)

    by : (b : Bool)
        → verdict_of (walked next (course_on suc p (entry_of l) c) ls) ≡ capped_verdict (verdict_from next (suc (course_on suc p (entry_of l) c).lines) (course_on suc p (entry_of l) c).sent ls)
        → verdict_of (if b then rejected_with (state_of p c) (place_in p (octets_in (entry_of l))) (octets_in (entry_of l)) else walked next (course_on suc p (entry_of l) c) ls)
        ≡ capped_verdict (if b then Rejected (suc c.lines) (place_in p (octets_in (entry_of l))) else verdict_from next (suc c.lines + 1) (c.sent + bit (is_sent (entry_of l))) ls)
    by true f = rw (more_capped c.lines) refl
    by false f = f ∙ rw (counted (entry_of l) p c, compared (entry_of l) p c, add-one (suc c.lines)) refl
