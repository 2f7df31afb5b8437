-- The verdict is accepted exactly if every frame that was sent is due, and otherwise names the first that is not. Assumes nothing.
use Prim.Native.Nat.{ℕ, zero, suc, ◌+◌}
use native.Mathlib.Omega.{arith}
use native.Mathlib.Nat.{add-zero, zero-add}
use mathlib.Core.Path.{◌≡◌, refl, sym, ap, subst, ◌∙◌}
use mathlib.Core.Logic.{◌⊎◌, inl, inr}
use mathlib.Core.Bool.{Bool, true, false, not, false≢true}
use mathlib.Core.List.{List, [], ◌∷◌, ◌++◌, append-nil}
use lib.ListN.{length, take}
use borrow.Author.Tests.{eqb-true, eqb-false, eq-eqb, ne_eqb}
use Rattle.std.specs.Prelude.{if◌then◌else◌}
use Rattle.octets.specs.Words.{◌is◌}
use Rattle.octets.specs.Octets.{at, same}
use Rattle.octets.specs.Laws.{and_left, and_right}
use Rattle.port.specs.declared.Port.{Port}
use Rattle.port.specs.Parts.{running}
use Rattle.port.specs.Replies.{bit}
use Rattle.port.specs.Writing.{frame, to_write}
use Rattle.comparison.specs.Comparison.{is_due, differing, place_in}
use Rattle.judgement.specs.Entries.{Entry, Sent, Given, Changed, Passed, entry_of, octets_in, port_after, is_sent}
use Rattle.ruling.specs.Ruling.{Verdict, Accepted, Rejected}
use Rattle.conformance.specs.Conformance.{port_behind, other, verdict_at, verdict_from, verdict}
use Rattle.verdicts.specs.Verdicts.{Due, AllDue, sent_in, FirstDifference, FirstOther, Exactly}

-- ---- a frame is due exactly if the test says so

same_is : (xs ys : List ℕ) → same xs ys ≡ true → xs ≡ ys
unfolding same
same_is [] [] e = refl
same_is [] (y ∷ ys) e = absurd (false≢true e)
same_is (x ∷ xs) [] e = absurd (false≢true e)
same_is (x ∷ xs) (y ∷ ys) e =
    let h : x ≡ y = eqb-true x y (and_left (x is y) (same xs ys) e) in
    let t : xs ≡ ys = same_is xs ys (and_right (x is y) (same xs ys) e) in
    λ i. h i ∷ t i

pub is_same : (xs : List ℕ) → same xs xs ≡ true
unfolding same
is_same [] = refl
is_same (x ∷ xs) = rw (eq-eqb x x refl) (is_same xs)

module _ (p : Port) (o : List ℕ) where
  due_is : is_due p o ≡ true → Due p o
  unfolding is_due
  due_is e = record { runs = and_left (running p) (same o (frame p)) e; octets = same_is o (frame p) (and_right (running p) (same o (frame p)) e) }

  is_due_lem : Due p o → is_due p o ≡ true
  unfolding is_due
  is_due_lem d = rw (d.runs, d.octets) (is_same (frame p))

-- ---- the first difference

differing_first : (xs ys : List ℕ) → FirstDifference xs ys (differing xs ys)
unfolding differing
differing_first [] ys = record { sent = omega arith; due = omega arith; same = refl; differs = inl refl }
differing_first (x ∷ xs) [] = record { sent = omega arith; due = omega arith; same = refl; differs = inr (inl refl) }
differing_first (x ∷ xs) (y ∷ ys) = by (x is y) refl (differing_first xs ys)
  where
    differs_on : (n : ℕ) → (n ≡ length xs) ⊎ ((n ≡ length ys) ⊎ (at xs n ≡ at ys n → ⊥))
        → (suc n ≡ length (x ∷ xs)) ⊎ ((suc n ≡ length (y ∷ ys)) ⊎ (at (x ∷ xs) (suc n) ≡ at (y ∷ ys) (suc n) → ⊥))
    differs_on n (inl e) = inl (ap suc e)
    differs_on n (inr (inl e)) = inr (inl (ap suc e))
    differs_on n (inr (inr e)) = inr (inr e)

    by : (b : Bool) → (x is y) ≡ b → FirstDifference xs ys (differing xs ys) → FirstDifference (x ∷ xs) (y ∷ ys) (if b then suc (differing xs ys) else 0)
    by true e d =
        let q : x ≡ y = eqb-true x y e in
        let s : take (differing xs ys) xs ≡ take (differing xs ys) ys = d.same in
        record { sent = omega (arith, d.sent); due = omega (arith, d.due); same = λ i. q i ∷ s i; differs = differs_on (differing xs ys) d.differs }
    by false e d = record { sent = omega arith; due = omega arith; same = refl; differs = inr (inr (eqb-false x y e)) }

-- and there is one alone
head_is : {x y : ℕ} {xs ys : List ℕ} → (x ∷ xs) ≡ (y ∷ ys) → x ≡ y
head_is {x} {y} {xs} {ys} e = ap (λ (l : List ℕ). at l 0) e

tail_is : {x y : ℕ} {xs ys : List ℕ} → (x ∷ xs) ≡ (y ∷ ys) → xs ≡ ys
tail_is e = ap rest e
  where
    rest : List ℕ → List ℕ
    rest [] = []
    rest (x ∷ xs) = xs

pub first_differing : (xs ys : List ℕ) (n : ℕ) → FirstDifference xs ys n → n ≡ differing xs ys
unfolding differing
first_differing [] ys n d = omega (arith, d.sent)
first_differing (x ∷ xs) [] n d = omega (arith, d.due)
first_differing (x ∷ xs) (y ∷ ys) zero d = by d.differs
  where
    by : (0 ≡ suc (length xs)) ⊎ ((0 ≡ suc (length ys)) ⊎ (x ≡ y → ⊥)) → 0 ≡ (if x is y then suc (differing xs ys) else 0)
    by (inl e) = absurd (omega (arith, e))
    by (inr (inl e)) = absurd (omega (arith, e))
    by (inr (inr e)) = rw (ne_eqb x y e) refl
first_differing (x ∷ xs) (y ∷ ys) (suc n) d =
    let q : x ≡ y = head_is d.same in
    let r : FirstDifference xs ys n = record { sent = omega (arith, d.sent); due = omega (arith, d.due); same = tail_is d.same; differs = by d.differs } in
    rw (eq-eqb x y q) (ap suc (first_differing xs ys n r))
  where
    by : (suc n ≡ suc (length xs)) ⊎ ((suc n ≡ suc (length ys)) ⊎ (at xs n ≡ at ys n → ⊥)) → (n ≡ length xs) ⊎ ((n ≡ length ys) ⊎ (at xs n ≡ at ys n → ⊥))
    by (inl e) = inl (omega (arith, e))
    by (inr (inl e)) = inr (inl (omega (arith, e)))
    by (inr (inr e)) = inr (inr e)

-- ---- lines whose frames are due

not_other : (e : Entry) (p : Port) → ((o : List ℕ) → e ≡ Sent o → Due p o) → other e p ≡ false
unfolding other
not_other (Sent o) p h = rw (is_due_lem p o (h o refl)) refl
not_other (Given o) p h = refl
not_other (Changed x o) p h = refl
not_other Passed p h = refl

due_of : (e : Entry) (p : Port) (o : List ℕ) → other e p ≡ false → e ≡ Sent o → Due p o
unfolding other
due_of e p o h s = due_is p o (by (is_due p o) (sym (ap (λ (x : Entry). other x p) s) ∙ h))
  where
    by : (b : Bool) → not b ≡ false → b ≡ true
    by true q = refl
    by false q = absurd (false≢true (sym q))

pub later : (l : List ℕ) (ls : List (List ℕ)) (p : Port) → AllDue p (l ∷ ls) → AllDue (port_after p (entry_of l)) ls
unfolding port_behind
later l ls p h = λ before m after o e s. h (l ∷ before) m after o (λ i. l ∷ e i) s

pub first_due : (l : List ℕ) (ls : List (List ℕ)) (p : Port) → AllDue p (l ∷ ls) → other (entry_of l) p ≡ false
unfolding port_behind
first_due l ls p h = not_other (entry_of l) p (λ o s. h [] l ls o refl s)

first_of : List (List ℕ) → List ℕ
first_of [] = []
first_of (l ∷ ls) = l

rest_of : List (List ℕ) → List (List ℕ)
rest_of [] = []
rest_of (l ∷ ls) = ls

is_empty : List (List ℕ) → Bool
is_empty [] = true
is_empty (l ∷ ls) = false

no_lines : (p : Port) → AllDue p []
unfolding is_empty
no_lines p = by
  where
    by : AllDue p []
    by [] l after o e s = absurd (false≢true (sym (ap is_empty e)))
    by (m ∷ before) l after o e s = absurd (false≢true (sym (ap is_empty e)))

all_cons : (l : List ℕ) (ls : List (List ℕ)) (p : Port) → other (entry_of l) p ≡ false → AllDue (port_after p (entry_of l)) ls → AllDue p (l ∷ ls)
unfolding port_behind first_of rest_of
all_cons l ls p n h = by
  where
    by : AllDue p (l ∷ ls)
    by [] m after o e s = due_of (entry_of l) p o n (ap entry_of (ap first_of e) ∙ s)
    by (b ∷ before) m after o e s =
        subst (λ (x : List ℕ). Due (port_behind (port_after p (entry_of x)) before) o) (ap first_of e) (h before m after o (ap rest_of e) s)

-- the verdict is that on the lines behind
agree_on : (before rest : List (List ℕ)) (p : Port) (n k : ℕ) → AllDue p before
    → verdict_from p n k (before ++ rest) ≡ verdict_from (port_behind p before) (n + length before) (k + sent_in before) rest
unfolding verdict_from verdict_at port_behind sent_in
agree_on [] rest p n k h = rw (add-zero n, add-zero k) refl
agree_on (l ∷ ls) rest p n k h =
    let e : n + 1 + length ls ≡ n + suc (length ls) = omega arith in
    let f : k + bit (is_sent (entry_of l)) + sent_in ls ≡ k + (bit (is_sent (entry_of l)) + sent_in ls) = omega arith in
    rw (first_due l ls p h) (agree_on ls rest (port_after p (entry_of l)) (n + 1) (k + bit (is_sent (entry_of l))) (later l ls p h) ∙ rw (e, f) refl)

accepts_all : (p : Port) (ls : List (List ℕ)) → AllDue p ls → verdict p ls ≡ Accepted (sent_in ls)
unfolding verdict_from
accepts_all p ls h = ap (verdict_from p 1 0) (sym (append-nil ls)) ∙ agree_on ls [] p 1 0 h ∙ ap Accepted (zero-add (sent_in ls))

-- ---- the first frame that is not due

pub not_due_lem : (p : Port) (o : List ℕ) → (Due p o → ⊥) → is_due p o ≡ false
not_due_lem p o h = by (is_due p o) refl
  where
    by : (b : Bool) → is_due p o ≡ b → b ≡ false
    by true e = absurd (h (due_is p o e))
    by false e = refl

other_at : (e : Entry) (q : Port) (o : List ℕ) (n : ℕ) (v : Verdict) → e ≡ Sent o → (Due q o → ⊥) → verdict_at e q n v ≡ Rejected n (place_in q o)
unfolding verdict_at other octets_in
other_at e q o n v s h = rw (s, not_due_lem q o h) refl

rejects_first : (p : Port) (ls : List (List ℕ)) (n q : ℕ) → FirstOther p ls n q → verdict p ls ≡ Rejected n q
unfolding verdict_from
rejects_first p ls n q f =
    let at : Port = port_behind p f.before in
    let e : 1 + length f.before ≡ n = omega (arith, f.numbered) in
    let d : place_in at f.octets ≡ q = sym (first_differing f.octets (to_write at) q f.placed) in
    ap (verdict_from p 1 0) f.all ∙ agree_on f.before (f.line ∷ f.after) p 1 0 f.due ∙ other_at (entry_of f.line) at f.octets (1 + length f.before) _ f.sent f.other
    ∙ (λ i. Rejected (e i) (d i))

-- while stopped
no_place : (o : List ℕ) → differing o [] ≡ 0
unfolding differing
no_place [] = refl
no_place (x ∷ o) = refl

stopped_place : (p : Port) (o : List ℕ) → running p ≡ false → place_in p o ≡ 0
unfolding to_write
stopped_place p o e = rw e (no_place o)

-- ---- one of the two holds

data Decided (p : Port) (ls : List (List ℕ)) : Type 0 where
  all : AllDue p ls → Decided p ls
  one : (n q : ℕ) → FirstOther p ls n q → Decided p ls

here_other : (e : Entry) (l : List ℕ) (ls : List (List ℕ)) (p : Port) → entry_of l ≡ e → other e p ≡ true → Decided p (l ∷ ls)
unfolding other port_behind
here_other (Sent o) l ls p s h =
    one 1 (place_in p o)
    (record {
      before = [];
      line = l;
      after = ls;
      octets = o;
      all = refl;
      numbered = refl;
      due = no_lines p;
      sent = s;
      other = λ d. false≢true (by (is_due p o) (is_due_lem p o d) h);
      placed = differing_first o (to_write p);
      stopped = stopped_place p o;
    })
  where
    by : (b : Bool) → b ≡ true → not b ≡ true → false ≡ true
    by true e n = n
    by false e n = e
here_other (Given o) l ls p s h = absurd (false≢true h)
here_other (Changed x o) l ls p s h = absurd (false≢true h)
here_other Passed l ls p s h = absurd (false≢true h)

later_decided : (l : List ℕ) (ls : List (List ℕ)) (p : Port) → other (entry_of l) p ≡ false → Decided (port_after p (entry_of l)) ls → Decided p (l ∷ ls)
unfolding port_behind
later_decided l ls p n (all h) = all (all_cons l ls p n h)
later_decided l ls p n (one k q f) =
    one (suc k) q
    (record {
      before = l ∷ f.before;
      line = f.line;
      after = f.after;
      octets = f.octets;
      all = λ i. l ∷ f.all i;
      numbered = omega (arith, f.numbered);
      due = all_cons l f.before p n f.due;
      sent = f.sent;
      other = f.other;
      placed = f.placed;
      stopped = f.stopped;
    })

decided : (ls : List (List ℕ)) (p : Port) → Decided p ls
decided [] p = all (no_lines p)
decided (l ∷ ls) p = by (other (entry_of l) p) refl (decided ls (port_after p (entry_of l)))
  where
    by : (b : Bool) → other (entry_of l) p ≡ b → Decided (port_after p (entry_of l)) ls → Decided p (l ∷ ls)
    by true e d = here_other (entry_of l) l ls p refl e
    by false e d = later_decided l ls p e d

-- ---- the claim

is_accepted : Verdict → Bool
is_accepted (Accepted k) = true
is_accepted (Rejected n q) = false

line_in : Verdict → ℕ
line_in (Accepted k) = 0
line_in (Rejected n q) = n

place_of : Verdict → ℕ
place_of (Accepted k) = 0
place_of (Rejected n q) = q

pub exactly : (p : Port) (ls : List (List ℕ)) → Exactly p ls
unfolding is_accepted place_of line_in
exactly p ls = record { accepts = accepts_all p ls; accepted = λ k e. was_due k e (decided ls p); rejects = rejects_first p ls; rejected = λ n q e. was_first n q e (decided ls p) }
  where
    was_due : (k : ℕ) → verdict p ls ≡ Accepted k → Decided p ls → AllDue p ls
    was_due k e (all h) = h
    was_due k e (one n q f) = absurd (false≢true (ap is_accepted (sym (rejects_first p ls n q f) ∙ e)))

    was_first : (n q : ℕ) → verdict p ls ≡ Rejected n q → Decided p ls → FirstOther p ls n q
    was_first n q e (all h) = absurd (false≢true (sym (ap is_accepted (sym (accepts_all p ls h) ∙ e))))
    was_first n q e (one m r f) =
        let d : Rejected m r ≡ Rejected n q = sym (rejects_first p ls m r f) ∙ e in
        subst (λ (x : ℕ). FirstOther p ls x q) (ap line_in d) (subst (λ (x : ℕ). FirstOther p ls m x) (ap place_of d) f)
