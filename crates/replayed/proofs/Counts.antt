-- Counters over the lines of a capture come to the counts over its run, none above its highest. Assumes nothing.
use Prim.Native.Nat.{ℕ, ◌+◌}
use native.Mathlib.Omega.{arith}
use native.Mathlib.Nat.{add-zero, zero-add}
use mathlib.Core.Path.{◌≡◌, refl, sym, ap, ◌∙◌}
use mathlib.Core.Bool.{Bool, true, false, not, ◌&&◌, ◌||◌}
use mathlib.Core.List.{List, [], ◌∷◌, ◌++◌, map, append_assoc}
use mathlib.Core.Option.{Option, none, some}
use Rattle.std.specs.Prelude.{if◌then◌else◌}
use Rattle.octets.specs.Words.{◌is◌}
use Rattle.parameters.specs.declared.Feature.{Feature}
use Rattle.parameters.specs.declared.Feature.TheVariants.{Groups, Flow, Applications}
use Rattle.feature.specs.declared.Reason.{Reason}
use Rattle.feature.specs.Reasons.{reason_number}
use Rattle.port.specs.declared.Port.{Port}
use Rattle.port.specs.Parts.{feature_of}
use Rattle.port.specs.Replies.{bit}
use Rattle.port.specs.Settled.{settled}
use Rattle.handling.specs.Handling.{handled}
use Rattle.capture.specs.declared.Form.{Form}
use Rattle.capture.specs.declared.Form.TheVariants.{FromA, FromB, Other}
use Rattle.capture.specs.Capture.{form_of, frame_of}
use Rattle.capture.specs.Feeding.{in_turn}
use Rattle.counters.specs.Counters.{Changes}
use Rattle.counting.specs.declared.Tally.{Tally}
use Rattle.replayed.specs.Replay.{End, A, B, Ends, port_of, Step, step_as, step, run, count, is_from, is_frame, sent_by, framed, of_other_form, refused_with, reason_at, has_reason, became, both_settled, first_settled}
use Rattle.numerals.specs.Numerals.{capped}
use Rattle.counters.specs.Counters.{changed, further, rests}
use Rattle.replayed.specs.Report.{reasons, settled_line, report_of, report_on}
use Rattle.counting.specs.Steps.{at_a, at_b, passed_by, line_as, with_line}
use Rattle.tally.specs.Steps.{row, begun, changes_text, settled_text, tally_text}
use Rattle.replayed.proofs.Rows.{tick, refusals, refusal_row, and_not, reason_row_lem}

-- ---- what was counted, in plain numbers

pub record Plain : Type 0 where
  pub from : End → ℕ
  pub others : ℕ
  pub refused : ℕ → ℕ
  pub became : End → Feature → Reason → ℕ
  pub settled : Bool
  pub frames : ℕ

changes_of : Plain → End → Changes
changes_of c x =
    record {
      groups = map (λ r. capped (c.became x Groups r)) reasons;
      flow = map (λ r. capped (c.became x Flow r)) reasons;
      applications = map (λ r. capped (c.became x Applications r)) reasons;
    }

-- as the counters hold it
tally_of : Ends → Plain → Tally
tally_of e c =
    record {
      a = e.a;
      b = e.b;
      from_a = capped (c.from A);
      from_b = capped (c.from B);
      others = capped c.others;
      refusals = map (λ k. capped (c.refused k)) refusals;
      of_a = changes_of c A;
      of_b = changes_of c B;
      settled = c.settled;
      frames = capped c.frames;
    }

-- a step more
adds : Plain → Step → Plain
adds c s =
    record {
      from = λ x. c.from x + bit (sent_by x s);
      others = c.others + bit (of_other_form s);
      refused = λ n. c.refused n + bit (refused_with n s);
      became = λ x f r. c.became x f r + bit (became x f r s);
      settled = c.settled || both_settled s.after;
      frames = if c.settled then c.frames else c.frames + bit (framed s);
    }

-- settled is known of the ends as they are
Known : Ends → Plain → Type 0
Known e c = (c.settled || both_settled e) ≡ c.settled

or_again : (a b : Bool) → ((a || b) || b) ≡ (a || b)
or_again true b = refl
or_again false true = refl
or_again false false = refl

known_on : (c : Plain) (s : Step) → Known s.after (adds c s)
unfolding Known adds
known_on c s = or_again c.settled (both_settled s.after)

-- ---- a line

-- a count that stays
stays : (n : ℕ) → capped n ≡ capped (n + 0)
stays n = tick false n

-- the reasons of an end at which nothing changes
same_row : (g : Reason → ℕ) (t u : Reason → Bool) → ((r : Reason) → u r ≡ t r) → map (λ r. capped (g r)) reasons ≡ map (λ r. capped (g r + bit (u r && not (t r)))) reasons
same_row g t u q =
    let e : (r : Reason) → capped (g r) ≡ capped (g r + bit (u r && not (t r))) = (λ r. stays (g r) ∙ rw (q r, and_not (t r)) refl) in
    (λ i. map (λ r. e r i) reasons)

further_plain : (b : Bool) (n : ℕ) → further b (capped n) ≡ capped (if b then n else n + 1)
unfolding further
further_plain true n = refl
further_plain false n = tick true n

waits_plain : (b : Bool) (n : ℕ) → capped n ≡ capped (if b then n else n + 0)
waits_plain true n = refl
waits_plain false n = stays n

rests_plain : (b : Bool) (p q : Port) → rests b p q ≡ (b || settled p && settled q)
unfolding rests
rests_plain true p q = refl
rests_plain false p q = refl

changes_stay : (c : Plain) (x : End) (s : Step) → port_of s.after x ≡ port_of s.before x → changes_of c x ≡ changes_of (adds c s) x
unfolding changes_of adds
changes_stay c x s e =
    let q : (f : Feature) (r : Reason) → has_reason s.after x f r ≡ has_reason s.before x f r =
    (λ f r. ap (λ (p : Port). reason_number (feature_of p f).outcome.reason is reason_number r) e) in
    λ i. record {
      groups = same_row (c.became x Groups) (has_reason s.before x Groups) (has_reason s.after x Groups) (q Groups) i;
      flow = same_row (c.became x Flow) (has_reason s.before x Flow) (has_reason s.after x Flow) (q Flow) i;
      applications = same_row (c.became x Applications) (has_reason s.before x Applications) (has_reason s.after x Applications) (q Applications) i;
    }

changes_move : (c : Plain) (x : End) (s : Step) → changed (changes_of c x) (port_of s.before x) (port_of s.after x) ≡ changes_of (adds c s) x
unfolding changed changes_of adds
changes_move c x s =
    λ i. record {
      groups = reason_row_lem (reason_at s.before x Groups) (reason_at s.after x Groups) (c.became x Groups) i;
      flow = reason_row_lem (reason_at s.before x Flow) (reason_at s.after x Flow) (c.became x Flow) i;
      applications = reason_row_lem (reason_at s.before x Applications) (reason_at s.after x Applications) (c.became x Applications) i;
    }

none_row : (g : ℕ → ℕ) → map (λ n. capped (g n)) refusals ≡ map (λ n. capped (g n + bit (0 is n))) refusals
none_row g = λ i. stays (g 1) i ∷ stays (g 2) i ∷ stays (g 3) i ∷ stays (g 4) i ∷ stays (g 5) i ∷ stays (g 6) i ∷ stays (g 7) i ∷ stays (g 8) i ∷ []

line_as_lem : (f : Form) (o : List ℕ) (e : Ends) (c : Plain) → Known e c → line_as f o (tally_of e c) ≡ tally_of (step_as f o e).after (adds c (step_as f o e))
unfolding line_as step_as tally_of adds at_a at_b passed_by is_from is_frame Known
line_as_lem FromA o e c k =
    let s : Step = step_as FromA o e in
    λ i. record {
      a = e.a;
      b = (handled e.b o).port;
      from_a = tick true (c.from A) i;
      from_b = stays (c.from B) i;
      others = stays c.others i;
      refusals = refusal_row (handled e.b o).answer c.refused i;
      of_a = changes_stay c A s refl i;
      of_b = changes_move c B s i;
      settled = rests_plain c.settled e.a (handled e.b o).port i;
      frames = further_plain c.settled c.frames i;
    }
line_as_lem FromB o e c k =
    let s : Step = step_as FromB o e in
    λ i. record {
      a = (handled e.a o).port;
      b = e.b;
      from_a = stays (c.from A) i;
      from_b = tick true (c.from B) i;
      others = stays c.others i;
      refusals = refusal_row (handled e.a o).answer c.refused i;
      of_a = changes_move c A s i;
      of_b = changes_stay c B s refl i;
      settled = rests_plain c.settled (handled e.a o).port e.b i;
      frames = further_plain c.settled c.frames i;
    }
line_as_lem Other o e c k =
    let s : Step = step_as Other o e in
    λ i. record {
      a = e.a;
      b = e.b;
      from_a = stays (c.from A) i;
      from_b = stays (c.from B) i;
      others = tick true c.others i;
      refusals = none_row c.refused i;
      of_a = changes_stay c A s refl i;
      of_b = changes_stay c B s refl i;
      settled = sym k i;
      frames = waits_plain c.settled c.frames i;
    }

-- ---- all lines

after : Ends → List (List ℕ) → Ends
after e [] = e
after e (l ∷ ls) = after (step e l).after ls

adds_all : Plain → List Step → Plain
adds_all c [] = c
adds_all c (s ∷ ss) = adds_all (adds c s) ss

all_lines : (ls : List (List ℕ)) (e : Ends) (c : Plain) → Known e c → in_turn with_line (tally_of e c) ls ≡ tally_of (after e ls) (adds_all c (run e ls))
unfolding in_turn after adds_all run
all_lines [] e c k = refl
all_lines (l ∷ ls) e c k =
    ap (λ (t : Tally). in_turn with_line t ls) (line_as_lem (form_of l) (frame_of l) e c k)
    ∙ all_lines ls (step e l).after (adds c (step e l)) (known_on c (step e l))

-- ---- the counts

module _ (test : Step → Bool) where
  -- what a step adds to one of the numbers
  count_on : (n : ℕ) (s : Step) (ss : List Step) → n + bit (test s) + count test ss ≡ n + count test (s ∷ ss)
  unfolding count
  count_on n s ss = omega arith

  count_none : (n : ℕ) → n ≡ n + count test []
  unfolding count
  count_none n = sym (add-zero n)

from_all : (ss : List Step) (c : Plain) (x : End) → (adds_all c ss).from x ≡ c.from x + count (sent_by x) ss
unfolding adds_all adds
from_all [] c x = count_none (sent_by x) (c.from x)
from_all (s ∷ ss) c x = from_all ss (adds c s) x ∙ count_on (sent_by x) (c.from x) s ss

others_all : (ss : List Step) (c : Plain) → (adds_all c ss).others ≡ c.others + count of_other_form ss
unfolding adds_all adds
others_all [] c = count_none of_other_form c.others
others_all (s ∷ ss) c = others_all ss (adds c s) ∙ count_on of_other_form c.others s ss

refused_all : (ss : List Step) (c : Plain) (n : ℕ) → (adds_all c ss).refused n ≡ c.refused n + count (refused_with n) ss
unfolding adds_all adds
refused_all [] c n = count_none (refused_with n) (c.refused n)
refused_all (s ∷ ss) c n = refused_all ss (adds c s) n ∙ count_on (refused_with n) (c.refused n) s ss

became_all : (ss : List Step) (c : Plain) (x : End) (f : Feature) (r : Reason) → (adds_all c ss).became x f r ≡ c.became x f r + count (became x f r) ss
unfolding adds_all adds
became_all [] c x f r = count_none (became x f r) (c.became x f r)
became_all (s ∷ ss) c x f r = became_all ss (adds c s) x f r ∙ count_on (became x f r) (c.became x f r) s ss

-- ---- the first moment when both ends are settled

moment : Bool → ℕ → Option ℕ
moment true n = some n
moment false n = none

settled_now : (n : ℕ) (e : Ends) (ss : List Step) → both_settled e ≡ true → first_settled n e ss ≡ some n
unfolding first_settled
settled_now n e [] h = rw h refl
settled_now n e (s ∷ ss) h = rw h refl

settled_step : (b d a : Bool) (n m : ℕ) (e : Ends) (ss : List Step) → (b || d) ≡ b → both_settled e ≡ a
    → (if b || a then some (if b then n else n + m) else first_settled (if b then n else n + m) e ss) ≡ (if b then some n else if d then some n else first_settled (n + m) e ss)
settled_step true d a n m e ss k h = refl
settled_step false true a n m e ss k h = let z : ◌≡◌ {A = ℕ} 0 1 = cc in absurd (omega arith)
settled_step false false true n m e ss k h = sym (settled_now (n + m) e ss h)
settled_step false false false n m e ss k h = refl

settled_end : (b d : Bool) (n : ℕ) → (b || d) ≡ b → moment b n ≡ (if b then some n else if d then some n else none)
unfolding moment
settled_end true d n k = refl
settled_end false true n k = let z : ◌≡◌ {A = ℕ} 0 1 = cc in absurd (omega arith)
settled_end false false n k = refl

-- settled before, or at the ends as they are, or later
settled_all : (ss : List Step) (c : Plain) (e : Ends) → Known e c
    → moment (adds_all c ss).settled (adds_all c ss).frames ≡ (if c.settled then some c.frames else first_settled c.frames e ss)
unfolding adds_all adds first_settled Known
settled_all [] c e k = settled_end c.settled (both_settled e) c.frames k
settled_all (s ∷ ss) c e k =
    settled_all ss (adds c s) s.after (known_on c s) ∙ settled_step c.settled (both_settled e) (both_settled s.after) c.frames (bit (framed s)) s.after ss k refl

-- ---- from the start

-- nothing is counted yet
nothing : Ends → Plain
nothing e = record { from = λ x. 0; others = 0; refused = λ n. 0; became = λ x f r. 0; settled = both_settled e; frames = 0 }

or_twice : (b : Bool) → (b || b) ≡ b
or_twice true = refl
or_twice false = refl

counts_all : (e : Ends) (ls : List (List ℕ)) → in_turn with_line (begun e.a e.b) ls ≡ tally_of (after e ls) (adds_all (nothing e) (run e ls))
unfolding begun tally_of nothing changes_of Known
counts_all e ls = all_lines ls e (nothing e) (or_twice (both_settled e))

-- the text of what is counted
last_text : (b : Bool) (n : ℕ) → settled_text b (capped n) ≡ settled_line (moment b n)
unfolding settled_text settled_line moment
last_text true n = refl
last_text false n = refl

flat : (l r g w a g' w' a' z : List ℕ) → l ++ (r ++ ((g ++ (w ++ a)) ++ ((g' ++ (w' ++ a')) ++ z))) ≡ l ++ (r ++ (g ++ (w ++ (a ++ (g' ++ (w' ++ (a' ++ z)))))))
flat l r g w a g' w' a' z = simp append_assoc

module _ (e : Ends) (ss : List Step) where
  all : Plain
  all = adds_all (nothing e) ss

  from_is : (x : End) → all.from x ≡ count (sent_by x) ss
  unfolding all nothing
  from_is x = from_all ss (nothing e) x ∙ zero-add (count (sent_by x) ss)

  others_is : all.others ≡ count of_other_form ss
  unfolding all nothing
  others_is = others_all ss (nothing e) ∙ zero-add (count of_other_form ss)

  refused_is : (n : ℕ) → all.refused n ≡ count (refused_with n) ss
  unfolding all nothing
  refused_is n = refused_all ss (nothing e) n ∙ zero-add (count (refused_with n) ss)

  became_is : (x : End) (f : Feature) (r : Reason) → all.became x f r ≡ count (became x f r) ss
  unfolding all nothing
  became_is x f r = became_all ss (nothing e) x f r ∙ zero-add (count (became x f r) ss)

  settled_is : moment all.settled all.frames ≡ first_settled 0 e ss
  unfolding all nothing Known
  settled_is = settled_all ss (nothing e) e (or_twice (both_settled e)) ∙ here (both_settled e) refl
    where
      here : (b : Bool) → both_settled e ≡ b → (if b then some 0 else first_settled 0 e ss) ≡ first_settled 0 e ss
      here true h = sym (settled_now 0 e ss h)
      here false h = refl

  abbrev reason_row : End → Feature → List ℕ
  reason_row x f = row (map (λ r. capped (all.became x f r)) reasons)

  reasons_is : (x : End) (f : Feature) → reason_row x f ≡ row (map (λ r. capped (count (became x f r) ss)) reasons)
  reasons_is x f = λ i. row (map (λ r. capped (became_is x f r i)) reasons)

  text_all : (x : Ends) → tally_text (tally_of x all) ≡ report_of e ss
  unfolding tally_text changes_text tally_of changes_of report_of
  text_all x =
      flat
      (row (capped (all.from A) ∷ capped (all.from B) ∷ capped all.others ∷ []))
      (row (map (λ n. capped (all.refused n)) refusals))
      (reason_row A Groups)
      (reason_row A Flow)
      (reason_row A Applications)
      (reason_row B Groups)
      (reason_row B Flow)
      (reason_row B Applications)
      (settled_text all.settled (capped all.frames))
      ∙ (λ i. row (capped (from_is A i) ∷ capped (from_is B i) ∷ capped (others_is i) ∷ [])
      ++ (row (map (λ n. capped (refused_is n i)) refusals)
      ++ (reasons_is A Groups i
      ++ (reasons_is A Flow i
      ++ (reasons_is A Applications i
      ++ (reasons_is B Groups i ++ (reasons_is B Flow i ++ (reasons_is B Applications i ++ (last_text all.settled all.frames ∙ ap settled_line settled_is) i))))))))

pub counted_text : (e : Ends) (ls : List (List ℕ)) → tally_text (in_turn with_line (begun e.a e.b) ls) ≡ report_on e ls
unfolding all
counted_text e ls = ap tally_text (counts_all e ls) ∙ text_all e (run e ls) (after e ls)
