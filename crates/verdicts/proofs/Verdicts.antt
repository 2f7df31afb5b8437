-- The claim of E12, whole: of any port, and of any input wherever it is cut into reads. Assumes nothing.
use Prim.Native.Nat.{ℕ, suc}
use mathlib.Core.Path.{◌≡◌, refl, sym, ap, ◌∙◌}
use mathlib.Core.List.{List, [], ◌∷◌, ◌++◌}
use lib.ListN.{length, drop}
use borrow.Author.Tests.{le-ltb}
use Rattle.port.specs.declared.Port.{Port}
use Rattle.port.specs.Writing.{to_write}
use Rattle.words.specs.Text.{held}
use Rattle.words.specs.TextLaws.{pending_held}
use Rattle.capture.specs.Capture.{lines}
use Rattle.capture.specs.Feeding.{in_turn, joined, held_fed}
use Rattle.capture.specs.FeedingLaws.{fed_all, finished_all}
use Rattle.judgement.specs.declared.Course.{Course}
use Rattle.judgement.specs.declared.Judged.{Judged}
use Rattle.comparison.specs.Comparison.{place_in}
use Rattle.judgement.specs.Entries.{Sent, entry_of, octets_in, port_after}
use Rattle.judgement.specs.Courses.{begun, course_on}
use Rattle.ruling.specs.Ruling.{Verdict, verdict_text}
use Rattle.conformance.specs.Conformance.{verdict, port_behind, other, course_from}
use Rattle.judgement.specs.Steps.{rejected_with, with_line, unjudged}
use Rattle.conformance.specs.Steps.{judging_of, fed, finished, started, verdict_of}
use Rattle.judgement.specs.Clips.{with_clipped}
use Rattle.conformance.specs.Text.{said_output}
use Rattle.verdicts.specs.Verdicts.{Due, AllDue, FirstOther, capped_verdict, judged_on, Keeps, Judges}
use Rattle.verdicts.proofs.Walk.{state_of, walked, walk, walked_port, walked_course, walked_verdict}
use Rattle.verdicts.proofs.Exact.{first_due, first_differing, later, not_due_lem, exactly}
use Rattle.verdicts.proofs.Answers.{tells}
use Rattle.verdicts.proofs.Own.{own_made}

module _ (p : Port) (reads : List (List ℕ)) where
  lines_are : judged_on p reads ≡ in_turn with_line (unjudged p) (lines (joined reads))
  unfolding started held_fed
  lines_are =
      ap finished (fed_all with_line with_clipped judging_of fed (λ t h s. refl) reads (unjudged p) [])
      ∙ finished_all with_line with_clipped judging_of finished (λ t h. refl) (joined reads) (unjudged p) []

  judged_is : judged_on p reads ≡ walked p begun (lines (joined reads))
  unfolding unjudged
  judged_is = lines_are ∙ walk (lines (joined reads)) p begun

-- ---- the frame that is kept

agree_on : (before rest : List (List ℕ)) (p : Port) (c : Course) → AllDue p before → walked p c (before ++ rest) ≡ walked (port_behind p before) (course_from p c before) rest
unfolding walked port_behind course_from
agree_on [] rest p c h = refl
agree_on (l ∷ ls) rest p c h = rw (first_due l ls p h) (agree_on ls rest (port_after p (entry_of l)) (course_on suc p (entry_of l) c) (later l ls p h))

kept_here : (l : List ℕ) (ls : List (List ℕ)) (p : Port) (c : Course) (o : List ℕ) → entry_of l ≡ Sent o → (Due p o → ⊥) → walked p c (l ∷ ls) ≡ rejected_with (state_of p c) (place_in p o) o
unfolding walked other octets_in
kept_here l ls p c o s h = rw (s, not_due_lem p o h) refl

read_back : (t : Judged) (q : ℕ) (o : List ℕ) → Keeps (rejected_with t q o) q o
unfolding rejected_with
read_back t q o = record { frame = held 513 o; rejected = refl; octets = pending_held 513 o }

same_keeps : {t u : Judged} {q : ℕ} {o : List ℕ} → t ≡ u → Keeps u q o → Keeps t q o
same_keeps e k = record { frame = k.frame; rejected = ap (λ (x : Judged). x.rejected) e ∙ k.rejected; octets = k.octets }

kept_is : (p : Port) (ls : List (List ℕ)) (n q : ℕ) (f : FirstOther p ls n q) → Keeps (walked p begun ls) q f.octets
kept_is p ls n q f =
    let at : Port = port_behind p f.before in
    let c : Course = course_from p begun f.before in
    let e : walked p begun ls ≡ rejected_with (state_of at c) (place_in at f.octets) f.octets =
    ap (walked p begun) f.all ∙ agree_on f.before (f.line ∷ f.after) p begun f.due ∙ kept_here f.line f.after at c f.octets f.sent f.other in
    let g : q ≡ place_in at f.octets = first_differing f.octets (to_write at) q f.placed in
    same_keeps e (rw g (read_back (state_of at c) (place_in at f.octets) f.octets))

-- ---- the claim

says_is : (p : Port) (reads : List (List ℕ)) → verdict_of (judged_on p reads) ≡ capped_verdict (verdict p (lines (joined reads)))
says_is p reads = ap verdict_of (judged_is p reads) ∙ walked_verdict (lines (joined reads)) p begun

pub judges : Judges
unfolding said_output
judges =
    record {
      says = says_is;
      text = λ p reads out h. rw (le-ltb (length out) 64 h) (ap (λ (v : Verdict). verdict_text v ++ drop (length (verdict_text v)) out) (says_is p reads));
      port = λ p reads. ap (λ (t : Judged). t.port) (judged_is p reads) ∙ walked_port (lines (joined reads)) p begun;
      course = λ p reads. ap (λ (t : Judged). t.course) (judged_is p reads) ∙ walked_course (lines (joined reads)) p begun;
      answers = tells;
      kept = λ p reads n q f. same_keeps (judged_is p reads) (kept_is p (lines (joined reads)) n q f);
      cuts = λ p reads others e. judged_is p reads ∙ ap (λ (s : List ℕ). walked p begun (lines s)) e ∙ sym (judged_is p others);
      exactly = exactly;
      own = own_made;
    }
