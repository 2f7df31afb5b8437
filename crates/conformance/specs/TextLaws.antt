-- The verdict's line: a law for each way out. Assumes nothing.
use Rattle.std.specs.Prelude.{ℕ, ◌+◌, ◌≤◌, ◌<◌, ◌≡◌, Some, None, List, ◌++◌}
use Rattle.std.proofs.Common.{arith, ◌∙◌, lt-ltb, le-ltb}
use Rattle.std.proofs.Math.Nat.{zero-add}
use Rattle.std.proofs.Math.Path.{refl, ap}
use Rattle.std.proofs.Math.ListN.{length, drop}
use Rattle.std.proofs.Math.Seq.{sets-eq}
use Rattle.numerals.specs.Numerals.{more}
use Rattle.numerals.specs.NumeralLaws.{Laid}
use Rattle.judgement.specs.declared.Judged.{Judged}
use Rattle.ruling.specs.Ruling.{Verdict, Accepted, Rejected, verdict_text}
use Rattle.judgement.specs.declared.Rejected as judged
use Rattle.conformance.specs.Steps.{verdict_by, verdict_of}
use Rattle.conformance.specs.Text.{said_length, said_output, Says}

module _ (t : Judged) (out : List ℕ) where
  pub said_short : length out < 64 → Says t out 0 out
  unfolding said_length said_output
  said_short h = record { answers = rw (lt-ltb (length out) 64 h) refl; octets = rw (lt-ltb (length out) 64 h) refl }

  said : (v : Verdict) → v ≡ verdict_of t → {most r : ℕ} {after : List ℕ} → most ≤ 64 → 64 ≤ length out → Laid out 0 (verdict_text v) most r after → Says t out r after
  unfolding said_length said_output
  said v e m h l =
      let z : 0 + length (verdict_text v) ≡ length (verdict_text v) = zero-add (length (verdict_text v)) in
      record {
        answers = rw (le-ltb (length out) 64 h, ← e) (l.next ∙ z);
        octets = rw (le-ltb (length out) 64 h, ← e) (l.octets ∙ sets-eq (verdict_text v) out 0 (omega (arith, l.few)) ∙ ap (λ (k : ℕ). verdict_text v ++ drop k out) z);
      }

  pub said_accepted : t.rejected ≡ None → {r : ℕ} {after : List ℕ} → 64 ≤ length out → Laid out 0 (verdict_text (Accepted t.course.sent)) 30 r after → Says t out r after
  unfolding verdict_by
  said_accepted e h l = said (Accepted t.course.sent) (rw e refl) (omega arith) h l

  pub said_rejected : {x : judged.Rejected} → t.rejected ≡ Some x → {n r : ℕ} {after : List ℕ} → 64 ≤ length out → n ≡ more t.course.lines → Laid out 0 (verdict_text (Rejected n x.place)) 62 r after → Says t out r after
  unfolding verdict_by
  said_rejected {x} e {n} h en l = said (Rejected n x.place) (rw (e, en) refl) (omega arith) h l
