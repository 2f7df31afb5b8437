-- The verdict's line, put part by part. Assumes nothing.
use Rattle.std.specs.Prelude.{ℕ, ◌+◌, ◌≤◌, ◌≡◌, refl, List, [], ◌∷◌, ◌++◌, length}
use Rattle.std.proofs.Common.{arith}
use Rattle.std.proofs.lemmas.List.Edits.{sets}
use Rattle.std.proofs.Math.Seq.{length-sets}
use Rattle.octets.specs.Texts.{text}
use Rattle.numerals.specs.Numerals.{decimal}
use Rattle.numerals.specs.NumeralLaws.{Laid, laid_both}
use Rattle.ruling.specs.Ruling.{Accepted, Rejected, verdict_text}

-- a text that is put
put_laid : {out one : List ℕ} {place most : ℕ} (s : List ℕ) → length s ≤ most → one ≡ sets out place s → Laid out place s most (place + length s) one
put_laid {out} {one} {place} s h e = record { next = refl; few = h; long = rw e (length-sets out place s); octets = e }

pub accepted_laid : (out : List ℕ) (k : ℕ) {one after : List ℕ} {r : ℕ} → one ≡ sets out 0 (text "accepted ") → Laid one 9 (decimal k ++ (10 ∷ [])) 21 r after
    → Laid out 0 (verdict_text (Accepted k)) 30 r after
unfolding verdict_text
accepted_laid out k e l = laid_both (put_laid {most = 9} (text "accepted ") (omega arith) e) l

pub rejected_laid : (out : List ℕ) (n q : ℕ) {one two three after : List ℕ} {a r : ℕ} → one ≡ sets out 0 (text "rejected line ") → Laid one 14 (decimal n ++ (32 ∷ [])) 21 a two
    → three ≡ sets two a (text "place ") → Laid three (a + 6) (decimal q ++ (10 ∷ [])) 21 r after → Laid out 0 (verdict_text (Rejected n q)) 62 r after
unfolding verdict_text
rejected_laid out n q e l f m =
    laid_both (put_laid {most = 14} (text "rejected line ") (omega arith) e) (laid_both l (laid_both (put_laid {most = 6} (text "place ") (omega arith) f) m))
