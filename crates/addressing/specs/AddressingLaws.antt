-- Laws of the port in front of a line. Assumes nothing.
use Rattle.std.specs.Prelude.{ℕ, ◌≤◌, ◌≡◌, List, length, Option, Some}
use Rattle.std.proofs.Common.{sym, ◌∙◌}
use borrow.Author.Tests.{le-ltb}
use Rattle.words.specs.Text.{words, others, number}
use Rattle.addressing.specs.Addressing.{port_number, behind_port}
use Rattle.words.specs.StepsLaws.{first_word, rest}
use Rattle.words.specs.WordsLaws.{words_trimmed, first_word_lem, other_words}

-- ---- the port in front

pub port_found : (s : List ℕ) {w : List ℕ} {x : Option ℕ} → w ≡ first_word s → x ≡ number 255 w → x ≡ port_number s
port_found s g e = e ∙ rw (g, first_word_lem s)

-- the words behind the port are the other words of the line
pub words_behind_lem : (n : ℕ) (s : List ℕ) → length s ≤ 1100 → words (behind_port (Some n) s) ≡ others (words s)
unfolding behind_port
words_behind_lem n s l = simp (le-ltb 1100 (length s) l) (words_trimmed (rest s) ∙ sym (other_words s))
