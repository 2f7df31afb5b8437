-- Laws of the words of a line: the first word and the words behind it. Assumes nothing.
use Rattle.std.specs.Prelude.{ℕ, zero, suc, ◌+◌, ◌≤◌, ◌<◌, ◌≡◌, refl, Bool, true, false, List, [], ◌∷◌, ◌++◌, eqb, length, take, drop}
use Rattle.std.proofs.Common.{arith, add-one, sym, ap, ◌∙◌, append-nil, ne_eqb}
use Rattle.std.proofs.Math.Seq.{append_snoc}
use Rattle.octets.specs.Words.{◌is◌}
use Rattle.words.specs.Text.{ended, words_from, words, first, others}
use Rattle.words.specs.StepsLaws.{run, trimmed, first_word, rest}

-- a word that has begun goes on to the next space
begun : (w s : List ℕ) → words_from w s ≡ ended (w ++ take (run false s) s) (words (drop (run false s) s))
unfolding words_from ended run
begun w [] = rw append-nil refl
begun w (c ∷ s) = here (c is 32) refl (begun (w ++ (c ∷ [])) s)
  where
    here : (t : Bool) → c is 32 ≡ t → words_from (w ++ (c ∷ [])) s ≡ ended (w ++ (c ∷ []) ++ take (run false s) s) (words (drop (run false s) s))
        → words_from w (c ∷ s) ≡ ended (w ++ take (run false (c ∷ s)) (c ∷ s)) (words (drop (run false (c ∷ s)) (c ∷ s)))
    here true e h = simp (e, append-nil)
    here false e h = simp e (h ∙ rw append_snoc refl)

pub words_are : (s : List ℕ) → words s ≡ ended (first_word s) (words (rest s))
unfolding words_from ended run first_word rest
words_are [] = refl
words_are (c ∷ s) = here (c is 32) refl (words_are s)
  where
    here : (t : Bool) → c is 32 ≡ t → words s ≡ ended (first_word s) (words (rest s)) → words (c ∷ s) ≡ ended (first_word (c ∷ s)) (words (rest (c ∷ s)))
    here true e h = simp e h
    here false e h = simp e (begun (c ∷ []) s)

-- spaces in front do not count
pub words_trimmed : (s : List ℕ) → words (trimmed s) ≡ words s
unfolding words_from ended run
words_trimmed [] = refl
words_trimmed (c ∷ s) = here (c is 32) refl (words_trimmed s)
  where
    here : (t : Bool) → c is 32 ≡ t → words (trimmed s) ≡ words s → words (trimmed (c ∷ s)) ≡ words (c ∷ s)
    here true e h = simp e h
    here false e h = simp e

pub words_over : (s : List ℕ) → length (first_word s) ≡ 0 → words s ≡ []
unfolding words_from ended run first_word
words_over [] h = refl
words_over (c ∷ s) h = here (c is 32) refl (words_over s)
  where
    here : (t : Bool) → c is 32 ≡ t → (length (first_word s) ≡ 0 → words s ≡ []) → words (c ∷ s) ≡ []
    here true e k = simp e (k (simp e at h))
    here false e k = let z = simp e at h in absurd (omega arith)

pub words_more : (s : List ℕ) → (length (first_word s) ≡ 0 → ⊥) → words s ≡ first_word s ∷ words (rest s)
unfolding ended
words_more s h = begins (first_word s) (words_are s) h
  where
    begins : (w : List ℕ) → words s ≡ ended w (words (rest s)) → (length w ≡ 0 → ⊥) → words s ≡ w ∷ words (rest s)
    begins [] e n = absurd (n refl)
    begins (c ∷ w) e n = e

pub first_word_lem : (s : List ℕ) → first (words s) ≡ first_word s
unfolding ended first
first_word_lem s = begins (first_word s) (words_are s) (words_over s)
  where
    begins : (w : List ℕ) → words s ≡ ended w (words (rest s)) → (length w ≡ 0 → words s ≡ []) → first (words s) ≡ w
    begins [] e n = ap first (n refl)
    begins (c ∷ w) e n = ap first e

pub other_words : (s : List ℕ) → others (words s) ≡ words (rest s)
unfolding ended others
other_words s = begins (first_word s) (words_are s) (words_over s)
  where
    begins : (w : List ℕ) → words s ≡ ended w (words (rest s)) → (length w ≡ 0 → words s ≡ []) → others (words s) ≡ words (rest s)
    begins [] e n = ap others (n refl) ∙ sym (n refl) ∙ e
    begins (c ∷ w) e n = ap others e

-- no word is left exactly where the first has no octets
pub none_left : (s : List ℕ) {w : List ℕ} → w ≡ first_word s → eqb (length w) 0 ≡ eqb (length (words s)) 0
unfolding ended
none_left s {w} e = ap (λ (l : List ℕ). eqb (length l) 0) e ∙ begins (first_word s) (words_are s) (words_over s)
  where
    begins : (w : List ℕ) → words s ≡ ended w (words (rest s)) → (length w ≡ 0 → words s ≡ []) → eqb (length w) 0 ≡ eqb (length (words s)) 0
    begins [] e n = sym (ap (λ (l : List (List ℕ)). eqb (length l) 0) (n refl))
    begins (c ∷ w) e n = ne_eqb (length (c ∷ w)) 0 (omega arith) ∙ sym (ne_eqb (length (words s)) 0 (omega (arith, ap length e)))

-- ---- the word behind n others

pub record Passing (s left : List ℕ) (n i : ℕ) : Type 0 where
  pub within : i ≤ n
  pub same : words left ≡ drop i (words s)

pub passing_start : (s : List ℕ) (n : ℕ) → Passing s s n 0
passing_start s n = record { within = omega arith; same = refl }

others_drop : (i : ℕ) (ws : List (List ℕ)) → others (drop i ws) ≡ drop (suc i) ws
unfolding others
others_drop zero [] = refl
others_drop zero (w ∷ ws) = refl
others_drop (suc i) [] = refl
others_drop (suc i) (w ∷ ws) = others_drop i ws

module _ {s left : List ℕ} {n i : ℕ} where
  pub passing_more : {next : List ℕ} → Passing s left n i → i < n → next ≡ rest left → Passing s next n (i + 1)
  passing_more {next} r h e =
      record { within = omega arith; same = rw (e, add-one) (sym (other_words left) ∙ rw r.same (others_drop i (words s))) }

  pub passing_end : {w : List ℕ} → Passing s left n i → n ≤ i → w ≡ first_word left → w ≡ first (drop n (words s))
  passing_end {w} r h g = let e : n ≡ i = omega arith in g ∙ sym (first_word_lem left) ∙ rw (e, ← r.same)
