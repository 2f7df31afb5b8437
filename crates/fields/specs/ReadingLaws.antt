-- Laws of the walk over a setting's words. Assumes nothing.
use Rattle.std.specs.Prelude.{ℕ, ◌+◌, ◌≤◌, ◌<◌, ◌≡◌, refl, Bool, true, false, ltb, set, replicate, Option, Some, None, Result, MatchResult}
use Rattle.std.proofs.Common.{arith, sym, ap, ◌∙◌, ltb-true, ltb-false}
use mathlib.Core.List.{List, [], ◌∷◌}
use Rattle.std.proofs.Math.ListN.{length}
use Rattle.grammar.specs.declared.Field.{Field}
use Rattle.grammar.specs.declared.Field.TheVariants.{End}
use Rattle.grammar.specs.declared.Form.{Form}
use Rattle.fields.specs.declared.Undue.{Undue}
use Rattle.fields.specs.declared.Values.{Values}
use Rattle.words.specs.Text.{words}
use Rattle.grammar.specs.Grammar.{due, may_end}
use Rattle.fields.specs.Fields.{field_number, values, undue, ended, onward, values_from, values_of}
use Rattle.words.specs.StepsLaws.{first_word, rest}
use Rattle.grammar.specs.GrammarLaws.{due_last}
use Rattle.words.specs.WordsLaws.{words_over, words_more}

-- a word that is what is due stands before place 57
inside : (f : Form) (i : ℕ) (w : List ℕ) {n : ℕ} → field_number (due f i) w ≡ Some n → i < 57
unfolding field_number
inside f i w {n} y = here (ltb i 57) refl
  where
    here : (b : Bool) → ltb i 57 ≡ b → i < 57
    here true e = ltb-true i 57 e
    here false e =
        let z : due f i ≡ End = due_last f i (ltb-false i 57 e) in
        let o : field_number (due f i) w ≡ None = rw z in
        let q : ◌≡◌ {A = ℕ} 0 1 = cc in
        absurd (omega arith)

-- the first i words are what is due, and the rest decides
pub record Reading (f : Form) (s numbers : List ℕ) (i : ℕ) (left : List ℕ) : Type 0 where
  pub within : i ≤ 57
  pub same : values_from f i numbers (words left) ≡ values_of f (words s)

pub reading_start : (f : Form) (s : List ℕ) → Reading f s (replicate 58 0) 0 s
unfolding values_of
reading_start f s = record { within = omega arith; same = refl }

module _ {f : Form} {s numbers : List ℕ} {i : ℕ} {left w : List ℕ} {d : Field} where
  pub reading_more : {x : Option ℕ} {n : ℕ} {next : List ℕ} → Reading f s numbers i left → d ≡ due f i → w ≡ first_word left → (length w ≡ 0 → ⊥)
      → x ≡ field_number d w → x ≡ Some n → next ≡ rest left → Reading f s (set numbers i n) (i + 1) next
  unfolding values_from onward
  reading_more {x} {n} {next} r g e k t u m =
      let ws : words left ≡ w ∷ words next = rw (e, m) (words_more left (λ z. k (ap length e ∙ z))) in
      let y : field_number (due f i) w ≡ Some n = rw (← g) (sym t ∙ u) in
      record { within = omega (arith, inside f i w y); same = rw (ws, y) at r.same }

  pub reading_not : {x : Option ℕ} → Reading f s numbers i left → d ≡ due f i → w ≡ first_word left → (length w ≡ 0 → ⊥)
      → x ≡ field_number d w → x ≡ None → undue (values i numbers) d ≡ values_of f (words s)
  unfolding values_from onward
  reading_not {x} r g e k t u =
      let ws : words left ≡ w ∷ words (rest left) = rw e (words_more left (λ z. k (ap length e ∙ z))) in
      let y : field_number (due f i) w ≡ None = rw (← g) (sym t ∙ u) in
      rw g (rw (ws, y) at r.same)

  pub reading_end : {y : Result Values Undue} → Reading f s numbers i left → d ≡ due f i → w ≡ first_word left → length w ≡ 0
      → y ≡ ended (may_end d) (values i numbers) d → y ≡ values_of f (words s)
  unfolding values_from
  reading_end {y} r g e k h =
      let ws : words left ≡ [] = words_over left (ap length (sym e) ∙ k) in
      h ∙ rw g (rw ws at r.same)

-- a line's words are read up to a place that is not past 57
pub ended_within : (b : Bool) (v : Values) (d : Field) → v.place ≤ 57 → MatchResult (ended b v d) (λ v. v.place ≤ 57) (λ u. u.read.place ≤ 57)
unfolding ended
ended_within true v d h = h
ended_within false v d h = h
