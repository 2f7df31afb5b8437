-- Laws of what is due. Assumes nothing.
use Rattle.std.specs.Prelude.{ℕ, zero, suc, ◌+◌, ◌-◌, ◌*◌, ◌%◌, ◌≤◌, ◌<◌, ◌≡◌, List, [], ◌∷◌, ◌++◌, take, drop, replicate}
use native.Mathlib.Omega.{arith}
use Rattle.std.proofs.Math.Path.{refl, sym, ap}
use Rattle.std.proofs.Common.{◌∙◌, get_or-take, get_or-drop, get_or-append-add}
use Rattle.std.proofs.Math.ListN.{get_or, get_or-eq_default}
use Rattle.std.proofs.lemmas.List.{get_or-replicate}
use Rattle.grammar.specs.declared.Field.{Field}
use Rattle.grammar.specs.declared.Field.TheVariants.{Bit, Decimal, Hex2, Hex4, Selector, End}
use Rattle.grammar.specs.declared.Form.{Form}
use Rattle.grammar.specs.declared.Form.TheVariants.{Groups, Flow, Applications, Plain}
use Rattle.grammar.specs.Grammar.{switches, repeated, entry_fields, fields, due}

pub due_as : (f g : Form) (i : ℕ) {r : Field} → f ≡ g → r ≡ due g i → r ≡ due f i
due_as f g i e h = rw e h

-- ---- what is due

-- the same field at n places
at-run : (l : List Field) (x : Field) (from n i : ℕ) → take n (drop from l) ≡ replicate n x → from ≤ i → i < from + n → x ≡ get_or l i End
at-run l x from n i e h k =
    let z : from + (i - from) ≡ i = omega arith in
    sym (get_or-replicate n (i - from) x End (omega arith))
    ∙ ap (λ (m : List Field). get_or m (i - from) End) (sym e)
    ∙ get_or-take n (drop from l) (i - from) End (omega arith)
    ∙ get_or-drop from l (i - from) End
    ∙ ap (λ (j : ℕ). get_or l j End) z

-- one of three fields again and again
at_third : (n i : ℕ) (a b c : Field) → i < 3 * n → get_or (repeated n (a ∷ b ∷ c ∷ [])) i End ≡ get_or (a ∷ b ∷ c ∷ []) (i % 3) End
unfolding repeated
at_third zero i a b c h = absurd (omega arith)
at_third (suc n) zero a b c h = refl
at_third (suc n) (suc zero) a b c h = refl
at_third (suc n) (suc (suc zero)) a b c h = refl
at_third (suc n) (suc (suc (suc i))) a b c h =
    let e : i % 3 ≡ suc (suc (suc i)) % 3 = omega arith in
    at_third n i a b c (omega arith) ∙ ap (λ (k : ℕ). get_or (a ∷ b ∷ c ∷ []) k End) e

begun : (l : List Field) (i : ℕ) {r : Field} → take 6 l ≡ switches → i < 6 → r ≡ get_or switches i End → r ≡ get_or l i End
begun l i e h k = k ∙ ap (λ (m : List Field). get_or m i End) (sym e) ∙ get_or-take 6 l i End h

pub due_switch : (f : Form) (i : ℕ) {r : Field} → i < 6 → r ≡ get_or switches i End → r ≡ due f i
unfolding due fields switches repeated
due_switch Groups i h k = begun (fields Groups) i refl h k
due_switch Flow i h k = begun (fields Flow) i refl h k
due_switch Applications i h k = begun (fields Applications) i refl h k
due_switch Plain i h k = begun (fields Plain) i refl h k

pub due_bit : (i : ℕ) → i < 6 → (i ≡ 0 → ⊥) → (i ≡ 2 → ⊥) → (i ≡ 4 → ⊥) → Bit ≡ get_or switches i End
unfolding switches
due_bit zero h a b c = absurd (a refl)
due_bit (suc zero) h a b c = refl
due_bit (suc (suc zero)) h a b c = absurd (b refl)
due_bit (suc (suc (suc zero))) h a b c = refl
due_bit (suc (suc (suc (suc zero)))) h a b c = absurd (c refl)
due_bit (suc (suc (suc (suc (suc zero))))) h a b c = refl
due_bit (suc (suc (suc (suc (suc (suc i)))))) h a b c = absurd (omega arith)

module _ (i : ℕ) where
  pub due_group : 6 ≤ i → (i ≡ 6 → ⊥) → i < 15 → Decimal 15 ≡ due Groups i
  unfolding due fields switches
  due_group h n k = at-run (fields Groups) (Decimal 15) 7 8 i refl (omega arith) (omega arith)

  pub due_percentage : 15 ≤ i → (i ≡ 15 → ⊥) → i < 24 → Decimal 255 ≡ due Groups i
  unfolding due fields switches
  due_percentage h n k = at-run (fields Groups) (Decimal 255) 16 8 i refl (omega arith) (omega arith)

  pub due_behind : 26 ≤ i → End ≡ due Groups i
  unfolding due fields switches
  due_behind h = sym (get_or-eq_default (fields Groups) End {n = i} (omega arith))

  pub due_flow_behind : 6 ≤ i → (i ≡ 6 → ⊥) → (i ≡ 7 → ⊥) → (i ≡ 8 → ⊥) → (i ≡ 9 → ⊥) → End ≡ due Flow i
  unfolding due fields switches
  due_flow_behind h a b c d = sym (get_or-eq_default (fields Flow) End {n = i} (omega arith))

  due_entry : (k : ℕ) → 6 ≤ i → i < 57 → i % 3 ≡ k → get_or entry_fields k End ≡ due Applications i
  unfolding due fields switches
  due_entry k h l e =
      let z : 6 + (i - 6) ≡ i = omega arith in
      let m : k ≡ (i - 6) % 3 = omega arith in
      ap (λ (j : ℕ). get_or entry_fields j End) m
      ∙ sym (at_third 17 (i - 6) Selector Hex4 Hex2 (omega arith))
      ∙ sym (get_or-append-add switches (repeated 17 entry_fields) (i - 6) End)
      ∙ ap (λ (j : ℕ). get_or (switches ++ repeated 17 entry_fields) j End) z

  pub due_selector : 6 ≤ i → i < 57 → i % 3 ≡ 0 → Selector ≡ due Applications i
  due_selector h k l = due_entry 0 h k l

  pub due_id : 6 ≤ i → i < 57 → i % 3 ≡ 1 → Hex4 ≡ due Applications i
  due_id h k l = due_entry 1 h k l

  pub due_map : 6 ≤ i → i < 57 → (i % 3 ≡ 0 → ⊥) → (i % 3 ≡ 1 → ⊥) → Hex2 ≡ due Applications i
  due_map h k l m = due_entry 2 h k (omega arith)

  pub due_entries_behind : 57 ≤ i → End ≡ due Applications i
  unfolding due fields switches repeated
  due_entries_behind h = sym (get_or-eq_default (fields Applications) End {n = i} h)

  pub due_plain_behind : 6 ≤ i → (i ≡ 6 → ⊥) → (i ≡ 7 → ⊥) → End ≡ due Plain i
  unfolding due fields switches
  due_plain_behind h a b = sym (get_or-eq_default (fields Plain) End {n = i} (omega arith))

-- every form has ended at place 57
pub due_last : (f : Form) (i : ℕ) → 57 ≤ i → due f i ≡ End
unfolding due fields switches repeated
due_last Groups i h = get_or-eq_default (fields Groups) End {n = i} (omega arith)
due_last Flow i h = get_or-eq_default (fields Flow) End {n = i} (omega arith)
due_last Applications i h = get_or-eq_default (fields Applications) End {n = i} h
due_last Plain i h = get_or-eq_default (fields Plain) End {n = i} (omega arith)
