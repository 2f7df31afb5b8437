-- There is a fault exactly where a local setting is invalid, and 9 is given. Assumes nothing.
use Rattle.std.specs.Prelude.{ℕ, ◌%◌, ◌≤◌, ◌<◌, ◌≡◌, refl, Bool, true, false, not, ◌&&◌, List, [], ◌∷◌, length, take, if◌then◌else◌, Option, Some, None, is_none, option_map}
use Rattle.std.specs.Option.{option_or}
use Rattle.std.proofs.Common.{arith, sym, ap, ◌∙◌, ltb-false, eqb-true, le-ltb, eq-eqb}
use Rattle.std.proofs.lemmas.Bool.{not-true}
use Rattle.octets.specs.Words.{◌below◌, ◌atmost◌, ◌is◌}
use Rattle.octets.specs.Laws.{and_left, and_right}
use Rattle.parameters.specs.declared.Feature.{Feature}
use Rattle.parameters.specs.declared.Feature.TheVariants.{Groups, Flow, Applications}
use Rattle.applications.specs.AllLaws.{both_true, all_at, all_of, and_true}
use Rattle.applications.specs.OursLaws.{all_own}
use Rattle.applications.specs.ApplicationsLaws.{Entries, entries_told, entries_valid}
use Rattle.parameters.specs.Parameters.{good_halves, percentages, groups_number, sum, valid_groups, flow_number, mask, valid_flow, ones, entry_count, selector_of, all_from, new_name, is_ours, ours, valid, local_values, valid_local}
use Rattle.faults.specs.declared.Fault.{Fault}
use Rattle.faults.specs.Faults.{good_priority, bad_priority, groups_fault, flow_fault, foreign_entry, second_entry, again, low_selector, high_selector, applications_fault, fault_of}
use Rattle.faults.specs.FaultsLaws.{all_pass}

-- ---- groups

and_more : (a b c : Bool) → (a && b && c) ≡ (a && (b && c))
and_more true b c = refl
and_more false b c = refl

-- the groups of eight priorities are the halves of four octets
halves : (p : List ℕ) → length p ≡ 13 → all_from 8 0 (good_priority p) ≡ good_halves (take 4 p)
unfolding all_from good_priority good_halves
halves [] h = absurd (omega arith)
halves (a ∷ []) h = absurd (omega arith)
halves (a ∷ b ∷ []) h = absurd (omega arith)
halves (a ∷ b ∷ c ∷ []) h = absurd (omega arith)
halves (a ∷ b ∷ c ∷ d ∷ p) h = simp (and_more, and_true)

groups_by : (a c d : Bool) (o : Option ℕ) (g : ℕ → Fault) (n total classes : ℕ)
    → is_none (if not a then Some (Fault.Length n 13) else option_or (option_map g o) (if not c then Some (Fault.Sum total) else if not d then Some (Fault.Classes classes) else None))
    ≡ (a && is_none o && c && d)
groups_by false c d o g n total classes = refl
groups_by true c d (Some k) g n total classes = refl
groups_by true false d None g n total classes = refl
groups_by true true false None g n total classes = refl
groups_by true true true None g n total classes = refl

groups_exact : (p : List ℕ) → is_none (groups_fault p) ≡ valid_groups p
unfolding groups_fault valid_groups bad_priority
groups_exact p =
    groups_by (length p is 13) (sum (percentages p) is 100) (groups_number p atmost 8) (bad_priority p) _ (length p) (sum (percentages p)) (groups_number p)
    ∙ ap (λ (b : Bool). b && sum (percentages p) is 100 && groups_number p atmost 8) (here (length p is 13) refl)
  where
    here : (b : Bool) → length p is 13 ≡ b → (b && is_none (bad_priority p)) ≡ (b && good_halves (take 4 p))
    here true e = all_pass 8 0 (good_priority p) ∙ halves p (eqb-true (length p) 13 e)
    here false e = refl

-- ---- flow control

flow_by : (a b c : Bool) (n classes x : ℕ)
    → is_none (if not a then Some (Fault.Length n 2) else if not b then Some (Fault.Classes classes) else if not c then Some (Fault.Ones x classes) else None) ≡ (a && b && c)
flow_by false b c n classes x = refl
flow_by true false c n classes x = refl
flow_by true true false n classes x = refl
flow_by true true true n classes x = refl

flow_exact : (p : List ℕ) → is_none (flow_fault p) ≡ (valid_flow p && local_values Flow p)
unfolding flow_fault valid_flow local_values
flow_exact p = flow_by (length p is 2) (flow_number p atmost 8) (ones 8 (mask p) atmost flow_number p) (length p) (flow_number p) (ones 8 (mask p))

-- ---- applications

entries_by : (a b : Bool) (n k : ℕ) (foreign second high : Option ℕ) (f g h : ℕ → Fault)
    → is_none (if not a then Some (Fault.Ragged n) else option_or (option_map f foreign) (if b then Some (Fault.Entries k) else option_or (option_map g second) (option_map h high)))
    ≡ (a && (not b && (is_none foreign && (is_none second && is_none high))))
entries_by false b n k foreign second high f g h = refl
entries_by true true n k (Some i) second high f g h = refl
entries_by true true n k None second high f g h = refl
entries_by true false n k (Some i) second high f g h = refl
entries_by true false n k None (Some j) high f g h = refl
entries_by true false n k None None (Some l) f g h = refl
entries_by true false n k None None None f g h = refl

sound : List ℕ → Bool
sound p =
    length p % 6 is 0
    && (not (16 below entry_count p)
    && (all_from (entry_count p) 0 (is_ours p) && (all_from (entry_count p) 0 (new_name p) && all_from (entry_count p) 0 (low_selector p))))

none_sound : (p : List ℕ) → is_none (applications_fault p) ≡ sound p
unfolding applications_fault again foreign_entry second_entry high_selector sound
none_sound p =
    entries_by (length p % 6 is 0) (16 below entry_count p) (length p) (entry_count p) (foreign_entry p) (second_entry p) (high_selector p) _ _ _
    ∙ rw (all_pass (entry_count p) 0 (is_ours p), all_pass (entry_count p) 0 (new_name p), all_pass (entry_count p) 0 (low_selector p))

record Sound (p : List ℕ) : Type 0 where
  whole : length p % 6 ≡ 0
  few : entry_count p ≤ 16
  own : (i : ℕ) → i < entry_count p → is_ours p i ≡ true
  new : all_from (entry_count p) 0 (new_name p) ≡ true
  low : (i : ℕ) → i < entry_count p → selector_of p i below 2 ≡ true

sound_told : (p : List ℕ) → sound p ≡ true → Sound p
unfolding low_selector sound
sound_told p e =
    let n : ℕ = entry_count p in
    let c : Bool = all_from n 0 (is_ours p) in
    let d : Bool = all_from n 0 (new_name p) in
    let l : Bool = all_from n 0 (λ i. selector_of p i below 2) in
    let u = and_right (length p % 6 is 0) (not (16 below n) && (c && (d && l))) e in
    let v = and_right (not (16 below n)) (c && (d && l)) u in
    let w = and_right c (d && l) v in
    record {
      whole = eqb-true (length p % 6) 0 (and_left (length p % 6 is 0) (not (16 below n) && (c && (d && l))) e);
      few = ltb-false 16 n (not_is (and_left (not (16 below n)) (c && (d && l)) u));
      own = λ i h. all_at n 0 (is_ours p) (and_left c (d && l) v) i (omega arith) (omega arith);
      new = and_left d l w;
      low = λ i h. all_at n 0 (λ i. selector_of p i below 2) (and_right d l w) i (omega arith) (omega arith);
    }
  where
    not_is : {b : Bool} → not b ≡ true → b ≡ false
    not_is {b} t = not-true b t

sound_is : (p : List ℕ) → Sound p → sound p ≡ true
unfolding low_selector sound
sound_is p s =
    let n : ℕ = entry_count p in
    let c : all_from n 0 (is_ours p) ≡ true = all_of n 0 (is_ours p) (λ j a b. s.own j (omega arith)) in
    let l : all_from n 0 (λ i. selector_of p i below 2) ≡ true = all_of n 0 (λ i. selector_of p i below 2) (λ j a b. s.low j (omega arith)) in
    rw (eq-eqb (length p % 6) 0 s.whole, le-ltb 16 n s.few, c, s.new, l)

sound_valid : (p : List ℕ) → Sound p → valid_local Applications p ≡ true
unfolding valid_local local_values
sound_valid p s =
    let n : ℕ = entry_count p in
    let o : ours Applications p ≡ p = all_own p s.whole s.own in
    let m : length p ≤ 96 = omega (arith, s.whole, s.few) in
    let v : valid Applications p ≡ true = entries_valid p (record { whole = s.whole; most = rw o m; new = rw o s.new }) in
    let l : all_from n 0 (λ i. is_ours p i && selector_of p i below 2) ≡ true =
    all_of n 0 (λ i. is_ours p i && selector_of p i below 2) (λ j a b. rw (s.own j (omega arith), s.low j (omega arith))) in
    rw (v, l)

valid_sound : (p : List ℕ) → valid_local Applications p ≡ true → Sound p
unfolding valid_local local_values
valid_sound p t =
    let n : ℕ = entry_count p in
    let e : Entries p = entries_told p (and_left (valid Applications p) (local_values Applications p) t) in
    let l : local_values Applications p ≡ true = and_right (valid Applications p) (local_values Applications p) t in
    let each : (i : ℕ) → i < n → (is_ours p i && selector_of p i below 2) ≡ true = λ i h. all_at n 0 (λ i. is_ours p i && selector_of p i below 2) l i (omega arith) (omega arith) in
    let own : (i : ℕ) → i < n → is_ours p i ≡ true = λ i h. and_left (is_ours p i) (selector_of p i below 2) (each i h) in
    let o : ours Applications p ≡ p = all_own p e.whole own in
    let m : length p ≤ 96 = rw o at e.most in
    record {
      whole = e.whole;
      few = omega arith;
      own = own;
      new = rw o at e.new;
      low = λ i h. and_right (is_ours p i) (selector_of p i below 2) (each i h);
    }

-- ---- all three

-- "None exactly if valid_local"
pub exact : (f : Feature) (p : List ℕ) → is_none (fault_of f p) ≡ valid_local f p
unfolding fault_of valid_local valid local_values
exact Groups p = groups_exact p ∙ sym (and_true (valid_groups p))
exact Flow p = flow_exact p
exact Applications p =
    none_sound p
    ∙ both_true (sound p) (valid_local Applications p) (λ t. sound_valid p (sound_told p t)) (λ t. sound_is p (valid_sound p t))
