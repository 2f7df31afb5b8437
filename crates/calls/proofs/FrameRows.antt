-- What reading a frame answers is what the rows 3 to 8 of the table say of its octets, number and place. Assumes nothing.
use Prim.Native.Nat.{ℕ, zero, suc, ◌+◌, ◌-◌, ◌<◌, ◌≤◌, min}
use native.Mathlib.Omega.{arith}
use native.Mathlib.Nat.{add-zero}
use native.Mathlib.Decide.{dec_lt, dec_le}
use mathlib.Core.Path.{◌≡◌, refl, sym, ap, ◌∙◌}
use mathlib.Core.Bool.{Bool, true, false, not, ◌&&◌, ◌||◌, or-true}
use mathlib.Core.List.{List, [], ◌∷◌}
use lib.ListN.{length, take, drop, length-take, length-drop}
use lib.Seq.{get_or-take, get_or-drop, drop-drop}
use borrow.Author.Tests.{lt-ltb, le-ltb, le-leb, leb-true, eq-eqb, ne_eqb, eqb-true, eqb-false}
use Rattle.std.specs.Prelude.{if◌then◌else◌, Ok, Err}
use Rattle.octets.specs.Words.{◌below◌, ◌atmost◌, ◌is◌}
use Rattle.octets.specs.Octets.{at, same}
use Rattle.octets.specs.Laws.{and_left}
use Rattle.tlv.specs.declared.Refusal.TheVariants.{NotDcbx, WrongLength, PastEnd, ControlLength, ControlVersion}
use Rattle.contents.specs.declared.Found.{Found}
use Rattle.contents.specs.declared.Contents.{Contents}
use Rattle.tlv.specs.Refusals.{refusal_number, rejection}
use Rattle.reading.specs.Reading.{Walked, onward, walk_from, walked, judged_control, read_frame}
use Rattle.tlv.specs.Layout.{fixed_octets, type_at, length_at, is_dcbx}
use Rattle.contents.specs.Contents.{Reading, counts, found_again, noted, no_contents, value_of, head_of}
use Rattle.tlv.specs.Laws.{head_end, head_past, head_whole}
use Rattle.reading.proofs.ReadingLaws.{walked_inside}
use Rattle.calls.specs.Calls.{frame}
use Rattle.calls.specs.Rows.{past_end, controls_in, controls, overrun_at, control_at, the_one, not_dcbx}
use Rattle.calls.specs.Table.{place_beside}

-- ---- the walk over sub-TLVs

-- a control is noted, anything else leaves what was found of controls
control_noted : (o : List ℕ) (c : Contents) (type start n : ℕ) →
    (noted o c type start n).control ≡ (if type is 1 then found_again c.control start n else c.control)
unfolding noted
control_noted o c type start n = by (type is 1) (counts o start n) (type is 2) (type is 3) (type is 4)
  where
    by : (a b d e f : Bool) →
        (if a then record { control = found_again c.control start n; groups = c.groups; flow = c.flow; applications = c.applications }
        else if not b then c
        else if d then record { control = c.control; groups = found_again c.groups start n; flow = c.flow; applications = c.applications }
        else if e then record { control = c.control; groups = c.groups; flow = found_again c.flow start n; applications = c.applications }
        else if f then record { control = c.control; groups = c.groups; flow = c.flow; applications = found_again c.applications start n }
        else c).control
        ≡ (if a then found_again c.control start n else c.control)
    by true b d e f = refl
    by false false d e f = refl
    by false true true e f = refl
    by false true false true f = refl
    by false true false false true = refl
    by false true false false false = refl

-- the last of some values, and where there is none one from before
unfoldable last_of : List ℕ → List (List ℕ) → List ℕ
last_of v [] = v
last_of v (u ∷ us) = last_of u us

-- how a walk ends that found x of controls before and still finds those of the values vs, the first of them at place i
record Ends (o : List ℕ) (x : Found) (w : Walked) (beyond : Bool) (over i : ℕ) (vs : List (List ℕ)) : Type 0 where
  past : w.past ≡ beyond
  place : w.place ≡ over
  count : w.contents.control.count ≡ min 2 (x.count + length vs)
  value : value_of o w.contents.control ≡ last_of (value_of o x) vs
  none : length vs ≡ 0 → w.contents.control ≡ x
  one : length vs ≡ 1 → head_of w.contents.control ≡ i

module _ (o : List ℕ) where
  ended : (i : ℕ) (c : Contents) (b : Bool) {j : ℕ} → c.control.count ≤ 2 → Ends o c.control (record { place = i; past = b; contents = c }) b i j []
  unfolding last_of
  ended i c b h = record { past = refl; place = refl; count = omega arith; value = refl; none = λ z. refl; one = λ z. absurd (omega arith) }

  small : (c : Contents) (type start n : ℕ) → c.control.count ≤ 2 → (noted o c type start n).control.count ≤ 2
  unfolding found_again
  small c type start n h = rw control_noted (by (type is 1))
    where
      by : (b : Bool) → (if b then found_again c.control start n else c.control).count ≤ 2
      by true = omega arith
      by false = h

  -- one sub-TLV more, whose head is at i
  more : (c : Contents) (type i n : ℕ) (w : Walked) (p : Bool) (over j : ℕ) (vs : List (List ℕ)) (b : Bool) → (type is 1) ≡ b →
      Ends o (noted o c type (i + 2) n).control w p over j vs →
      Ends o c.control w p over (if b then i else j) (if b then take n (drop (i + 2) o) ∷ vs else vs)
  unfolding last_of found_again
  more c type i n w p over j vs true e r =
      let k : (noted o c type (i + 2) n).control ≡ found_again c.control (i + 2) n = control_noted o c type (i + 2) n ∙ rw e refl in
      let q = rw k at r in
      record {
        past = q.past;
        place = q.place;
        count = q.count ∙ omega arith;
        value = q.value;
        none = λ z. absurd (omega arith);
        one = λ z. ap (λ (x : Found). head_of x) (q.none (omega arith)) ∙ omega arith;
      }
  more c type i n w p over j vs false e r =
      let k : (noted o c type (i + 2) n).control ≡ c.control = control_noted o c type (i + 2) n ∙ rw e refl in
      rw k at r

  abbrev EndsFrom : ℕ → ℕ → Contents → Type 0
  EndsFrom k i c = Ends o c.control (walk_from k o i c) (past_end k (drop i o)) (overrun_at k i (drop i o)) (control_at k i (drop i o)) (controls_in k (drop i o))

  walk_ends : (k i : ℕ) (c : Contents) → c.control.count ≤ 2 → EndsFrom k i c
  unfolding walk_from onward past_end overrun_at control_at controls_in
  walk_ends zero i c h = ended i c false h
  walk_ends (suc k) i c h = here (λ j d g. walk_ends k j d g)
    where
      here : ((j : ℕ) (d : Contents) → d.control.count ≤ 2 → EndsFrom k j d) → EndsFrom (suc k) i c
      here later =
          let l : length (drop i o) ≡ length o - i = length-drop i o in
          let a : at (drop i o) 0 ≡ at o i = get_or-drop i o 0 0 ∙ ap (λ (j : ℕ). at o j) (add-zero i) in
          let b : at (drop i o) 1 ≡ at o (i + 1) = get_or-drop i o 1 0 in
          let on = dec_lt i (length o) in
          let whole = dec_le (i + 2 + length_at o i) (length o) in
          elim on [
            | yes t ↦ elim whole [
              | yes u ↦
                  let j : i + (2 + length_at o i) ≡ i + 2 + length_at o i = omega arith in
                  let z : drop (2 + length_at o i) (drop i o) ≡ drop (i + 2 + length_at o i) o =
                  drop-drop (2 + length_at o i) i o ∙ ap (λ (m : ℕ). drop m o) j in
                  let v : take (length_at o i) (drop 2 (drop i o)) ≡ take (length_at o i) (drop (i + 2) o) = ap (take (length_at o i)) (drop-drop 2 i o) in
                  let r = later (i + 2 + length_at o i) (noted o c (type_at o i) (i + 2) (length_at o i)) (small c (type_at o i) (i + 2) (length_at o i) h) in
                  simp (ne_eqb (length (drop i o)) 0 (omega arith), a, b, sym (head_whole o i refl u), le-ltb (length (drop i o)) 2 (omega arith), le-ltb (length (drop i o)) (2 + length_at o i) (omega arith), z, v)
                  (more c (type_at o i) i (length_at o i) _ _ _ _ _ _ refl r)
              | no u ↦
                  simp (ne_eqb (length (drop i o)) 0 (omega arith), a, b, sym (head_past o i t (omega arith)), lt-ltb (length (drop i o)) (2 + length_at o i) (omega arith), or-true)
                  (ended i c true h)
            ]
            | no t ↦ simp (sym (head_end o i (omega arith)), eq-eqb (length (drop i o)) 0 (omega arith)) (ended i c false h)
          ]

-- ---- row by row

row3 : (o : List ℕ) → not_dcbx o ≡ not (is_dcbx o)
unfolding not_dcbx is_dcbx same
row3 [] = refl
row3 (a ∷ []) = refl
row3 (a ∷ b ∷ []) = refl
row3 (a ∷ b ∷ c ∷ []) = refl
row3 (a ∷ b ∷ c ∷ d ∷ []) = refl
row3 (a ∷ b ∷ c ∷ d ∷ e ∷ []) = refl
row3 (a ∷ b ∷ c ∷ d ∷ e ∷ f ∷ o) =
    let n : ℕ = length (a ∷ b ∷ c ∷ d ∷ e ∷ f ∷ o) in
    simp (le-ltb n 6 (omega arith), le-leb 6 n (omega arith)) (by (type_at (a ∷ []) 0 is 127) (c is 0) (d is 27) (e is 33) (f is 2))
  where
    by : (t c d e f : Bool) → (not t || not (c && (d && (e && true))) || not f) ≡ not (t && (c && (d && (e && (f && true)))))
    by false c d e f = refl
    by true false d e f = refl
    by true true false e f = refl
    by true true true false f = refl
    by true true true true false = refl
    by true true true true true = refl

row4 : (o : List ℕ) → 6 ≤ length o → (length_at o 0 is length (drop 2 o)) ≡ (length_at o 0 + 2 is length o)
row4 o h = by (length_at o 0 + 2 is length o) refl
  where
    by : (b : Bool) → (length_at o 0 + 2 is length o) ≡ b → (length_at o 0 is length (drop 2 o)) ≡ b
    by true e = eq-eqb (length_at o 0) (length (drop 2 o)) (omega (arith, eqb-true (length_at o 0 + 2) (length o) e, length-drop 2 o))
    by false e = ne_eqb (length_at o 0) (length (drop 2 o)) (λ k. eqb-false (length_at o 0 + 2) (length o) e (omega (arith, length-drop 2 o)))

row5 : (o : List ℕ) → (walked o).past ≡ past_end (length o) (drop 6 o)
unfolding walked
row5 o = (walk_ends o (length o) 6 no_contents (omega arith)).past

abbrev pub read_number : Reading → ℕ
read_number (Err r) = refusal_number r.why
read_number (Ok c) = 0

abbrev pub read_place : Reading → ℕ
read_place (Err r) = r.place
read_place (Ok c) = 0

-- a number of the table, and the place beside it
pub record Reads (o : List ℕ) (x : Reading) (n : ℕ) : Type 0 where
  pub number : read_number x ≡ n
  pub place : read_place x ≡ place_beside n (frame o)

-- rows 6 to 8 of the controls that a walk found
module _ (o : List ℕ) (c : Contents) (inside : c.control.start + c.control.length ≤ length o) where
  rows6to8 : (vs : List (List ℕ)) → c.control.count ≡ min 2 (length vs) → value_of o c.control ≡ last_of [] vs →
      (length vs ≡ 1 → head_of c.control ≡ control_at (length o) 6 (drop 6 o)) →
      Reads o (judged_control o c)
      (if length vs is 0 then 6 else if the_one vs (λ v. not (length v is 10)) then 7 else if the_one vs (λ v. at v 1 below at v 0) then 8 else 0)
  unfolding judged_control the_one last_of refusal_number place_beside
  rows6to8 [] n e p = simp (eq-eqb c.control.count 0 n) (record { number = refl; place = refl })
  rows6to8 (v ∷ []) n e p =
      let l : length v ≡ c.control.length = omega (arith, ap length e, length-take c.control.length (drop c.control.start o), length-drop c.control.start o) in
      simp (ne_eqb c.control.count 0 (omega arith), le-ltb 1 c.control.count (omega arith), ← l) (by (length v is 10) refl)
    where
      above : (b : Bool) → Reads o (if b then Err (rejection ControlVersion (head_of c.control)) else Ok c) (if b then 8 else 0)
      above true = record { number = refl; place = p refl }
      above false = record { number = refl; place = refl }

      by : (b : Bool) → (length v is 10) ≡ b →
          Reads o
          (if not b then Err (rejection ControlLength (head_of c.control))
          else if at o (c.control.start + 1) below at o c.control.start then Err (rejection ControlVersion (head_of c.control))
          else Ok c)
          (if not b then 7 else if at v 1 below at v 0 then 8 else 0)
      by false k = record { number = refl; place = p refl }
      by true k =
          let l : length v ≡ 10 = eqb-true (length v) 10 k in
          let m : 1 < c.control.length = omega (arith, ap length e, length-take c.control.length (drop c.control.start o)) in
          let max : at v 1 ≡ at o (c.control.start + 1) =
          ap (λ (v : List ℕ). at v 1) (sym e) ∙ get_or-take c.control.length (drop c.control.start o) 1 0 m ∙ get_or-drop c.control.start o 1 0 in
          let oper : at v 0 ≡ at o c.control.start =
          ap (λ (v : List ℕ). at v 0) (sym e) ∙ get_or-take c.control.length (drop c.control.start o) 0 0 (omega arith) ∙ get_or-drop c.control.start o 0 0
          ∙ ap (λ (i : ℕ). at o i) (add-zero c.control.start) in
          rw (max, oper) (above (at o (c.control.start + 1) below at o c.control.start))
  rows6to8 (v ∷ u ∷ vs) n e p =
      simp (ne_eqb c.control.count 0 (omega arith), lt-ltb 1 c.control.count (omega arith), ne_eqb (length (v ∷ u ∷ vs)) 0 (omega arith))
      (record { number = refl; place = refl })

-- ---- the rows together

module _ (o : List ℕ) where
  -- rows 6 to 8
  abbrev of_controls : ℕ
  of_controls =
      if length (controls o) is 0 then 6
      else if the_one (controls o) (λ v. not (length v is 10)) then 7
      else if the_one (controls o) (λ v. at v 1 below at v 0) then 8
      else 0

  found : EndsFrom o (length o) 6 no_contents
  found = walk_ends o (length o) 6 no_contents (omega arith)

  -- over the tests of 5, of 4 and of 3
  by_past : (b : Bool) → Reads o (if b then Err (rejection PastEnd (walked o).place) else judged_control o (walked o).contents) (if b then 5 else of_controls)
  unfolding walked refusal_number place_beside
  by_past true = record { number = refl; place = found.place }
  by_past false =
      rows6to8 o (walked o).contents (walked_inside o).control (controls o) (omega (arith, found.count)) found.value found.one

  by_length : (b : Bool) →
      Reads o
      (if not b then Err (rejection WrongLength 0) else if (walked o).past then Err (rejection PastEnd (walked o).place) else judged_control o (walked o).contents)
      (if not b then 4 else if (walked o).past then 5 else of_controls)
  unfolding refusal_number place_beside
  by_length false = record { number = refl; place = refl }
  by_length true = by_past (walked o).past

  by_dcbx : (b : Bool) → is_dcbx o ≡ b →
      Reads o
      (if not b then Err (rejection NotDcbx 0)
      else if not (length_at o 0 + 2 is length o) then Err (rejection WrongLength 0)
      else if (walked o).past then Err (rejection PastEnd (walked o).place)
      else judged_control o (walked o).contents)
      (if not b then 3 else if not (length_at o 0 is length (drop 2 o)) then 4 else if (walked o).past then 5 else of_controls)
  unfolding refusal_number is_dcbx place_beside
  by_dcbx false e = record { number = refl; place = refl }
  by_dcbx true e =
      let six : 6 ≤ length o =
      leb-true 6 (length o) (and_left (6 atmost length o) (type_at o 0 is 127) (and_left (6 atmost length o && type_at o 0 is 127) (same (take 4 (drop 2 o)) fixed_octets) e)) in
      rw (row4 o six) (by_length (length_at o 0 + 2 is length o))

  pub reading :
      Reads o (read_frame o)
      (if not_dcbx o then 3 else if not (length_at o 0 is length (drop 2 o)) then 4 else if past_end (length o) (drop 6 o) then 5 else of_controls)
  unfolding read_frame
  reading = rw (row3 o, ← row5 o) (by_dcbx (is_dcbx o) refl)
