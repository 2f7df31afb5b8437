-- E6: `resumes`, a walk taken up gives the answer of the whole; and by it what `reading::read` promises. Assumes nothing.
use Rattle.tlv.specs.declared.Rejection.{Rejection}
use Rattle.tlv.specs.Refusals.{rejection}
use Prim.Native.Nat.{ℕ, zero, suc, ◌+◌, ◌-◌, ◌<◌, ◌≤◌, ◌^◌}
use Rattle.std.specs.Prelude.{Ok, Err, ◌≡◌, Bool, List, take, if◌then◌else◌}
use Rattle.std.proofs.Common.{◌∙◌, add-zero, length-take, get_or-take, get_or-drop}
use Rattle.std.proofs.Math.Path.{refl, sym, ap}
use Rattle.std.proofs.Math.Bool.{true, false, not}
use native.Mathlib.Omega.{arith}
use borrow.Author.Tests.{eq-eqb, ne_eqb, eqb-true}
use Rattle.std.proofs.Math.ListN.{length, drop, length-drop}
use Rattle.std.proofs.Math.Seq.{drop-drop}
use Rattle.octets.specs.Words.{◌below◌, ◌is◌}
use Rattle.octets.specs.Octets.{at}
use Rattle.tlv.specs.declared.Refusal.TheVariants.{NotDcbx, WrongLength, PastEnd, NoControl, ControlLength, ControlVersion}
use Rattle.tlv.specs.declared.Head.{Head}
use Rattle.tlv.specs.declared.Head.TheVariants.{End, Past, SubTlv}
use Rattle.contents.specs.declared.Contents.{Contents}
use Rattle.contents.specs.declared.Control.{Control}
use Rattle.walk.specs.declared.Walk.{Walk}
use Rattle.walk.specs.declared.Step.TheVariants as step
use Rattle.contents.specs.Contents.{Reading}
use Rattle.reading.specs.Reading.{Walked, onward, walk_from, walked, judged_control, read_frame}
use Rattle.tlv.specs.Layout.{length_at, head_at, is_dcbx}
use Rattle.contents.specs.Contents.{counts, found_again, noted, no_contents, value_of, head_of, noted_at, no_control, control_in, kept_behind, judged}
use Rattle.walk.specs.Halting.{begun, passed, end_of, finishing, finish_in, finished}
use Rattle.reading.specs.Resuming.{Before, first, behind, Halts, begins, again, Resumes}
use Rattle.reading.specs.Promises.{Inside, ReadPromise}
use Rattle.tlv.specs.Laws.{head_end, head_within, dcbx_six}
use Rattle.contents.specs.ContentsLaws.{choice}
use Rattle.reading.proofs.ReadingLaws.{walked_inside, judged_accepts}
use Rattle.walk.specs.HaltingLaws.{Ahead}
use Rattle.walk.proofs.HaltingLaws.{passed_end, passed_past, passed_whole}

-- ---- what was kept is what stands in the whole

-- the kept control is that of the value found last, which lies within the octets
record Kept (o : List ℕ) (c : Contents) (k : Control) : Type 0 where
  inside : c.control.start + c.control.length ≤ length o
  control : k ≡ control_in (value_of o c.control)

kept_start : (o : List ℕ) → Kept o no_contents no_control
unfolding control_in
kept_start o = record { inside = omega arith; control = refl }

kept_on : {o : List ℕ} {c : Contents} {k : Control} (type start n : ℕ) → start + n ≤ length o → Kept o c k → Kept o (noted o c type start n) (kept_behind o k type start n)
unfolding noted found_again kept_behind
kept_on {o} {c} {k} type start n h g = here (type is 1) (not (counts o start n)) (type is 2) (type is 3) (type is 4)
  where
    here : (control skipped groups flow applications : Bool)
        → Kept o
        (choice control skipped groups flow applications
        (record { control = found_again c.control start n; groups = c.groups; flow = c.flow; applications = c.applications })
        (record { control = c.control; groups = found_again c.groups start n; flow = c.flow; applications = c.applications })
        (record { control = c.control; groups = c.groups; flow = found_again c.flow start n; applications = c.applications })
        (record { control = c.control; groups = c.groups; flow = c.flow; applications = found_again c.applications start n })
        c)
        (if control then control_in (take n (drop start o)) else k)
    here true skipped groups flow applications = record { inside = h; control = refl }
    here false true groups flow applications = g
    here false false true flow applications = record { inside = g.inside; control = g.control }
    here false false false true applications = record { inside = g.inside; control = g.control }
    here false false false false true = record { inside = g.inside; control = g.control }
    here false false false false false = g

kept_versions : {o : List ℕ} {c : Contents} {k : Control} → Kept o c k → c.control.length ≡ 10
    → (k.oper ≡ at o c.control.start) × (k.max ≡ at o (c.control.start + 1))
unfolding control_in
kept_versions {o} {c} {k} g l =
    let f = c.control in
    let v : List ℕ = take f.length (drop f.start o) in
    let m : length v ≡ 10 = omega (arith, length-take f.length (drop f.start o), length-drop f.start o, g.inside) in
    let e = simp (eq-eqb (length v) 10 m) at g.control in
    let a : at v 0 ≡ at o f.start =
    get_or-take f.length (drop f.start o) 0 0 (omega arith) ∙ get_or-drop f.start o 0 0 ∙ ap (λ (j : ℕ). at o j) (add-zero f.start) in
    let b : at v 1 ≡ at o (f.start + 1) = get_or-take f.length (drop f.start o) 1 0 (omega arith) ∙ get_or-drop f.start o 1 0 in
    (ap (λ (x : Control). x.oper) e ∙ a, ap (λ (x : Control). x.max) e ∙ b)

judged_kept : {o : List ℕ} {c : Contents} {k : Control} → Kept o c k → judged (length o) c k ≡ judged_control o c
unfolding judged judged_control
judged_kept {o} {c} {k} g = here (c.control.count is 0) (1 below c.control.count) (c.control.length is 10) refl
  where
    here : (none several ten : Bool) → (c.control.length is 10) ≡ ten
        → (if none then Err (rejection NoControl (length o)) else if several then Ok c else if not ten then Err (rejection ControlLength (head_of c.control))
        else if k.max below k.oper then Err (rejection ControlVersion (head_of c.control)) else Ok c)
        ≡ (if none then Err (rejection NoControl (length o)) else if several then Ok c else if not ten then Err (rejection ControlLength (head_of c.control))
        else if at o (c.control.start + 1) below at o c.control.start then Err (rejection ControlVersion (head_of c.control)) else Ok c)
    here true several ten q = refl
    here false true ten q = refl
    here false false false q = refl
    here false false true q = let v = kept_versions g (eqb-true c.control.length 10 q) in rw (v.0, v.1)

-- ---- a walk taken up is the walk

-- 5, or 6 to 8, of a walk over the whole
abbrev answered : List ℕ → Walked → Reading
answered o x = if x.past then Err (rejection PastEnd x.place) else judged_control o x.contents

module _ (o : List ℕ) where
  -- behind a whole sub-TLV, by places of the whole
  unfoldable next : Walk → ℕ → ℕ → ℕ → Walk
  next w type start n = record { at = start + n; contents = noted o w.contents type start n; control = kept_behind o w.control type start n }

  passed_next : {type start n : ℕ} (w : Walk) → head_at o w.at ≡ SubTlv type start n → passed w (drop w.at o) ≡ step.Halted (next w type start n)
  unfolding noted_at noted next
  passed_next {type} {start} {n} w e =
      let a : 0 + (start + n) ≡ start + n = omega arith in
      let b : 0 + start ≡ start = omega arith in
      rw (a, b) at (passed_whole 0 o w.at w (omega arith) e)

  -- at the end of the octets, which is where they end from the walk's place on
  ended : (w : Walk) → Kept o w.contents w.control → w.at ≤ length o → judged (end_of w (drop w.at o)) w.contents w.control ≡ judged_control o w.contents
  ended w g i = let e : w.at + length (drop w.at o) ≡ length o = omega (arith, length-drop w.at o) in rw e (judged_kept g)

  finish_walks : (m : ℕ) (w : Walk) → Kept o w.contents w.control → w.at ≤ length o → length o ≤ w.at + m
      → finish_in m w (drop w.at o) ≡ answered o (walk_from m o w.at w.contents)
  unfolding finish_in finishing walk_from onward next
  finish_walks zero w g i h = ended w g i
  finish_walks (suc m) w g i h = here (λ v. finish_walks m v) (head_at o w.at) refl
    where
      here : ((v : Walk) → Kept o v.contents v.control → v.at ≤ length o → length o ≤ v.at + m
          → finish_in m v (drop v.at o) ≡ answered o (walk_from m o v.at v.contents))
          → (d : Head) → head_at o w.at ≡ d
          → finishing w (drop w.at o) (passed w (drop w.at o)) (λ v. finish_in m v (drop (v.at - w.at) (drop w.at o)))
          ≡ answered o (onward o w.at d w.contents (λ j c. walk_from m o j c))
      here on End e = simp (passed_end 0 o w.at w (omega arith) e) (ended w g i)
      here on Past e = simp (passed_past 0 o w.at w (omega arith) e)
      here on (SubTlv type start n) e =
          let x = head_within (sym e) refl in
          let b : w.at + (start + n - w.at) ≡ start + n = omega (arith, x.place) in
          let z : drop (start + n - w.at) (drop w.at o) ≡ drop (start + n) o = drop-drop (start + n - w.at) w.at o ∙ ap (λ (j : ℕ). drop j o) b in
          simp (passed_next w e, z) (on (next w type start n) (kept_on type start n x.high g) x.high (omega (arith, x.place)))

  steps_alike : (m l i : ℕ) (c : Contents) → length o ≤ i + m → length o ≤ i + l → walk_from m o i c ≡ walk_from l o i c
  unfolding walk_from onward
  steps_alike zero zero i c g h = refl
  steps_alike zero (suc l) i c g h = simp (sym (head_end o i (omega arith)))
  steps_alike (suc m) zero i c g h = simp (sym (head_end o i (omega arith)))
  steps_alike (suc m) (suc l) i c g h = here (λ j d. steps_alike m l j d) (head_at o i) refl
    where
      here : ((j : ℕ) (d : Contents) → length o ≤ j + m → length o ≤ j + l → walk_from m o j d ≡ walk_from l o j d)
          → (d : Head) → head_at o i ≡ d → onward o i d c (λ j e. walk_from m o j e) ≡ onward o i d c (λ j e. walk_from l o j e)
      here on End e = refl
      here on Past e = refl
      here on (SubTlv type start n) e = let x = head_within (sym e) refl in on (start + n) (noted o c type start n) (omega (arith, x.place)) (omega (arith, x.place))

  -- what a walk has kept that came to its place, and that what is left gives what the whole gives
  record Reached (w : Walk) : Type 0 where
    kept : Kept o w.contents w.control
    within : 6 ≤ length o → w.at ≤ length o
    steps : ℕ
    enough : length o ≤ w.at + steps
    left : walk_from steps o w.at w.contents ≡ walked o

  reached_begun : Reached begun
  unfolding walked
  reached_begun = record { kept = kept_start o; within = λ i. i; steps = length o; enough = omega arith; left = refl }

  reached_next : {type start n : ℕ} (w : Walk) → head_at o w.at ≡ SubTlv type start n → Reached w → Reached (next w type start n)
  unfolding walk_from onward next
  reached_next {type} {start} {n} w e g = here g.steps g.enough g.left
    where
      here : (m : ℕ) → length o ≤ w.at + m → walk_from m o w.at w.contents ≡ walked o → Reached (next w type start n)
      here zero h l = let x = head_within (sym e) refl in absurd (omega arith)
      here (suc m) h l =
          let x = head_within (sym e) refl in
          record { kept = kept_on type start n x.high g.kept; within = λ i. x.high; steps = m; enough = omega (arith, x.place); left = simp e at l }

  reached_again : (w v : Walk) → passed w (drop w.at o) ≡ step.Halted v → Reached w → Reached v
  reached_again w v e g = here (head_at o w.at) refl
    where
      here : (d : Head) → head_at o w.at ≡ d → Reached v
      here End q = let z : step.End ≡ step.Halted v = sym (passed_end 0 o w.at w (omega arith) q) ∙ e in let y : ◌≡◌ {A = ℕ} 0 1 = cc in absurd (omega arith)
      here Past q = let z : step.Past ≡ step.Halted v = sym (passed_past 0 o w.at w (omega arith) q) ∙ e in let y : ◌≡◌ {A = ℕ} 0 1 = cc in absurd (omega arith)
      here (SubTlv type start n) q =
          let z : step.Halted (next w type start n) ≡ step.Halted v = sym (passed_next w q) ∙ e in
          let y : next w type start n ≡ v = cc in
          rw y at (reached_next w q g)

  reached : {w : Walk} → Halts o w → Reached w
  reached begins = reached_begun
  reached (again {w} {v} h e) = reached_again w v e (reached h)

  finished_same : (w : Walk) → 6 ≤ length o → Reached w → finished w (drop w.at o) ≡ answered o (walked o)
  unfolding finished
  finished_same w i g =
      let m : ℕ = length (drop w.at o) in
      let h : length o ≤ w.at + m = omega (arith, length-drop w.at o) in
      finish_walks m w g.kept (g.within i) h ∙ ap (answered o) (steps_alike m g.steps w.at w.contents h g.enough ∙ g.left)

  halts_each : {i : ℕ} → Before o i → (w : Walk) × Halts o w × (w.at ≡ i)
  unfolding next
  halts_each first = (begun, begins, refl)
  halts_each (behind {type = type} {start = start} {n = n} b e) =
      let x = halts_each b in
      let w : Walk = x.0 in
      let q : head_at o w.at ≡ SubTlv type start n = rw x.2 e in
      (next w type start n, again x.1 (passed_next w q), refl)

  read_resumed : (w : Walk) → Reached w
      → read_frame o
      ≡ (if not (is_dcbx o) then Err (rejection NotDcbx 0)
      else if not (length_at o 0 + 2 is length o) then Err (rejection WrongLength 0)
      else finished w (drop w.at o))
  unfolding read_frame
  read_resumed w g = here (is_dcbx o) refl
    where
      here : (b : Bool) → b ≡ is_dcbx o
          → (if not b then Err (rejection NotDcbx 0) else if not (length_at o 0 + 2 is length o) then Err (rejection WrongLength 0) else answered o (walked o))
          ≡ (if not b then Err (rejection NotDcbx 0) else if not (length_at o 0 + 2 is length o) then Err (rejection WrongLength 0) else finished w (drop w.at o))
      here false e = refl
      here true e = rw (finished_same w (dcbx_six o e refl) g) refl

pub resumes : (o : List ℕ) → Resumes o
resumes o = record { each = λ i b. halts_each o b; control = λ w h. (reached o h).kept.control; same = λ w h. read_resumed o w (reached o h) }

-- ---- the whole read: refusals 3 and 4, and then the walk begun and finished

refused_promise : {o : List ℕ} {x : Rejection} → Err x ≡ read_frame o → ReadPromise o (Err x)
refused_promise {o} e = record { is = e; inside = λ c q. let z : ◌≡◌ {A = ℕ} 0 1 = cc in absurd (omega arith) }

answered_inside : (o : List ℕ) (c : Contents) → answered o (walked o) ≡ Ok c → Inside o c
answered_inside o c e = here (walked o).past e
  where
    here : (b : Bool) → (if b then Err (rejection PastEnd (walked o).place) else judged_control o (walked o).contents) ≡ Ok c → Inside o c
    here true q = let z : ◌≡◌ {A = ℕ} 0 1 = cc in absurd (omega arith)
    here false q = rw (judged_accepts o (walked o).contents c q) at (walked_inside o)

module _ (o : List ℕ) {b : Bool} where
  pub read_other : {x : Rejection} → x ≡ rejection NotDcbx 0 → b ≡ is_dcbx o → not b ≡ true → ReadPromise o (Err x)
  unfolding read_frame
  read_other x e t = refused_promise (simp (x, sym e, t))

  pub read_length : {n : ℕ} {x : Rejection} → x ≡ rejection WrongLength 0 → b ≡ is_dcbx o → not b ≡ false → n ≡ length_at o 0 → (n + 2 ≡ length o → ⊥) → ReadPromise o (Err x)
  unfolding read_frame
  read_length {n} x e t l m = refused_promise (simp (x, sym e, t, sym l, ne_eqb (n + 2) (length o) m))

  pub read_ahead : {w : Walk} → b ≡ is_dcbx o → not b ≡ false → length o < 2 ^ 64 → w ≡ begun → Ahead 0 o w
  read_ahead {w} e t l x = let h : 6 ≤ length o = dcbx_six o e t in rw x (record { from = omega arith; within = omega arith; fits = omega arith })

  pub read_finished : {n : ℕ} {w : Walk} {r : Reading} → b ≡ is_dcbx o → not b ≡ false → n ≡ length_at o 0 → n + 2 ≡ length o
      → w ≡ begun → r ≡ finished w (drop (w.at - 0) o) → ReadPromise o r
  unfolding read_frame
  read_finished {n} {w} {r} e t m x y f =
      let q : r ≡ answered o (walked o) = f ∙ rw y (finished_same o begun (dcbx_six o e t) (reached_begun o)) in
      record { is = q ∙ simp (sym e, t, sym m, eq-eqb (n + 2) (length o) x); inside = λ c p. answered_inside o c (sym q ∙ p) }
