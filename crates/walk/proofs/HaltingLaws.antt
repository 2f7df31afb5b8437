-- Laws of the walk as a value, one for each answer of the code, and what its inner functions ask. Assumes nothing.
use Rattle.tlv.specs.Refusals.{rejection}
use Prim.Native.Nat.{ℕ, zero, suc, ◌+◌, ◌-◌, ◌<◌, ◌≤◌, ◌^◌}
use Rattle.std.specs.Prelude.{Ok, Err, ◌≡◌, Bool, true, false, not, ◌&&◌, List, take, if◌then◌else◌}
use Rattle.std.proofs.Common.{◌∙◌, arith, add-zero, get_or-drop}
use Rattle.std.proofs.Math.Path.{refl, sym, ap}
use Rattle.std.proofs.Math.Nat.{add-sub_cancel_left}
use borrow.Author.Tests.{lt-ltb, eq-eqb, ne_eqb, eqb-true, eqb-false}
use Rattle.std.proofs.Math.ListN.{length, drop, length-drop}
use Rattle.std.proofs.Math.Seq.{drop-drop}
use Rattle.octets.specs.Words.{◌below◌, ◌is◌}
use Rattle.octets.specs.Octets.{at}
use Rattle.tlv.specs.declared.Refusal.TheVariants.{PastEnd, NoControl, ControlLength, ControlVersion}
use Rattle.tlv.specs.declared.Head.{Head}
use Rattle.tlv.specs.declared.Head.TheVariants.{End, Past, SubTlv}
use Rattle.contents.specs.declared.Contents.{Contents}
use Rattle.contents.specs.declared.Control.{Control}
use Rattle.walk.specs.declared.Walk.{Walk}
use Rattle.walk.specs.declared.Step.TheVariants as step
use Rattle.contents.specs.Contents.{Reading}
use Rattle.tlv.specs.Layout.{type_at, length_at, head_at}
use Rattle.contents.specs.Contents.{counts, found_again, head_of, noted_at, control_in, kept_behind, judged}
use Rattle.walk.specs.Halting.{stepped, passed, finishing, finish_in, finished}
use Rattle.tlv.specs.Laws.{head_end, head_past, head_whole, end_is_not_past, at_end, at_past, Within, head_within}
use Rattle.contents.specs.ContentsLaws.{choice, Room}
use Rattle.walk.specs.HaltingLaws.{Ahead, Came, judged_end}

-- ---- one sub-TLV passed

module _ (base : ℕ) (o : List ℕ) (i : ℕ) {type start n : ℕ} {d : Head} where
  pub head_room : d ≡ head_at o i → d ≡ SubTlv type start n → base + length o < 2 ^ 64 → Room base o start n
  head_room e f h = record { inside = (head_within e f).high; fits = h }

  pub head_place : d ≡ head_at o i → d ≡ SubTlv type start n → base + length o < 2 ^ 64 → base + (start + n) < 2 ^ 64
  head_place e f h = let x = head_within e f in omega arith

module _ (w : Walk) (o : List ℕ) {d : Head} where
  pub pass_end : d ≡ head_at o 0 → d ≡ End → step.End ≡ passed w o
  unfolding passed stepped
  pass_end e f = simp (sym e, f)

  pub pass_past : d ≡ head_at o 0 → d ≡ Past → step.Past ≡ passed w o
  unfolding passed stepped
  pass_past e f = simp (sym e, f)

  pub pass_whole : {type start n : ℕ} {c : Contents} {k : Control} → d ≡ head_at o 0 → d ≡ SubTlv type start n
      → c ≡ noted_at w.at o w.contents type start n → k ≡ kept_behind o w.control type start n
      → step.Halted (record { at = w.at + (start + n); contents = c; control = k }) ≡ passed w o
  unfolding passed stepped
  pass_whole e f x y = simp (x, y, sym e, f)

-- ---- a walk over the octets from a place on, seen in all of them: o are those from `base` of the whole on, and the walk is at i of these

module _ (base : ℕ) (o : List ℕ) (i : ℕ) (w : Walk) (p : w.at ≡ base + i) where
  octet_behind : (j : ℕ) → at (drop i o) j ≡ at o (i + j)
  octet_behind j = get_or-drop i o j 0

  length-behind : length_at (drop i o) 0 ≡ length_at o i
  length-behind = let e : at (drop i o) 0 ≡ at o i = octet_behind 0 ∙ ap (λ (j : ℕ). at o j) (add-zero i) in rw (e, octet_behind 1)

  type_behind : type_at (drop i o) 0 ≡ type_at o i
  type_behind = let e : at (drop i o) 0 ≡ at o i = octet_behind 0 ∙ ap (λ (j : ℕ). at o j) (add-zero i) in rw e

  pub passed_end : head_at o i ≡ End → passed w (drop i o) ≡ step.End
  unfolding passed stepped
  passed_end e = let h : length o ≤ i = at_end o i e in simp (sym (head_end (drop i o) 0 (omega (arith, length-drop i o))))

  pub passed_past : head_at o i ≡ Past → passed w (drop i o) ≡ step.Past
  unfolding passed stepped
  passed_past e =
      let h = at_past o i e in
      let l : length (drop i o) ≡ length o - i = length-drop i o in
      let m : length_at (drop i o) 0 ≡ length_at o i = length-behind in
      simp (sym (head_past (drop i o) 0 (omega arith) (omega arith)))

  module _ {type start n : ℕ} (x : Within o i type start n) where
    head_behind : head_at (drop i o) 0 ≡ SubTlv type 2 n
    head_behind =
        let l : length (drop i o) ≡ length o - i = length-drop i o in
        let k : type_at (drop i o) 0 ≡ type = type_behind ∙ sym x.kind in
        let h : 2 + n ≤ length (drop i o) = omega (arith, x.place, x.high) in
        sym (head_whole (drop i o) 0 (x.long ∙ sym length-behind) h) ∙ rw k

    counts_behind : counts (drop i o) 2 n ≡ counts o start n
    unfolding counts
    counts_behind = let e : at (drop i o) 5 ≡ at o (start + 3) = octet_behind 5 ∙ ap (λ (j : ℕ). at o j) (omega (arith, x.place)) in rw e

    noted_behind : (c : Contents) → noted_at w.at (drop i o) c type 2 n ≡ noted_at base o c type start n
    unfolding noted_at
    noted_behind c = let e : w.at + 2 ≡ base + start = omega (arith, x.place) in rw (e, counts_behind)

    kept_behind_lem : (k : Control) → kept_behind (drop i o) k type 2 n ≡ kept_behind o k type start n
    unfolding kept_behind
    kept_behind_lem k = let e : drop 2 (drop i o) ≡ drop start o = drop-drop 2 i o ∙ ap (λ (j : ℕ). drop j o) (sym x.place) in rw e

  pub passed_whole : {type start n : ℕ} → head_at o i ≡ SubTlv type start n
      → passed w (drop i o)
      ≡ step.Halted (record { at = base + (start + n); contents = noted_at base o w.contents type start n; control = kept_behind o w.control type start n })
  unfolding passed stepped
  passed_whole {type} {start} {n} e =
      let x : Within o i type start n = head_within (sym e) refl in
      let a : w.at + (2 + n) ≡ base + (start + n) = omega (arith, x.place) in
      simp (head_behind x, a, noted_behind x, kept_behind_lem x)

module _ {base : ℕ} {o : List ℕ} {count : ℕ} {c : Contents} where
  pub came_place : Came base o count c → c.control.count ≡ 1 → count ≡ 0 → base ≤ c.control.start
  came_place g e f = g.place e f

  pub came_inside : Came base o count c → c.control.count ≡ 1 → count ≡ 0 → c.control.start - base + c.control.length ≤ length o
  came_inside g e f = g.inside e f

  pub came_fits : Came base o count c → c.control.count ≡ 1 → count ≡ 0 → length o < 2 ^ 64 → c.control.start - base + c.control.length < 2 ^ 64
  came_fits g e f h = omega (arith, g.inside e f)

module _ (base : ℕ) (o : List ℕ) (count : ℕ) (k : Control) (c : Contents) {r : Reading} where
  pub end_other : r ≡ judged (base + length o) c k → (c.control.count ≡ 1 → ⊥) → r ≡ judged_end base o count k c
  unfolding judged_end
  end_other j e = simp (j, ne_eqb c.control.count 1 e)

  pub end_kept : r ≡ judged (base + length o) c k → c.control.count ≡ 1 → (count ≡ 0 → ⊥) → r ≡ judged_end base o count k c
  unfolding judged_end
  end_kept j e f = simp (j, eq-eqb c.control.count 1 e, ne_eqb count 0 f)

  pub end_came : {l : Control} → r ≡ judged (base + length o) c l
      → l ≡ control_in (take (c.control.start - base + c.control.length - (c.control.start - base)) (drop (c.control.start - base) o))
      → c.control.count ≡ 1 → count ≡ 0 → r ≡ judged_end base o count k c
  unfolding judged_end
  end_came j l e f = simp (j, l, add-sub_cancel_left, eq-eqb c.control.count 1 e, eq-eqb count 0 f)

-- which control a walk has kept that was at w: the one that came, or the one before
pub record Late (base : ℕ) (o : List ℕ) (w : Walk) (c : Contents) (k : Control) : Type 0 where
  pub stays : (w.contents.control.count ≡ 0 → ⊥) → c.control.count ≡ 0 → ⊥
  pub before : (w.contents.control.count ≡ 0 → ⊥) → c.control.count ≡ 1 → k ≡ w.control
  pub came : Came base o w.contents.control.count c
  pub since : w.contents.control.count ≡ 0 → c.control.count ≡ 1 → k ≡ control_in (take c.control.length (drop (c.control.start - base) o))

late_start : (base : ℕ) (o : List ℕ) (w : Walk) → base + length o < 2 ^ 64 → Late base o w w.contents w.control
late_start base o w h =
    record {
      stays = λ n z. n z;
      before = λ n e. refl;
      came = record { fits = h; place = λ e z. absurd (omega arith); inside = λ e z. absurd (omega arith) };
      since = λ z e. absurd (omega arith);
    }

late_on : {base : ℕ} {o : List ℕ} {w : Walk} {c : Contents} {k : Control} (type start n : ℕ) → start + n ≤ length o → Late base o w c k
    → Late base o w (noted_at base o c type start n) (kept_behind o k type start n)
unfolding noted_at found_again kept_behind
late_on {base} {o} {w} {c} {k} type start n h g = here (type is 1) (not (counts o start n)) (type is 2) (type is 3) (type is 4)
  where
    here : (control skipped groups flow applications : Bool)
        → Late base o w
        (choice control skipped groups flow applications
        (record { control = found_again c.control (base + start) n; groups = c.groups; flow = c.flow; applications = c.applications })
        (record { control = c.control; groups = found_again c.groups (base + start) n; flow = c.flow; applications = c.applications })
        (record { control = c.control; groups = c.groups; flow = found_again c.flow (base + start) n; applications = c.applications })
        (record { control = c.control; groups = c.groups; flow = c.flow; applications = found_again c.applications (base + start) n })
        c)
        (if control then control_in (take n (drop start o)) else k)
    here true skipped groups flow applications =
        let p : base + start - base ≡ start = omega arith in
        record {
          stays = λ m z. absurd (omega arith);
          before = λ m e. absurd (g.stays m (omega arith));
          came = record { fits = g.came.fits; place = λ e z. omega arith; inside = λ e z. omega arith };
          since = λ z e. rw p refl;
        }
    here false true groups flow applications = g
    here false false true flow applications = record { stays = g.stays; before = g.before; came = record { fits = g.came.fits; place = g.came.place; inside = g.came.inside }; since = g.since }
    here false false false true applications = record { stays = g.stays; before = g.before; came = record { fits = g.came.fits; place = g.came.place; inside = g.came.inside }; since = g.since }
    here false false false false true = record { stays = g.stays; before = g.before; came = record { fits = g.came.fits; place = g.came.place; inside = g.came.inside }; since = g.since }
    here false false false false false = g

judged_any : (end : ℕ) (c : Contents) (k l : Control) → (c.control.count ≡ 1 → ⊥) → judged end c k ≡ judged end c l
unfolding judged
judged_any end c k l e = here (c.control.count is 0) refl
  where
    here : (b : Bool) → (c.control.count is 0) ≡ b
        → (if b then Err (rejection NoControl end) else if 1 below c.control.count then Ok c
        else if not (c.control.length is 10) then Err (rejection ControlLength (head_of c.control))
        else if k.max below k.oper then Err (rejection ControlVersion (head_of c.control)) else Ok c)
        ≡ (if b then Err (rejection NoControl end) else if 1 below c.control.count then Ok c
        else if not (c.control.length is 10) then Err (rejection ControlLength (head_of c.control))
        else if l.max below l.oper then Err (rejection ControlVersion (head_of c.control)) else Ok c)
    here true q = refl
    here false q = let z : c.control.count ≡ 0 → ⊥ = eqb-false c.control.count 0 q in simp (lt-ltb 1 c.control.count (omega arith))

late_judged : {base : ℕ} {o : List ℕ} {w : Walk} {c : Contents} {k : Control} → Late base o w c k
    → judged_end base o w.contents.control.count w.control c ≡ judged (base + length o) c k
unfolding judged_end
late_judged {base} {o} {w} {c} {k} g = here (c.control.count is 1) (w.contents.control.count is 0) refl refl
  where
    here : (a b : Bool) → (c.control.count is 1) ≡ a → (w.contents.control.count is 0) ≡ b
        → (if a && b then judged (base + length o) c (control_in (take c.control.length (drop (c.control.start - base) o)))
        else judged (base + length o) c w.control)
        ≡ judged (base + length o) c k
    here true true p q = ap (judged (base + length o) c) (sym (g.since (eqb-true w.contents.control.count 0 q) (eqb-true c.control.count 1 p)))
    here true false p q = ap (judged (base + length o) c) (sym (g.before (eqb-false w.contents.control.count 0 q) (eqb-true c.control.count 1 p)))
    here false b p q = judged_any (base + length o) c w.control k (eqb-false c.control.count 1 p)

pub finish_here : (o : List ℕ) (w : Walk) {r : Reading} → r ≡ finished w (drop (w.at - w.at) o) → r ≡ finished w o
finish_here o w e = let z : w.at - w.at ≡ 0 = omega arith in e ∙ rw z refl

-- the walk has come from w to a place of o, and goes on from there with steps enough
pub record GoingOn (base : ℕ) (o : List ℕ) (w : Walk) (c : Contents) (i : ℕ) : Type 0 where
  pub steps : ℕ
  pub enough : length o ≤ i + steps
  pub within : i ≤ length o
  pub kept : Control
  pub late : Late base o w c kept
  pub left : finish_in steps (record { at = base + i; contents = c; control = kept }) (drop i o) ≡ finished w (drop (w.at - base) o)
  pub fits : base + length o < 2 ^ 64

pub finish_start : {base : ℕ} {o : List ℕ} {w : Walk} → Ahead base o w → GoingOn base o w w.contents (w.at - base)
unfolding finished
finish_start {base} {o} {w} a =
    let i : ℕ = w.at - base in
    let p : base + i ≡ w.at = omega (arith, a.from) in
    record {
      steps = length (drop i o);
      enough = omega (arith, length-drop i o);
      within = omega (arith, a.within);
      kept = w.control;
      late = late_start base o w a.fits;
      left = rw p refl;
      fits = a.fits;
    }

module _ {base : ℕ} {o : List ℕ} {w : Walk} {c : Contents} {i : ℕ} where
  pub finish_came : GoingOn base o w c i → Came base o w.contents.control.count c
  finish_came g = g.late.came

  module _ {d : Head} where
    pub finish_end : {r : Reading} → GoingOn base o w c i → d ≡ head_at o i → d ≡ End
        → r ≡ judged_end base o w.contents.control.count w.control c → r ≡ finished w (drop (w.at - base) o)
    unfolding finish_in finishing
    finish_end {r} g e f j = let z : base + length o ≡ base + i + length (drop i o) = omega (arith, length-drop i o, g.within) in j ∙ late_judged g.late ∙ rw z (here g.steps g.left)
      where
        here : (m : ℕ) → finish_in m (record { at = base + i; contents = c; control = g.kept }) (drop i o) ≡ finished w (drop (w.at - base) o)
            → judged (base + i + length (drop i o)) c g.kept ≡ finished w (drop (w.at - base) o)
        here zero l = l
        here (suc m) l = simp (passed_end base o i (record { at = base + i; contents = c; control = g.kept }) refl (sym e ∙ f)) at l

    pub finish_overrun : GoingOn base o w c i → d ≡ head_at o i → d ≡ Past → base + i < 2 ^ 64
    finish_overrun g e f = let h = at_past o i (sym e ∙ f) in omega (arith, g.fits)

    pub finish_past : GoingOn base o w c i → d ≡ head_at o i → d ≡ Past → Err (rejection PastEnd (base + i)) ≡ finished w (drop (w.at - base) o)
    unfolding finish_in finishing
    finish_past g e f = here g.steps g.enough g.left
      where
        here : (m : ℕ) → length o ≤ i + m → finish_in m (record { at = base + i; contents = c; control = g.kept }) (drop i o) ≡ finished w (drop (w.at - base) o)
            → Err (rejection PastEnd (base + i)) ≡ finished w (drop (w.at - base) o)
        here zero h l = absurd (end_is_not_past (head_end o i (omega arith) ∙ sym e ∙ f))
        here (suc m) h l = simp (passed_past base o i (record { at = base + i; contents = c; control = g.kept }) refl (sym e ∙ f)) at l

    pub finish_room : {type start n : ℕ} → GoingOn base o w c i → d ≡ head_at o i → d ≡ SubTlv type start n → Room base o start n
    finish_room g e f = record { inside = (head_within e f).high; fits = g.fits }

    pub finish_place : {type start n : ℕ} → GoingOn base o w c i → d ≡ head_at o i → d ≡ SubTlv type start n → start + n < 2 ^ 64
    finish_place g e f = let x = head_within e f in omega (arith, g.fits)

    pub finish_on : {type start n : ℕ} {e : Contents} → GoingOn base o w c i → d ≡ head_at o i → d ≡ SubTlv type start n
        → e ≡ noted_at base o c type start n → GoingOn base o w e (start + n)
    unfolding finish_in finishing
    finish_on {type} {start} {n} g x f p = rw p (here g.steps g.enough g.left)
      where
        here : (m : ℕ) → length o ≤ i + m → finish_in m (record { at = base + i; contents = c; control = g.kept }) (drop i o) ≡ finished w (drop (w.at - base) o)
            → GoingOn base o w (noted_at base o c type start n) (start + n)
        here zero h l = let y = head_within x f in absurd (omega arith)
        here (suc m) h l =
            let y = head_within x f in
            let b : i + (base + (start + n) - (base + i)) ≡ start + n = omega (arith, y.place) in
            let z : drop (base + (start + n) - (base + i)) (drop i o) ≡ drop (start + n) o = drop-drop (base + (start + n) - (base + i)) i o ∙ ap (λ (j : ℕ). drop j o) b in
            record {
              steps = m;
              enough = omega (arith, y.place);
              within = y.high;
              kept = kept_behind o g.kept type start n;
              late = late_on type start n y.high g.late;
              left = simp (passed_whole base o i (record { at = base + i; contents = c; control = g.kept }) refl (sym x ∙ f), z) at l;
              fits = g.fits;
            }
