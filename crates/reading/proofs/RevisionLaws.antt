-- Reading for a revision: laws for each way out, and that leaving out what was found of type 4 is to skip it. Assumes nothing.
use Rattle.tlv.specs.Refusals.{rejection}
use Rattle.std.specs.Prelude.{Ok, Err, ℕ, zero, suc, ◌+◌, ◌≡◌, Bool, not, List, length, if◌then◌else◌}
use Rattle.std.proofs.Common.{arith, sym, ◌∙◌, eqb-true}
use Rattle.std.proofs.Math.Path.{refl, ap}
use Rattle.std.proofs.Math.Bool.{true, false}
use Rattle.std.proofs.lemmas.Bool.{false≢true}
use Rattle.octets.specs.Words.{◌below◌, ◌is◌}
use Rattle.octets.specs.Octets.{at}
use Rattle.tlv.specs.declared.Revision.{Revision}
use Rattle.tlv.specs.declared.Revision.TheVariants.{Rev101, Rev10}
use Rattle.contents.specs.declared.Contents.{Contents}
use Rattle.tlv.specs.declared.Head.{Head}
use Rattle.tlv.specs.declared.Head.TheVariants.{End, Past, SubTlv}
use Rattle.contents.specs.Contents.{Reading}
use Rattle.tlv.specs.declared.Refusal.TheVariants.{NotDcbx, WrongLength, PastEnd, NoControl, ControlLength, ControlVersion}
use Rattle.reading.specs.Reading.{Walked, onward, walk_from, walked, judged_control, read_frame}
use Rattle.tlv.specs.Layout.{length_at, head_at, is_dcbx}
use Rattle.contents.specs.Contents.{counts, found_again, noted, nothing_found, no_contents, head_of}
use Rattle.reading.specs.Promises.{Inside, ReadPromise, ReadsFor}
use Rattle.tlv.specs.Revisions.{has_applications}
use Rattle.reading.specs.Revisions.{without_applications, skipping, read_for, noted_but4, onward_but4, walk_but4, read_but4, Skips}

-- ---- the code's ways out

inside_skipped : (o : List ℕ) (r : Reading) → ((c : Contents) → r ≡ Ok c → Inside o c) → (c : Contents) → skipping r ≡ Ok c → Inside o c
unfolding skipping
inside_skipped o (Err x) h c e = let z : ◌≡◌ {A = ℕ} 0 1 = cc in absurd (omega arith)
inside_skipped o (Ok d) h c e =
    let k : without_applications d ≡ c = cc in
    let i : Inside o d = h d refl in
    rw (← k) (record { control = i.control; groups = i.groups; flow = i.flow; applications = omega arith })

module _ (v : Revision) (o : List ℕ) {r : Reading} (h : ReadPromise o r) {b : Bool} (eb : b ≡ has_applications v) where
  pub reads_whole : b ≡ true → ReadsFor v o r
  unfolding read_for has_applications
  reads_whole t = by v (sym eb ∙ t)
    where
      by : (v : Revision) → has_applications v ≡ true → ReadsFor v o r
      by Rev101 e = record { is = h.is; inside = h.inside }
      by Rev10 e = absurd (false≢true e)

  pub reads_skipping : {x : Reading} → b ≡ false → x ≡ skipping r → ReadsFor v o x
  unfolding read_for has_applications
  reads_skipping {x} t ex = by v (sym eb ∙ t)
    where
      by : (v : Revision) → has_applications v ≡ false → ReadsFor v o x
      by Rev101 e = absurd (false≢true (sym e))
      by Rev10 e = record { is = ex ∙ ap skipping h.is; inside = λ c q. inside_skipped o r h.inside c (sym ex ∙ q) }

-- ---- skipping

-- over the tests of what is noted
noted_skips : (c : Contents) (start n : ℕ) (a b d e f : Bool) → (a ≡ true → f ≡ false) → (d ≡ true → f ≡ false) → (e ≡ true → f ≡ false) →
    (if f then without_applications c
    else if a then record { control = found_again c.control start n; groups = c.groups; flow = c.flow; applications = nothing_found }
    else if not b then without_applications c
    else if d then record { control = c.control; groups = found_again c.groups start n; flow = c.flow; applications = nothing_found }
    else if e then record { control = c.control; groups = c.groups; flow = found_again c.flow start n; applications = nothing_found }
    else if f then record { control = c.control; groups = c.groups; flow = c.flow; applications = found_again nothing_found start n }
    else without_applications c)
    ≡ without_applications
    (if a then record { control = found_again c.control start n; groups = c.groups; flow = c.flow; applications = c.applications }
    else if not b then c
    else if d then record { control = c.control; groups = found_again c.groups start n; flow = c.flow; applications = c.applications }
    else if e then record { control = c.control; groups = c.groups; flow = found_again c.flow start n; applications = c.applications }
    else if f then record { control = c.control; groups = c.groups; flow = c.flow; applications = found_again c.applications start n }
    else c)
noted_skips c start n true b d e true x y z = absurd (false≢true (sym (x refl)))
noted_skips c start n true b d e false x y z = refl
noted_skips c start n false false d e true x y z = refl
noted_skips c start n false false d e false x y z = refl
noted_skips c start n false true true e true x y z = absurd (false≢true (sym (y refl)))
noted_skips c start n false true true e false x y z = refl
noted_skips c start n false true false true true x y z = absurd (false≢true (sym (z refl)))
noted_skips c start n false true false true false x y z = refl
noted_skips c start n false true false false true x y z = refl
noted_skips c start n false true false false false x y z = refl

other_type : (type k : ℕ) → (type is k) ≡ true → (k is 4) ≡ false → (type is 4) ≡ false
other_type type k e n = ap (λ (i : ℕ). i is 4) (eqb-true type k e) ∙ n

noted_but_4 : (o : List ℕ) (c : Contents) (type start n : ℕ) → noted_but4 o (without_applications c) type start n ≡ without_applications (noted o c type start n)
unfolding noted_but4 noted
noted_but_4 o c type start n =
    noted_skips c start n (type is 1) (counts o start n) (type is 2) (type is 3) (type is 4)
    (λ e. other_type type 1 e refl) (λ e. other_type type 2 e refl) (λ e. other_type type 3 e refl)

record Beside (w z : Walked) : Type 0 where
  place : w.place ≡ z.place
  past : w.past ≡ z.past
  contents : w.contents ≡ without_applications z.contents

walk_but_4 : (k : ℕ) (o : List ℕ) (i : ℕ) (c : Contents) → Beside (walk_but4 k o i (without_applications c)) (walk_from k o i c)
unfolding walk_but4 walk_from onward_but4 onward
walk_but_4 zero o i c = record { place = refl; past = refl; contents = refl }
walk_but_4 (suc k) o i c = by (λ j d. walk_but_4 k o j d) (head_at o i)
  where
    by : ((j : ℕ) (d : Contents) → Beside (walk_but4 k o j (without_applications d)) (walk_from k o j d)) → (h : Head)
        → Beside (onward_but4 o i h (without_applications c) (λ j d. walk_but4 k o j d)) (onward o i h c (λ j d. walk_from k o j d))
    by later End = record { place = refl; past = refl; contents = refl }
    by later Past = record { place = refl; past = refl; contents = refl }
    by later (SubTlv type start n) = rw (noted_but_4 o c type start n) (later (start + n) (noted o c type start n))

-- refusals 6 to 8 do not look at applications
judged_skips : (o : List ℕ) (c : Contents) → skipping (judged_control o c) ≡ judged_control o (without_applications c)
unfolding judged_control skipping
judged_skips o c =
    by (c.control.count is 0) (1 below c.control.count) (c.control.length is 10) (at o (c.control.start + 1) below at o c.control.start)
  where
    by : (a b d e : Bool) →
        skipping
        (if a then Err (rejection NoControl (length o))
        else if b then Ok c
        else if not d then Err (rejection ControlLength (head_of c.control))
        else if e then Err (rejection ControlVersion (head_of c.control))
        else Ok c)
        ≡ (if a then Err (rejection NoControl (length o))
        else if b then Ok (without_applications c)
        else if not d then Err (rejection ControlLength (head_of c.control))
        else if e then Err (rejection ControlVersion (head_of c.control))
        else Ok (without_applications c))
    by true b d e = refl
    by false true d e = refl
    by false false false e = refl
    by false false true true = refl
    by false false true false = refl

pub skips : Skips
unfolding read_for read_frame read_but4 walked skipping
skips o =
    let w = walk_but_4 (length o) o 6 no_contents in
    by (is_dcbx o) (length_at o 0 + 2 is length o) (walked o).past
    ∙ (λ i. if not (is_dcbx o) then Err (rejection NotDcbx 0)
    else if not (length_at o 0 + 2 is length o) then Err (rejection WrongLength 0)
    else if sym w.past i then Err (rejection PastEnd (sym w.place i))
    else judged_control o (sym w.contents i))
  where
    by : (a b d : Bool) →
        skipping
        (if not a then Err (rejection NotDcbx 0)
        else if not b then Err (rejection WrongLength 0)
        else if d then Err (rejection PastEnd (walked o).place)
        else judged_control o (walked o).contents)
        ≡ (if not a then Err (rejection NotDcbx 0)
        else if not b then Err (rejection WrongLength 0)
        else if d then Err (rejection PastEnd (walked o).place)
        else judged_control o (without_applications (walked o).contents))
    by false b d = refl
    by true false d = refl
    by true true true = refl
    by true true false = judged_skips o (walked o).contents
