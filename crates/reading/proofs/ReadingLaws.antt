-- What reading finds lies within the octets, and what is accepted is what was walked. Assumes nothing.
use Rattle.tlv.specs.Refusals.{rejection}
use Rattle.std.specs.Prelude.{Ok, Err, ℕ, zero, suc, ◌+◌, ◌≤◌, ◌≡◌, refl, Bool, true, false, not, List, length, if◌then◌else◌}
use Rattle.std.proofs.Common.{arith}
use Rattle.octets.specs.Words.{◌below◌, ◌is◌}
use Rattle.octets.specs.Octets.{at}
use Rattle.tlv.specs.declared.Refusal.TheVariants.{NoControl, ControlLength, ControlVersion}
use Rattle.tlv.specs.declared.Head.{Head}
use Rattle.tlv.specs.declared.Head.TheVariants.{End, Past, SubTlv}
use Rattle.contents.specs.declared.Contents.{Contents}
use Rattle.contents.specs.Contents.{Reading}
use Rattle.tlv.specs.Layout.{head_at}
use Rattle.contents.specs.Contents.{counts, found_again, noted, no_contents, head_of}
use Rattle.reading.specs.Reading.{onward, walk_from, walked, judged_control}
use Rattle.reading.specs.Promises.{Inside, ReadPromise}
use Rattle.contents.specs.ContentsLaws.{choice}
use Rattle.tlv.specs.Laws.{head_within}

-- ---- the walk

choice_is : {A : Type 0} (P : A → Type 0) {a b c d e : A} (control skipped groups flow applications : Bool)
    → P a → P b → P c → P d → P e → P (choice control skipped groups flow applications a b c d e)
choice_is P true skipped groups flow applications pa pb pc pd pe = pa
choice_is P false true groups flow applications pa pb pc pd pe = pe
choice_is P false false true flow applications pa pb pc pd pe = pb
choice_is P false false false true applications pa pb pc pd pe = pc
choice_is P false false false false true pa pb pc pd pe = pd
choice_is P false false false false false pa pb pc pd pe = pe

-- noting a value that lies within the octets
noted_inside : {o : List ℕ} {c : Contents} (type start n : ℕ) → start + n ≤ length o → Inside o c → Inside o (noted o c type start n)
unfolding noted found_again
noted_inside {o} {c} type start n h i =
    choice_is (λ d. Inside o d) (type is 1) (not (counts o start n)) (type is 2) (type is 3) (type is 4)
    (record { control = h; groups = i.groups; flow = i.flow; applications = i.applications })
    (record { control = i.control; groups = h; flow = i.flow; applications = i.applications })
    (record { control = i.control; groups = i.groups; flow = h; applications = i.applications })
    (record { control = i.control; groups = i.groups; flow = i.flow; applications = h })
    i

walk_from_inside : (k : ℕ) (o : List ℕ) (i : ℕ) (c : Contents) → Inside o c → Inside o (walk_from k o i c).contents
unfolding walk_from onward
walk_from_inside zero o i c h = h
walk_from_inside (suc k) o i c h = here (λ j d t. walk_from_inside k o j d t) (head_at o i) refl
  where
    here : ((j : ℕ) (d : Contents) → Inside o d → Inside o (walk_from k o j d).contents) → (x : Head) → x ≡ head_at o i
        → Inside o (onward o i x c (λ j d. walk_from k o j d)).contents
    here later End e = h
    here later Past e = h
    here later (SubTlv type start n) e =
        later (start + n) (noted o c type start n) (noted_inside type start n (head_within e refl).high h)

-- wherever the walk ends, what it has found lies within the octets
pub walked_inside : (o : List ℕ) → Inside o (walked o).contents
unfolding walked
walked_inside o =
    walk_from_inside (length o) o 6 no_contents (record { control = omega arith; groups = omega arith; flow = omega arith; applications = omega arith })

-- ---- refusals 3 to 8

-- what is accepted is what was walked
pub judged_accepts : (o : List ℕ) (c d : Contents) → judged_control o c ≡ Ok d → c ≡ d
unfolding judged_control
judged_accepts o c d e =
    here (c.control.count is 0) (1 below c.control.count) (not (c.control.length is 10)) (at o (c.control.start + 1) below at o c.control.start) e
  where
    here : (none several short newer : Bool)
        → (if none then Err (rejection NoControl (length o)) else if several then Ok c else if short then Err (rejection ControlLength (head_of c.control))
        else if newer then Err (rejection ControlVersion (head_of c.control)) else Ok c) ≡ Ok d
        → c ≡ d
    here true several short newer r = cc
    here false true short newer r = cc
    here false false true newer r = cc
    here false false false true r = cc
    here false false false false r = cc

-- for callers, after a `match`: an accepted frame's values lie within it
pub accepted_inside : {o : List ℕ} {r : Reading} {c : Contents} → ReadPromise o r → r ≡ Ok c → Inside o c
accepted_inside {o} {r} {c} p e = p.inside c e
