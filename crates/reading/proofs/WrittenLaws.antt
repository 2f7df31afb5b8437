-- The walk over octets in which sub-TLVs stand one behind the other, step by step. Assumes nothing.
use Rattle.std.specs.Prelude.{Ok, ℕ, zero, suc, ◌+◌, ◌*◌, ◌/◌, ◌%◌, ◌<◌, ◌≤◌, ◌≡◌, Bool, not, ◌||◌, take, drop, if◌then◌else◌}
use Rattle.std.proofs.Common.{◌∙◌, arith, add-zero, length-append, length-take, length-drop, get_or-take, get_or-drop, drop-drop}
use Rattle.std.proofs.Math.Path.{refl, sym, ap}
use Rattle.std.proofs.Math.Bool.{true, false}
use mathlib.Core.List.{List, [], ◌∷◌, ◌++◌, append_assoc, append-nil}
use borrow.Author.Tests.{le-leb, le-ltb, ltb-false, eq-eqb, ne_eqb}
use Rattle.std.proofs.Math.ListN.{length, get_or-append}
use Rattle.std.proofs.Math.Seq.{take-append_seam, drop-append_seam}
use Rattle.octets.specs.Words.{◌below◌, ◌is◌}
use Rattle.octets.specs.Octets.{at, same}
use Rattle.tlv.specs.declared.Head.TheVariants.{SubTlv}
use Rattle.contents.specs.declared.Contents.{Contents}
use Rattle.reading.specs.Reading.{Walked, onward, walk_from, walked, judged_control, read_frame}
use Rattle.tlv.specs.Layout.{type_at, length_at, head_at, is_dcbx}
use Rattle.contents.specs.Contents.{counts, found_again, noted}
use Rattle.contents.specs.ContentsLaws.{choice}
use Rattle.tlv.specs.Laws.{head_end, head_whole}
use Rattle.reading.proofs.ReadingLaws.{walked_inside}
use Rattle.reading.specs.Promises.{Inside}
use Rattle.reading.proofs.ValuesLaws.{Tlv, octets_of, octets_all, frame_of, Values, OneControl, values_in, no_value, no_values, counted_again, counts_value, noted_value, noted_values, Part, Parts, part_octets, parts_octets, parts_values, LaidOut}

-- a value is short enough for its length field
abbrev pub Sized : List Tlv → Type 0
Sized [] = Unit
Sized (t ∷ ts) = (length t.value < 512) × Sized ts

choice_equal : {A B : Type 0} (f : A → B) {a b c d e : A} {p q r s t : B} (control skipped groups flow applications : Bool)
    → f a ≡ p → f b ≡ q → f c ≡ r → f d ≡ s → f e ≡ t
    → f (choice control skipped groups flow applications a b c d e) ≡ choice control skipped groups flow applications p q r s t
choice_equal f true skipped groups flow applications ea eb ec ed ee = ea
choice_equal f false true groups flow applications ea eb ec ed ee = ee
choice_equal f false false true flow applications ea eb ec ed ee = eb
choice_equal f false false false true applications ea eb ec ed ee = ec
choice_equal f false false false false true ea eb ec ed ee = ed
choice_equal f false false false false false ea eb ec ed ee = ee

-- ---- one sub-TLV that stands at a place, and more octets behind it

module _ (o : List ℕ) (i : ℕ) (t : Tlv) (rest : List ℕ) (s : drop i o ≡ octets_of t ++ rest) where
  written_length : length o ≡ i + (2 + length t.value + length rest)
  written_length = omega (arith, ap length s, length-drop i o, length-append t.value rest)

  written_behind : drop (i + 2) o ≡ t.value ++ rest
  written_behind = sym (drop-drop 2 i o) ∙ ap (λ (l : List ℕ). drop 2 l) s

  written_value : take (length t.value) (drop (i + 2) o) ≡ t.value
  written_value = rw written_behind (take-append_seam t.value rest)

  written_rest : drop (i + 2 + length t.value) o ≡ rest
  written_rest = sym (drop-drop (length t.value) (i + 2) o) ∙ rw written_behind (drop-append_seam t.value rest)

  written_head : length t.value < 512 → head_at o i ≡ SubTlv t.kind (i + 2) (length t.value)
  written_head h =
      let n : ℕ = length t.value in
      let a : at o i ≡ t.kind * 2 + n / 256 = ap (λ (k : ℕ). at o k) (sym (add-zero i)) ∙ sym (get_or-drop i o 0 0) ∙ ap (λ (l : List ℕ). at l 0) s in
      let b : at o (i + 1) ≡ n % 256 = sym (get_or-drop i o 1 0) ∙ ap (λ (l : List ℕ). at l 1) s in
      let l : n ≡ length_at o i = omega arith in
      let k : type_at o i ≡ t.kind = omega arith in
      let m = written_length in
      sym (head_whole o i l (omega arith)) ∙ rw k

  written_counts : counts o (i + 2) (length t.value) ≡ counts_value t.value
  unfolding counts counts_value
  written_counts = here (length t.value below 4) refl
    where
      here : (b : Bool) → (length t.value below 4) ≡ b → (b || (at o (i + 2 + 3) is 0)) ≡ (b || (at t.value 3 is 0))
      here true q = refl
      here false q =
          let h : 4 ≤ length t.value = ltb-false _ _ q in
          let e : at o (i + 2 + 3) ≡ at t.value 3 =
          sym (get_or-drop (i + 2) o 3 0) ∙ ap (λ (l : List ℕ). at l 3) written_behind ∙ get_or-append t.value rest 0 3 h in
          rw e

  written_noted : (c : Contents) → values_in o (noted o c t.kind (i + 2) (length t.value)) ≡ noted_value t (values_in o c)
  unfolding noted noted_value found_again counted_again
  written_noted c =
      rw written_counts
      (choice_equal (λ d. values_in o d) (t.kind is 1) (not (counts_value t.value)) (t.kind is 2) (t.kind is 3) (t.kind is 4)
      (rw written_value)
      (rw written_value)
      (rw written_value)
      (rw written_value)
      refl)

-- ---- all of them

-- a walk that came to the end, and what it found
pub record Walks (o : List ℕ) (w : Walked) (x : Values) : Type 0 where
  pub whole : w.past ≡ false
  pub values : values_in o w.contents ≡ x

pub walks_written : (o : List ℕ) (ts : List Tlv) (k i : ℕ) (c : Contents) → Sized ts → length (octets_all ts) ≤ k → drop i o ≡ octets_all ts
    → Walks o (walk_from k o i c) (noted_values ts (values_in o c))
unfolding walk_from onward octets_all noted_values
walks_written o [] zero i c z h s = record { whole = refl; values = refl }
walks_written o [] (suc k) i c z h s =
    simp (sym (head_end o i (omega (arith, ap length s, length-drop i o)))) (record { whole = refl; values = refl })
walks_written o (t ∷ ts) zero i c z h s = absurd (omega arith)
walks_written o (t ∷ ts) (suc k) i c z h s =
    let m = written_length o i t (octets_all ts) s in
    let e = length-append t.value (octets_all ts) in
    let r = walks_written o ts k (i + 2 + length t.value) (noted o c t.kind (i + 2) (length t.value)) z.1 (omega arith) (written_rest o i t (octets_all ts) s) in
    simp (written_head o i t (octets_all ts) s z.0) (rw (written_noted o i t (octets_all ts) s c) at r)

-- ---- frames

-- values in a short frame are short
pub sized : (ts : List Tlv) → length (octets_all ts) < 512 → Sized ts
unfolding octets_all
sized [] h = tt
sized (t ∷ ts) h = let e = length-append t.value (octets_all ts) in (omega arith, sized ts (omega arith))

frame_dcbx : (ts : List Tlv) → length (octets_all ts) < 508 → is_dcbx (frame_of ts) ≡ true
unfolding is_dcbx same
frame_dcbx ts h = simp (le-leb 6 (length (frame_of ts)) (omega arith), eq-eqb (type_at (frame_of ts) 0) 127 (omega arith))

frame_length : (ts : List Tlv) → length (octets_all ts) < 508 → length_at (frame_of ts) 0 + 2 ≡ length (frame_of ts)
frame_length ts h = omega arith

-- one control whose value is readable is accepted
control_accepted : (o : List ℕ) (c : Contents) (x : Values) → Inside o c → values_in o c ≡ x → OneControl x → judged_control o c ≡ Ok c
unfolding judged_control
control_accepted o c x i e w =
    let f = c.control in
    let count : f.count ≡ 1 = ap (λ (v : Values). v.control.count) e ∙ w.once in
    let value : take f.length (drop f.start o) ≡ x.control.value = ap (λ (v : Values). v.control.value) e in
    let l : f.length ≡ 10 = omega (arith, ap length value, length-take f.length (drop f.start o), length-drop f.start o, i.control, w.long) in
    let first : at x.control.value 0 ≡ at o f.start =
    ap (λ (v : List ℕ). at v 0) (sym value) ∙ get_or-take f.length (drop f.start o) 0 0 (omega arith) ∙ get_or-drop f.start o 0 0 ∙ ap (λ (k : ℕ). at o k) (add-zero f.start) in
    let second : at x.control.value 1 ≡ at o (f.start + 1) =
    ap (λ (v : List ℕ). at v 1) (sym value) ∙ get_or-take f.length (drop f.start o) 1 0 (omega arith) ∙ get_or-drop f.start o 1 0 in
    simp (ne_eqb f.count 0 (omega arith), le-ltb 1 f.count (omega arith), eq-eqb f.length 10 l, le-ltb (at o (f.start + 1)) (at o f.start) (omega (arith, w.versions)))

pub frame_accepted : (ts : List Tlv) → length (octets_all ts) < 508 → Walks (frame_of ts) (walked (frame_of ts)) (noted_values ts no_values)
    → OneControl (noted_values ts no_values) → read_frame (frame_of ts) ≡ Ok (walked (frame_of ts)).contents
unfolding read_frame
frame_accepted ts h w v =
    let o : List ℕ = frame_of ts in
    simp (frame_dcbx ts h, eq-eqb (length_at o 0 + 2) (length o) (frame_length ts h), w.whole)
    (control_accepted o (walked o).contents (noted_values ts no_values) (walked_inside o) w.values v)

-- ---- parts in the order of writing

pub octets_all_append : (ts us : List Tlv) → octets_all (ts ++ us) ≡ octets_all ts ++ octets_all us
unfolding octets_all
octets_all_append [] us = refl
octets_all_append (t ∷ ts) us = rw (octets_all_append ts us) (sym (append_assoc (octets_of t) (octets_all ts) (octets_all us)))

pub noted_values_append : (ts us : List Tlv) (x : Values) → noted_values (ts ++ us) x ≡ noted_values us (noted_values ts x)
unfolding noted_values
noted_values_append [] us x = refl
noted_values_append (t ∷ ts) us x = noted_values_append ts us (noted_value t x)

counts_subtype : (v : List ℕ) → at v 3 ≡ 0 → counts_value v ≡ true
unfolding counts_value
counts_subtype v e = rw (eq-eqb (at v 3) 0 e) (here (length v below 4))
  where
    here : (b : Bool) → (b || true) ≡ true
    here true = refl
    here false = refl

abbrev part_tlvs : ℕ → Part → List Tlv
part_tlvs kind x = if x.advertised then record { kind = kind; value = x.value } ∷ [] else []

abbrev pub parts_tlvs : Parts → List Tlv
parts_tlvs p = record { kind = 1; value = p.control } ∷ (part_tlvs 2 p.groups ++ (part_tlvs 3 p.flow ++ part_tlvs 4 p.applications))

part_octets_lem : (kind : ℕ) (x : Part) → octets_all (part_tlvs kind x) ≡ part_octets kind x
unfolding octets_all
part_octets_lem kind x = here x.advertised
  where
    here : (b : Bool) → octets_all (if b then record { kind = kind; value = x.value } ∷ [] else []) ≡ (if b then octets_of (record { kind = kind; value = x.value }) else [])
    here true = append-nil (octets_of (record { kind = kind; value = x.value }))
    here false = refl

pub parts_octets_lem : (p : Parts) → octets_all (parts_tlvs p) ≡ parts_octets p
unfolding octets_all parts_octets
parts_octets_lem p = simp (octets_all_append, part_octets_lem)

pub parts_noted : (p : Parts) → LaidOut p → noted_values (parts_tlvs p) no_values ≡ parts_values p
unfolding noted_values noted_value counted_again
parts_noted p l = here p.groups.advertised p.flow.advertised p.applications.advertised l.groups l.flow l.applications
  where
    here : (g f a : Bool) → at p.groups.value 3 ≡ 0 → at p.flow.value 3 ≡ 0 → at p.applications.value 3 ≡ 0
        → noted_values
        (record { kind = 1; value = p.control }
        ∷ ((if g then record { kind = 2; value = p.groups.value } ∷ [] else [])
        ++ ((if f then record { kind = 3; value = p.flow.value } ∷ [] else [])
        ++ (if a then record { kind = 4; value = p.applications.value } ∷ [] else [])))) no_values
        ≡ record {
          control = record { count = 1; value = p.control };
          groups = if g then record { count = 1; value = p.groups.value } else no_value;
          flow = if f then record { count = 1; value = p.flow.value } else no_value;
          applications = if a then record { count = 1; value = p.applications.value } else no_value;
        }
    here true true true x y z = simp counts_subtype
    here true true false x y z = simp counts_subtype
    here true false true x y z = simp counts_subtype
    here true false false x y z = simp counts_subtype
    here false true true x y z = simp counts_subtype
    here false true false x y z = simp counts_subtype
    here false false true x y z = simp counts_subtype
    here false false false x y z = refl
