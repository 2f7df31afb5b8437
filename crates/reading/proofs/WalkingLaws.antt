-- The thin reader can be walked with: `reader_walks`. Assumes nothing.
use Rattle.tlv.specs.declared.Refusal.{Refusal}
use Rattle.tlv.specs.declared.Rejection.{Rejection}
use Rattle.tlv.specs.Refusals.{rejection}
use Prim.Native.Nat.{ℕ, zero, suc, ◌+◌, ◌≤◌}
use Rattle.std.specs.Prelude.{Ok, Err, ◌≡◌, Bool, true, false, not, List, [], ◌∷◌, ◌↔◌, length, if◌then◌else◌}
use Rattle.std.proofs.Common.{◌∙◌, ap, arith, eq-eqb}
use Rattle.std.proofs.Math.Path.{refl, sym}
use denote.Ref.{Bor}
use Rattle.octets.specs.Words.{◌below◌, ◌is◌}
use Rattle.octets.specs.Octets.{at}
use Rattle.tlv.specs.declared.Refusal.TheVariants.{PastEnd, NoControl, ControlLength, ControlVersion}
use Rattle.tlv.specs.declared.Head.{Head}
use Rattle.tlv.specs.declared.Head.TheVariants.{End, Past, SubTlv}
use Rattle.contents.specs.declared.Contents.{Contents}
use Rattle.reading.specs.declared.reader.Reader.{Reader}
use Rattle.reading.specs.Reading.{Walked, onward, walk_from, walked, judged_control, read_frame}
use Rattle.tlv.specs.Layout.{length_at, head_at, is_dcbx}
use Rattle.contents.specs.Contents.{Reading, noted, no_contents, head_of}
use Rattle.tlv.specs.Laws.{head_end, end_is_not_past, head_within}
use Rattle.reading.specs.Walking.{Handed, Meets, ends, overruns, hands, noted_all, Walkable}

-- ---- each walk with the reader is the walk

-- how a walk ends that noted `c` before
record Ends (o : List ℕ) (ms : List Handed) (c : Contents) (i : ℕ) (last : Head) (w : Walked) : Type 0 where
  contents : w.contents ≡ noted_all o ms c
  place : w.place ≡ i
  answer : last ≡ (if w.past then Past else End)

module _ (o : List ℕ) where
  met_ends : {r : Reader} {ms : List Handed} {place : ℕ} {last : Head} → Meets r ms place last → r.src.now ≡ o → (k i : ℕ) (c : Contents) → r.at ≡ i
      → length o ≤ i + k → Ends o ms c place last (walk_from k o i c)
  unfolding walk_from onward noted_all
  met_ends (ends e) s zero i c t h = record { contents = refl; place = sym t; answer = refl }
  met_ends (ends e) s (suc k) i c t h = simp (sym (rw (s, t) at e)) (record { contents = refl; place = sym t; answer = refl })
  met_ends (overruns e) s zero i c t h = absurd (end_is_not_past (head_end o i (omega arith) ∙ sym (rw (s, t) at e)))
  met_ends (overruns e) s (suc k) i c t h = simp (sym (rw (s, t) at e)) (record { contents = refl; place = sym t; answer = refl })
  met_ends (hands e m w) s zero i c t h = let x = head_within (rw (s, t) at e) refl in absurd (omega arith)
  met_ends (hands {type = type} {start = start} {n = n} e m w) s (suc k) i c t h =
      let d : SubTlv type start n ≡ head_at o i = rw (s, t) at e in
      let x = head_within d refl in
      let v = met_ends w (ap (λ (z : Bor (List ℕ)). z.now) m.0 ∙ s) k (start + n) (noted o c type start n) m.1 (omega arith) in
      simp (sym d) (record { contents = v.contents; place = v.place; answer = v.answer })

-- ---- a walk there is

walk_on : (k : ℕ) (r : Reader) → length r.src.now ≤ r.at + k → (ms : List Handed) × (place : ℕ) × (last : Head) × Meets r ms place last
walk_on zero r h = ([], r.at, End, ends (head_end r.src.now r.at (omega arith)))
walk_on (suc k) r h = here (λ q. walk_on k q) (head_at r.src.now r.at) refl
  where
    here : ((q : Reader) → length q.src.now ≤ q.at + k → (ms : List Handed) × (place : ℕ) × (last : Head) × Meets q ms place last)
        → (d : Head) → d ≡ head_at r.src.now r.at → (ms : List Handed) × (place : ℕ) × (last : Head) × Meets r ms place last
    here on End e = ([], r.at, End, ends e)
    here on Past e = ([], r.at, Past, overruns e)
    here on (SubTlv type start n) e =
        let x = head_within e refl in
        let q : Reader = record { src = r.src; at = start + n } in
        let w = on q (omega arith) in
        (record { type = type; start = start; length = n } ∷ w.0, w.1, w.2, hands e (refl, refl) w.3)

-- ---- refusal 5

-- two refusals of frames that are the same are so for the same reason
why_same : {a b : Refusal} {i j : ℕ} → (r : ◌≡◌ {A = Reading} (Err (rejection a i)) (Err (rejection b j))) → a ≡ b
why_same {a} {b} {i} {j} r = let q : rejection a i ≡ rejection b j = cc in ap (λ (x : Rejection). x.why) q

-- refusals 6 to 8 are others
judged_within : (o : List ℕ) (c : Contents) (i : ℕ) → judged_control o c ≡ Err (rejection PastEnd i) → ⊥
unfolding judged_control
judged_within o c i e =
    here (c.control.count is 0) (1 below c.control.count) (c.control.length is 10) (at o (c.control.start + 1) below at o c.control.start) e
  where
    here : (none several ten newer : Bool)
        → (if none then Err (rejection NoControl (length o)) else if several then Ok c else if not ten then Err (rejection ControlLength (head_of c.control))
        else if newer then Err (rejection ControlVersion (head_of c.control)) else Ok c) ≡ Err (rejection PastEnd i)
        → ⊥
    here true several ten newer r = cc (why_same r)
    here false true ten newer r = cc
    here false false false newer r = cc (why_same r)
    here false false true true r = cc (why_same r)
    here false false true false r = cc

past_refused : (o : List ℕ) (i : ℕ) (last : Head) → (walked o).place ≡ i → last ≡ (if (walked o).past then Past else End) → is_dcbx o ≡ true → length_at o 0 + 2 ≡ length o
    → (last ≡ Past) ↔ (read_frame o ≡ Err (rejection PastEnd i))
unfolding read_frame
past_refused o i last t e d l = simp (d, eq-eqb (length_at o 0 + 2) (length o) l) (here (walked o).past e)
  where
    here : (b : Bool) → last ≡ (if b then Past else End)
        → (last ≡ Past) ↔ ((if b then Err (rejection PastEnd (walked o).place) else judged_control o (walked o).contents) ≡ Err (rejection PastEnd i))
    here true q = (λ _. ap (λ (j : ℕ). Err (rejection PastEnd j)) t, λ _. q)
    here false q = (λ p. absurd (end_is_not_past (sym q ∙ p)), λ p. absurd (judged_within o (walked o).contents i p))

pub reader_walks : (src : Bor (List ℕ)) → Walkable src
unfolding walked
reader_walks src =
    record {
      ends = λ r n. walk_on (length r.src.now) r (omega arith);
      met = λ r ms place last n m.
          let o : List ℕ = src.now in
          let w = met_ends o m (ap (λ (z : Bor (List ℕ)). z.now) n.0) (length o) 6 no_contents n.1 (omega arith) in
          record { contents = w.contents; place = w.place; answer = w.answer; refused = past_refused o place last w.place w.answer };
    }
