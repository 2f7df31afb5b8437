-- A moment of a run stays one of a longer run. Assumes nothing.
use Prim.Native.Nat.{ℕ}
use mathlib.Core.Path.{◌≡◌, refl, sym, ap, ◌∙◌, subst}
use mathlib.Core.List.{List, [], ◌∷◌, ◌++◌, append_assoc}
use mathlib.Core.Option.{some}
use Rattle.parameters.specs.declared.Feature.{Feature}
use Rattle.rounds.specs.Rounds.{End, other, Ends, handles}
use Rattle.ticks.specs.Ticks.{Happening, call, port_of, frame_of, happened, after, present_tlv, PastStep3, Carries, Throughout, Told}

pub after_append : (xs ys : List Happening) (c : Ends) → after (xs ++ ys) c ≡ after ys (after xs c)
unfolding after
after_append [] ys c = refl
after_append (x ∷ xs) ys c = after_append xs ys (happened x c)

throughout_more : (P Q : Ends → Type 0) → ((d : Ends) → P d → Q d) → (xs : List Happening) (h : Happening) (d : Ends) → Throughout P xs d → Q (happened h (after xs d)) → Throughout Q (xs ++ (h ∷ [])) d
unfolding after
throughout_more P Q m [] h d t q = (m d t, q)
throughout_more P Q m (x ∷ xs) h d t q = (m d t.0, throughout_more P Q m xs h (happened x d) t.1 q)

module _ (xs : List Happening) (c : Ends) (h : Happening) where
  abbrev longer : List Happening
  longer = xs ++ (h ∷ [])

  pub after_next : after longer c ≡ happened h (after xs c)
  unfolding after
  after_next = after_append xs (h ∷ []) c

  module _ (e : End) (f : Feature) where
    -- the sub-TLV stays
    pub told_later : present_tlv e f (happened h (after xs c)) ≡ present_tlv e f (after xs c) → Told xs c e f → Told longer c e f
    unfolding after
    told_later stays t =
        let m = t.moment in
        let same : present_tlv e f (after longer c) ≡ present_tlv e f (after xs c) = ap (present_tlv e f) after_next ∙ stays in
        let begin : Ends = happened (call (handles (other e))) (after m.before c) in
        let there : after m.later begin ≡ after xs c = sym (ap (λ zs. after zs c) m.run ∙ after_append m.before (call (handles (other e)) ∷ m.later) c) in
        record {
          moment = record {
            before = m.before;
            later = m.later ++ (h ∷ []);
            run = ap (λ zs. zs ++ (h ∷ [])) m.run ∙ append_assoc m.before (call (handles (other e)) ∷ m.later) (h ∷ []);
            octets = m.octets;
            written = m.written;
            handled = m.handled;
            carries = subst (λ t. Carries f t m.octets) (sym same) m.carries;
          };
          since = throughout_more (λ d. present_tlv e f d ≡ present_tlv e f (after xs c)) (λ d. present_tlv e f d ≡ present_tlv e f (after longer c)) (λ d k. k ∙ sym same) m.later h begin t.since
              (ap (λ d. present_tlv e f (happened h d)) there ∙ ap (present_tlv e f) (sym after_next));
        }

-- the frame is handled now
pub told_now : (xs : List Happening) (c : Ends) (e : End) (f : Feature) (o : List ℕ) → (let h : Happening = call (handles (other e)) in
    frame_of e (after xs c) ≡ some o → PastStep3 (port_of (other e) (after xs c)) o → Carries f (present_tlv e f (happened h (after xs c))) o → Told (xs ++ (h ∷ [])) c e f)
told_now xs c e f o w p k =
    let h : Happening = call (handles (other e)) in
    let same : present_tlv e f (happened h (after xs c)) ≡ present_tlv e f (after (xs ++ (h ∷ [])) c) = ap (present_tlv e f) (sym (after_next xs c h)) in
    record {
      moment = record {
        before = xs;
        later = [];
        run = refl;
        octets = o;
        written = w;
        handled = p;
        carries = subst (λ t. Carries f t o) same k;
      };
      since = same;
    }
