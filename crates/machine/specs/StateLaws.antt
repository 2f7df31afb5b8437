-- A feature's state, a law for each way out of its functions: premises in the form in which a test leaves them. Assumes nothing.
use Rattle.std.specs.Cmp.Lexicographic.{pointwise}
use Rattle.parameters.specs.StoringLaws.{same_parameters_eq}
use Rattle.std.specs.Prelude.{◌&&◌, eqb, Some, ◌≡◌, ℕ, ◌+◌, ◌*◌, ◌/◌, ◌%◌, ◌≤◌, Bool, true, false, not, List, [], ◌∷◌, length, ◌≢◌}
use Rattle.std.specs.Bool.{beq}
use Rattle.std.proofs.Math.Bool.{and-false}
use Rattle.std.proofs.lemmas.Bool.{false≢true}
use Rattle.std.proofs.Common.{◌∙◌, ap, ap₂, arith}
use Rattle.std.proofs.Math.Path.{refl, sym}
use Rattle.parameters.specs.WritingLaws.{Size}
use Rattle.std.proofs.lemmas.List.Edits.{sets}
use Rattle.octets.specs.Octets.{same, headed}
use Rattle.octets.specs.Laws.{same_is, same_refl, sets_append}
use Rattle.parameters.specs.Parameters.{feature_number, ours, stored, content, no_parameters, compatible, same_parameters}
use borrow.Author.Tests.{not-true, not-false, ne_eqb}
use Rattle.parameters.specs.declared.Feature.{Feature}
use Rattle.parameters.specs.declared.Feature.TheVariants.{Groups, Flow, Applications}
use Rattle.parameters.specs.declared.Parameters.{Parameters}
use Rattle.feature.specs.declared.Reason.TheVariants.{NoPeerYet, NotAdvertised}
use Rattle.feature.specs.declared.Setting.{Setting}
use Rattle.feature.specs.declared.Peer.{Peer}
use Rattle.feature.specs.declared.Decision.{Decision}
use Rattle.feature.specs.declared.Flags.{Flags}
use Rattle.feature.specs.declared.Switches.{Switches}
use Rattle.feature.specs.declared.Outcome.{Outcome}
use Rattle.feature.specs.declared.State.{State}
use Rattle.feature.specs.declared.Release.{Release}
use Rattle.feature.specs.Outcome.{without_peer, judged}
use Rattle.feature.specs.OutcomeLaws.{decided, peer_flags, outcome_of, outcome_again, judged_lent, judged_with, judges, switches_of, with_mode}
use Rattle.feature.specs.RulesLaws.{judged_peer}
use Rattle.machine.specs.State.{next, fresh_at, flags, value, release_tlv, present, differing, changed, marked, setting_of, same_setting}

module _ (sequence max : ℕ) (s : Setting) {d : Decision} {p : Parameters} {o : Outcome} (ep : p ≡ no_parameters) where
  pub fresh_advertised : s.advertise ≡ true → d ≡ decided (without_peer NoPeerYet max false) → o ≡ outcome_of d p
      → record { max = max; setting = s; outcome = o; syncd = false; sequence = sequence } ≡ fresh_at sequence max s
  unfolding fresh_at
  fresh_advertised t ed eo = simp (eo, ed, ep, t)

  pub fresh_withheld : s.advertise ≡ false → d ≡ decided (without_peer NotAdvertised max false) → o ≡ outcome_of (with_mode d s.enable) p
      → record { max = max; setting = s; outcome = o; syncd = true; sequence = sequence } ≡ fresh_at sequence max s
  unfolding fresh_at
  fresh_withheld t ed eo = simp (eo, ed, ep, t)

-- ---- whether the written sub-TLV changed

alike : (a b : Bool) → not (beq a b) ≡ false → a ≡ b
alike true true e = refl
alike true false e = e
alike false true e = sym e
alike false false e = refl

module _ (f : Feature) (m n : ℕ) (x y : Release) where
  pub changed_not : release_tlv f m x ≡ release_tlv f n y → false ≡ differing f m x n y
  unfolding differing
  changed_not e = rw e (ap not (sym (same_refl (release_tlv f n y))))

  pub changed_shown : not (beq x.setting.advertise y.setting.advertise) ≡ true → true ≡ differing f m x n y
  unfolding differing release_tlv same
  changed_shown t = go x.setting.advertise y.setting.advertise refl refl t
    where
      go : (a b : Bool) → x.setting.advertise ≡ a → y.setting.advertise ≡ b → not (beq x.setting.advertise y.setting.advertise) ≡ true → true ≡ differing f m x n y
      go true true p q t = let h : false ≡ true = rw (p, q) at t in absurd (false≢true h)
      go true false p q t = rw (p, q) refl
      go false true p q t = rw (p, q) refl
      go false false p q t = let h : false ≡ true = rw (p, q) at t in absurd (false≢true h)

  module _ (t : not (beq x.setting.advertise y.setting.advertise) ≡ false) where
    pub changed_hidden : not x.setting.advertise ≡ true → false ≡ differing f m x n y
    unfolding differing release_tlv same
    changed_hidden u =
        let p : x.setting.advertise ≡ false = not-true x.setting.advertise u in
        let q : y.setting.advertise ≡ false = sym (alike x.setting.advertise y.setting.advertise t) ∙ p in
        rw (p, q) refl

    module _ (u : not x.setting.advertise ≡ false) where
      shown : (x.setting.advertise ≡ true) × (y.setting.advertise ≡ true)
      shown =
          let p : x.setting.advertise ≡ true = not-false x.setting.advertise u in
          (p, sym (alike x.setting.advertise y.setting.advertise t) ∙ p)

      pub changed_oper : (x.oper ≢ y.oper) → true ≡ differing f m x n y
      unfolding differing release_tlv same
      changed_oper d =
          rw (shown.0, shown.1, ne_eqb x.oper y.oper d) (simp and-false)

      pub changed_max : x.oper ≡ y.oper → (m ≢ n) → true ≡ differing f m x n y
      unfolding differing release_tlv same
      changed_max e d = rw (shown.0, shown.1, ne_eqb m n d) (simp and-false)

      module _ {a b : ℕ} (ea : a ≡ flags x.setting.enable x.setting.willing x.error) (eb : b ≡ flags y.setting.enable y.setting.willing y.error) where
        pub changed_flags : (a ≢ b) → true ≡ differing f m x n y
        unfolding differing release_tlv same
        changed_flags d =
            rw (shown.0, shown.1, ne_eqb (flags x.setting.enable x.setting.willing x.error) (flags y.setting.enable y.setting.willing y.error) (λ z. d (ea ∙ z ∙ sym eb)))
            (simp and-false)

        pub changed_parameters : {r : Bool} → x.oper ≡ y.oper → m ≡ n → a ≡ b
            → r ≡ same (content x.setting.desired) (content y.setting.desired) → not r ≡ differing f m x n y
        unfolding differing release_tlv same
        changed_parameters {r} o l g e = rw e (go (same (content x.setting.desired) (content y.setting.desired)) refl)
          where
            go : (s : Bool) → same (content x.setting.desired) (content y.setting.desired) ≡ s
                → not (same (content x.setting.desired) (content y.setting.desired)) ≡ differing f m x n y
            go true s =
                let c : content x.setting.desired ≡ content y.setting.desired = same_is _ _ s in
                let h : value m x ≡ value n y = λ i. o i ∷ l i ∷ (sym ea ∙ g ∙ eb) i ∷ 0 ∷ c i in
                let w : release_tlv f m x ≡ release_tlv f n y = rw (shown.0, shown.1) (ap (λ (v : List ℕ). (feature_number f * 2 + length v / 256) ∷ (length v % 256) ∷ v) h) in
                rw s (changed_not w)
            go false s = rw (s, shown.0, shown.1) (simp (s, and-false))

-- ---- step 5

module _ (f : Feature) (seq : ℕ) (x y : State) {r s : Release} (er : r ≡ present x) (es : s ≡ present y) {d : Bool} (e : d ≡ differing f x.max r y.max s) where
  told : d ≡ changed f x y
  told = e ∙ (λ i. differing f x.max (er i) y.max (es i))

  pub marked_same : not d ≡ true → y ≡ marked f seq x y
  unfolding marked
  marked_same u = simp (← told, not-true d u)

  pub marked_changed : {n : ℕ} → not d ≡ false → n ≡ next seq
      → record { max = y.max; setting = y.setting; outcome = y.outcome; syncd = false; sequence = n } ≡ marked f seq x y
  unfolding marked
  marked_changed u h = simp (h, ← told, not-false d u)

-- ---- settings

pub setting_is : (f : Feature) (w : Switches) (p : List ℕ) {d : Parameters} → d ≡ stored (ours f p)
    → record { advertise = w.advertise; enable = w.enable; willing = w.willing; desired = d } ≡ setting_of f w p
setting_is f w p e = rw e refl

-- what `==` of two settings says
pub settings_eq : (s t : Setting) {r : Bool}
    → r ≡ (beq s.advertise t.advertise && (beq s.enable t.enable && (beq s.willing t.willing && (eqb s.desired.length t.desired.length && pointwise eqb s.desired.octets t.desired.octets))))
    → r ≡ same_setting s t
unfolding same_setting
settings_eq s t e = e ∙ rw (same_parameters_eq s.desired t.desired) (regrouped (beq s.advertise t.advertise) (beq s.enable t.enable) (beq s.willing t.willing) (same_parameters s.desired t.desired))
  where
    regrouped : (a b c d : Bool) → (a && (b && (c && d))) ≡ (a && b && c && d)
    regrouped true true c d = refl
    regrouped true false c d = refl
    regrouped false b c d = refl

-- rules 6 to 9 for a peer that is held, whose parameters stay
pub judged_held : (f : Feature) (s : Setting) (oper : ℕ) (p : Peer) {x : Switches} → x ≡ switches_of s → {own t : List ℕ}
    → own ≡ content s.desired → t ≡ content p.parameters → {w : Flags} → w ≡ peer_flags p → {d : Decision} → d ≡ judged_with x oper w (compatible f own t)
    → {r : Outcome} → r ≡ outcome_of d p.parameters → r ≡ judged f s oper p
judged_held f s oper p {x} ex {own} {t} eo et {w} ew {d} ed er =
    let v : Flags = peer_flags p in
    let e : d ≡ decided (judged f s oper p) =
    judged_lent f s oper v t ex eo (ed ∙ ap (λ (u : Flags). judged_with x oper u (compatible f own t)) ew)
    ∙ judges f s oper v t p.parameters (ap (compatible f (content s.desired)) (sym et)) in
    let m : (judged f s oper p).peer ≡ Some p = judged_peer f s oper p in
    er ∙ ap (λ (d : Decision). outcome_of d p.parameters) e ∙ outcome_again (judged f s oper p) p m

-- ---- writing

pub length-release_tlv : (f : Feature) (max : ℕ) (x : Release) → x.setting.advertise ≡ true → length (release_tlv f max x) ≡ 6 + length (content x.setting.desired)
unfolding release_tlv
length-release_tlv f max x t = rw t (omega arith)

-- the number of its octets, which is at most 102
pub record Sized (f : Feature) (max : ℕ) (x : Release) (n : ℕ) : Type 0 where
  pub is : n ≡ length (release_tlv f max x)
  pub small : n ≤ 102

pub sized_withheld : (f : Feature) (max : ℕ) (x : Release) → not x.setting.advertise ≡ true → Sized f max x 0
unfolding release_tlv
sized_withheld f max x t = record { is = rw (not-true x.setting.advertise t) refl; small = omega arith }

pub feature_small : (f : Feature) {n : ℕ} → n ≡ feature_number f → n ≤ 127
unfolding feature_number
feature_small Groups e = omega arith
feature_small Flow e = omega arith
feature_small Applications e = omega arith

-- a sub-TLV by its parts
abbrev pub parts : ℕ → ℕ → ℕ → ℕ → List ℕ → List ℕ
parts type oper max bits held = headed type (oper ∷ max ∷ bits ∷ 0 ∷ held)

-- there is room for it at a place of the output
pub record Room (out : List ℕ) (i type : ℕ) (held : List ℕ) : Type 0 where
  pub room : i + 6 + length held ≤ length out
  pub known : type ≤ 127

pub parts_put : (oper max bits : ℕ) (p : Parameters) (out : List ℕ) (i type : ℕ) {a b : List ℕ} {m n : ℕ} → Size p m → n ≡ (4 + m) % 256
    → a ≡ sets out i ((type * 2) ∷ n ∷ oper ∷ max ∷ bits ∷ 0 ∷ []) → b ≡ sets a (i + 6) (content p) → b ≡ sets out i (parts type oper max bits (content p))
parts_put oper max bits p out i type {a} {b} {m} {n} s e ea eb =
    let held : List ℕ = content p in
    let v : List ℕ = oper ∷ max ∷ bits ∷ 0 ∷ held in
    let h : type * 2 + length v / 256 ≡ type * 2 = omega (arith, s.is, s.small) in
    let k : length v % 256 ≡ n = omega (arith, s.is, s.small) in
    eb ∙ rw (ea, ← sets_append out i ((type * 2) ∷ n ∷ oper ∷ max ∷ bits ∷ 0 ∷ []) held) (ap₂ (λ (x y : ℕ). sets out i (x ∷ y ∷ oper ∷ max ∷ bits ∷ 0 ∷ held)) (sym h) (sym k))

pub nothing_put : (f : Feature) (max : ℕ) (x : Release) (out : List ℕ) (i : ℕ) → not x.setting.advertise ≡ true → out ≡ sets out i (release_tlv f max x)
unfolding release_tlv
nothing_put f max x out i t = rw (not-true x.setting.advertise t) refl

-- with the size of its parameters
module _ (f : Feature) (max : ℕ) (x : Release) (t : not x.setting.advertise ≡ false) where
  pub sized_advertised : {n : ℕ} → Size x.setting.desired n → Sized f max x (6 + n)
  sized_advertised {n} e =
      let l : length (release_tlv f max x) ≡ 6 + length (content x.setting.desired) = length-release_tlv f max x (not-false x.setting.advertise t) in
      record { is = omega (arith, e.is); small = omega (arith, e.small) }

  module _ (out : List ℕ) (i : ℕ) {type : ℕ} (k : type ≡ feature_number f) where
    pub sub_tlv_room : i + length (release_tlv f max x) ≤ length out → Room out i type (content x.setting.desired)
    sub_tlv_room h =
        let l : length (release_tlv f max x) ≡ 6 + length (content x.setting.desired) = length-release_tlv f max x (not-false x.setting.advertise t) in
        record { room = omega arith; known = feature_small f k }

    pub sub_tlv_put : {bits : ℕ} {a : List ℕ} → bits ≡ flags x.setting.enable x.setting.willing x.error
        → a ≡ sets out i (parts type x.oper max bits (content x.setting.desired)) → a ≡ sets out i (release_tlv f max x)
    unfolding release_tlv
    sub_tlv_put b ea = ea ∙ rw (k, b, not-false x.setting.advertise t) refl
