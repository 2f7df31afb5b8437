-- Writing a frame and the wish to send: what their functions promise, and a law for each way out of them, with premises in the form in
-- which a test leaves them. Assumes nothing.
use Rattle.std.specs.Prelude.{ℕ, ◌+◌, ◌-◌, ◌/◌, ◌<◌, ◌≤◌, ◌^◌, ◌≡◌, Bool, ◌&&◌, if◌then◌else◌, Ok, Err}
use Rattle.std.proofs.Common.{◌∙◌, arith, length-append, take_at, drop_at}
use Rattle.std.proofs.Math.Path.{refl, sym, ap, ap₂}
use Rattle.std.proofs.Math.Bool.{true, false, not}
use Rattle.std.specs.Bool.{beq}
use Rattle.std.proofs.lemmas.Bool.{false≢true}
use mathlib.Core.List.{List, [], ◌∷◌, ◌++◌}
use Rattle.std.proofs.Math.Nat.{zero-add}
use borrow.Author.Tests.{not-true, not-false, lt-ltb, le-ltb, eqb-true, eqb-false}
use Rattle.std.proofs.Math.Dec.{eqb}
use Rattle.std.proofs.Math.ListN.{length, drop, take}
use Rattle.std.proofs.lemmas.List.Edits.{sets}
use Rattle.std.proofs.Math.Seq.{sets-eq, take-append_seam, drop-append_seam}
use Rattle.octets.specs.Octets.{at, number4, octets4, same, headed, head}
use Rattle.octets.specs.Laws.{and_left, same_is, same_refl, unlike, sets_append}
use Rattle.tlv.specs.declared.Refusal.TheVariants.{NotRunning, ShortOutput}
use Rattle.tlv.specs.Layout.{frame_head}
use Rattle.parameters.specs.declared.Feature.{Feature}
use Rattle.parameters.specs.declared.Feature.TheVariants.{Groups, Flow, Applications}
use Rattle.parameters.specs.Parameters.{feature_number, content, valid_groups, valid_flow, valid, ours}
use Rattle.config.specs.FeatureLaws.{ours_length}
use Rattle.feature.specs.declared.Release.{Release}
use Rattle.machine.specs.State.{next, value, release_tlv, differing}
use Rattle.machine.specs.StateLaws.{Sized, changed_not}
use Rattle.port.specs.declared.Control.{Control}
use Rattle.port.specs.declared.Port.{Port}
use Rattle.port.specs.Parts.{feature_of, running}
use Rattle.port.specs.Writing.{control_value, released_tlv, sub_tlvs, frame, to_write, asks, written, output, Wrote}
use Rattle.port.specs.Sound.{SoundSetting, SoundPort}
use Rattle.port.specs.WritingLaws.{Differs, FrameLength, control_tlv, feature_tlvs}

-- ---- writing

length-frame : (p : Port) → length (frame p) ≡ 18 + length (released_tlv p Groups) + length (released_tlv p Flow) + length (released_tlv p Applications)
unfolding frame sub_tlvs
length-frame p = simp length-append (omega arith)

pub length-of : (p : Port) {a b c : ℕ} → Sized Groups p.groups.max p.released.groups a → Sized Flow p.flow.max p.released.flow b → Sized Applications p.applications.max p.released.applications c
    → FrameLength p (18 + a + b + c)
length-of p x y z =
    let l = length-frame p in
    record { is = omega (arith, x.is, y.is, z.is); parts = omega (arith, x.is, y.is, z.is); small = omega (arith, x.small, y.small, z.small) }

pub control_put : (c : Control) (out : List ℕ) {a b d : List ℕ} → a ≡ sets out 6 (2 ∷ 10 ∷ c.oper ∷ c.max ∷ []) → b ≡ sets a 10 (octets4 c.seq)
    → d ≡ sets b 14 (octets4 c.ack) → d ≡ sets out 6 (control_tlv c)
control_put c out ea eb ed = ed ∙ rw (eb, ea) refl

module _ (p : Port) (out : List ℕ) {a b c : List ℕ} where
  pub features_put : {m n : ℕ} → Sized Groups p.groups.max p.released.groups m → Sized Flow p.flow.max p.released.flow n → a ≡ sets out 18 (released_tlv p Groups)
      → b ≡ sets a (18 + m) (released_tlv p Flow) → c ≡ sets b (18 + m + n) (released_tlv p Applications) → c ≡ sets out 18 (feature_tlvs p)
  features_put x y ea eb ec = ec ∙ rw (eb, ea, x.is, y.is) (sym (simp sets_append))

  pub frame_put : {n : ℕ} → FrameLength p n → a ≡ sets out 0 (frame_head (n - 6)) → b ≡ sets a 6 (control_tlv p.control)
      → c ≡ sets b 18 (feature_tlvs p) → c ≡ sets out 0 (frame p)
  unfolding frame sub_tlvs
  frame_put {n} l ea eb ec = let e : n - 6 ≡ length (sub_tlvs p) = omega (arith, l.is) in ec ∙ rw (eb, ea, e) refl

module _ (p : Port) (out : List ℕ) {r : Bool} (e : r ≡ running p) where
  pub write_stopped : not r ≡ true → Wrote p out (Err NotRunning) out
  unfolding written output
  write_stopped t = let s : running p ≡ false = sym e ∙ not-true r t in record { answers = simp s; octets = simp s }

  module _ (t : not r ≡ false) {n : ℕ} (l : FrameLength p n) where
    runs : running p ≡ true
    runs = sym e ∙ not-false r t

    pub write_short : length out < n → Wrote p out (Err ShortOutput) out
    unfolding written output
    write_short h =
        let k = lt-ltb (length out) (length (frame p)) (omega (arith, l.is)) in
        record { answers = simp (runs, k); octets = simp (runs, k) }

    pub write_whole : {now : List ℕ} → n ≤ length out → now ≡ sets out 0 (frame p) → Wrote p out (Ok n) now
    unfolding written output
    write_whole h q =
        let k = le-ltb (length out) (length (frame p)) (omega (arith, l.is)) in
        let s = sets-eq (frame p) out 0 (omega (arith, l.is)) in
        record { answers = simp (runs, k, l.is); octets = simp (runs, k) (q ∙ (rw zero-add at s)) }

-- ---- two controls

distinct : (a b : List ℕ) → (a ≡ b → ⊥) → same a b ≡ false
distinct a b n = here (same a b) refl
  where
    here : (r : Bool) → same a b ≡ r → r ≡ false
    here true e = absurd (n (same_is a b e))
    here false e = refl

pub number4_octets4 : (n : ℕ) → n < 2 ^ 32 → number4 (octets4 n) 0 ≡ n
number4_octets4 n h = omega arith

octets4_same : (m n : ℕ) → m < 2 ^ 32 → n < 2 ^ 32 → octets4 m ≡ octets4 n → m ≡ n
octets4_same m n h k e = sym (number4_octets4 m h) ∙ ap (λ (o : List ℕ). number4 o 0) e ∙ number4_octets4 n k

module _ (a b : Control) where
  pub controls_oper : (a.oper ≡ b.oper → ⊥) → false ≡ same (control_value a) (control_value b)
  controls_oper n = sym (distinct _ _ (λ e. n (ap (λ (o : List ℕ). at o 0) e)))

  pub controls_max : (a.max ≡ b.max → ⊥) → false ≡ same (control_value a) (control_value b)
  controls_max n = sym (distinct _ _ (λ e. n (ap (λ (o : List ℕ). at o 1) e)))

  pub controls_seq : a.seq < 2 ^ 32 → b.seq < 2 ^ 32 → (a.seq ≡ b.seq → ⊥) → false ≡ same (control_value a) (control_value b)
  controls_seq h k n = sym (distinct _ _ (λ e. n (octets4_same a.seq b.seq h k (ap (λ (o : List ℕ). take 4 (drop 2 o)) e))))

  pub controls_ack : a.ack < 2 ^ 32 → b.ack < 2 ^ 32 → (a.ack ≡ b.ack → ⊥) → false ≡ same (control_value a) (control_value b)
  controls_ack h k n = sym (distinct _ _ (λ e. n (octets4_same a.ack b.ack h k (ap (λ (o : List ℕ). drop 6 o) e))))

  -- a SeqNo that goes up shows in its last octet
  pub controls_raised : b.seq ≡ next a.seq → same (control_value a) (control_value b) ≡ false
  controls_raised e = distinct _ _ (λ d. let z : at (control_value a) 5 ≡ at (control_value b) 5 = ap (λ (o : List ℕ). at o 5) d in omega (arith, e))

  pub controls_same : a.oper ≡ b.oper → a.max ≡ b.max → a.seq ≡ b.seq → a.ack ≡ b.ack → true ≡ same (control_value a) (control_value b)
  controls_same o m s k = rw (o, m, s, k) (sym (same_refl (control_value b)))

  -- tested one after the other
  pub controls_are : a.seq < 2 ^ 32 → b.seq < 2 ^ 32 → a.ack < 2 ^ 32 → b.ack < 2 ^ 32
      → {r : Bool} → r ≡ (((eqb a.oper b.oper && eqb a.max b.max) && eqb a.seq b.seq) && eqb a.ack b.ack)
      → r ≡ same (control_value a) (control_value b)
  controls_are i j k l e = e ∙ by (eqb a.oper b.oper) (eqb a.max b.max) (eqb a.seq b.seq) (eqb a.ack b.ack) refl refl refl refl
    where
      by : (o m s n : Bool) → eqb a.oper b.oper ≡ o → eqb a.max b.max ≡ m → eqb a.seq b.seq ≡ s → eqb a.ack b.ack ≡ n
          → (((o && m) && s) && n) ≡ same (control_value a) (control_value b)
      by false m s n eo em es en = controls_oper (eqb-false a.oper b.oper eo)
      by true false s n eo em es en = controls_max (eqb-false a.max b.max em)
      by true true false n eo em es en = controls_seq i j (eqb-false a.seq b.seq es)
      by true true true false eo em es en = controls_ack k l (eqb-false a.ack b.ack en)
      by true true true true eo em es en = controls_same (eqb-true a.oper b.oper eo) (eqb-true a.max b.max em) (eqb-true a.seq b.seq es) (eqb-true a.ack b.ack en)

-- ---- two releases of a feature

module _ (f : Feature) (m : ℕ) (x : Release) (n : ℕ) (y : Release) {i j : ℕ} (h : Sized f m x i) (k : Sized f n y j) where
  pub differs_octets : {r : Bool} → r ≡ differing f m x n y → Differs f m x n y r
  differs_octets e = record { is = e; before = omega (arith, h.is, h.small); after = omega (arith, k.is, k.small) }

  pub differs_length : (i ≡ j → ⊥) → Differs f m x n y true
  unfolding differing
  differs_length e = differs_octets (ap not (unlike (release_tlv f m x) (release_tlv f n y) (λ l. e (h.is ∙ l ∙ sym k.is))))

module _ {f : Feature} {m n : ℕ} {x y : Release} {r : Bool} (d : Differs f m x n y r) where
  unlike_is : r ≡ true → release_tlv f m x ≡ release_tlv f n y → ⊥
  unlike_is t e = false≢true (changed_not f m n x y e ∙ sym d.is ∙ t)

  alike_is : r ≡ false → release_tlv f m x ≡ release_tlv f n y
  unfolding differing
  alike_is t = same_is (release_tlv f m x) (release_tlv f n y) (not-false (same (release_tlv f m x) (release_tlv f n y)) (sym d.is ∙ t))

-- ---- two runs of sub-TLVs

module _ (a b r s : List ℕ) (l : length a ≡ length b) (e : a ++ r ≡ b ++ s) where
  append_left : a ≡ b
  append_left = sym (take_at a r (length b) l) ∙ ap (λ (o : List ℕ). take (length b) o) e ∙ take-append_seam b s

  append_right : r ≡ s
  append_right = sym (drop_at a r (length b) l) ∙ ap (λ (o : List ℕ). drop (length b) o) e ∙ drop-append_seam b s

-- octets that start with no sub-TLV of the feature
abbrev Other : Feature → List ℕ → Type 0
Other f o = at o 0 / 2 ≡ feature_number f → ⊥

-- a short sub-TLV, or none, before such octets: its type says whether it is there, and its head how long it is
first_same : (f : Feature) (m n : ℕ) (x y : Release) (r s : List ℕ) → length (release_tlv f m x) ≤ 102 → length (release_tlv f n y) ≤ 102 → Other f r → Other f s
    → release_tlv f m x ++ r ≡ release_tlv f n y ++ s → release_tlv f m x ≡ release_tlv f n y
unfolding release_tlv
first_same f m n x y r s hx hy nr ns = here x.setting.advertise y.setting.advertise hx hy
  where
    own : ℕ → Release → Bool → List ℕ
    own k z a = if a then headed (feature_number f) (value k z) else []

    here : (a b : Bool) → length (own m x a) ≤ 102 → length (own n y b) ≤ 102 → own m x a ++ r ≡ own n y b ++ s → own m x a ≡ own n y b
    here true true h k e =
        append_left (own m x true) (own n y true) r s (omega (arith, ap (λ (o : List ℕ). at o 0) e, ap (λ (o : List ℕ). at o 1) e)) e
    here true false h k e = absurd (ns (omega (arith, ap (λ (o : List ℕ). at o 0) e)))
    here false true h k e = absurd (nr (omega (arith, ap (λ (o : List ℕ). at o 0) e)))
    here false false h k e = refl

behind_flow : (n : ℕ) (y : Release) → Other Flow (release_tlv Applications n y)
unfolding release_tlv feature_number
behind_flow n y = here y.setting.advertise
  where
    here : (b : Bool) → at (if b then headed 4 (value n y) else []) 0 / 2 ≡ 3 → ⊥
    here true e = omega arith
    here false e = omega arith

behind_groups : (m : ℕ) (x : Release) (n : ℕ) (y : Release) → Other Groups (release_tlv Flow m x ++ release_tlv Applications n y)
unfolding release_tlv feature_number
behind_groups m x n y = here x.setting.advertise y.setting.advertise
  where
    here : (a b : Bool) → at ((if a then headed 3 (value m x) else []) ++ (if b then headed 4 (value n y) else [])) 0 / 2 ≡ 2 → ⊥
    here true b e = omega arith
    here false true e = omega arith
    here false false e = omega arith

-- ---- two frames

module _ (p q : Port) where
  frame_of_lem : control_value p.control ≡ control_value q.control → feature_tlvs p ≡ feature_tlvs q → frame p ≡ frame q
  unfolding frame sub_tlvs
  frame_of_lem c f = ap₂ (λ (v w : List ℕ). frame_head (length (head 1 10 ++ v ++ w)) ++ (head 1 10 ++ v ++ w)) c f

  -- equal frames have equal parts, a later one once those before it are known to be equal
  module _ (e : frame p ≡ frame q) where
    control_of_lem : control_value p.control ≡ control_value q.control
    unfolding frame sub_tlvs
    control_of_lem = ap (λ (o : List ℕ). take 10 (drop 8 o)) e

    features_of : feature_tlvs p ≡ feature_tlvs q
    unfolding frame sub_tlvs
    features_of = ap (λ (o : List ℕ). drop 18 o) e

    groups_of : length (released_tlv p Groups) ≤ 102 → length (released_tlv q Groups) ≤ 102 → released_tlv p Groups ≡ released_tlv q Groups
    groups_of h k = first_same Groups p.groups.max q.groups.max p.released.groups q.released.groups _ _ h k (behind_groups p.flow.max p.released.flow p.applications.max p.released.applications) (behind_groups q.flow.max q.released.flow q.applications.max q.released.applications) features_of

    module _ (g : released_tlv p Groups ≡ released_tlv q Groups) where
      rest_of : released_tlv p Flow ++ released_tlv p Applications ≡ released_tlv q Flow ++ released_tlv q Applications
      rest_of = append_right (released_tlv p Groups) (released_tlv q Groups) _ _ (ap length g) features_of

      flow_of : length (released_tlv p Flow) ≤ 102 → length (released_tlv q Flow) ≤ 102 → released_tlv p Flow ≡ released_tlv q Flow
      flow_of h k = first_same Flow p.flow.max q.flow.max p.released.flow q.released.flow _ _ h k (behind_flow p.applications.max p.released.applications) (behind_flow q.applications.max q.released.applications) rest_of

      applications_of : released_tlv p Flow ≡ released_tlv q Flow → released_tlv p Applications ≡ released_tlv q Applications
      applications_of w = append_right (released_tlv p Flow) (released_tlv q Flow) _ _ (ap length w) rest_of

  differ : (frame p ≡ frame q → ⊥) → true ≡ not (same (frame p) (frame q))
  differ n = ap not (sym (distinct (frame p) (frame q) n))

  pub frames_control : {s : Bool} → s ≡ same (control_value p.control) (control_value q.control) → not s ≡ true → true ≡ not (same (frame p) (frame q))
  frames_control {s} c t = differ (λ e. false≢true (sym (not-true s t) ∙ c ∙ rw (control_of_lem e) (same_refl (control_value q.control))))

  module _ {g : Bool} (dg : Differs Groups p.groups.max p.released.groups q.groups.max q.released.groups g) where
    pub frames_groups : g ≡ true → true ≡ not (same (frame p) (frame q))
    frames_groups t = differ (λ e. unlike_is dg t (groups_of e dg.before dg.after))

    module _ (tg : g ≡ false) {w : Bool} (dw : Differs Flow p.flow.max p.released.flow q.flow.max q.released.flow w) where
      pub frames_flow : w ≡ true → true ≡ not (same (frame p) (frame q))
      frames_flow t = differ (λ e. unlike_is dw t (flow_of e (alike_is dg tg) dw.before dw.after))

      pub frames_applications : {s a : Bool} → s ≡ same (control_value p.control) (control_value q.control) → not s ≡ false → w ≡ false
          → Differs Applications p.applications.max p.released.applications q.applications.max q.released.applications a → a ≡ not (same (frame p) (frame q))
      frames_applications {s} {a} c t tw da = here a refl
        where
          here : (b : Bool) → a ≡ b → b ≡ not (same (frame p) (frame q))
          here true ta = differ (λ e. unlike_is da ta (applications_of e (alike_is dg tg) (alike_is dw tw)))
          here false ta =
              let control : control_value p.control ≡ control_value q.control = same_is _ _ (sym c ∙ not-false s t) in
              let h : frame p ≡ frame q = frame_of_lem control (λ i. alike_is dg tg i ++ (alike_is dw tw i ++ alike_is da ta i)) in
              rw h (ap not (sym (same_refl (frame q))))

-- ---- the wish to send

-- a frame has octets and a stopped port none
turned : (p q : Port) (a b : Bool) → not (beq a b) ≡ true → true ≡ not (same (if a then frame p else []) (if b then frame q else []))
unfolding frame same
turned p q true true t = absurd (false≢true t)
turned p q true false t = refl
turned p q false true t = refl
turned p q false false t = absurd (false≢true t)

alike : (a b : Bool) → not (beq a b) ≡ false → a ≡ b
alike true true e = refl
alike true false e = e
alike false true e = sym e
alike false false e = refl

module _ (p q : Port) {a b : Bool} (ea : a ≡ running p) (eb : b ≡ running q) where
  pub asks_turned : not (beq a b) ≡ true → true ≡ asks p q
  unfolding asks to_write
  asks_turned t = turned p q (running p) (running q) (rw (ea, eb) at t)

  module _ (t : not (beq a b) ≡ false) where
    pub asks_stopped : not a ≡ true → false ≡ asks p q
    unfolding asks to_write same
    asks_stopped u = let f : a ≡ false = not-true a u in simp (sym ea ∙ f, sym eb ∙ sym (alike a b t) ∙ f)

    pub asks_running : {r : Bool} → not a ≡ false → r ≡ not (same (frame p) (frame q)) → r ≡ asks p q
    unfolding asks to_write
    asks_running u e = let f : a ≡ true = not-false a u in e ∙ simp (sym ea ∙ f, sym eb ∙ sym (alike a b t) ∙ f)

-- two running ports that have released the same, by their controls
pub asks_control : (p q : Port) → running p ≡ true → running q ≡ true → ((f : Feature) → (feature_of q f).max ≡ (feature_of p f).max) → q.released ≡ p.released
    → {s : Bool} → s ≡ same (control_value p.control) (control_value q.control) → not s ≡ asks p q
asks_control p q h k m e {s} c = asks_running p q (sym h) (sym k) refl refl (by s refl)
  where
    tlvs : feature_tlvs p ≡ feature_tlvs q
    tlvs = λ i. release_tlv Groups (sym (m Groups) i) (sym e i).groups ++ (release_tlv Flow (sym (m Flow) i) (sym e i).flow ++ release_tlv Applications (sym (m Applications) i) (sym e i).applications)

    by : (b : Bool) → s ≡ b → not b ≡ not (same (frame p) (frame q))
    by false t = frames_control p q c (ap not t)
    by true t = let w : frame p ≡ frame q = frame_of_lem p q (same_is _ _ (sym c ∙ t)) tlvs in rw w (ap not (sym (same_refl (frame q))))

-- whatever they have released, if their controls differ
pub asks_raised : (p q : Port) → running p ≡ true → running q ≡ true → {s : Bool} → s ≡ same (control_value p.control) (control_value q.control) → s ≡ false → true ≡ asks p q
asks_raised p q h k c t = asks_running p q (sym h) (sym k) refl refl (frames_control p q c (ap not t))

-- ---- 01, Writing: "Longest frame 147 octets"

-- the most octets that a feature's parameters have
abbrev most : Feature → ℕ
most Groups = 13
most Flow = 2
most Applications = 96

valid_length : (f : Feature) (o : List ℕ) → valid f o ≡ true → ours f o ≡ o → length o ≤ most f
unfolding valid valid_groups valid_flow
valid_length Groups o e k = let h : length o ≡ 13 = eqb-true (length o) 13 (and_left _ _ (and_left _ _ (and_left _ _ e))) in omega arith
valid_length Flow o e k = let h : length o ≡ 2 = eqb-true (length o) 2 (and_left _ _ e) in omega arith
valid_length Applications o e k = rw k at (ours_length Applications o e)

sub_tlv_longest : (f : Feature) (max : ℕ) (x : Release) → SoundSetting f x.setting → length (release_tlv f max x) ≤ 6 + most f
unfolding release_tlv
sub_tlv_longest f max x s = here x.setting.advertise (valid_length f (content x.setting.desired) s.desired.valid s.desired.own)
  where
    here : (a : Bool) → length (content x.setting.desired) ≤ most f → length (if a then headed (feature_number f) (value max x) else []) ≤ 6 + most f
    here true h = omega arith
    here false h = omega arith

pub frame_longest : (p : Port) → SoundPort p → length (frame p) ≤ 147
frame_longest p s =
    let g = sub_tlv_longest Groups p.groups.max p.released.groups (s.released Groups).setting in
    let w = sub_tlv_longest Flow p.flow.max p.released.flow (s.released Flow).setting in
    let a = sub_tlv_longest Applications p.applications.max p.released.applications (s.released Applications).setting in
    omega (arith, length-frame p)
