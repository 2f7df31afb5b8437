-- The laws of handover, of the rules and of the exchange. Assumes nothing.
use Prim.Native.Nat.{ℕ, min}
use native.Mathlib.Nat.{min_comm}
use native.Mathlib.Omega.{arith}
use mathlib.Core.Path.{◌≡◌, refl, sym, ap, ◌∙◌, subst}
use mathlib.Core.Bool.{Bool, true, false, ◌&&◌, and_comm, beq}
use mathlib.Core.List.{List}
use lib.ListN.{take}
use borrow.Author.Tests.{eq-eqb}
use Rattle.std.specs.Prelude.{if◌then◌else◌}
use Rattle.octets.specs.Laws.{same_refl}
use Rattle.parameters.specs.declared.Feature.{Feature}
use Rattle.parameters.specs.declared.Feature.TheVariants.{Groups, Flow, Applications}
use Rattle.parameters.specs.Parameters as parameters
use Rattle.parameters.specs.Parameters.{mask, valid, compatible, ours, stored, content}
use Rattle.config.specs.FeatureLaws.{ours_length}
use Rattle.parameters.specs.StoringLaws.{content_stored}
use Rattle.applications.specs.OursLaws.{compatible_ours}
use Rattle.config.specs.CompatibleLaws.{compatible_comm, compatible_refl}
use Rattle.feature.specs.declared.Outcome.{Outcome}
use Rattle.feature.specs.declared.Peer.{Peer}
use Rattle.feature.specs.Outcome as rules
use Rattle.machine.specs.State.{fresh_at, fresh}
use Rattle.feature.specs.RulesLaws.{judged_by, judged_by_lem}
use Rattle.port.specs.declared.Port.{Port}
use Rattle.port.specs.Parts.{feature_of}
use Rattle.rounds.specs.Rounds.{Ends, rounds, lossy_rounds, exec_all}
use Rattle.exchange.specs.Expected.{Side, side_of, received_alone, ruled, alone, expected}
use Rattle.exchange.specs.Demand3.{Begun, Agreed, BothAgreed, SettledAgreed}
use Rattle.exchange.specs.Recorders as recorders
use Rattle.exchange.specs.Recorders.{Cable, Recorders, ends, Joins}
use Rattle.exchange.specs.Handover.{LowerLaws, CompatibleLaws, BothAdvertise, SameAtBoth, AloneLaws, SameSettings, RolesSwapped, Alike, OutcomesSwapped, SettledSwapped, SameEnds, Handover, JoinedHandover, HandoverLaws}
use Rattle.exchange.proofs.Outcomes.{read_of, alone_absent, alone_read}
use Rattle.exchange.proofs.Demand3.{demand3}
use Rattle.exchange.proofs.Recorders.{joined_demand3}

-- ---- the rules

lower_laws : LowerLaws
lower_laws = record { commutative = min_comm; associative = λ a b c. omega arith; idempotent = λ a. omega arith }

suits_itself : (f : Feature) (p : List ℕ) → (f ≡ Applications → valid f p ≡ true) → compatible f p p ≡ true
unfolding compatible
suits_itself Groups p v = same_refl (take 12 p)
suits_itself Flow p v = eq-eqb (mask p) (mask p) refl
suits_itself Applications p v = compatible_refl Applications p (v refl)

compatible_laws : CompatibleLaws
unfolding parameters.valid parameters.valid_applications parameters.few_and_new parameters.ours parameters.ours_of parameters.is_ours parameters.all_from parameters.new_name parameters.same_name parameters.clash parameters.clear_of parameters.compatible
compatible_laws =
    record {
      reflexive = suits_itself;
      needs_valid = (refl, refl);
      symmetric = compatible_comm;
      all_valid = (refl, refl, refl);
      not_transitive = (refl, refl, refl);
    }

-- ---- two settings alone

beq_comm : (a b : Bool) → beq a b ≡ beq b a
beq_comm a b = grind arith

-- rules 6 to 9 over what they test of two sides
abbrev judged_of : Feature → Side → Side → Bool → Peer → Outcome
judged_of f a b willing p =
    judged_by (a.setting.enable && b.setting.enable)
    (beq a.setting.willing b.setting.willing)
    (compatible f (content a.setting.desired) (content b.setting.desired))
    willing
    (min a.max b.max)
    p

-- the entries that are not read make no difference
compatible_read : (f : Feature) (p q : List ℕ) → valid f q ≡ true → compatible f p (content (stored (ours f q))) ≡ compatible f p q
compatible_read f p q v = ap (compatible f p) (content_stored (ours f q) (ours_length f q v)) ∙ compatible_ours f p q

module _ (f : Feature) (a b : Side) where
  ruled_a : (error : Bool) → valid f (content b.setting.desired) ≡ true → b.setting.advertise ≡ true → ruled f a b error ≡ judged_of f a b a.setting.willing (read_of f b error)
  ruled_a error v h =
      rw (← compatible_read f (content a.setting.desired) (content b.setting.desired) v)
      (alone_read f a b error v h ∙ judged_by_lem f a.setting (min a.max b.max) (read_of f b error))

  -- at the other end the tests are the same
  tests_same : (p : Peer) → judged_of f b a b.setting.willing p ≡ judged_of f a b b.setting.willing p
  tests_same p =
      rw (
        and_comm a.setting.enable b.setting.enable,
        beq_comm a.setting.willing b.setting.willing,
        compatible_comm f (content a.setting.desired) (content b.setting.desired),
        min_comm a.max b.max,
      )
      refl

-- each end with the Error of the other
same_by : (x y z v w : Bool) (low : ℕ) (f : Feature) (a b : Side) →
    SameAtBoth (judged_by x y z v low (read_of f b (judged_by x y z w low (read_of f a false)).error))
    (judged_by x y z w low (read_of f a (judged_by x y z v low (read_of f b false)).error))
unfolding judged_by
same_by false y z v w low f a b = record { reason = refl; version = refl; error = refl; mode = refl }
same_by true false z v w low f a b = record { reason = refl; version = refl; error = refl; mode = refl }
same_by true true true v w low f a b = record { reason = refl; version = refl; error = refl; mode = refl }
same_by true true false v w low f a b = record { reason = refl; version = refl; error = refl; mode = refl }

same_told : {o p x y : Outcome} → o ≡ x → p ≡ y → SameAtBoth x y → SameAtBoth o p
same_told {p = p} {x = x} e d h = subst (λ (z : Outcome). SameAtBoth z p) (sym e) (subst (SameAtBoth x) (sym d) h)

advertised : (f : Feature) (own peer : Side) → own.setting.advertise ≡ true → expected f own peer ≡ alone f own peer
unfolding expected
advertised f own peer a = ap (λ (b : Bool). if b then alone f own peer else (fresh own.max own.setting).outcome) a

same_alone : (f : Feature) (a b : Side) → BothAdvertise f a b → SameAtBoth (expected f a b) (expected f b a)
unfolding alone
same_alone f a b h =
    let at_a : (e : Bool) → ruled f a b e ≡ judged_of f a b a.setting.willing (read_of f b e) = λ e. ruled_a f a b e h.valid_b h.advertised_b in
    let at_b : (e : Bool) → ruled f b a e ≡ judged_of f a b b.setting.willing (read_of f a e) =
    λ e. ruled_a f b a e h.valid_a h.advertised_a ∙ tests_same f a b (read_of f a e) in
    same_told
    (advertised f a b h.advertised_a ∙ at_a _ ∙ ap (λ (o : Outcome). judged_of f a b a.setting.willing (read_of f b o.error)) (at_b false))
    (advertised f b a h.advertised_b ∙ at_b _ ∙ ap (λ (o : Outcome). judged_of f a b b.setting.willing (read_of f a o.error)) (at_a false))
    (same_by _ _ _ a.setting.willing b.setting.willing (min a.max b.max) f a b)

one_advertises : (f : Feature) (a b : Side) → a.setting.advertise ≡ true → b.setting.advertise ≡ false →
    ((expected f a b).mode ≡ false) × ((expected f b a).mode ≡ b.setting.enable)
unfolding expected alone fresh_at
one_advertises f a b h n = (ap (λ (o : Outcome). o.mode) (advertised f a b h ∙ alone_absent f a b _ n), rw n refl)

alone_laws : AloneLaws
unfolding expected alone ruled received_alone rules.outcome rules.judged parameters.valid parameters.valid_flow parameters.compatible parameters.ours parameters.stored parameters.content
alone_laws = record { same = same_alone; needs_both = one_advertises; needs_valid = (refl, refl) }

-- ---- the exchange

-- two ports that started alike, with peers that did
alike : (own peer own' peer' p q : Port) → SameSettings own own' → SameSettings peer peer' → Agreed own peer p → Agreed own' peer' q → Alike p q
alike own peer own' peer' p q s t h k =
    let one : (f : Feature) → expected f (side_of own f) (side_of peer f) ≡ expected f (side_of own' f) (side_of peer' f) =
    λ f i. expected f (s.features f i) (t.features f i) in
    let in-force : (f : Feature) → rules.configuration (feature_of own f).setting (expected f (side_of own f) (side_of peer f))
    ≡ rules.configuration (feature_of own' f).setting (expected f (side_of own' f) (side_of peer' f)) =
    λ f i. rules.configuration (s.features f i).setting (one f i) in
    record {
      version = h.version ∙ rw (s.max, t.max) refl ∙ sym k.version;
      outcome = λ f. h.outcome f ∙ one f ∙ sym (k.outcome f);
      configuration = λ f. h.configuration f ∙ in-force f ∙ sym (k.configuration f);
    }

module _ (c d : Ends) (x : RolesSwapped c d) (before now : Ends) where
  at_left : Agreed c.l c.r before.l → Agreed d.r d.l now.r → Alike before.l now.r
  at_left = alike c.l c.r d.r d.l before.l now.r x.left_right x.right_left

  at_right : Agreed c.r c.l before.r → Agreed d.l d.r now.l → Alike before.r now.l
  at_right = alike c.r c.l d.l d.r before.r now.l x.right_left x.left_right

  both_swapped : BothAgreed c before → BothAgreed d now → OutcomesSwapped before now
  both_swapped h k = (at_left h.0 k.1, at_right h.1 k.0)

  settled_swapped : SettledAgreed c before → SettledAgreed d now → SettledSwapped before now
  settled_swapped h k a b e g = both_swapped (h a b) (k e g)

same_ends : (c now : Ends) → Begun c → BothAgreed c now → SameEnds c now
same_ends c now h k f a b =
    same_told (k.0.outcome f) (k.1.outcome f)
    (same_alone f (side_of c.l f) (side_of c.r f)
    (record {
      advertised_a = a;
      advertised_b = b;
      valid_a = (h.l.sound.features f).setting.desired.valid;
      valid_b = (h.r.sound.features f).setting.desired.valid;
    }))

of_ports : (c d : Ends) → Begun c → Begun d → RolesSwapped c d → Handover c d
of_ports c d h k x =
    let before = demand3 c h in
    let now = demand3 d k in
    record {
      swaps = λ rs ss p q n m. both_swapped c d x (exec_all (rounds rs) c) (exec_all (rounds ss) d) (before.settles rs p n) (now.settles ss q m);
      settled_swaps = λ rs ss p q. settled_swapped c d x (exec_all (lossy_rounds rs) c) (exec_all (lossy_rounds ss) d) (before.agrees rs p) (now.agrees ss q);
      same = λ rs p n. same_ends c (exec_all (rounds rs) c) h (before.settles rs p n);
      settled_same = λ rs p l r. same_ends c (exec_all (lossy_rounds rs) c) h (before.agrees rs p l r);
    }

of_recorders : (k : Cable) (c : Recorders) (j : Cable) (d : Recorders) → Joins k c.l c.r → Joins j d.l d.r →
    Begun (ends k c) → Begun (ends j d) → RolesSwapped (ends k c) (ends j d) → JoinedHandover k c j d
of_recorders k c j d v w g h x =
    let before = joined_demand3 k c v g in
    let now = joined_demand3 j d w h in
    record {
      swaps = λ xs ys p q rs ss a b n m.
          both_swapped (ends k c) (ends j d) x (ends k (recorders.exec_all k xs c)) (ends j (recorders.exec_all j ys d)) (before.settles xs p rs a n) (now.settles ys q ss b m);
      settled_swaps = λ xs ys p q rs ss a b.
          settled_swapped (ends k c) (ends j d) x (ends k (recorders.exec_all k xs c)) (ends j (recorders.exec_all j ys d)) (before.agrees xs p rs a) (now.agrees ys q ss b);
      same = λ xs p rs a n. same_ends (ends k c) (ends k (recorders.exec_all k xs c)) g (before.settles xs p rs a n);
      settled_same = λ xs p rs a l r. same_ends (ends k c) (ends k (recorders.exec_all k xs c)) g (before.agrees xs p rs a l r);
    }

-- ---- all of it

pub handover : HandoverLaws
handover =
    record {
      lower_of_two = lower_laws;
      compatibility = compatible_laws;
      alone = alone_laws;
      of_ports = of_ports;
      of_recorders = of_recorders;
    }
