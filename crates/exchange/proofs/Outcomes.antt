-- The laws of the outcome rules for a sub-TLV that a port wrote, once for all features. Assumes nothing.
use Prim.Native.Nat.{ℕ, ◌≤◌, ◌%◌, min}
use native.Mathlib.Nat.{min-le_left, min-le_right, le_refl}
use native.Mathlib.Omega.{arith}
use mathlib.Core.Path.{◌≡◌, refl, sym, ap, ◌∙◌}
use mathlib.Core.Bool.{Bool, true, false, not, ◌&&◌, beq}
use mathlib.Core.List.{◌∷◌}
use lib.ListN.{length}
use borrow.Author.Tests.{le-ltb, eq-eqb, eqb-true, not-false}
use Rattle.std.specs.Prelude.{if◌then◌else◌, Option, Some}
use Rattle.octets.specs.Words.{◌below◌, ◌atmost◌, ◌is◌}
use Rattle.octets.specs.Laws.{and_left, and_right}
use Rattle.parameters.specs.declared.Feature.{Feature}
use Rattle.parameters.specs.Parameters.{valid, ours, stored, content}
use Rattle.feature.specs.declared.Setting.{Setting}
use Rattle.feature.specs.declared.Peer.{Peer}
use Rattle.feature.specs.declared.Outcome.{Outcome}
use Rattle.feature.specs.declared.Reason.TheVariants.{Absent, Bad, Waiting}
use Rattle.feature.specs.Outcome.{Received, no_peer, without_peer, judged, outcome}
use Rattle.machine.specs.State.{flags}
use Rattle.port.specs.Sound.{SoundParameters}
use Rattle.exchange.specs.Expected.{Side, received_alone, ruled}
use Rattle.exchange.proofs.Core.{Offer, offer_of, written, changed}
use Rattle.exchange.proofs.Laws.{lower_of_two}
use Rattle.invariants.proofs.Tests.{is_same, beq_same, beq_not}
use Rattle.feature.specs.RulesLaws.{judged_by, judged_by_lem, judged_peer}

-- the version that the two settings lead to, if the peer advertises
unfoldable pub version : Bool → Side → Side → ℕ
version false own peer = own.max
version true own peer = min own.max peer.max

pub version_le : (adv : Bool) (own peer : Side) → version adv own peer ≤ own.max
unfolding version
version_le false own peer = le_refl _
version_le true own peer = min-le_left _ _

-- ---- rules 6 to 9, over their three tests

-- the Error does not depend on the peer's error flag
judged_by_error : (a b c willing : Bool) (oper : ℕ) (p q : Peer) → (judged_by a b c willing oper p).error ≡ (judged_by a b c willing oper q).error
unfolding judged_by
judged_by_error a b c willing oper p q = grind arith

-- what is held of a peer with an error flag
abbrev pub held_of : Side → Bool → Peer
held_of x error = record { enable = x.setting.enable; willing = x.setting.willing; error = error; parameters = x.setting.desired }

pub judged_error : (f : Feature) (s : Setting) (oper : ℕ) (peer : Side) (e d : Bool) →
    (judged f s oper (held_of peer e)).error ≡ (judged f s oper (held_of peer d)).error
judged_error f s oper peer e d = simp judged_by_lem (judged_by_error _ _ _ s.willing oper _ _)

-- ---- flags are read as they are written

pub flag_enable : (en wi er : Bool) → (128 atmost flags en wi er) ≡ en
flag_enable en wi er = grind arith

pub flag_willing : (en wi er : Bool) → (64 atmost flags en wi er % 128) ≡ wi
flag_willing en wi er = grind arith

pub flag_error : (en wi er : Bool) → (32 atmost flags en wi er % 64) ≡ er
flag_error en wi er = grind arith

-- ---- rules 1 to 9 for a sub-TLV that a port wrote

abbrev pub sent1 : ℕ → Side → Bool → Received
sent1 oper peer error =
    record { count = 1; value = oper ∷ peer.max ∷ flags peer.setting.enable peer.setting.willing error ∷ 0 ∷ content peer.setting.desired }

-- rules 3, 4 and 5 over their tests: Oper is above Max, Oper is the lower of the two Max, the parameters are valid
unfoldable ranked : Bool → Bool → Bool → Feature → Side → ℕ → ℕ → Peer → Outcome
ranked above same good f own old low p =
    if above then without_peer Bad old true
    else if not same then without_peer Waiting low false
    else if not good then without_peer Bad low true
    else judged f own.setting low p

-- what is held of it: of application entries our own
abbrev pub read_of : Feature → Side → Bool → Peer
read_of f x error =
    record { enable = x.setting.enable; willing = x.setting.willing; error = error; parameters = stored (ours f (content x.setting.desired)) }

outcome_read : (f : Feature) (own peer : Side) (old oper : ℕ) (error : Bool) → valid f (content peer.setting.desired) ≡ true →
    outcome f own.max own.setting old (sent1 oper peer error)
    ≡ ranked (peer.max below oper) (oper is min own.max peer.max) true f own old (min own.max peer.max) (read_of f peer error)
unfolding outcome ranked
outcome_read f own peer old oper error v =
    simp (
      le-ltb (length (sent1 oper peer error).value) 4 (omega arith),
      flag_enable peer.setting.enable peer.setting.willing error,
      flag_willing peer.setting.enable peer.setting.willing error,
      flag_error peer.setting.enable peer.setting.willing error,
      v,
    )

-- which is all of what a port has
read_whole : (f : Feature) (peer : Side) (error : Bool) → SoundParameters f peer.setting.desired → read_of f peer error ≡ held_of peer error
read_whole f peer error h = rw (h.own, ← h.whole) refl

outcome_by : (f : Feature) (own peer : Side) (old oper : ℕ) (error : Bool) → SoundParameters f peer.setting.desired →
    outcome f own.max own.setting old (sent1 oper peer error)
    ≡ ranked (peer.max below oper) (oper is min own.max peer.max) true f own old (min own.max peer.max) (held_of peer error)
outcome_by f own peer old oper error h =
    outcome_read f own peer old oper error h.valid ∙ ap (ranked _ _ true f own old (min own.max peer.max)) (read_whole f peer error h)

-- the peer that is held afterwards, if one is
ranked_peer : (a b : Bool) (f : Feature) (own : Side) (old low : ℕ) (p : Peer) (P : Option Peer → Type 0) → P no_peer → P (Some p) → P (ranked a b true f own old low p).peer
unfolding ranked
ranked_peer true b f own old low p P n h = n
ranked_peer false false f own old low p P n h = n
ranked_peer false true f own old low p P n h = rw judged_peer h

pub peer_is : (adv : Bool) (f : Feature) (own peer : Side) (old : ℕ) (o : Offer) (P : Option Peer → Type 0) → SoundParameters f peer.setting.desired →
    P no_peer → (adv ≡ true → P (Some (held_of peer o.error))) → P (outcome f own.max own.setting old (written adv peer o)).peer
unfolding outcome written
peer_is false f own peer old o P h n k = n
peer_is true f own peer old o P h n k = rw (outcome_by f own peer old o.oper o.error h) (ranked_peer _ _ f own old _ (held_of peer o.error) P n (k refl))

-- a sub-TLV that a port wrote is readable: Oper becomes the version, whatever Oper came
pub version_is : (adv : Bool) (f : Feature) (own peer : Side) (old : ℕ) (o : Offer) → (adv ≡ true → o.oper ≤ peer.max) →
    (outcome f own.max own.setting old (written adv peer o)).oper ≡ version adv own peer
unfolding outcome written version
version_is false f own peer old o k = refl
version_is true f own peer old o k = lower_of_two f own.max own.setting old (sent1 o.oper peer o.error) refl (omega arith) (k refl)

-- ---- the outcome of what a peer offers

-- it takes the own Max for the Oper before, which rules 2 and 3 alone look at
unfoldable pub answer : Feature → Side → Side → Offer → Outcome
answer f own peer o = outcome f own.max own.setting own.max (written peer.setting.advertise peer o)

-- and a port offers no Oper above its Max
pub answer_is : (adv : Bool) (f : Feature) (own peer : Side) (old : ℕ) (o : Offer) → SoundParameters f peer.setting.desired →
    peer.setting.advertise ≡ adv → (adv ≡ true → o.oper ≤ peer.max) →
    outcome f own.max own.setting old (written adv peer o) ≡ answer f own peer o
unfolding answer outcome written ranked
answer_is false f own peer old o h a k = rw a refl
answer_is true f own peer old o h a k =
    rw (a, outcome_by f own peer old o.oper o.error h, outcome_by f own peer own.max o.oper o.error h, le-ltb peer.max o.oper (k refl)) refl

-- the received Oper is the lower of the two Max
in_step : (f : Feature) (own peer : Side) (old oper : ℕ) (error : Bool) → SoundParameters f peer.setting.desired → oper ≡ min own.max peer.max →
    outcome f own.max own.setting old (sent1 oper peer error) ≡ judged f own.setting (min own.max peer.max) (held_of peer error)
unfolding ranked
in_step f own peer old oper error h e =
    let k : oper ≤ peer.max = rw e (min-le_right _ _) in
    outcome_by f own peer old oper error h ∙ simp (le-ltb peer.max oper k, eq-eqb oper (min own.max peer.max) e)

-- the rules of two settings alone, where the peer advertises or not
pub alone_absent : (f : Feature) (own peer : Side) (error : Bool) → peer.setting.advertise ≡ false →
    ruled f own peer error ≡ without_peer Absent own.max false
unfolding ruled received_alone outcome
alone_absent f own peer error e = rw e

pub alone_read : (f : Feature) (own peer : Side) (error : Bool) → valid f (content peer.setting.desired) ≡ true → peer.setting.advertise ≡ true →
    ruled f own peer error ≡ judged f own.setting (min own.max peer.max) (read_of f peer error)
unfolding ruled received_alone ranked
alone_read f own peer error v e =
    rw e
    (outcome_read f own peer own.max (min own.max peer.max) error v
    ∙ simp (le-ltb peer.max (min own.max peer.max) (min-le_right own.max peer.max), eq-eqb (min own.max peer.max) (min own.max peer.max) refl))

pub alone_met : (f : Feature) (own peer : Side) (error : Bool) → SoundParameters f peer.setting.desired → peer.setting.advertise ≡ true →
    ruled f own peer error ≡ judged f own.setting (min own.max peer.max) (held_of peer error)
alone_met f own peer error h e =
    alone_read f own peer error h.valid e ∙ ap (judged f own.setting (min own.max peer.max)) (read_whole f peer error h)

-- of two settings alone, the Error is the same whatever the peer's error flag
pub error_alone : (f : Feature) (own peer : Side) (d e : Bool) → SoundParameters f peer.setting.desired →
    (ruled f own peer d).error ≡ (ruled f own peer e).error
error_alone f own peer d e h = by peer.setting.advertise refl
  where
    by : (b : Bool) → peer.setting.advertise ≡ b → (ruled f own peer d).error ≡ (ruled f own peer e).error
    by false a = ap (λ (x : Outcome). x.error) (alone_absent f own peer d a ∙ sym (alone_absent f own peer e a))
    by true a =
        ap (λ (x : Outcome). x.error) (alone_met f own peer d h a)
        ∙ judged_error f own.setting _ peer d e
        ∙ sym (ap (λ (x : Outcome). x.error) (alone_met f own peer e h a))

-- the peer runs at the version already: the Error is final
pub error_final : (adv : Bool) (f : Feature) (own peer : Side) (old : ℕ) (o : Offer) → SoundParameters f peer.setting.desired →
    peer.setting.advertise ≡ adv → (adv ≡ true → o.oper ≡ min own.max peer.max) →
    (outcome f own.max own.setting old (written adv peer o)).error ≡ (ruled f own peer false).error
unfolding written outcome
error_final false f own peer old o h a k = rw (alone_absent f own peer false a)
error_final true f own peer old o h a k =
    ap (λ (x : Outcome). x.error) (in_step f own peer old o.oper o.error h (k refl))
    ∙ judged_error f own.setting _ peer o.error false
    ∙ sym (ap (λ (x : Outcome). x.error) (alone_met f own peer false h a))

-- and its Error is final too: the whole outcome is
pub outcome_final : (adv : Bool) (f : Feature) (own peer : Side) (old : ℕ) (o : Offer) (error : Bool) → SoundParameters f peer.setting.desired →
    peer.setting.advertise ≡ adv → (adv ≡ true → o.oper ≡ min own.max peer.max) → (adv ≡ true → o.error ≡ error) →
    outcome f own.max own.setting old (written adv peer o) ≡ ruled f own peer error
unfolding written outcome
outcome_final false f own peer old o error h a k e = sym (alone_absent f own peer error a)
outcome_final true f own peer old o error h a k e =
    in_step f own peer old o.oper o.error h (k refl)
    ∙ ap (λ x. judged f own.setting (min own.max peer.max) (held_of peer x)) (e refl)
    ∙ sym (alone_met f own peer error h a)

-- no change: Oper and Error are the same
pub unchanged : (o n : Outcome) → o.oper ≡ n.oper → o.error ≡ n.error → changed o n ≡ false
unfolding changed
unchanged o n e d = rw (e, d, is_same n.oper, beq_same n.error)

pub same_offer : (o n : Outcome) → changed o n ≡ false → offer_of o ≡ offer_of n
unfolding changed
same_offer o n e =
    let k : (o.oper is n.oper && beq o.error n.error) ≡ true = not-false (o.oper is n.oper && beq o.error n.error) e in
    let a : o.oper ≡ n.oper = eqb-true o.oper n.oper (and_left (o.oper is n.oper) _ k) in
    let b : o.error ≡ n.error = beq_not o.error n.error (ap not (and_right (o.oper is n.oper) _ k)) in
    λ i. record { oper = a i; error = b i }
