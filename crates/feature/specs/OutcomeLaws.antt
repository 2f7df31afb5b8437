-- The outcome rules by what they decide beside the peer's parameters, a law for each: premises in the form in which a test leaves
-- them. Assumes nothing.
use Rattle.std.specs.Prelude.{Option, None, Some, ℕ, ◌<◌, ◌≤◌, Bool, false, not, ◌&&◌, ◌≡◌, refl, List, length}
use Rattle.std.proofs.Math.Bool.{true}
use Rattle.std.specs.Bool.{beq}
use Rattle.std.proofs.Common.{◌∙◌, arith}
use Rattle.std.proofs.Math.Path.{sym, ap}
use borrow.Author.Tests.{not-true, not-false, lt-ltb, le-ltb, eq-eqb, ne_eqb}
use Rattle.parameters.specs.declared.Feature.{Feature}
use Rattle.parameters.specs.declared.Parameters.{Parameters}
use Rattle.parameters.specs.Parameters.{valid, compatible, content, ours, stored, no_parameters}
use Rattle.config.specs.FeatureLaws.{ours_length}
use Rattle.parameters.specs.StoringLaws.{content_stored}
use Rattle.applications.specs.OursLaws.{compatible_ours}
use Rattle.feature.specs.declared.Reason.TheVariants.{Absent, Duplicate, Bad, Waiting, Disabled, Agreed, NotCompatible}
use Rattle.feature.specs.declared.Setting.{Setting}
use Rattle.feature.specs.declared.Peer.{Peer}
use Rattle.feature.specs.declared.Flags.{Flags}
use Rattle.feature.specs.declared.Switches.{Switches}
use Rattle.feature.specs.declared.Decision.{Decision}
use Rattle.feature.specs.declared.Outcome.{Outcome}
use Rattle.feature.specs.Outcome.{oper_of, max_of, enable_of, willing_of, error_of, parameters_of, configuration, parameters_held, lower, without_peer, with_peer, judged, outcome}
use Rattle.feature.specs.RulesLaws.{judged_by, judged_by_lem}

-- ---- an outcome in two parts

-- the flags of a peer that is held
abbrev pub peer_flags : Peer → Flags
peer_flags p = record { enable = p.enable; willing = p.willing; error = p.error }

abbrev pub flags_held : Option Peer → Option Flags
flags_held None = None
flags_held (Some p) = Some (peer_flags p)

abbrev pub decided : Outcome → Decision
decided o =
    record {
      reason = o.reason;
      oper = o.oper;
      error = o.error;
      mode = o.mode;
      peer = flags_held o.peer;
      adopts = o.adopts;
    }

-- a peer that is held
abbrev pub peer_of : Flags → Parameters → Peer
peer_of w p = record { enable = w.enable; willing = w.willing; error = w.error; parameters = p }

abbrev pub peer_with : Option Flags → Parameters → Option Peer
peer_with None p = None
peer_with (Some w) p = Some (peer_of w p)

abbrev pub outcome_of : Decision → Parameters → Outcome
outcome_of d p = record { reason = d.reason; oper = d.oper; error = d.error; mode = d.mode; peer = peer_with d.peer p; adopts = d.adopts }

abbrev pub with_mode : Decision → Bool → Decision
with_mode d mode = record { reason = d.reason; oper = d.oper; error = d.error; mode = mode; peer = d.peer; adopts = d.adopts }

-- both parts together
pub outcome_whole : (o : Outcome) → outcome_of (decided o) (parameters_held o.peer) ≡ o
outcome_whole o = λ i. record { reason = o.reason; oper = o.oper; error = o.error; mode = o.mode; peer = both o.peer i; adopts = o.adopts }
  where
    both : (p : Option Peer) → peer_with (flags_held p) (parameters_held p) ≡ p
    both None = refl
    both (Some p) = refl

pub outcome_again : (o : Outcome) (p : Peer) → o.peer ≡ Some p → outcome_of (decided o) p.parameters ≡ o
outcome_again o p e = ap (λ (q : Option Peer). outcome_of (decided o) (parameters_held q)) (sym e) ∙ outcome_whole o

-- OperCfg
module _ (s : Setting) (o : Outcome) where
  pub configuration_adopted : o.adopts ≡ true → parameters_held o.peer ≡ configuration s o
  configuration_adopted t = rw t refl

  pub configuration_own : o.adopts ≡ false → s.desired ≡ configuration s o
  configuration_own t = rw t refl

abbrev pub flags_of : List ℕ → Flags
flags_of v = record { enable = enable_of v; willing = willing_of v; error = error_of v }

-- ---- rules 6 to 9

-- what they decide, by the switches of the own end, the flags of the peer, and whether the two suit each other
unfoldable pub judged_with : Switches → ℕ → Flags → Bool → Decision
judged_with s oper p c = decided (judged_by (s.enable && p.enable) (beq s.willing p.willing) c s.willing oper (peer_of p no_parameters))

-- whether they come to ask if the two suit each other
abbrev pub asked : Switches → Flags → Bool
asked s p = s.enable && p.enable && beq s.willing p.willing

-- and where they do not, it makes no difference
pub judged_asked : (s : Switches) (oper : ℕ) (p : Flags) (c : Bool) → judged_with s oper p (asked s p && c) ≡ judged_with s oper p c
unfolding judged_with judged_by
judged_asked s oper p c = by s.enable p.enable (beq s.willing p.willing)
  where
    by : (a b w : Bool) → decided (judged_by (a && b) w (a && b && w && c) s.willing oper (peer_of p no_parameters)) ≡ decided (judged_by (a && b) w c s.willing oper (peer_of p no_parameters))
    by true true true = refl
    by true true false = refl
    by true false w = refl
    by false b w = refl

-- every answer that is possible is this one
abbrev pub Answers : (Bool → Type 0) → Bool → Type 0
Answers possible c = (b : Bool) → possible b → b ≡ c

-- and by the parameters of both
unfoldable pub judged_on : Feature → Switches → List ℕ → ℕ → Flags → List ℕ → Decision
judged_on f s own oper p theirs = judged_with s oper p (compatible f own theirs)

module _ (s : Switches) (oper : ℕ) (w : Flags) (c : Bool) {d : Decision} where
  pub judged_own_off : d ≡ decided (with_peer Disabled oper false false (peer_of w no_parameters) false) → not s.enable ≡ true → d ≡ judged_with s oper w c
  unfolding judged_with judged_by
  judged_own_off e a = simp (e, not-true s.enable a)

  module _ (a : not s.enable ≡ false) where
    pub judged_peer_off : d ≡ decided (with_peer Disabled oper false false (peer_of w no_parameters) false) → not w.enable ≡ true → d ≡ judged_with s oper w c
    unfolding judged_with judged_by
    judged_peer_off e b = simp (e, not-false s.enable a, not-true w.enable b)

    module _ (b : not w.enable ≡ false) where
      pub judged_differ : d ≡ decided (with_peer Agreed oper false (not w.error) (peer_of w no_parameters) s.willing)
          → not (beq s.willing w.willing) ≡ true → d ≡ judged_with s oper w c
      unfolding judged_with judged_by
      judged_differ e k = simp (e, not-false s.enable a, not-false w.enable b, k)

      module _ (k : not (beq s.willing w.willing) ≡ false) {g : Bool} (y : g ≡ c) where
        pub judged_alike : d ≡ decided (with_peer Agreed oper false (not w.error) (peer_of w no_parameters) false) → g ≡ true → d ≡ judged_with s oper w c
        unfolding judged_with judged_by
        judged_alike e h = simp (e, not-false s.enable a, not-false w.enable b, k, sym y ∙ h)

        pub judged_clash : d ≡ decided (with_peer NotCompatible oper true false (peer_of w no_parameters) false) → g ≡ false → d ≡ judged_with s oper w c
        unfolding judged_with judged_by
        judged_clash e h = simp (e, not-false s.enable a, not-false w.enable b, k, sym y ∙ h)

-- a decision does not show the peer's parameters
judged_by_decided : (a b c willing : Bool) (oper : ℕ) (w : Flags) (p q : Parameters) →
    decided (judged_by a b c willing oper (peer_of w p)) ≡ decided (judged_by a b c willing oper (peer_of w q))
unfolding judged_by
judged_by_decided false b c willing oper w p q = refl
judged_by_decided true false c willing oper w p q = refl
judged_by_decided true true true willing oper w p q = refl
judged_by_decided true true false willing oper w p q = refl

abbrev pub switches_of : Setting → Switches
switches_of s = record { advertise = s.advertise; enable = s.enable; willing = s.willing }

-- with a peer whose parameters suit the setting just as those that were looked at
pub judges : (f : Feature) (s : Setting) (oper : ℕ) (w : Flags) (t : List ℕ) (q : Parameters)
    → compatible f (content s.desired) (content q) ≡ compatible f (content s.desired) t
    → judged_on f (switches_of s) (content s.desired) oper w t ≡ decided (judged f s oper (peer_of w q))
unfolding judged_on judged_with
judges f s oper w t q k =
    ap (λ (c : Bool). decided (judged_by (s.enable && w.enable) (beq s.willing w.willing) c s.willing oper (peer_of w no_parameters))) (sym k)
    ∙ judged_by_decided (s.enable && w.enable) (beq s.willing w.willing) (compatible f (content s.desired) (content q)) s.willing oper w no_parameters q
    ∙ ap decided (sym (judged_by_lem f s oper (peer_of w q)))

-- as the code lends the two ends' parameters
pub judged_lent : (f : Feature) (s : Setting) (oper : ℕ) (w : Flags) (t : List ℕ) {x : Switches} {own : List ℕ} {d : Decision} → x ≡ switches_of s
    → own ≡ content s.desired → d ≡ judged_with x oper w (compatible f own t)
    → d ≡ judged_on f (switches_of s) (content s.desired) oper w t
unfolding judged_on
judged_lent f s oper w t ex eo e = e ∙ (λ i. judged_with (ex i) oper w (compatible f (eo i) t))

pub judged_value : (f : Feature) (s : Setting) (oper : ℕ) (v : List ℕ) {x : Switches} {own : List ℕ} {w : Flags} {t : List ℕ} {d : Decision} → x ≡ switches_of s
    → own ≡ content s.desired → w ≡ flags_of v → t ≡ parameters_of v → d ≡ judged_with x oper w (compatible f own t)
    → d ≡ judged_on f (switches_of s) (content s.desired) oper (flags_of v) (parameters_of v)
unfolding judged_on
judged_value f s oper v ex eo ew et e = e ∙ (λ i. judged_with (ex i) oper (ew i) (compatible f (eo i) (et i)))

-- that they are valid, where they are lent
module _ (f : Feature) {t u : List ℕ} (e : t ≡ u) where
  pub valid_lent : valid f u ≡ true → valid f t ≡ true
  valid_lent h = rw e h

  pub valid_tested : {b : Bool} → b ≡ valid f t → not b ≡ false → valid f u ≡ true
  valid_tested {b} g h = rw (← e) (sym g ∙ not-false b h)

-- parameters that are valid suit the own ones just as what is held of them
pub held_suits : (f : Feature) (o t : List ℕ) → valid f t ≡ true → compatible f o (content (stored (ours f t))) ≡ compatible f o t
held_suits f o t v = ap (compatible f o) (content_stored (ours f t) (ours_length f t v)) ∙ compatible_ours f o t

-- ---- rules 1 to 5, and the way to 6

module _ (f : Feature) (max : ℕ) (s : Setting) (oper n : ℕ) (v : List ℕ) {o : Decision} where
  pub outcome_absent : o ≡ decided (without_peer Absent max false) → n ≡ 0 → o ≡ decided (outcome f max s oper (record { count = n; value = v }))
  unfolding outcome
  outcome_absent e t = simp (e, eq-eqb n 0 t)

  pub outcome_duplicate : o ≡ decided (without_peer Duplicate oper true) → 1 < n → o ≡ decided (outcome f max s oper (record { count = n; value = v }))
  unfolding outcome
  outcome_duplicate e t = simp (e, ne_eqb n 0 (omega arith), lt-ltb 1 n t)

  module _ (z : n ≡ 0 → ⊥) (d : n ≤ 1) where
    pub outcome_short : o ≡ decided (without_peer Bad oper true) → length v < 4 → o ≡ decided (outcome f max s oper (record { count = n; value = v }))
    unfolding outcome
    outcome_short e t = simp (e, ne_eqb n 0 z, le-ltb 1 n d, lt-ltb (length v) 4 t)

    module _ (l : 4 ≤ length v) {a b : ℕ} (ea : a ≡ oper_of v) (eb : b ≡ max_of v) where
      pub outcome_above : o ≡ decided (without_peer Bad oper true) → b < a → o ≡ decided (outcome f max s oper (record { count = n; value = v }))
      unfolding outcome
      outcome_above e t = simp (e, ne_eqb n 0 z, le-ltb 1 n d, le-ltb (length v) 4 l, ← ea, ← eb, lt-ltb b a t)

      module _ (m : a ≤ b) {c : ℕ} (q : c ≡ lower max b) where
        pub outcome_waiting : o ≡ decided (without_peer Waiting c false) → (a ≡ c → ⊥) → o ≡ decided (outcome f max s oper (record { count = n; value = v }))
        unfolding outcome
        outcome_waiting e t = simp (e, ne_eqb n 0 z, le-ltb 1 n d, le-ltb (length v) 4 l, ← ea, ← eb, le-ltb b a m, ← q, ne_eqb a c t)

        module _ (h : a ≡ c) {g : Bool} {ps : List ℕ} (d4 : ps ≡ parameters_of v) (y : g ≡ valid f ps) where
          pub outcome_invalid : o ≡ decided (without_peer Bad c true) → not g ≡ true → o ≡ decided (outcome f max s oper (record { count = n; value = v }))
          unfolding outcome
          outcome_invalid e t = simp (e, ne_eqb n 0 z, le-ltb 1 n d, le-ltb (length v) 4 l, ← ea, ← eb, le-ltb b a m, ← q, eq-eqb a c h, ← d4, ← y, t)

          pub outcome_judged : o ≡ judged_on f (switches_of s) (content s.desired) c (flags_of v) (parameters_of v) → not g ≡ false
              → o ≡ decided (outcome f max s oper (record { count = n; value = v }))
          unfolding outcome
          outcome_judged e t =
              let u : valid f (parameters_of v) ≡ true = ap (valid f) (sym d4) ∙ sym y ∙ not-false g t in
              let i : g ≡ valid f (parameters_of v) = y ∙ ap (valid f) d4 in
              simp (ne_eqb n 0 z, le-ltb 1 n d, le-ltb (length v) 4 l, ← ea, ← eb, le-ltb b a m, ← q, eq-eqb a c h, ← i, t)
              (e ∙ judges f s c (flags_of v) (parameters_of v) (stored (ours f (parameters_of v))) (held_suits f (content s.desired) (parameters_of v) u))
