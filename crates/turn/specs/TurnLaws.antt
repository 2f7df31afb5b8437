-- What a frame makes of a feature: its small part, decided first, and the parameters held of the peer. Laws for each way out of
-- the functions. Assumes nothing.
use Rattle.std.specs.Option.{is_some}
use Rattle.std.specs.Prelude.{Option, ◌≡◌, ℕ, Bool, true, false, not, ◌&&◌, ◌||◌, List, length, ◌≢◌, if◌then◌else◌}
use Rattle.std.proofs.Common.{arith, ◌∙◌, sym}
use Rattle.std.proofs.Math.Bool.{beq}
use Rattle.std.proofs.lemmas.Bool.{false≢true}
use Rattle.std.proofs.Math.Path.{refl, ap}
use borrow.Author.Tests.{not-true, not-false, eq-eqb, ne_eqb, eqb-true, eqb-false}
use Rattle.octets.specs.Words.{◌is◌, ◌below◌}
use Rattle.parameters.specs.declared.Feature.{Feature}
use Rattle.parameters.specs.declared.Parameters.{Parameters}
use Rattle.parameters.specs.Parameters.{valid, ours, stored, no_parameters}
use Rattle.feature.specs.declared.Reason.TheVariants.{Absent, Duplicate, Bad, Waiting, ControlTwice}
use Rattle.feature.specs.declared.Setting.{Setting}
use Rattle.feature.specs.declared.Peer.{Peer}
use Rattle.feature.specs.declared.Decision.{Decision}
use Rattle.feature.specs.declared.Outcome.{Outcome}
use Rattle.feature.specs.declared.State.{State}
use Rattle.turn.specs.declared.Course.{Course}
use Rattle.turn.specs.declared.Course.TheVariants.{Twice, OtherVersion, Exchange}
use Rattle.turn.specs.declared.Turn.{Turn}
use Rattle.feature.specs.Outcome.{Received, oper_of, max_of, parameters_of, parameters_held, lower, held_peer, without_peer, judged, outcome}
use Rattle.feature.specs.OutcomeLaws.{decided, outcome_of, outcome_whole}
use Rattle.feature.specs.RulesLaws.{judged_peer}
use Rattle.machine.specs.State.{next, flags, present, sub_tlv, changed, marked}
use Rattle.turn.specs.Turn.{control_twice, acknowledged, received}
use Rattle.machine.specs.StateLaws.{changed_not, changed_oper, changed_flags, marked_same, marked_changed}

-- ---- the state after a frame

-- steps 1 to 4
abbrev pub stepped : Course → Feature → Received → ℕ → ℕ → State → State
stepped Twice f r rcvd seq x = control_twice x
stepped OtherVersion f r rcvd seq x = x
stepped Exchange f r rcvd seq x = received f r (acknowledged rcvd seq x)

-- and step 5
abbrev pub after : Course → Feature → Received → ℕ → ℕ → State → State
after c f r rcvd seq x = marked f seq x (stepped c f r rcvd seq x)

-- ---- in two parts

abbrev pub turn_of : State → Turn
turn_of x = record { decision = decided x.outcome; syncd = x.syncd; sequence = x.sequence }

-- what the outcome rules decide of a sub-TLV that came so many times, with the value of the last
abbrev pub decided_at : Feature → State → ℕ → List ℕ → Decision
decided_at f x n v = decided (outcome f x.max x.setting x.outcome.oper (record { count = n; value = v }))

abbrev pub kept_at : State → Bool → Turn
kept_at x syncd = record { decision = decided x.outcome; syncd = syncd; sequence = x.sequence }

unfoldable pub weighed : State → Decision → Bool → ℕ → Turn
weighed x d syncd seq =
    if x.outcome.oper is d.oper && beq x.outcome.error d.error then record { decision = d; syncd = syncd; sequence = x.sequence }
    else record { decision = d; syncd = false; sequence = next seq }

abbrev pub peer_parameters_now : Feature → List ℕ → Bool → Parameters
peer_parameters_now f v held = if held then stored (ours f (parameters_of v)) else no_parameters

-- a frame leaves what is held of the peer
abbrev pub keeps_on : Course → Bool
keeps_on Twice = false
keeps_on OtherVersion = true
keeps_on Exchange = false

unfoldable pub keeps_by : Course → State → Bool
keeps_by c x = not x.setting.advertise || keeps_on c

unfoldable pub peer_parameters_after : Course → Feature → List ℕ → Bool → State → Parameters
peer_parameters_after c f v held x = if keeps_by c x then parameters_held x.outcome.peer else peer_parameters_now f v held

abbrev pub renewed : State → Turn → Parameters → State
renewed x t p = record { max = x.max; setting = x.setting; outcome = outcome_of t.decision p; syncd = t.syncd; sequence = t.sequence }

-- ---- step 5 on the small part

-- the error flag shows
flags_error : (e w a b : Bool) → beq a b ≡ false → flags e w a ≢ flags e w b
flags_error e w true true p q = absurd (false≢true (sym p))
flags_error e w true false p q = omega arith
flags_error e w false true p q = omega arith
flags_error e w false false p q = absurd (false≢true (sym p))

beq_self : (b : Bool) → not (beq b b) ≡ false
beq_self true = refl
beq_self false = refl

beq_is : (a b : Bool) → beq a b ≡ true → a ≡ b
beq_is true true e = refl
beq_is true false e = sym e
beq_is false true e = e
beq_is false false e = refl

-- the sub-TLV of an advertised feature changed exactly if its version or its error did
module _ (f : Feature) (x : State) (t : not x.setting.advertise ≡ false) (o : Outcome) (syncd : Bool) where
  abbrev come : State
  come = record { max = x.max; setting = x.setting; outcome = o; syncd = syncd; sequence = x.sequence }

  changed_come : (e d : Bool) → x.outcome.oper is o.oper ≡ e → beq x.outcome.error o.error ≡ d → not (e && d) ≡ changed f x come
  changed_come true true q r =
      changed_not f x.max x.max (present x) (present come) (rw (eqb-true x.outcome.oper o.oper q, beq_is x.outcome.error o.error r) refl)
  changed_come true false q r =
      changed_flags f x.max x.max (present x) (present come) (beq_self x.setting.advertise) t refl refl
      (flags_error x.setting.enable x.setting.willing x.outcome.error o.error r)
  changed_come false d q r =
      changed_oper f x.max x.max (present x) (present come) (beq_self x.setting.advertise) t (eqb-false x.outcome.oper o.oper q)

  pub weighed_marked : (seq : ℕ) → weighed x (decided o) syncd seq ≡ turn_of (marked f seq x come)
  unfolding weighed
  weighed_marked seq = by (x.outcome.oper is o.oper) (beq x.outcome.error o.error) refl refl
    where
      by : (e d : Bool) → x.outcome.oper is o.oper ≡ e → beq x.outcome.error o.error ≡ d
          → (if e && d then record { decision = decided o; syncd = syncd; sequence = x.sequence } else record { decision = decided o; syncd = false; sequence = next seq })
          ≡ turn_of (marked f seq x come)
      by true true q r = ap turn_of (marked_same f seq x come refl refl (changed_come true true q r) refl)
      by true false q r = ap turn_of (marked_changed f seq x come refl refl (changed_come true false q r) refl refl)
      by false d q r = ap turn_of (marked_changed f seq x come refl refl (changed_come false d q r) refl refl)

module _ (x : State) (d : Decision) (syncd : Bool) (seq : ℕ) where
  module _ {t : Turn} (e : t ≡ record { decision = d; syncd = false; sequence = next seq }) where
    pub weighed_oper : (x.outcome.oper ≢ d.oper) → t ≡ weighed x d syncd seq
    unfolding weighed
    weighed_oper n = e ∙ simp (ne_eqb x.outcome.oper d.oper n)

    pub weighed_error : x.outcome.oper ≡ d.oper → not (beq x.outcome.error d.error) ≡ true → t ≡ weighed x d syncd seq
    unfolding weighed
    weighed_error o n = e ∙ simp (eq-eqb x.outcome.oper d.oper o, not-true (beq x.outcome.error d.error) n)

  pub weighed_same : x.outcome.oper ≡ d.oper → not (beq x.outcome.error d.error) ≡ false
      → record { decision = d; syncd = syncd; sequence = x.sequence } ≡ weighed x d syncd seq
  unfolding weighed
  weighed_same o n = simp (eq-eqb x.outcome.oper d.oper o, not-false (beq x.outcome.error d.error) n)

-- ---- a law for each way out

-- a state whose sub-TLV is as before is not marked
unmarked : (f : Feature) (seq : ℕ) (x y : State) → sub_tlv f x ≡ sub_tlv f y → y ≡ marked f seq x y
unmarked f seq x y e = marked_same f seq x y refl refl (changed_not f x.max y.max (present x) (present y) e) refl

module _ (f : Feature) (seq : ℕ) (x : State) {t : Turn} where
  pub twice_withheld : not x.setting.advertise ≡ true → t ≡ kept_at x x.syncd → t ≡ turn_of (marked f seq x (control_twice x))
  unfolding control_twice
  twice_withheld a e = let n : x.setting.advertise ≡ false = not-true x.setting.advertise a in e ∙ simp n (ap turn_of (unmarked f seq x x refl))

  pub twice_advertised : {d : Decision} → not x.setting.advertise ≡ false → d ≡ decided (without_peer ControlTwice x.outcome.oper true)
      → t ≡ weighed x d x.syncd seq → t ≡ turn_of (marked f seq x (control_twice x))
  unfolding control_twice
  twice_advertised a ed e =
      e ∙ rw ed (simp (not-false x.setting.advertise a) (weighed_marked f x a (without_peer ControlTwice x.outcome.oper true) x.syncd seq))

  module _ (r : Received) (rcvd : ℕ) {s : Bool} (es : s ≡ (x.syncd || (x.sequence is rcvd && x.sequence is seq))) where
    pub receive_withheld : not x.setting.advertise ≡ true → t ≡ kept_at x s → t ≡ turn_of (marked f seq x (received f r (acknowledged rcvd seq x)))
    unfolding received acknowledged
    receive_withheld a e =
        let n : x.setting.advertise ≡ false = not-true x.setting.advertise a in
        e ∙ rw es (simp n (ap turn_of (unmarked f seq x (acknowledged rcvd seq x) refl)))

    pub receive_advertised : {d : Decision} → not x.setting.advertise ≡ false → d ≡ decided (outcome f x.max x.setting x.outcome.oper r)
        → t ≡ weighed x d s seq → t ≡ turn_of (marked f seq x (received f r (acknowledged rcvd seq x)))
    unfolding received acknowledged
    receive_advertised a ed e =
        e ∙ rw (ed, es)
        (simp (not-false x.setting.advertise a)
        (weighed_marked f x a (outcome f x.max x.setting x.outcome.oper r) (x.syncd || (x.sequence is rcvd && x.sequence is seq)) seq))

module _ (f : Feature) (r : Received) (rcvd seq : ℕ) (x : State) (c : Course) {t : Turn} where
  pub turn_twice : c ≡ Twice → t ≡ turn_of (marked f seq x (control_twice x)) → t ≡ turn_of (after c f r rcvd seq x)
  turn_twice ec e = rw ec e

  pub turn_other : c ≡ OtherVersion → t ≡ kept_at x x.syncd → t ≡ turn_of (after c f r rcvd seq x)
  turn_other ec e = rw ec (e ∙ ap turn_of (unmarked f seq x x refl))

  pub turn_exchange : c ≡ Exchange → t ≡ turn_of (marked f seq x (received f r (acknowledged rcvd seq x))) → t ≡ turn_of (after c f r rcvd seq x)
  turn_exchange ec e = rw ec e

-- ---- the parameters

module _ (f : Feature) (v : List ℕ) (x : State) (c : Course) {b : Bool} (k : b ≡ keeps_by c x) (held : Bool) where
  pub held_kept : b ≡ true → {p : Parameters} → p ≡ parameters_held x.outcome.peer → p ≡ peer_parameters_after c f v held x
  unfolding peer_parameters_after
  held_kept t e = e ∙ simp (← k, t)

  module _ (t : b ≡ false) {p : Parameters} where
    pub held_brought : {o : List ℕ} → held ≡ true → o ≡ parameters_of v → p ≡ stored (ours f o) → p ≡ peer_parameters_after c f v held x
    unfolding peer_parameters_after
    held_brought h eo e = e ∙ simp (← k, t, h, eo)

    pub held_none : held ≡ false → p ≡ no_parameters → p ≡ peer_parameters_after c f v held x
    unfolding peer_parameters_after
    held_none h e = e ∙ simp (← k, t, h)

-- the outcome holds the parameters that came exactly if it holds a peer
Brought : Feature → List ℕ → Option Peer → Type 0
Brought f v p = parameters_held p ≡ peer_parameters_now f v (is_some p)

ruled_brought : (f : Feature) (max : ℕ) (s : Setting) (oper low : ℕ) (v : List ℕ) (a b c d e : Bool) →
    Brought f v
    (if a then without_peer Absent max false
    else if b then without_peer Duplicate oper true
    else if c then without_peer Bad oper true
    else if not d then without_peer Waiting low false
    else if not e then without_peer Bad low true
    else judged f s low (held_peer f v)).peer
unfolding Brought
ruled_brought f max s oper low v true b c d e = refl
ruled_brought f max s oper low v false true c d e = refl
ruled_brought f max s oper low v false false true d e = refl
ruled_brought f max s oper low v false false false false e = refl
ruled_brought f max s oper low v false false false true false = refl
ruled_brought f max s oper low v false false false true true = rw judged_peer refl

outcome_brought : (f : Feature) (max : ℕ) (s : Setting) (oper : ℕ) (r : Received) → Brought f r.value (outcome f max s oper r).peer
unfolding outcome
outcome_brought f max s oper r =
    ruled_brought f max s oper (lower max (max_of r.value)) r.value (r.count is 0) (1 below r.count)
    (length r.value below 4 || max_of r.value below oper_of r.value) (oper_of r.value is lower max (max_of r.value)) (valid f (parameters_of r.value))

-- ---- both parts together

pub anew_is : (d : Decision) (seq : ℕ) {n : ℕ} → n ≡ next seq → ◌≡◌ {A = Turn} (record { decision = d; syncd = false; sequence = n }) (record { decision = d; syncd = false; sequence = next seq })
anew_is d seq e = rw e refl

pub renew_is : (x : State) (t : Turn) (p : Parameters) {o : Outcome} → o ≡ outcome_of t.decision p
    → record { max = x.max; setting = x.setting; outcome = o; syncd = t.syncd; sequence = t.sequence } ≡ renewed x t p
renew_is x t p e = rw e refl

-- what steps 1 to 5 leave as it is
pub record Same (x y : State) : Type 0 where
  pub max : y.max ≡ x.max
  pub setting : y.setting ≡ x.setting

either_same : (x : State) (b : Bool) (y z : State) → Same x y → Same x z → Same x (if b then y else z)
either_same x true y z h k = h
either_same x false y z h k = k

marked_same_state : (f : Feature) (seq : ℕ) (x y : State) → Same x y → Same x (marked f seq x y)
unfolding marked
marked_same_state f seq x y h = either_same x (changed f x y) _ y (record { max = h.max; setting = h.setting }) h

stepped_same : (c : Course) (f : Feature) (r : Received) (rcvd seq : ℕ) (x : State) → Same x (stepped c f r rcvd seq x)
unfolding control_twice received acknowledged
stepped_same Twice f r rcvd seq x = either_same x x.setting.advertise _ x (record { max = refl; setting = refl }) (record { max = refl; setting = refl })
stepped_same OtherVersion f r rcvd seq x = record { max = refl; setting = refl }
stepped_same Exchange f r rcvd seq x =
    either_same x x.setting.advertise _ (acknowledged rcvd seq x) (record { max = refl; setting = refl }) (record { max = refl; setting = refl })

pub after_same : (c : Course) (f : Feature) (r : Received) (rcvd seq : ℕ) (x : State) → Same x (after c f r rcvd seq x)
after_same c f r rcvd seq x = marked_same_state f seq x (stepped c f r rcvd seq x) (stepped_same c f r rcvd seq x)

marked_outcome : (f : Feature) (seq : ℕ) (x y : State) → (marked f seq x y).outcome ≡ y.outcome
unfolding marked
marked_outcome f seq x y = by (changed f x y)
  where
    by : (b : Bool) → (if b then record { max = y.max; setting = y.setting; outcome = y.outcome; syncd = false; sequence = next seq } else y).outcome ≡ y.outcome
    by true = refl
    by false = refl

-- the parameters that are held are those of the state after steps 1 to 4
stepped_held : (c : Course) (f : Feature) (r : Received) (rcvd seq : ℕ) (x : State) →
    peer_parameters_after c f r.value (is_some (stepped c f r rcvd seq x).outcome.peer) x ≡ parameters_held (stepped c f r rcvd seq x).outcome.peer
unfolding peer_parameters_after keeps_by control_twice received acknowledged Brought
stepped_held c f r rcvd seq x = by c x.setting.advertise refl
  where
    by : (c : Course) (b : Bool) → x.setting.advertise ≡ b →
        peer_parameters_after c f r.value (is_some (stepped c f r rcvd seq x).outcome.peer) x ≡ parameters_held (stepped c f r rcvd seq x).outcome.peer
    by Twice true e = simp e
    by Twice false e = simp e
    by OtherVersion true e = simp e
    by OtherVersion false e = simp e
    by Exchange true e = simp e (sym (outcome_brought f x.max x.setting x.outcome.oper r))
    by Exchange false e = simp e

pub renewed_after : (c : Course) (f : Feature) (r : Received) (rcvd seq : ℕ) (x : State) →
    renewed x (turn_of (after c f r rcvd seq x)) (peer_parameters_after c f r.value (is_some (after c f r rcvd seq x).outcome.peer) x) ≡ after c f r rcvd seq x
renewed_after c f r rcvd seq x =
    let y : State = stepped c f r rcvd seq x in
    let z : State = marked f seq x y in
    let s : Same x z = after_same c f r rcvd seq x in
    let o : z.outcome ≡ y.outcome = marked_outcome f seq x y in
    let h : peer_parameters_after c f r.value (is_some z.outcome.peer) x ≡ parameters_held z.outcome.peer =
    ap (λ (b : Bool). peer_parameters_after c f r.value b x) (ap (λ (o : Outcome). is_some o.peer) o) ∙ stepped_held c f r rcvd seq x
    ∙ ap (λ (o : Outcome). parameters_held o.peer) (sym o) in
    let w : outcome_of (decided z.outcome) (peer_parameters_after c f r.value (is_some z.outcome.peer) x) ≡ z.outcome =
    ap (outcome_of (decided z.outcome)) h ∙ outcome_whole z.outcome in
    λ i. record { max = sym s.max i; setting = sym s.setting i; outcome = w i; syncd = z.syncd; sequence = z.sequence }
