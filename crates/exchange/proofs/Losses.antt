-- What an end holds for a peer is the peer's own, whichever calls were made. Assumes nothing.
use Prim.Native.Nat.{ℕ}
use mathlib.Core.Path.{◌≡◌, refl, ap, ◌∙◌}
use mathlib.Core.Bool.{Bool, true, false}
use mathlib.Core.List.{List}
use mathlib.Core.Option.{Option, none, some}
use Rattle.std.specs.Prelude as prelude
use Rattle.std.specs.Prelude.{None, Some}
use Rattle.parameters.specs.declared.Feature.{Feature}
use Rattle.feature.specs.declared.Peer.{Peer}
use Rattle.feature.specs.declared.Outcome.{Outcome}
use Rattle.feature.specs.Outcome.{no_peer, outcome}
use Rattle.machine.specs.State.{fresh_at}
use Rattle.admission.specs.Admission.{Message}
use Rattle.port.specs.Sound.{SoundParameters}
use Rattle.rounds.specs.Rounds.{left, right, Call, refused, writes, handles}
use Rattle.exchange.specs.Expected.{Side}
use Rattle.exchange.proofs.Core.{Settings, Offer, Machine, Core, written, message, synced, marked, handled, fresh_machine, started, gated, recv}
use Rattle.exchange.proofs.Outcomes.{held_of, peer_is}
use Rattle.exchange.proofs.Pairs.{Pair, given, step, run, begin, run_keeps}
use Rattle.exchange.proofs.Stages.{Fit}

-- none, or the peer's own enable, willing and parameters, which the peer advertises
abbrev pub Own : Side → prelude.Option Peer → Type 0
Own x p = (q : Peer) → p ≡ Some q → (x.setting.advertise ≡ true) × (q.enable ≡ x.setting.enable) × (q.willing ≡ x.setting.willing) × (q.parameters ≡ x.setting.desired)

own_none : (x : Side) → Own x no_peer
own_none x q e = cc

module _ (f : Feature) (own peer : Side) (good : SoundParameters f peer.setting.desired) where
  outcome_own : (adv : Bool) → peer.setting.advertise ≡ adv → (old : ℕ) (o : Offer) →
      Own peer (outcome f own.max own.setting old (written adv peer o)).peer
  outcome_own adv a old o =
      peer_is adv f own peer old o (Own peer) good (own_none peer)
      (λ t q e. let k : q ≡ held_of peer o.error = cc in
      (a ∙ t, ap (λ (x : Peer). x.enable) k, ap (λ (x : Peer). x.willing) k, ap (λ (x : Peer). x.parameters) k))

  marked_own : (c : Bool) (seq : ℕ) (o : Outcome) (x : Machine) → Own peer o.peer → Own peer (marked c seq o x).outcome.peer
  unfolding marked
  marked_own true seq o x h = h
  marked_own false seq o x h = h

  handled_own : (a adv : Bool) → peer.setting.advertise ≡ adv → (rcvd seq : ℕ) (o : Offer) (x : Machine) → Own peer x.outcome.peer →
      Own peer (handled a f own rcvd seq (written adv peer o) x).outcome.peer
  unfolding handled synced
  handled_own false adv e rcvd seq o x h = h
  handled_own true adv e rcvd seq o x h = marked_own _ seq _ _ (outcome_own adv e x.outcome.oper o)

fresh_own : (own peer : Side) (b : Bool) → own.setting.advertise ≡ b → Own peer (fresh_machine own).outcome.peer
unfolding fresh_at
fresh_own own peer true e = rw e (own_none peer)
fresh_own own peer false e = rw e (own_none peer)

-- the end `p` holds nothing false of a peer with the settings `t`
abbrev pub Honest : Settings → Core → Type 0
Honest t p = (f : Feature) → Own (t.of f) (p.feat f).outcome.peer

gated_own : (b : Bool) (low : ℕ) (s t : Settings) (p q : Core) → Fit t → Honest t p → Honest t (gated b low s p (message t q))
unfolding gated message
gated_own false low s t p q good h f = h f
gated_own true low s t p q good h f = handled_own f (s.of f) (t.of f) (good f) _ _ refl _ _ _ _ (h f)

recv_own : (s t : Settings) (p q : Core) → Fit t → Honest t p → Honest t (recv s p (message t q))
unfolding recv
recv_own s t p q good h = gated_own _ _ s t p q good h

-- a message on its way was written by an end with the settings `t`
abbrev Written : Settings → Option Message → Type 0
Written t none = Unit {0}
Written t (some m) = (q : Core) × (m ≡ message t q)

module _ (s t : Settings) (fit-s : Fit s) (fit-t : Fit t) where
  pub record Truthful (c : Pair) : Type 0 where
    pub at_l : Honest t c.l
    pub at_r : Honest s c.r
    pub by_l : Written s c.from_l
    pub by_r : Written t c.from_r

  given_own : (own peer : Settings) → Fit peer → (p : Core) (m : Option Message) → Written peer m → Honest peer p → Honest peer (given own p m)
  unfolding given
  given_own own peer good p none e h = h
  given_own own peer good p (some m) e h = rw e.1 (recv_own own peer p e.0 good h)

  step_truthful : (x : Call) (c : Pair) → Truthful c → Truthful (step s t x c)
  unfolding step
  step_truthful (refused x) c h = h
  step_truthful (writes left out) c h = record { at_l = h.at_l; at_r = h.at_r; by_l = (c.l, refl); by_r = h.by_r }
  step_truthful (writes right out) c h = record { at_l = h.at_l; at_r = h.at_r; by_l = h.by_l; by_r = (c.r, refl) }
  step_truthful (handles left) c h =
      record { at_l = given_own s t fit-t c.l c.from_r h.by_r h.at_l; at_r = h.at_r; by_l = h.by_l; by_r = h.by_r }
  step_truthful (handles right) c h =
      record { at_l = h.at_l; at_r = given_own t s fit-s c.r c.from_l h.by_l h.at_r; by_l = h.by_l; by_r = h.by_r }

  begin_truthful : Truthful (begin s t)
  unfolding begin started
  begin_truthful =
      record {
        at_l = λ f. fresh_own (s.of f) (t.of f) _ refl;
        at_r = λ f. fresh_own (t.of f) (s.of f) _ refl;
        by_l = tt;
        by_r = tt;
      }

  pub run_truthful : (xs : List Call) → Truthful (run s t xs (begin s t))
  run_truthful xs = run_keeps s t Truthful step_truthful xs (begin s t) begin_truthful
