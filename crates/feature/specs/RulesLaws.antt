-- Outcome rules 6 to 9 over their three tests: both enabled, willing equal, compatible; and whether the own end is willing. Assumes nothing.
use Rattle.std.specs.Prelude.{Some, ℕ, ◌≡◌, refl, Bool, true, false, not, ◌&&◌, if◌then◌else◌}
use Rattle.std.specs.Bool.{beq}
use Rattle.parameters.specs.declared.Feature.{Feature}
use Rattle.parameters.specs.Parameters.{compatible, content}
use Rattle.feature.specs.declared.Setting.{Setting}
use Rattle.feature.specs.declared.Peer.{Peer}
use Rattle.feature.specs.declared.Outcome.{Outcome}
use Rattle.feature.specs.declared.Reason.TheVariants.{Disabled, Agreed, NotCompatible}
use Rattle.feature.specs.Outcome.{with_peer, judged}

unfoldable pub judged_by : Bool → Bool → Bool → Bool → ℕ → Peer → Outcome
judged_by a b c willing oper p =
    if not a then with_peer Disabled oper false false p false
    else if not b then with_peer Agreed oper false (not p.error) p willing
    else if c then with_peer Agreed oper false (not p.error) p false
    else with_peer NotCompatible oper true false p false

pub judged_by_lem : (f : Feature) (s : Setting) (oper : ℕ) (p : Peer) →
    judged f s oper p
    ≡ judged_by (s.enable && p.enable) (beq s.willing p.willing) (compatible f (content s.desired) (content p.parameters)) s.willing oper p
unfolding judged judged_by
judged_by_lem f s oper p = refl

judged_by_oper : (a b c willing : Bool) (oper : ℕ) (p : Peer) → (judged_by a b c willing oper p).oper ≡ oper
unfolding judged_by
judged_by_oper false b c willing oper p = refl
judged_by_oper true false c willing oper p = refl
judged_by_oper true true true willing oper p = refl
judged_by_oper true true false willing oper p = refl

judged_by_peer : (a b c willing : Bool) (oper : ℕ) (p : Peer) → (judged_by a b c willing oper p).peer ≡ Some p
unfolding judged_by
judged_by_peer false b c willing oper p = refl
judged_by_peer true false c willing oper p = refl
judged_by_peer true true true willing oper p = refl
judged_by_peer true true false willing oper p = refl

pub judged_oper : (f : Feature) (s : Setting) (oper : ℕ) (p : Peer) → (judged f s oper p).oper ≡ oper
judged_oper f s oper p = rw judged_by_lem (judged_by_oper _ _ _ s.willing oper p)

pub judged_peer : (f : Feature) (s : Setting) (oper : ℕ) (p : Peer) → (judged f s oper p).peer ≡ Some p
judged_peer f s oper p = rw judged_by_lem (judged_by_peer _ _ _ s.willing oper p)
