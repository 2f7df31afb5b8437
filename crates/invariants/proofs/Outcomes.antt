-- What a sound outcome is, and when the rules adopt the peer's parameters. Assumes nothing.
use Prim.Native.Nat.{ℕ, ◌≤◌}
use mathlib.Core.Path.{◌≡◌, refl}
use mathlib.Core.Bool.{Bool, true, false, not, ◌&&◌, beq}
use Rattle.parameters.specs.declared.Feature.{Feature}
use Rattle.feature.specs.declared.Setting.{Setting}
use Rattle.feature.specs.declared.Peer.{Peer}
use Rattle.feature.specs.declared.Outcome.{Outcome}
use Rattle.port.specs.Sound.{SoundPeer, adopts_by}
use Rattle.feature.specs.RulesLaws.{judged_by}

pub record SoundOutcome (f : Feature) (max : ℕ) (s : Setting) (o : Outcome) : Type 0 where
  pub oper : o.oper ≤ max
  pub peer : SoundPeer f o.peer
  pub adopts : o.adopts ≡ adopts_by s o.peer

-- rules 6 to 9 over both ends' enable and willing, and whether the parameters are compatible
pub judged_by_adopts : (e pe w pw c : Bool) (oper : ℕ) (p : Peer) → (judged_by (e && pe) (beq w pw) c w oper p).adopts ≡ (true && e && pe && w && not pw)
unfolding judged_by
judged_by_adopts false pe w pw c oper p = refl
judged_by_adopts true false w pw c oper p = refl
judged_by_adopts true true false true c oper p = refl
judged_by_adopts true true false false true oper p = refl
judged_by_adopts true true false false false oper p = refl
judged_by_adopts true true true false c oper p = refl
judged_by_adopts true true true true true oper p = refl
judged_by_adopts true true true true false oper p = refl
