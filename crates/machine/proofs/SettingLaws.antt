-- A feature under another setting, a law for each way out: apart from the other laws, since an edit of `judged_again` or `reset` is to be refused here. Assumes nothing.
use Rattle.std.specs.Prelude.{None, Some, ◌≡◌, ℕ, true, false, not}
use Rattle.std.specs.Bool.{beq}
use borrow.Author.Tests.{not-true, not-false}
use Rattle.parameters.specs.declared.Feature.{Feature}
use Rattle.feature.specs.declared.Setting.{Setting}
use Rattle.feature.specs.declared.Peer.{Peer}
use Rattle.feature.specs.declared.Outcome.{Outcome}
use Rattle.feature.specs.declared.State.{State}
use Rattle.feature.specs.Outcome.{judged}
use Rattle.machine.specs.State.{next, fresh_at, judged_again, reset}

module _ (f : Feature) (s : Setting) (o : Outcome) where
  pub judged_again_withheld : not s.advertise ≡ true
      → record { reason = o.reason; oper = o.oper; error = o.error; mode = s.enable; peer = o.peer; adopts = false } ≡ judged_again f s o
  unfolding judged_again
  judged_again_withheld t = simp t

  module _ (t : not s.advertise ≡ false) where
    pub judged_again_held : {p : Peer} {r : Outcome} → o.peer ≡ Some p → r ≡ judged f s o.oper p → r ≡ judged_again f s o
    unfolding judged_again
    judged_again_held h e = simp (e, t, h)

    pub judged_again_alone : o.peer ≡ None
        → record { reason = o.reason; oper = o.oper; error = o.error; mode = o.mode; peer = o.peer; adopts = false } ≡ judged_again f s o
    unfolding judged_again
    judged_again_alone h = simp (t, h)

module _ (f : Feature) (seq : ℕ) (s : Setting) (x : State) where
  pub reset_anew : {n : ℕ} {r : State} → not (beq x.setting.advertise s.advertise) ≡ true → n ≡ next seq → r ≡ fresh_at n x.max s → r ≡ reset f seq s x
  unfolding reset
  reset_anew t e h = simp (h, e, not-true (beq x.setting.advertise s.advertise) t)

  pub reset_kept : {o : Outcome} → not (beq x.setting.advertise s.advertise) ≡ false → o ≡ judged_again f s x.outcome
      → record { max = x.max; setting = s; outcome = o; syncd = x.syncd; sequence = x.sequence } ≡ reset f seq s x
  unfolding reset
  reset_kept t e = simp (e, not-false (beq x.setting.advertise s.advertise) t)
