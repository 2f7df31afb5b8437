-- A feature that an end does not advertise stays as it was started, whichever calls were made. Assumes nothing.
use Prim.Native.Nat.{ℕ}
use mathlib.Core.Path.{◌≡◌, refl, ap, ◌∙◌}
use mathlib.Core.Bool.{Bool, true, false}
use mathlib.Core.List.{List}
use mathlib.Core.Option.{Option, none, some}
use Rattle.parameters.specs.declared.Feature.{Feature}
use Rattle.machine.specs.State.{fresh_at}
use Rattle.admission.specs.Admission.{Message}
use Rattle.rounds.specs.Rounds.{left, right, Call, refused, writes, handles}
use Rattle.exchange.specs.Expected.{Side}
use Rattle.exchange.proofs.Core.{Settings, advertised, Core, synced, handled, fresh_machine, started, gated, recv}
use Rattle.exchange.proofs.Pairs.{Pair, given, step, run, begin, run_keeps}

abbrev pub Idle : Settings → Core → Type 0
Idle s p = (f : Feature) → advertised s f ≡ false → p.feat f ≡ fresh_machine (s.of f)

pub synced_idle : (x : Side) (rcvd seq : ℕ) → x.setting.advertise ≡ false → synced rcvd seq (fresh_machine x) ≡ fresh_machine x
unfolding synced fresh_at
synced_idle x rcvd seq e = rw e

gated_idle : (b : Bool) (low : ℕ) (s : Settings) (p : Core) (m : Message) → Idle s p → Idle s (gated b low s p m)
unfolding gated handled
gated_idle false low s p m h f a = h f a
gated_idle true low s p m h f a =
    ap (λ b. handled b f (s.of f) m.ack p.seq (m.has f) (p.feat f)) a
    ∙ ap (synced m.ack p.seq) (h f a)
    ∙ synced_idle (s.of f) m.ack p.seq a

given_idle : (s : Settings) (p : Core) (m : Option Message) → Idle s p → Idle s (given s p m)
unfolding given recv
given_idle s p none h = h
given_idle s p (some m) h = gated_idle _ _ s p m h

module _ (s t : Settings) where
  abbrev Both : Pair → Type 0
  Both c = Idle s c.l × Idle t c.r

  step_idle : (x : Call) (c : Pair) → Both c → Both (step s t x c)
  unfolding step
  step_idle (refused x) c h = h
  step_idle (writes left out) c h = h
  step_idle (writes right out) c h = h
  step_idle (handles left) c h = (given_idle s c.l c.from_r h.0, h.1)
  step_idle (handles right) c h = (h.0, given_idle t c.r c.from_l h.1)

  pub run_idle : (xs : List Call) → Idle s (run s t xs (begin s t)).l × Idle t (run s t xs (begin s t)).r
  unfolding begin started
  run_idle xs = run_keeps s t Both step_idle xs (begin s t) (λ f a. refl, λ f a. refl)
