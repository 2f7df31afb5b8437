-- 02, E7, of a port of one recorder and a port of another: the two ports after anything that happens are what the happenings at them alone leave of
-- them. Assumes nothing.
use Prim.Native.Nat.{ℕ, ◌≤◌}
use mathlib.Core.Path.{◌≡◌, refl, sym, ap, ◌∙◌, subst}
use mathlib.Core.Bool.{true}
use mathlib.Core.List.{List, [], ◌∷◌, map}
use lib.ListN.{length}
use Rattle.parameters.specs.declared.Feature.{Feature}
use Rattle.feature.specs.declared.Switches.{Switches}
use Rattle.notices.specs.Notices.{PortNumber}
use Rattle.notices.proofs.PortLaws.{port_is}
use Rattle.port.specs.Parts.{feature_of}
use Rattle.changes.specs.Changes.{changed_setting}
use Rattle.recorder.specs.declared.Recorder.{Recorder}
use Rattle.recorder.specs.Recorder.{port_at, happens, changed}
use Rattle.calls.specs.Calls as recorder
use Rattle.calls.specs.Calls.{event_of, after_at}
use Rattle.calls.proofs.Independent.{own_after}
use Rattle.rounds.specs.Rounds.{End, left, right, Ends, Call, Round, rounds}
use Rattle.rounds.specs.Rounds as calls
use Rattle.exchange.specs.Demand3.{Begun}
use Rattle.exchange.specs.Recorders.{Cable, Recorders, ends, called, Joins}
use Rattle.exchange.specs.Recorders as recorders
use Rattle.exchange.proofs.Recorders.{called_joins, joins, call_ends, beside_ends}
use Rattle.ticks.specs.Ticks.{Happening, sets, call, port_of, happened, after, Ticked, present_tlv, Handled, Told}
use Rattle.ticks.specs.Ticks as runs
use Rattle.ticks.specs.Recorders.{Step, joined, beside, stepped, stepped_all, Proper, joined_of, JoinedTicks}
use Rattle.ticks.proofs.Ticks.{ticks}

setting_given : (r : Recorder) (n : ℕ) → PortNumber n → length r.ports ≡ 4 → (number : ℕ) (w : Switches) (o : List ℕ)
    → port_at (after_at r n (recorder.setting number w o)) n ≡ (changed_setting number w o (port_at r n)).port
unfolding event_of changed happens
setting_given r n p four number w o = own_after r four n (recorder.setting number w o) ∙ rw (port_is n p) refl

module _ (k : Cable) where
  stepped_joins : (x : Step) (c : Recorders) → Joins k c.l c.r → Joins k (stepped k x c).l (stepped k x c).r
  unfolding stepped
  stepped_joins (joined (sets e number w o)) c h = called_joins k e _ c h
  stepped_joins (joined (call x)) c h = joins k (recorders.exchange x) c h
  stepped_joins (beside e x) c h = joins k (recorders.beside e x) c h

  module _ (c : Recorders) (h : Joins k c.l c.r) where
    joined_ends : (x : Happening) → ends k (stepped k (joined x) c) ≡ happened x (ends k c)
    unfolding stepped happened called
    joined_ends (sets left number w o) = rw (setting_given c.l k.left h.left h.four_l number w o) refl
    joined_ends (sets right number w o) = rw (setting_given c.r k.right h.right h.four_r number w o) refl
    joined_ends (call x) = call_ends k c h x

    spared_ends : (e : End) (x : recorder.Call) → recorders.spares (recorders.number_at k e) (recorders.recorder_at c e) x ≡ true → ends k (stepped k (beside e x) c) ≡ ends k c
    unfolding stepped
    spared_ends e x t = beside_ends k c h e x t

  record Follows (xs : List Step) (c : Recorders) : Type 0 where
    pub now : ends k (stepped_all k xs c) ≡ after (joined_of xs) (ends k c)
    pub proper : runs.Proper (joined_of xs) (ends k c)

  follows : (xs : List Step) (c : Recorders) → Joins k c.l c.r → Proper k xs c → Follows xs c
  unfolding stepped_all joined_of after
  follows [] c h p = record { now = refl; proper = tt }
  follows (joined (sets e number w o) ∷ xs) c h p =
      let x : Happening = sets e number w o in
      let later = follows xs (stepped k (joined x) c) (stepped_joins (joined x) c h) p in
      let s = joined_ends c h x in
      record { now = later.now ∙ ap (after (joined_of xs)) s; proper = subst (runs.Proper (joined_of xs)) s later.proper }
  follows (joined (call x) ∷ xs) c h p =
      let later = follows xs (stepped k (joined (call x)) c) (stepped_joins (joined (call x)) c h) p.1 in
      let s = joined_ends c h (call x) in
      record { now = later.now ∙ ap (after (joined_of xs)) s; proper = (p.0, subst (runs.Proper (joined_of xs)) s later.proper) }
  follows (beside e x ∷ xs) c h p =
      let later = follows xs (stepped k (beside e x) c) (stepped_joins (beside e x) c h) p.1 in
      let s = spared_ends c h e x p.0 in
      record { now = later.now ∙ ap (after (joined_of xs)) s; proper = subst (runs.Proper (joined_of xs)) s later.proper }

-- ---- rounds

-- the calls of a run in which no setting is changed answer as their names say
calls_were : (xs : List Call) (c : Ends) → runs.Proper (map call xs) c → calls.Proper xs c
unfolding happened
calls_were [] c p = tt
calls_were (x ∷ xs) c p = (p.0, calls_were xs (calls.exec x c) p.1)

all_joined : (xs : List Happening) → joined_of (map joined xs) ≡ xs
unfolding joined_of
all_joined [] = refl
all_joined (x ∷ xs) = ap (◌∷◌ x) (all_joined xs)

-- and they are a run at two recorders, with nothing beside it
calls_alone : (k : Cable) (xs : List Call) (c : Recorders) → Joins k c.l c.r → calls.Proper xs (ends k c) → Proper k (map joined (map call xs)) c
unfolding happened
calls_alone k [] c h p = tt
calls_alone k (x ∷ xs) c h p =
    (p.0, calls_alone k xs (stepped k (joined (call x)) c) (stepped_joins k (joined (call x)) c h) (subst (calls.Proper xs) (sym (joined_ends k c h (call x))) p.1))

module _ (k : Cable) (c : Recorders) (j : Joins k c.l c.r) (b : Begun (ends k c)) where
  -- what a tick says of a run of the two ports it says of any list that has it
  lifted : (P : List Happening → Ends → Type 0) (e : End) (f : Feature)
      → ((xs : List Happening) → runs.Proper xs (ends k c) → Ticked (port_of e (after xs (ends k c))) f → P xs (after xs (ends k c)))
      → (xs : List Step) → Proper k xs c → Ticked (port_of e (ends k (stepped_all k xs c))) f → P (joined_of xs) (ends k (stepped_all k xs c))
  lifted P e f claim xs p t =
      let h = follows k xs c j p in
      subst (P (joined_of xs)) (sym h.now) (claim (joined_of xs) h.proper (subst (λ (d : Ends). Ticked (port_of e d) f) h.now t))

  occur : (xs : List Step) → Proper k xs c → (rs : List Round) → joined_of xs ≡ map call (rounds rs) → 6 ≤ length rs
      → (e : End) (f : Feature) → (feature_of (port_of e (ends k c)) f).setting.advertise ≡ true → Ticked (port_of e (ends k (stepped_all k xs c))) f
  occur xs p rs is n e f a =
      let h = follows k xs c j p in
      let q : runs.Proper (map call (rounds rs)) (ends k c) = subst (λ (ys : List Happening). runs.Proper ys (ends k c)) is h.proper in
      subst (λ (d : Ends). Ticked (port_of e d) f) (sym (h.now ∙ ap (λ (ys : List Happening). after ys (ends k c)) is))
      ((ticks (ends k c) b).occur rs (calls_were (rounds rs) (ends k c) q) n e f a)

  pub joined_ticks : JoinedTicks k c
  joined_ticks =
      let t = ticks (ends k c) b in
      record {
        ports = λ xs p. (follows k xs c j p).now;
        told = λ xs p e f. lifted (λ ys d. Told ys (ends k c) e f) e f (λ ys q. t.told ys q e f) xs p;
        handled = λ xs p e f. lifted (λ ys d. Handled ys (ends k c) e f (present_tlv e f d)) e f (λ ys q. t.handled ys q e f) xs p;
        run = λ rs p. (calls_alone k (rounds rs) c j p, all_joined (map call (rounds rs)));
        occur = occur;
      }
