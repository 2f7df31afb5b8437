-- Demand 3 of a port of one recorder and a port of another: the two ports after any list of what happens are what the calls of the
-- exchange alone leave of them. Assumes nothing.
use Prim.Native.Nat.{ℕ}
use mathlib.Core.Path.{◌≡◌, refl, sym, ap, ◌∙◌, subst}
use mathlib.Core.Bool.{Bool, true, false, not, ◌||◌, false≢true}
use mathlib.Core.List.{List, [], ◌∷◌, map}
use mathlib.Core.Option.{Option, none, some}
use lib.ListN.{length}
use borrow.Author.Tests.{eqb-true, eqb-false}
use Rattle.octets.specs.Words.{◌is◌}
use Rattle.notices.specs.Notices.{PortNumber}
use Rattle.notices.proofs.PortLaws.{port_is}
use Rattle.handling.specs.Handling as handling
use Rattle.recorder.specs.declared.Recorder.{Recorder}
use Rattle.recorder.specs.Recorder.{port_at, happens, changed, written, output}
use Rattle.calls.specs.Calls as recorder
use Rattle.calls.specs.Calls.{event_of, after_at, after, reply_of}
use Rattle.calls.specs.Rows.{is_frame}
use Rattle.calls.specs.Independent.{is_event}
use Rattle.calls.proofs.Independent.{four_after, idle, own_after, other_after}
use Rattle.calls.proofs.Demand1.{refused_leaves}
use Rattle.rounds.specs.Rounds.{End, left, right, Ends, Call, refused, write, frame, writes, handles, Round, rounds, lossy_rounds}
use Rattle.rounds.specs.Rounds as ports
use Rattle.exchange.specs.Demand3.{Begun, BothAgreed, BothTruthful, SettledAgreed}
use Rattle.exchange.specs.Recorders.{Cable, number_at, Recorders, recorder_at, ends, Happening, exchange, beside, called, operated, on_its_way, wrote, delivered, exec, exec_all, spares, Proper, exchanged, Joins, JoinedDemand3}
use Rattle.exchange.proofs.Demand3.{demand3}
use Rattle.exchange.proofs.NotEmpty.{not_empty}

-- ---- a port of one recorder

module _ (r : Recorder) (n : ℕ) (p : PortNumber n) where
  frame_given : length r.ports ≡ 4 → (o : List ℕ) → port_at (after_at r n (recorder.frame o)) n ≡ (handling.handled (port_at r n) o).port
  unfolding event_of changed happens
  frame_given four o = own_after r four n (recorder.frame o) ∙ rw (port_is n p) refl

  way_same : (out : List ℕ) (before : Option (List ℕ)) → on_its_way n r out before ≡ ports.on_its_way (port_at r n) out before
  unfolding written output
  way_same out before = rw (port_is n p) refl

  spared : length r.ports ≡ 4 → (x : recorder.Call) → spares n r x ≡ true → port_at (after r x) n ≡ port_at r n
  spared four x = by (x.port is n) (is_event x.operation) (is_frame x.operation) ((reply_of r x).number is 0) refl refl refl refl
    where
      by : (a b d k : Bool) → (x.port is n) ≡ a → is_event x.operation ≡ b → is_frame x.operation ≡ d → ((reply_of r x).number is 0) ≡ k
          → (not a || not b || not (d || k)) ≡ true → port_at (after r x) n ≡ port_at r n
      by false b d k e f g h t = other_after r x.port n p (eqb-false x.port n e) x.operation
      by true false d k e f g h t = rw (eqb-true x.port n e) (own_after r four n x.operation ∙ idle n (port_at r n) x.operation f)
      by true true false false e f g h t = ap (λ (q : Recorder). port_at q n) (refused_leaves r x g h)
      by true true false true e f g h t = absurd (false≢true t)
      by true true true k e f g h t = absurd (false≢true t)

-- ---- both recorders

module _ (k : Cable) where
  pub called_joins : (e : End) (x : recorder.Call) (c : Recorders) → Joins k c.l c.r → Joins k (called e x c).l (called e x c).r
  unfolding called
  called_joins left x c h = record { left = h.left; right = h.right; four_l = four_after c.l x.port x.operation ∙ h.four_l; four_r = h.four_r }
  called_joins right x c h = record { left = h.left; right = h.right; four_l = h.four_l; four_r = four_after c.r x.port x.operation ∙ h.four_r }

  wrote_joins : (e : End) (out : List ℕ) (c : Recorders) → Joins k c.l c.r → Joins k (wrote k e out c).l (wrote k e out c).r
  unfolding wrote
  wrote_joins left out c h = h
  wrote_joins right out c h = h

  delivered_joins : (e : End) (o : Option (List ℕ)) (c : Recorders) → Joins k c.l c.r → Joins k (delivered k e o c).l (delivered k e o c).r
  unfolding delivered
  delivered_joins e none c h = h
  delivered_joins e (some o) c h = called_joins e _ c h

  pub joins : (x : Happening) (c : Recorders) → Joins k c.l c.r → Joins k (exec k x c).l (exec k x c).r
  unfolding exec
  joins (exchange (refused (write e out))) c h = wrote_joins e out c h
  joins (exchange (refused (frame e o))) c h = called_joins e _ c h
  joins (exchange (writes e out)) c h = wrote_joins e out c h
  joins (exchange (handles left)) c h = delivered_joins left c.from_r c h
  joins (exchange (handles right)) c h = delivered_joins right c.from_l c h
  joins (beside e x) c h = called_joins e x c h

  module _ (c : Recorders) (h : Joins k c.l c.r) where
    given_left : (o : List ℕ) → ends k (operated k left (recorder.frame o) c) ≡ ports.exec (refused (frame left o)) (ends k c)
    unfolding called ports.exec
    given_left o = rw (frame_given c.l k.left h.left h.four_l o) refl

    given_right : (o : List ℕ) → ends k (operated k right (recorder.frame o) c) ≡ ports.exec (refused (frame right o)) (ends k c)
    unfolding called ports.exec
    given_right o = rw (frame_given c.r k.right h.right h.four_r o) refl

    wrote_ends : (e : End) (out : List ℕ) → ends k (wrote k e out c) ≡ ports.exec (writes e out) (ends k c)
    unfolding wrote ports.exec
    wrote_ends left out = rw (way_same c.l k.left h.left out c.from_l) refl
    wrote_ends right out = rw (way_same c.r k.right h.right out c.from_r) refl

    delivered_left : (o : Option (List ℕ)) →
        ends k (delivered k left o c) ≡ record { l = (ports.delivered (ends k c).l o).port; r = (ends k c).r; from_l = c.from_l; from_r = c.from_r }
    unfolding delivered ports.delivered ports.exec
    delivered_left none = refl
    delivered_left (some o) = given_left o

    delivered_right : (o : Option (List ℕ)) →
        ends k (delivered k right o c) ≡ record { l = (ends k c).l; r = (ports.delivered (ends k c).r o).port; from_l = c.from_l; from_r = c.from_r }
    unfolding delivered ports.delivered ports.exec
    delivered_right none = refl
    delivered_right (some o) = given_right o

    -- a call of the exchange is what it is between two ports alone
    pub call_ends : (x : Call) → ends k (exec k (exchange x) c) ≡ ports.exec x (ends k c)
    unfolding exec ports.exec
    call_ends (refused (write left out)) = wrote_ends left out
    call_ends (refused (write right out)) = wrote_ends right out
    call_ends (refused (frame left o)) = given_left o
    call_ends (refused (frame right o)) = given_right o
    call_ends (writes left out) = wrote_ends left out
    call_ends (writes right out) = wrote_ends right out
    call_ends (handles left) = delivered_left c.from_r
    call_ends (handles right) = delivered_right c.from_l

    -- what happens beside it leaves both ports
    pub beside_ends : (e : End) (x : recorder.Call) → spares (number_at k e) (recorder_at c e) x ≡ true → ends k (exec k (beside e x) c) ≡ ends k c
    unfolding exec called
    beside_ends left x s = rw (spared c.l k.left h.left h.four_l x s) refl
    beside_ends right x s = rw (spared c.r k.right h.right h.four_r x s) refl

  -- ---- any list: the two ports follow the calls of the exchange alone

  pub record Follows (xs : List Happening) (c : Recorders) : Type 0 where
    pub now : ends k (exec_all k xs c) ≡ ports.exec_all (exchanged xs) (ends k c)
    pub proper : ports.Proper (exchanged xs) (ends k c)

  pub follows : (xs : List Happening) (c : Recorders) → Joins k c.l c.r → Proper k xs c → Follows xs c
  unfolding exec_all exchanged ports.exec_all
  follows [] c h p = record { now = refl; proper = tt }
  follows (exchange x ∷ xs) c h p =
      let later = follows xs (exec k (exchange x) c) (joins (exchange x) c h) p.1 in
      let e = call_ends c h x in
      record { now = later.now ∙ ap (ports.exec_all (exchanged xs)) e; proper = (p.0, subst (ports.Proper (exchanged xs)) e later.proper) }
  follows (beside e x ∷ xs) c h p =
      let later = follows xs (exec k (beside e x) c) (joins (beside e x) c h) p.1 in
      let s = beside_ends c h e x p.0 in
      record { now = later.now ∙ ap (ports.exec_all (exchanged xs)) s; proper = subst (ports.Proper (exchanged xs)) s later.proper }

  -- a list of calls of the exchange is one of what happens
  alone : (xs : List Call) (c : Recorders) → Joins k c.l c.r → ports.Proper xs (ends k c) → Proper k (map exchange xs) c × (exchanged (map exchange xs) ≡ xs)
  unfolding exchanged
  alone [] c h p = (tt, refl)
  alone (x ∷ xs) c h p =
      let later = alone xs (exec k (exchange x) c) (joins (exchange x) c h) (subst (ports.Proper xs) (sym (call_ends c h x)) p.1) in
      ((p.0, later.0), ap (◌∷◌ x) later.1)

-- ---- demand 3

module _ (k : Cable) (c : Recorders) (j : Joins k c.l c.r) (h : Begun (ends k c)) where
  -- what holds of the two ports after some calls of the exchange holds after any list that has them
  lifted : (P : Ends → Type 0) (xs : List Happening) → Proper k xs c → (ys : List Call) → exchanged xs ≡ ys
      → (ports.Proper ys (ends k c) → P (ports.exec_all ys (ends k c))) → P (ends k (exec_all k xs c))
  lifted P xs p ys e claim =
      let f = follows k xs c j p in
      subst P (sym (f.now ∙ ap (λ (zs : List Call). ports.exec_all zs (ends k c)) e)) (claim (subst (λ (zs : List Call). ports.Proper zs (ends k c)) e f.proper))

  pub joined_demand3 : JoinedDemand3 k c
  joined_demand3 =
      let d = demand3 (ends k c) h in
      record {
        settles = λ xs p rs e n. lifted (BothAgreed (ends k c)) xs p (rounds rs) e (λ q. d.settles rs q n);
        truthful = λ xs p rs e. lifted (BothTruthful (ends k c)) xs p (lossy_rounds rs) e (d.truthful rs);
        agrees = λ xs p rs e. lifted (SettledAgreed (ends k c)) xs p (lossy_rounds rs) e (d.agrees rs);
      }

  -- and there are such lists
  pub joined_not_empty : (n : ℕ) → (rs : List Round) × (length rs ≡ n) × (xs : List Happening) × (exchanged xs ≡ rounds rs) × Proper k xs c
  joined_not_empty n =
      let some-rounds = not_empty (ends k c) h n in
      let xs = alone k (rounds some-rounds.0) c j some-rounds.2 in
      (some-rounds.0, some-rounds.1, map exchange (rounds some-rounds.0), xs.1, xs.0)
