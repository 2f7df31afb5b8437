-- Six rounds of messages settle two ends, and further rounds keep them settled. Assumes nothing.
use Prim.Native.Nat.{◌≤◌}
use native.Mathlib.Omega.{arith}
use mathlib.Core.Path.{◌≡◌, sym, ap, ◌∙◌, subst}
use mathlib.Core.Bool.{Bool}
use mathlib.Core.List.{List, [], ◌∷◌, ◌++◌}
use mathlib.Core.Option.{some}
use lib.ListN.{length}
use Rattle.rounds.specs.Rounds.{End, left, right, other, Round, lossless, quiet, maybe, write_of, handle_of, calls, rounds}
use Rattle.exchange.proofs.Core.{Settings, message, started, recv}
use Rattle.exchange.proofs.Pairs.{Pair, given, step, run, begin, run_append, run_quiet}
use Rattle.exchange.proofs.Stages.{Fit, After6}
use Rattle.exchange.proofs.FirstRound.{first, first_either, start, round1}
use Rattle.exchange.proofs.LaterRounds.{round2, round3, round4, round5, round6, stays_settled}

module _ (s t : Settings) where
  abbrev pub round : Pair → Pair
  round c =
      record {
        l = recv s c.l (message t c.r);
        r = recv t c.r (message s c.l);
        from_l = some (message s c.l);
        from_r = some (message t c.r);
      }

  -- a round, whoever writes and handles first
  run_in_order : (r : Round) (w h : End) (c : Pair) →
      run s t
      (quiet r.calls_0 ++ write_of lossless r w ++ quiet r.calls_1 ++ write_of lossless r (other w) ++ quiet r.calls_2 ++ handle_of lossless h
      ++ quiet r.calls_3 ++ handle_of lossless (other h) ++ quiet r.calls_4)
      c
      ≡ round c
  unfolding write_of handle_of maybe other run step given
  run_in_order r left left c = simp (run_append, run_quiet)
  run_in_order r left right c = simp (run_append, run_quiet)
  run_in_order r right left c = simp (run_append, run_quiet)
  run_in_order r right right c = simp (run_append, run_quiet)

  pub run_round : (r : Round) (c : Pair) → run s t (calls lossless r) c ≡ round c
  unfolding calls
  run_round r c = run_in_order r r.writer r.handler c

  run_rounds : (r : Round) (rs : List Round) (c : Pair) → run s t (rounds (r ∷ rs)) c ≡ run s t (rounds rs) (round c)
  unfolding rounds
  run_rounds r rs c = run_append s t (calls lossless r) (rounds rs) c ∙ ap (run s t (rounds rs)) (run_round r c)

  six : (r1 r2 r3 r4 r5 r6 : Round) (rs : List Round) (c : Pair) →
      run s t (rounds (r1 ∷ r2 ∷ r3 ∷ r4 ∷ r5 ∷ r6 ∷ rs)) c ≡ run s t (rounds rs) (round (round (round (round (round (round c))))))
  six r1 r2 r3 r4 r5 r6 rs c =
      run_rounds r1 _ c ∙ run_rounds r2 _ (round c) ∙ run_rounds r3 _ (round (round c)) ∙ run_rounds r4 _ (round (round (round c)))
      ∙ run_rounds r5 _ (round (round (round (round c)))) ∙ run_rounds r6 _ (round (round (round (round (round c)))))

  abbrev took : Bool
  took = first s t

  abbrev taken : Bool
  taken = first t s

  abbrev pub Settled : Pair → Type 0
  Settled c = After6 s t c.l c.r.ack × After6 t s c.r c.l.ack

  module _ (fit-s : Fit s) (fit-t : Fit t) where
    settled : (rs : List Round) (c : Pair) → Settled c → Settled (run s t (rounds rs) c)
    unfolding run rounds
    settled [] c h = h
    settled (r ∷ rs) c h =
        let k : Settled (round c) = (stays_settled s t fit-t c.l c.r h.0 h.1, stays_settled t s fit-s c.r c.l h.1 h.0) in
        subst Settled (sym (run_rounds r rs c)) (settled rs (round c) k)

    from_start : Settled (round (round (round (round (round (round (begin s t)))))))
    unfolding begin started
    from_start =
        let c0 : Pair = begin s t in
        let a1 = round1 s t c0.l c0.r (start s t) (start t s) in
        let b1 = round1 t s c0.r c0.l (start t s) (start s t) in
        let c1 : Pair = round c0 in
        let a2 = round2 s t fit-t c1.l c1.r took taken a1 b1 in
        let b2 = round2 t s fit-s c1.r c1.l taken took b1 a1 in
        let c2 : Pair = round c1 in
        let a3 = round3 s t fit-t c2.l c2.r took taken a2 b2 (first_either s t) in
        let b3 = round3 t s fit-s c2.r c2.l taken took b2 a2 (first_either t s) in
        let c3 : Pair = round c2 in
        let a4 = round4 s t fit-t c3.l c3.r took taken a3 b3 in
        let b4 = round4 t s fit-s c3.r c3.l taken took b3 a3 in
        let c4 : Pair = round c3 in
        let a5 = round5 s t fit-t c4.l c4.r a4 b4 in
        let b5 = round5 t s fit-s c4.r c4.l b4 a4 in
        let c5 : Pair = round c4 in
        (round6 s t fit-t c5.l c5.r a5 b5, round6 t s fit-s c5.r c5.l b5 a5)

    pub after_six : (rs : List Round) → 6 ≤ length rs → Settled (run s t (rounds rs) (begin s t))
    after_six [] h = let z : ⊥ = omega arith in absurd z
    after_six (r1 ∷ []) h = let z : ⊥ = omega arith in absurd z
    after_six (r1 ∷ r2 ∷ []) h = let z : ⊥ = omega arith in absurd z
    after_six (r1 ∷ r2 ∷ r3 ∷ []) h = let z : ⊥ = omega arith in absurd z
    after_six (r1 ∷ r2 ∷ r3 ∷ r4 ∷ []) h = let z : ⊥ = omega arith in absurd z
    after_six (r1 ∷ r2 ∷ r3 ∷ r4 ∷ r5 ∷ []) h = let z : ⊥ = omega arith in absurd z
    after_six (r1 ∷ r2 ∷ r3 ∷ r4 ∷ r5 ∷ r6 ∷ rs) h = subst Settled (sym (six r1 r2 r3 r4 r5 r6 rs (begin s t))) (settled rs _ from_start)
