-- Lines as they end in a read: what a loop over them promises, and a law for each way out of it. Reads, wherever the input is cut, come to
-- the lines of the whole. Assumes nothing.
use Prim.Native.Nat.{ℕ, suc, ◌+◌, ◌-◌, ◌≤◌, ◌<◌}
use native.Mathlib.Omega.{arith}
use Rattle.std.specs.Prelude.{◌≡◌, Bool, if◌then◌else◌}
use Rattle.std.proofs.Math.Path.{refl, sym, ap}
use Rattle.std.proofs.Common.{◌∙◌}
use Rattle.std.proofs.Math.Bool.{true, false}
use mathlib.Core.List.{List, [], ◌∷◌, ◌++◌, append_assoc, append-nil}
use Rattle.std.proofs.Math.ListN.{length, take, drop, drop_of_length-le, length-drop}
use Rattle.std.proofs.Math.Seq.{drop-drop, take_all}
use borrow.Author.Tests.{lt-ltb, le-ltb, eq-eqb, ne_eqb, eqb-true}
use Rattle.octets.specs.Words.{◌below◌, ◌is◌}
use Rattle.words.specs.Text.{held, pending}
use Rattle.capture.specs.Capture.{last_line, lines_from}
use Rattle.capture.specs.Steps.{before, Before, clipped, held_of, Front}
use Rattle.capture.specs.declared.Feed.{Feed}
use Rattle.capture.specs.Feeding.{in_turn, joined, Fed, fed_from, held_fed, ended, fed}
use Rattle.words.specs.TextLaws.{pending_held}
use Rattle.capture.specs.HoldLaws.{clipped_twice}

module _ {A : Type 0} (step : A → List ℕ → A) where
  -- ---- lines that end in a read

  -- the first line that ends in s, of whatever front, is w as a whole
  unfoldable pub fed_behind : A → List ℕ → List ℕ → Fed A
  fed_behind t w s = if before s below length s then fed_from step (step t w) [] (drop (before s + 1) s) else record { value = t; rest = s }

  -- a loop over the lines that end in s comes to a value, at a place behind the last line feed
  pub record Passes (t : A) (front s : List ℕ) (x : A) (i : ℕ) : Type 0 where
    pub within : i ≤ length s
    pub same : fed_behind t front s ≡ record { value = x; rest = drop i s }

  -- one octet more, which is a line feed or not
  fed_step : (t : A) (w : List ℕ) (c : ℕ) (s : List ℕ) (b : Bool) → (c is 10) ≡ b
      → (before s < length s → fed_from step t (w ++ (c ∷ [])) s ≡ fed_from step (step t (w ++ (c ∷ []) ++ take (before s) s)) [] (drop (before s + 1) s))
      → (if b then 0 else suc (before s)) < suc (length s)
      → (if b then fed_from step (step t w) [] s else fed_from step t (w ++ (c ∷ [])) s)
      ≡ fed_from step (step t (w ++ take (if b then 0 else suc (before s)) (c ∷ s))) [] (drop ((if b then 0 else suc (before s)) + 1) (c ∷ s))
  fed_step t w c s true q f h = rw (append-nil w) refl
  fed_step t w c s false q f h =
      let e : suc (before s) + 1 ≡ suc (before s + 1) = omega arith in
      f (omega arith) ∙ rw (e, append_assoc w (c ∷ []) (take (before s) s)) refl

  -- up to the first line feed
  pub fed_to : (t : A) (w s : List ℕ) → before s < length s → fed_from step t w s ≡ fed_from step (step t (w ++ take (before s) s)) [] (drop (before s + 1) s)
  unfolding fed_from before
  fed_to t w [] h = absurd (omega arith)
  fed_to t w (c ∷ s) h = fed_step t w c s (c is 10) refl (fed_to t (w ++ (c ∷ [])) s) h

  -- without a line feed
  none_step : (t : A) (w : List ℕ) (c : ℕ) (s : List ℕ) (b : Bool)
      → (length s ≤ before s → fed_from step t (w ++ (c ∷ [])) s ≡ record { value = t; rest = w ++ (c ∷ []) ++ s })
      → suc (length s) ≤ (if b then 0 else suc (before s))
      → (if b then fed_from step (step t w) [] s else fed_from step t (w ++ (c ∷ [])) s) ≡ record { value = t; rest = w ++ c ∷ s }
  none_step t w c s true f h = absurd (omega arith)
  none_step t w c s false f h = f (omega arith) ∙ rw (append_assoc w (c ∷ []) s) refl

  pub fed_none : (t : A) (w s : List ℕ) → length s ≤ before s → fed_from step t w s ≡ record { value = t; rest = w ++ s }
  unfolding fed_from before
  fed_none t w [] h = rw (append-nil w) refl
  fed_none t w (c ∷ s) h = none_step t w c s (c is 10) (fed_none t (w ++ (c ∷ [])) s) h

  -- ---- lines passed: at the place reached, what is left gives the same as the whole

  unfoldable pub going : ℕ → A → List ℕ → List ℕ → Fed A
  going i t front s = if i is 0 then fed_behind t front s else fed_from step t [] (drop i s)

  pub record Passing (start : A) (front s : List ℕ) (t : A) (i : ℕ) : Type 0 where
    pub within : i ≤ length s
    pub same : going i t front s ≡ fed_behind start front s

  pub passing_start : (t : A) (front s : List ℕ) → Passing t front s t 0
  unfolding going
  passing_start t front s = record { within = omega arith; same = refl }

  -- the line that ends next
  abbrev line_at : ℕ → List ℕ → List ℕ → ℕ → List ℕ
  line_at i front rest n = if i is 0 then front else take n rest

  going_on : (i n : ℕ) (t : A) (front s : List ℕ) → i ≤ length s → Before (drop i s) n → n < length (drop i s)
      → going i t front s ≡ fed_from step (step t (line_at i front (drop i s) n)) [] (drop (i + n + 1) s)
  unfolding going fed_behind
  going_on i n t front s w p h = here (i is 0) refl
    where
      here : (b : Bool) → (i is 0) ≡ b
          → (if b then (if before s below length s then fed_from step (step t front) [] (drop (before s + 1) s) else record { value = t; rest = s }) else fed_from step t [] (drop i s))
          ≡ fed_from step (step t (if b then front else take n (drop i s))) [] (drop (i + n + 1) s)
      here true q =
          let z : i ≡ 0 = eqb-true i 0 q in
          let e : n ≡ before s = p.place ∙ rw z refl in
          let l : before s < length s = omega (arith, length-drop i s) in
          let m : i + n + 1 ≡ before s + 1 = omega arith in
          rw (lt-ltb (before s) (length s) l, m) refl
      here false q =
          let l : before (drop i s) < length (drop i s) = omega (arith, p.place) in
          let m : i + (n + 1) ≡ i + n + 1 = omega arith in
          fed_to t [] (drop i s) l ∙ rw (← p.place, drop-drop, m) refl

  going_none : (i n : ℕ) (t : A) (front s : List ℕ) → Before (drop i s) n → length (drop i s) ≤ n → going i t front s ≡ record { value = t; rest = drop i s }
  unfolding going fed_behind
  going_none i n t front s p h = here (i is 0) refl
    where
      here : (b : Bool) → (i is 0) ≡ b
          → (if b then (if before s below length s then fed_from step (step t front) [] (drop (before s + 1) s) else record { value = t; rest = s }) else fed_from step t [] (drop i s))
          ≡ record { value = t; rest = drop i s }
      here true q =
          let z : i ≡ 0 = eqb-true i 0 q in
          let e : n ≡ before s = p.place ∙ rw z refl in
          let l : length s ≤ before s = omega (arith, length-drop i s) in
          rw (le-ltb (before s) (length s) l, z) refl
      here false q = fed_none t [] (drop i s) (omega (arith, p.place))

  module _ {start : A} {front s : List ℕ} {t : A} {i : ℕ} where
    -- no more line feed
    pub passing_none : {rest : List ℕ} {n : ℕ} → Passing start front s t i → rest ≡ drop i s → Before rest n → length rest ≤ n → Passes start front s t i
    passing_none {rest} {n} r e p h = record { within = r.within; same = sym r.same ∙ going_none i n t front s (rw e at p) (rw e at h) }

    -- the end
    pub passing_end : Passing start front s t i → length s ≤ i → Passes start front s t i
    unfolding before
    passing_end r h =
        let d : drop i s ≡ [] = drop_of_length-le s h in
        let p : Before (drop i s) 0 = record { place = rw d refl; within = omega arith } in
        record { within = r.within; same = sym r.same ∙ going_none i 0 t front s p (rw d (omega arith)) }

    -- a line
    pub passing_on : {rest piece line : List ℕ} {n : ℕ} {u : A} → Passing start front s t i → rest ≡ drop i s → Before rest n → n < length rest
        → piece ≡ take n rest → line ≡ (if i is 0 then front else piece) → u ≡ step t line → Passing start front s u (i + n + 1)
    unfolding going
    passing_on {n = n} {u = u} r e p h ep el et =
        let p' : Before (drop i s) n = rw e at p in
        let h' : n < length (drop i s) = rw e at h in
        let m : (i + n + 1) is 0 ≡ false = ne_eqb (i + n + 1) 0 (λ z. omega arith) in
        let l : u ≡ step t (line_at i front (drop i s) n) = et ∙ rw (el, ep, e) refl in
        record {
          within = omega (arith, r.within, length-drop i s);
          same = rw (m, l) (sym (going_on i n t front s r.within p' h') ∙ r.same);
        }

  -- ---- a read. Of a line that is too long only the front is held: it must do what the whole line does.

  module _ (long : (t : A) (w : List ℕ) → step t (clipped w) ≡ step t w) where
    module _ (t : A) (r s : List ℕ) {n : ℕ} {piece : List ℕ} {h : Front} (p : Before s n) (ep : piece ≡ take n s) (eh : h ≡ held_of (clipped (r ++ piece))) where
      pub feed_none : length s ≤ n → {R : Type 0} (make : A → Front → R) → make t h ≡ held_fed make (fed_from step t r s)
      unfolding held_fed
      feed_none l make =
          let e : piece ≡ s = ep ∙ take_all n s l in
          rw (fed_none t r s (omega (arith, p.place)), eh, e) refl

      pub feed_some : {front rest : List ℕ} {x : A} {i : ℕ} {o k : Front} → n < length s → front ≡ take h.n h.octets → Passes t front s x i
          → o ≡ held_of [] → rest ≡ drop i s → k ≡ held_of (clipped (pending o ++ rest)) → {R : Type 0} (make : A → Front → R) → make x k ≡ held_fed make (fed_from step t r s)
      unfolding held_fed fed_behind
      feed_some {front} {rest} {x} {i} {o} {k} l ef px eo er ek make =
          let z : before s < length s = omega (arith, p.place) in
          let e : piece ≡ take (before s) s = ep ∙ rw p.place refl in
          let f : front ≡ clipped (r ++ take (before s) s) = ef ∙ rw (eh, e) (pending_held 1101 (clipped (r ++ take (before s) s))) in
          let g : step t front ≡ step t (r ++ take (before s) s) = rw f (long t (r ++ take (before s) s)) in
          let q : fed_from step t r s ≡ record { value = x; rest = drop i s } =
          fed_to t r s z ∙ rw (← g) (rw (lt-ltb (before s) (length s) z) at px.same) in
          let j : pending o ≡ [] = rw eo (pending_held 1101 []) in
          rw (q, ek, j, er) refl

    -- ---- two reads, one behind the other, are one

    append_step : (b : Bool) (t : A) (w : List ℕ) (c : ℕ) (s u : List ℕ)
        → fed_from step (step t w) [] (s ++ u) ≡ fed_from step (fed_from step (step t w) [] s).value (fed_from step (step t w) [] s).rest u
        → fed_from step t (w ++ (c ∷ [])) (s ++ u) ≡ fed_from step (fed_from step t (w ++ (c ∷ [])) s).value (fed_from step t (w ++ (c ∷ [])) s).rest u
        → (if b then fed_from step (step t w) [] (s ++ u) else fed_from step t (w ++ (c ∷ [])) (s ++ u))
        ≡ fed_from step (if b then fed_from step (step t w) [] s else fed_from step t (w ++ (c ∷ [])) s).value (if b then fed_from step (step t w) [] s else fed_from step t (w ++ (c ∷ [])) s).rest u
    append_step true t w c s u f g = f
    append_step false t w c s u f g = g

    fed_append : (s u : List ℕ) (t : A) (w : List ℕ) → fed_from step t w (s ++ u) ≡ fed_from step (fed_from step t w s).value (fed_from step t w s).rest u
    unfolding fed_from
    fed_append [] u t w = refl
    fed_append (c ∷ s) u t w = append_step (c is 10) t w c s u (fed_append s u (step t w) []) (fed_append s u t (w ++ (c ∷ [])))

    module _ {R : Type 0} (make : A → Front → R) where
      -- ---- what is cut off of a long line makes no difference

      clip_step : (b : Bool) (t : A) (w : List ℕ) (c : ℕ) (s : List ℕ)
          → held_fed make (fed_from step t (clipped (clipped w ++ (c ∷ []))) s) ≡ held_fed make (fed_from step t (clipped w ++ (c ∷ [])) s)
          → held_fed make (fed_from step t (clipped (w ++ (c ∷ []))) s) ≡ held_fed make (fed_from step t (w ++ (c ∷ [])) s)
          → held_fed make (if b then fed_from step (step t (clipped w)) [] s else fed_from step t (clipped w ++ (c ∷ [])) s)
          ≡ held_fed make (if b then fed_from step (step t w) [] s else fed_from step t (w ++ (c ∷ [])) s)
      clip_step true t w c s f g = ap (λ (x : A). held_fed make (fed_from step x [] s)) (long t w)
      clip_step false t w c s f g = sym f ∙ ap (λ (x : List ℕ). held_fed make (fed_from step t x s)) (clipped_twice w (c ∷ [])) ∙ g

      fed_clipped : (s : List ℕ) (t : A) (w : List ℕ) → held_fed make (fed_from step t (clipped w) s) ≡ held_fed make (fed_from step t w s)
      unfolding fed_from held_fed
      fed_clipped [] t w =
          let e : clipped (clipped w) ≡ clipped w = ap clipped (sym (append-nil (clipped w))) ∙ clipped_twice w [] ∙ ap clipped (append-nil w) in
          rw e refl
      fed_clipped (c ∷ s) t w = clip_step (c is 10) t w c s (fed_clipped s t (clipped w ++ (c ∷ []))) (fed_clipped s t (w ++ (c ∷ [])))

      -- ---- all reads, where one gives what it is given with

      module _ (feed : R → List ℕ → R) (fed : (t : A) (h : Front) (s : List ℕ) → feed (make t h) s ≡ held_fed make (fed_from step t (pending h) s)) where
        fed_one : (s : List ℕ) (t : A) (w : List ℕ) → feed (held_fed make (record { value = t; rest = w })) s ≡ held_fed make (fed_from step t w s)
        unfolding held_fed
        fed_one s t w = fed t (held_of (clipped w)) s ∙ rw (pending_held 1101 (clipped w)) (fed_clipped s t w)

        pub fed_all : (ss : List (List ℕ)) (t : A) (w : List ℕ) → in_turn feed (held_fed make (record { value = t; rest = w })) ss ≡ held_fed make (fed_from step t w (joined ss))
        unfolding in_turn joined fed_from
        fed_all [] t w = refl
        fed_all (s ∷ ss) t w =
            let x : Fed A = fed_from step t w s in
            ap (λ (r : R). in_turn feed r ss) (fed_one s t w) ∙ fed_all ss x.value x.rest ∙ ap (held_fed make) (sym (fed_append s (joined ss) t w))

      -- ---- the end

      module _ (finish : R → A) (finished : (t : A) (h : Front) → finish (make t h) ≡ ended step t h) where
        held_count : (w : List ℕ) → (held_of w).n ≡ length w
        unfolding held
        held_count w = refl

        finish_one : (t : A) (w : List ℕ) → finish (held_fed make (record { value = t; rest = w })) ≡ in_turn step t (last_line w)
        unfolding held_fed last_line in_turn ended
        finish_one t [] = finished t (held_of []) ∙ rw (held_count []) refl
        finish_one t (c ∷ w) =
            let l : length (clipped (c ∷ w)) ≡ suc (length (take 1100 w)) = refl in
            let n : (length (clipped (c ∷ w)) is 0) ≡ false = ne_eqb (length (clipped (c ∷ w))) 0 (λ z. omega arith) in
            finished t (held_of (clipped (c ∷ w))) ∙ rw (pending_held 1101 (clipped (c ∷ w)), held_count (clipped (c ∷ w)), n) (long t (c ∷ w))

        lines_step : (b : Bool) (t : A) (w : List ℕ) (c : ℕ) (s : List ℕ)
            → finish (held_fed make (fed_from step (step t w) [] s)) ≡ in_turn step (step t w) (lines_from [] s)
            → finish (held_fed make (fed_from step t (w ++ (c ∷ [])) s)) ≡ in_turn step t (lines_from (w ++ (c ∷ [])) s)
            → finish (held_fed make (if b then fed_from step (step t w) [] s else fed_from step t (w ++ (c ∷ [])) s)) ≡ in_turn step t (if b then w ∷ lines_from [] s else lines_from (w ++ (c ∷ [])) s)
        unfolding in_turn
        lines_step true t w c s f g = f
        lines_step false t w c s f g = g

        pub finished_all : (s : List ℕ) (t : A) (w : List ℕ) → finish (held_fed make (fed_from step t w s)) ≡ in_turn step t (lines_from w s)
        unfolding fed_from lines_from
        finished_all [] t w = finish_one t w
        finished_all (c ∷ s) t w = lines_step (c is 10) t w c s (finished_all s (step t w) []) (finished_all s t (w ++ (c ∷ [])))

pub passing_less : (i n l : ℕ) → i < l → l - (i + n + 1) < l - i
passing_less i n l h = omega arith

-- ---- the end

module _ {A : Type 0} (step : A → List ℕ → A) (r : Feed A) where
  pub ended_none : r.held.n ≡ 0 → r.value ≡ ended step r.value r.held
  unfolding ended
  ended_none e = rw (eq-eqb r.held.n 0 e) refl

  pub ended_some : {x : Feed A} → (r.held.n ≡ 0 → ⊥) → x ≡ fed step r (10 ∷ []) → x.value ≡ ended step r.value r.held
  unfolding ended held_fed fed_from
  ended_some n e = rw (e, ne_eqb r.held.n 0 n) refl
