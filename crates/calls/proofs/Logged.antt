-- The log over any list of calls from the blank recorder on. Assumes nothing.
use Prim.Native.Nat.{ℕ, ◌+◌}
use native.Mathlib.Omega.{arith}
use mathlib.Core.Path.{◌≡◌, refl, sym, ap, ◌∙◌}
use mathlib.Core.Bool.{Bool, true, false, not, ◌&&◌, false≢true}
use mathlib.Core.List.{List, [], ◌∷◌, ◌++◌, map, append-nil}
use lib.ListN.{set}
use borrow.Author.Tests.{ne_eqb, eqb-true, eqb-false, not-true}
use Rattle.std.specs.Prelude.{if◌then◌else◌, None, Some}
use Rattle.octets.specs.Words.{◌is◌}
use Rattle.octets.specs.Laws.{and_left, and_right}
use Rattle.tlv.specs.Refusals.{Reply, refusal_number}
use Rattle.notices.specs.declared.Notice.{Notice}
use Rattle.notices.specs.declared.Log.{Log}
use Rattle.notices.specs.Notices.{PortNumber, is_port, empty_log, notices_in, of, count_of, without_oldest, logged_all}
use Rattle.notices.specs.LogModel.{Sound, Step, port_of, log_steps, model_steps, writes, takes_one, others, untaken, newest16}
use Rattle.notices.specs.LogModel as log
use Rattle.notices.proofs.LogLaws.{empty_sound, empty_holds, steps_hold, steps_sound, others_leave, log_append, writes_append, takings_append, log_writes, writes_in_lem, takings_none, shared_log}
use Rattle.port.specs.Types.{Raised}
use Rattle.port.specs.declared.Notices.{Notices}
use Rattle.events.specs.PortEvents.{listed, in_order}
use Rattle.recorder.specs.declared.Recorder.{Recorder}
use Rattle.logging.specs.declared.Taken.{Taken}
use Rattle.logging.specs.Logging.{taken}
use Rattle.recorder.specs.Recorder.{place_of, port_at, blank, stored}
use Rattle.calls.specs.Calls.{Operation, create, frame, gone, flag, setting, write, take, Call, event_of, raised_at, raised, after_at, after, after_all, took_reply, reply_at}
use Rattle.calls.specs.Independent.{takes, untaken_at}
use Rattle.calls.specs.Logged.{raised_all, takes_at, takings, steps_of, steps, elsewhere, Accounted, Logged}
use Rattle.calls.proofs.Refusals.{took_by, write_quiet, take-quiet}
use Rattle.calls.proofs.Independent.{nowhere}

-- ---- one call: the log's steps, what they write and what they take

record Does (before after : Log) (ps : List Step) (xs : List Notice) (Taken-of : ℕ → ℕ) : Type 0 where
  leads : after ≡ log_steps before ps
  writes : writes ps ≡ xs
  gives : (n : ℕ) → log.takings n (notices_in before) ps ≡ Taken-of n

-- an event writes what it raised
all_written : (l : Log) (xs : List Notice) → Does l (logged_all l xs) (map log.write xs ++ []) xs (λ n. 0)
all_written l xs =
    let e : map log.write xs ++ [] ≡ map log.write xs = append-nil (map log.write xs) in
    rw e (record { leads = sym (log_writes xs l); writes = writes_in_lem xs; gives = λ n. takings_none n xs (notices_in l) })

-- a taking, over its tests: a port, none held
module _ (m : ℕ) (l : Log) where
  abbrev takes_one_lem : Bool → List Step
  takes_one_lem t = if t then log.take m ∷ [] else []

  take_log : (t b : Bool) → (count_of m l is 0) ≡ b → (took_by m l t b).log ≡ log_steps l (takes_one_lem t)
  unfolding log_steps without_oldest
  take_log false b e = refl
  take_log true true e = rw e refl
  take_log true false e = rw e refl

  take-writes : (t : Bool) → writes (takes_one_lem t) ≡ []
  unfolding writes
  take-writes false = refl
  take-writes true = refl

  take_gives : (n : ℕ) (t b a : Bool) → (count_of m l is 0) ≡ b → (m is n) ≡ a
      → log.takings n (notices_in l) (takes_one_lem t) ≡ (if a && ((took_reply (took_by m l t b).answer).number is 0) then 1 else 0)
  unfolding log.takings takes_one refusal_number
  take_gives n false b true e h = refl
  take_gives n false b false e h = refl
  take_gives n true b false e h = rw h refl
  take_gives n true true true e h =
      let k : m ≡ n = eqb-true m n h in
      let z : count_of n l ≡ 0 = ap (λ (j : ℕ). count_of j l) (sym k) ∙ eqb-true (count_of m l) 0 e in
      rw h (omega (arith, z))
  take_gives n true false true e h =
      let k : m ≡ n = eqb-true m n h in
      let z : count_of n l ≡ 0 → ⊥ = λ y. eqb-false (count_of m l) 0 e (ap (λ (j : ℕ). count_of j l) k ∙ y) in
      rw h (omega (arith, z))

-- ---- what an event leaves of the log

module _ (r : Recorder) (n : ℕ) where
  none_raised : (x : Operation) → is_port n ≡ false → logged_all r.log (raised_at r n x) ≡ r.log
  unfolding in_order listed logged_all
  none_raised x e = rw (nowhere n (port_at r n) x e).1 refl

  pub stored_log : (x : Operation) → (stored r n (event_of n (port_at r n) x)).log ≡ logged_all r.log (raised_at r n x)
  unfolding stored
  stored_log x = by (is_port n) refl
    where
      by : (b : Bool) → is_port n ≡ b
          → (if b then
          record {
            ports = set r.ports (place_of n) (event_of n (port_at r n) x).port;
            log = logged_all r.log (raised_at r n x);
          }
          else r).log ≡ logged_all r.log (raised_at r n x)
      by true e = refl
      by false e = sym (none_raised x e)

  taken_is : taken n r.log ≡ took_by n r.log (is_port n) (count_of n r.log is 0)
  unfolding taken
  taken_is = refl

  took : reply_at r n take ≡ took_reply (took_by n r.log (is_port n) (count_of n r.log is 0)).answer
  unfolding reply_at taken
  took = refl

  does_take : Does r.log (taken n r.log).log ([] ++ takes_one_lem n r.log (is_port n)) [] (λ m. takes_at m r (record { port = n; operation = take }))
  does_take =
      record {
        leads = ap (λ (t : Taken). t.log) taken_is ∙ take_log n r.log (is_port n) (count_of n r.log is 0) refl;
        writes = take-writes n r.log (is_port n);
        gives = λ m. take_gives n r.log m (is_port n) (count_of n r.log is 0) (n is m) refl refl ∙ ap (λ (a : Reply). if (n is m) && (a.number is 0) then 1 else 0) (sym took);
      }

  written_all : (x : Operation) → Does r.log (stored r n (event_of n (port_at r n) x)).log (map log.write (raised_at r n x) ++ []) (raised_at r n x) (λ m. 0)
  written_all x = rw (stored_log x) (all_written r.log (raised_at r n x))

  does : (x : Operation) → Does r.log (after_at r n x).log (steps_of r (record { port = n; operation = x })) (raised_at r n x)
      (λ m. takes_at m r (record { port = n; operation = x }))
  unfolding after_at logged_all
  does (create v w o) = written_all (create v w o)
  does (frame o) = written_all (frame o)
  does gone = written_all gone
  does (flag x on) = written_all (flag x on)
  does (setting number w o) = written_all (setting number w o)
  does (write out) = rw (write_quiet r n out) (all_written r.log [])
  does take = rw (take-quiet r n) does_take

-- ---- any list of calls

all_do : (r : Recorder) (xs : List Call) → Sound r.log → Does r.log (after_all r xs).log (steps r xs) (raised_all r xs) (λ n. takings n r xs)
unfolding after_all steps raised_all takings log_steps writes log.takings
all_do r [] s = record { leads = refl; writes = refl; gives = λ n. refl }
all_do r (x ∷ xs) s =
    let ps : List Step = steps_of r x in
    let one = does r x.port x.operation in
    let sound : Sound (after r x).log = rw one.leads (steps_sound r.log s ps) in
    let more = all_do (after r x) xs sound in
    let held-is : model_steps (notices_in r.log) ps ≡ notices_in (after r x).log = sym (steps_hold r.log s ps) ∙ ap notices_in (sym one.leads) in
    record {
      leads = more.leads ∙ ap (λ (l : Log). log_steps l (steps (after r x) xs)) one.leads ∙ sym (log_append ps (steps (after r x) xs) r.log);
      writes = writes_append ps (steps (after r x) xs) ∙ (λ i. one.writes i ++ more.writes i);
      gives = λ n.
          let rest : log.takings n (model_steps (notices_in r.log) ps) (steps (after r x) xs) ≡ takings n (after r x) xs =
          ap (λ (h : List Notice). log.takings n h (steps (after r x) xs)) held-is ∙ more.gives n in
          takings_append n ps (steps (after r x) xs) (notices_in r.log) ∙ (λ i. one.gives n i + rest i);
    }

module _ (xs : List Call) where
  does_all : Does empty_log (after_all blank xs).log (steps blank xs) (raised_all blank xs) (λ n. takings n blank xs)
  unfolding blank
  does_all = all_do blank xs empty_sound

  runs : (after_all blank xs).log ≡ log_steps empty_log (steps blank xs)
  runs = does_all.leads

  pub log_sound : Sound (after_all blank xs).log
  log_sound = rw runs (steps_sound empty_log empty_sound (steps blank xs))

  accounted : (n : ℕ) → PortNumber n → Accounted xs n
  accounted n p =
      let a = shared_log.accounted (steps blank xs) n p in
      let w : writes (steps blank xs) ≡ raised_all blank xs = does_all.writes in
      let g : log.takings n [] (steps blank xs) ≡ takings n blank xs = rw empty_holds at (does_all.gives n) in
      record {
        adds = rw (runs, ← w, ← g) a.adds;
        holds = rw (runs, ← w, ← g) a.holds;
        counts = rw runs a.counts;
      }

-- ---- calls at other ports

others_append : (n : ℕ) (ps qs : List Step) → others n ps ≡ true → others n qs ≡ true → others n (ps ++ qs) ≡ true
unfolding others
others_append n [] qs e f = f
others_append n (p ∷ ps) qs e f =
    rw (and_left (not (port_of p is n)) (others n ps) e) (others_append n ps qs (and_right (not (port_of p is n)) (others n ps) e) f)

module _ (m n : ℕ) (d : m ≡ n → ⊥) where
  others_listed : (x : Raised) (feature : ℕ) (rest : List Notice) → others n (map log.write rest) ≡ true → others n (map log.write (listed m x feature rest)) ≡ true
  unfolding listed others
  others_listed None feature rest e = e
  others_listed (Some k) feature rest e = rw (ne_eqb m n d) e

  others_raised : (x : Notices) → others n (map log.write (in_order m x)) ≡ true
  unfolding in_order others
  others_raised x =
      others_listed x.port _ _ (others_listed x.groups _ _ (others_listed x.flow _ _ (others_listed x.applications _ [] refl)))

  others_taking : (b : Bool) → others n (if b then log.take m ∷ [] else []) ≡ true
  unfolding others
  others_taking true = rw (ne_eqb m n d) refl
  others_taking false = refl

others_steps : (n : ℕ) (xs : List Call) (r : Recorder) → elsewhere n xs ≡ true → others n (steps r xs) ≡ true
unfolding elsewhere steps others
others_steps n [] r e = refl
others_steps n (x ∷ xs) r e =
    let d : x.port ≡ n → ⊥ = eqb-false x.port n (not-true (x.port is n) (and_left (not (x.port is n)) (elsewhere n xs) e)) in
    others_append n (steps_of r x) (steps (after r x) xs)
    (others_append n (map log.write (raised r x)) _ (others_raised x.port n d _) (others_taking x.port n d (takes x.operation && is_port x.port)))
    (others_steps n xs (after r x) (and_right (not (x.port is n)) (elsewhere n xs) e))

pub after_append : (r : Recorder) (xs ys : List Call) → after_all r (xs ++ ys) ≡ after_all (after_all r xs) ys
unfolding after_all
after_append r [] ys = refl
after_append r (x ∷ xs) ys = after_append (after r x) xs ys

-- ---- no taking at a port

untaken_append : (n : ℕ) (ps qs : List Step) → untaken n ps ≡ true → untaken n qs ≡ true → untaken n (ps ++ qs) ≡ true
unfolding untaken
untaken_append n [] qs e f = f
untaken_append n (log.write x ∷ ps) qs e f = untaken_append n ps qs e f
untaken_append n (log.take m ∷ ps) qs e f =
    rw (and_left (not (m is n)) (untaken n ps) e) (untaken_append n ps qs (and_right (not (m is n)) (untaken n ps) e) f)

untaken_writes : (n : ℕ) (xs : List Notice) → untaken n (map log.write xs) ≡ true
unfolding untaken
untaken_writes n [] = refl
untaken_writes n (x ∷ xs) = untaken_writes n xs

untaken_one : (n : ℕ) (x : Call) → not ((x.port is n) && takes x.operation) ≡ true
    → untaken n (if takes x.operation && is_port x.port then log.take x.port ∷ [] else []) ≡ true
unfolding untaken
untaken_one n x = by (x.port is n) (takes x.operation) (is_port x.port) refl
  where
    by : (a t b : Bool) → (x.port is n) ≡ a → not (a && t) ≡ true → untaken n (if t && b then log.take x.port ∷ [] else []) ≡ true
    by a false b e u = refl
    by a true false e u = refl
    by false true true e u = rw e refl
    by true true true e u = absurd (false≢true u)

untaken_steps : (n : ℕ) (xs : List Call) (r : Recorder) → untaken_at n xs ≡ true → untaken n (steps r xs) ≡ true
unfolding untaken_at steps untaken
untaken_steps n [] r e = refl
untaken_steps n (x ∷ xs) r e =
    let here : Bool = not ((x.port is n) && takes x.operation) in
    untaken_append n (steps_of r x) (steps (after r x) xs)
    (untaken_append n (map log.write (raised r x)) _ (untaken_writes n (raised r x)) (untaken_one n x (and_left here (untaken_at n xs) e)))
    (untaken_steps n xs (after r x) (and_right here (untaken_at n xs) e))

pub logged : (xs : List Call) → Logged xs
logged xs =
    let r : Recorder = after_all blank xs in
    let s : Sound r.log = log_sound xs in
    let on : (ys : List Call) → (after_all blank (xs ++ ys)).log ≡ log_steps r.log (steps r ys) =
    λ ys. ap (λ (q : Recorder). q.log) (after_append blank xs ys) ∙ (all_do r ys s).leads in
    record {
      sound = s;
      follows = ap notices_in (runs xs) ∙ shared_log.follows (steps blank xs);
      accounted = accounted xs;
      undisturbed = λ ys n p few e. rw (on ys) (others_leave r.log s (steps r ys) n p few (others_steps n ys r e));
      newest = λ ys n p e.
          let w : writes (steps r ys) ≡ raised_all r ys = (all_do r ys s).writes in
          let l : Log = log_steps empty_log (steps blank xs) in
          let held : (m : Log) → m ≡ l → newest16 (of n (notices_in (log_steps m (steps r ys)))) ≡ newest16 (of n (notices_in m) ++ of n (writes (steps r ys))) =
          λ m em. rw em (shared_log.newest (steps blank xs) (steps r ys) n p (untaken_steps n ys r e)) in
          rw (on ys, ← w) (held r.log (runs xs));
    }
