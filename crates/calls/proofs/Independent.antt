-- A call at one port leaves the others, and what happens at a port is decided by that port alone. Assumes nothing.
use Prim.Native.Nat.{ℕ, ◌-◌, ◌<◌}
use native.Mathlib.Omega.{arith}
use mathlib.Core.Path.{◌≡◌, refl, sym, ap, ◌∙◌}
use mathlib.Core.Bool.{Bool, true, false, ◌&&◌, false≢true}
use mathlib.Core.List.{List, [], ◌∷◌}
use lib.ListN.{length, get_or, set, length-set, replicate, get_or-replicate}
use lib.Seq.{get_or-set_same, get_or-set_other}
use borrow.Author.Tests.{eqb-true, eqb-false}
use Rattle.std.specs.Prelude.{if◌then◌else◌}
use Rattle.octets.specs.Words.{◌is◌}
use Rattle.notices.specs.Notices.{is_port}
use Rattle.notices.specs.Notices as numbers
use Rattle.notices.proofs.PortLaws.{is_port_lem, port_is}
use Rattle.port.specs.declared.Port.{Port}
use Rattle.port.specs.declared.Event.{Event}
use Rattle.creation.specs.Creation.{blank_port}
use Rattle.events.specs.PortEvents.{silent}
use Rattle.recorder.specs.declared.Recorder.{Recorder}
use Rattle.logging.specs.Logging.{kept}
use Rattle.recorder.specs.Recorder.{place_of, port_at, blank, changed, created, stored}
use Rattle.calls.specs.Calls.{Operation, create, frame, gone, flag, setting, write, take, Call, event_of, after_at, after, after_all, lent_at, reply_at}
use Rattle.calls.specs.Independent.{is_event, takes, own, Independent}
use Rattle.calls.proofs.Refusals.{stored_same}

-- ---- places

pub place_of_lem : (n : ℕ) → numbers.PortNumber n → place_of n ≡ n - 1
unfolding place_of
place_of_lem n p = rw (port_is n p) refl

pub place_small : (n : ℕ) → place_of n < 4
unfolding place_of
place_small n = by (is_port n) refl
  where
    by : (b : Bool) → is_port n ≡ b → (if b then n - 1 else 0) < 4
    by true e = omega (arith, (is_port_lem n e).high)
    by false e = omega arith

-- ---- four ports stay four

four_stored : (r : Recorder) (n : ℕ) (e : Event) → length (stored r n e).ports ≡ length r.ports
unfolding stored
four_stored r n e = by (is_port n)
  where
    by : (b : Bool) → length (if b then record { ports = set r.ports (place_of n) e.port; log = kept r.log n e.notices } else r).ports ≡ length r.ports
    by true = length-set r.ports (place_of n) e.port
    by false = refl

pub four_after : (r : Recorder) (n : ℕ) (x : Operation) → length (after_at r n x).ports ≡ length r.ports
unfolding after_at
four_after r n (create v w o) = four_stored r n _
four_after r n (frame o) = four_stored r n _
four_after r n gone = four_stored r n _
four_after r n (flag x on) = four_stored r n _
four_after r n (setting number w o) = four_stored r n _
four_after r n (write out) = refl
four_after r n take = refl

pub blank_four : length blank.ports ≡ 4
unfolding blank
blank_four = refl

pub blank_port_lem : (n : ℕ) → port_at blank n ≡ blank_port
unfolding blank
blank_port_lem n = by (place_of n) (place_small n)
  where
    by : (i : ℕ) → i < 4 → get_or (replicate 4 blank_port) i blank_port ≡ blank_port
    by i h = get_or-replicate 4 i blank_port blank_port h

-- ---- one call

-- a number that names no port: every event is refused
pub nowhere : (m : ℕ) (p : Port) (x : Operation) → is_port m ≡ false → ((event_of m p x).port ≡ p) × ((event_of m p x).notices ≡ silent)
unfolding event_of changed created
nowhere m p (create v w o) e = rw e (refl, refl)
nowhere m p (frame o) e = rw e (refl, refl)
nowhere m p gone e = rw e (refl, refl)
nowhere m p (flag x on) e = rw e (refl, refl)
nowhere m p (setting number w o) e = rw e (refl, refl)
nowhere m p (write out) e = (refl, refl)
nowhere m p take e = (refl, refl)

-- writing and taking leave the port
pub idle : (n : ℕ) (p : Port) (x : Operation) → is_event x ≡ false → (event_of n p x).port ≡ p
unfolding event_of
idle n p (create v w o) e = absurd (false≢true (sym e))
idle n p (frame o) e = absurd (false≢true (sym e))
idle n p gone e = absurd (false≢true (sym e))
idle n p (flag x on) e = absurd (false≢true (sym e))
idle n p (setting number w o) e = absurd (false≢true (sym e))
idle n p (write out) e = refl
idle n p take e = refl

module _ (r : Recorder) (four : length r.ports ≡ 4) (n : ℕ) where
  set_own : (p : Port) → get_or (set r.ports (place_of n) p) (place_of n) blank_port ≡ p
  set_own p = get_or-set_same r.ports (place_of n) p blank_port (omega (arith, place_small n))

  stored_own : (x : Operation) → port_at (stored r n (event_of n (port_at r n) x)) n ≡ (event_of n (port_at r n) x).port
  unfolding stored
  stored_own x = by (is_port n) refl
    where
      by : (b : Bool) → is_port n ≡ b
          → get_or
          (if b then
          record {
            ports = set r.ports (place_of n) (event_of n (port_at r n) x).port;
            log = kept r.log n (event_of n (port_at r n) x).notices;
          }
          else r).ports
          (place_of n) blank_port
          ≡ (event_of n (port_at r n) x).port
      by true e = set_own (event_of n (port_at r n) x).port
      by false e = sym (nowhere n (port_at r n) x e).0

  -- at the port itself: what its event says
  pub own_after : (x : Operation) → port_at (after_at r n x) n ≡ (event_of n (port_at r n) x).port
  unfolding after_at
  own_after (create v w o) = stored_own (create v w o)
  own_after (frame o) = stored_own (frame o)
  own_after gone = stored_own gone
  own_after (flag x on) = stored_own (flag x on)
  own_after (setting number w o) = stored_own (setting number w o)
  own_after (write out) = sym (idle n (port_at r n) (write out) refl)
  own_after take = sym (idle n (port_at r n) take refl)

module _ (r : Recorder) (m n : ℕ) (p : numbers.PortNumber n) (d : m ≡ n → ⊥) where
  apart : numbers.PortNumber m → (e : Event) → port_at (stored r m e) n ≡ port_at r n
  unfolding stored
  apart q e =
      rw (port_is m q)
      (get_or-set_other r.ports (place_of m) (place_of n) e.port blank_port (λ h. d (omega (arith, h, place_of_lem m q, place_of_lem n p, q.low, p.low))))

  stored_other : (x : Operation) → port_at (stored r m (event_of m (port_at r m) x)) n ≡ port_at r n
  stored_other x = by (is_port m) refl
    where
      by : (b : Bool) → is_port m ≡ b → port_at (stored r m (event_of m (port_at r m) x)) n ≡ port_at r n
      by false e = ap (λ (q : Recorder). port_at q n) (stored_same r m _ (nowhere m (port_at r m) x e).0 (nowhere m (port_at r m) x e).1)
      by true e = apart (is_port_lem m e) (event_of m (port_at r m) x)

  -- at another port: nothing
  pub other_after : (x : Operation) → port_at (after_at r m x) n ≡ port_at r n
  unfolding after_at
  other_after (create v w o) = stored_other (create v w o)
  other_after (frame o) = stored_other (frame o)
  other_after gone = stored_other gone
  other_after (flag x on) = stored_other (flag x on)
  other_after (setting number w o) = stored_other (setting number w o)
  other_after (write out) = refl
  other_after take = refl

-- ---- any calls: the same port, however two recorders differ beside it

-- whether a call is among the events at port n
pub data Owned (n : ℕ) (x : Call) : Bool → Type 0 where
  event : x.port ≡ n → is_event x.operation ≡ true → Owned n x true
  asked : x.port ≡ n → is_event x.operation ≡ false → Owned n x false
  other : (x.port ≡ n → ⊥) → Owned n x false

pub owned : (n : ℕ) (x : Call) → Owned n x ((x.port is n) && is_event x.operation)
owned n x = by (x.port is n) (is_event x.operation) refl refl
  where
    by : (a b : Bool) → (x.port is n) ≡ a → is_event x.operation ≡ b → Owned n x (a && b)
    by true true e f = event (eqb-true x.port n e) f
    by true false e f = asked (eqb-true x.port n e) f
    by false b e f = other (eqb-false x.port n e)

pub ports_agree : (n : ℕ) → numbers.PortNumber n → (xs : List Call) (r s : Recorder) → length r.ports ≡ 4 → length s.ports ≡ 4
    → port_at r n ≡ port_at s n → port_at (after_all r xs) n ≡ port_at (after_all s (own n xs)) n
unfolding after_all own
ports_agree n p [] r s fr fs e = e
ports_agree n p (x ∷ xs) r s fr fs e =
    by (λ q fq eq. ports_agree n p xs (after r x) q (four_after r x.port x.operation ∙ fr) fq eq) ((x.port is n) && is_event x.operation) (owned n x)
  where
    at_own : x.port ≡ n → port_at (after r x) n ≡ (event_of n (port_at r n) x.operation).port
    at_own k = rw k (own_after r fr n x.operation)

    by : ((q : Recorder) → length q.ports ≡ 4 → port_at (after r x) n ≡ port_at q n → port_at (after_all (after r x) xs) n ≡ port_at (after_all q (own n xs)) n)
        → (b : Bool) → Owned n x b → port_at (after_all (after r x) xs) n ≡ port_at (after_all s (if b then x ∷ own n xs else own n xs)) n
    by later true (event k f) =
        later (after s x) (four_after s x.port x.operation ∙ fs)
        (at_own k ∙ ap (λ (q : Port). (event_of n q x.operation).port) e ∙ rw k (sym (own_after s fs n x.operation)))
    by later false (asked k f) = later s fs (at_own k ∙ idle n (port_at r n) x.operation f ∙ e)
    by later false (other d) = later s fs (other_after r x.port n p d x.operation ∙ e)

-- ---- what a next call gives, by the port alone

module _ (n : ℕ) (r s : Recorder) (e : port_at r n ≡ port_at s n) where
  reply_by : (x : Operation) → takes x ≡ false → reply_at r n x ≡ reply_at s n x
  unfolding reply_at
  reply_by (create v w o) t = rw e refl
  reply_by (frame o) t = rw e refl
  reply_by gone t = rw e refl
  reply_by (flag x on) t = rw e refl
  reply_by (setting number w o) t = rw e refl
  reply_by (write out) t = rw e refl
  reply_by take t = absurd (false≢true (sym t))

  lent_by : (x : Operation) → lent_at r n x ≡ lent_at s n x
  unfolding lent_at
  lent_by (create v w o) = refl
  lent_by (frame o) = refl
  lent_by gone = refl
  lent_by (flag x on) = refl
  lent_by (setting number w o) = refl
  lent_by (write out) = rw e refl
  lent_by take = refl

pub independent : (xs : List Call) (n : ℕ) → numbers.PortNumber n → Independent xs n
independent xs n p =
    let e : port_at (after_all blank xs) n ≡ port_at (after_all blank (own n xs)) n = ports_agree n p xs blank blank blank_four blank_four refl in
    record {
      state = e;
      answer = reply_by n (after_all blank xs) (after_all blank (own n xs)) e;
      output = lent_by n (after_all blank xs) (after_all blank (own n xs)) e;
      notices = λ x. rw e refl;
    }
