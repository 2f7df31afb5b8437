-- Without takings a port's newest 16 notices depend on its own calls alone. Assumes nothing.
use Prim.Native.Nat.{ℕ}
use mathlib.Core.Path.{◌≡◌, refl, sym, ap, ◌∙◌}
use mathlib.Core.Bool.{Bool, true, false, not, ◌&&◌, false≢true}
use mathlib.Core.List.{List, [], ◌∷◌, ◌++◌}
use lib.ListN.{length}
use borrow.Author.Tests.{ne_eqb}
use Rattle.std.specs.Prelude.{if◌then◌else◌, None, Some}
use Rattle.octets.specs.Words.{◌is◌}
use Rattle.notices.specs.declared.Notice.{Notice}
use Rattle.notices.specs.Notices.{PortNumber, empty_log, notices_in, of}
use Rattle.notices.proofs.PortLaws.{of_append}
use Rattle.notices.specs.LogModel.{newest16}
use Rattle.port.specs.declared.Port as machine
use Rattle.port.specs.Types.{Raised}
use Rattle.port.specs.declared.Notices.{Notices}
use Rattle.events.specs.PortEvents.{listed, in_order}
use Rattle.recorder.specs.declared.Recorder.{Recorder}
use Rattle.recorder.specs.Recorder.{port_at, blank}
use Rattle.calls.specs.Calls.{Operation, create, frame, gone, flag, setting, write, take, Call, event_of, raised, after, after_all}
use Rattle.calls.specs.Independent.{is_event, takes, own, untaken_at, SameNews}
use Rattle.calls.specs.Logged.{raised_all}
use Rattle.calls.proofs.Independent.{four_after, blank_four, idle, own_after, other_after, Owned, event, asked, other, owned}
use Rattle.calls.proofs.Logged.{logged}

-- ---- of port n: what it raised itself

module _ (m n : ℕ) (d : m ≡ n → ⊥) where
  of_listed : (x : Raised) (feature : ℕ) (rest : List Notice) → of n rest ≡ [] → of n (listed m x feature rest) ≡ []
  unfolding listed of
  of_listed None feature rest e = e
  of_listed (Some k) feature rest e = rw (ne_eqb m n d) e

  of_raised : (x : Notices) → of n (in_order m x) ≡ []
  unfolding in_order of
  of_raised x = of_listed x.port _ _ (of_listed x.groups _ _ (of_listed x.flow _ _ (of_listed x.applications _ [] refl)))

-- writing and taking raise nothing
idle_raised : (n : ℕ) (p : machine.Port) (x : Operation) → is_event x ≡ false → in_order n (event_of n p x).notices ≡ []
unfolding event_of in_order listed
idle_raised n p (create v w o) e = absurd (false≢true (sym e))
idle_raised n p (frame o) e = absurd (false≢true (sym e))
idle_raised n p gone e = absurd (false≢true (sym e))
idle_raised n p (flag x on) e = absurd (false≢true (sym e))
idle_raised n p (setting number w o) e = absurd (false≢true (sym e))
idle_raised n p (write out) e = refl
idle_raised n p take e = refl

no_event_taken : (x : Operation) → is_event x ≡ true → takes x ≡ false
no_event_taken (create v w o) e = refl
no_event_taken (frame o) e = refl
no_event_taken gone e = refl
no_event_taken (flag x on) e = refl
no_event_taken (setting number w o) e = refl
no_event_taken (write out) e = refl
no_event_taken take e = absurd (false≢true e)

event_untaken : (n : ℕ) (x : Call) (xs : List Call) → is_event x.operation ≡ true → untaken_at n xs ≡ true → untaken_at n (x ∷ xs) ≡ true
unfolding untaken_at
event_untaken n x xs f u = rw (no_event_taken x.operation f) (by (x.port is n))
  where
    by : (a : Bool) → (not (a && false) && untaken_at n xs) ≡ true
    by true = u
    by false = u

own_raised : (n : ℕ) → PortNumber n → (xs : List Call) (r s : Recorder) → length r.ports ≡ 4 → length s.ports ≡ 4 → port_at r n ≡ port_at s n
    → of n (raised_all r xs) ≡ of n (raised_all s (own n xs))
unfolding raised_all own of
own_raised n p [] r s fr fs e = refl
own_raised n p (x ∷ xs) r s fr fs e =
    by (λ q fq eq. own_raised n p xs (after r x) q (four_after r x.port x.operation ∙ fr) fq eq) ((x.port is n) && is_event x.operation) (owned n x)
  where
    at_own : x.port ≡ n → port_at (after r x) n ≡ (event_of n (port_at r n) x.operation).port
    at_own k = rw k (own_after r fr n x.operation)

    by : ((q : Recorder) → length q.ports ≡ 4 → port_at (after r x) n ≡ port_at q n → of n (raised_all (after r x) xs) ≡ of n (raised_all q (own n xs)))
        → (b : Bool) → Owned n x b
        → of n (raised r x ++ raised_all (after r x) xs) ≡ of n (raised_all s (if b then x ∷ own n xs else own n xs))
    by later true (event k f) =
        let same : raised r x ≡ raised s x = rw (k, e) refl in
        let more = later (after s x) (four_after s x.port x.operation ∙ fs) (at_own k ∙ rw (k, e) (sym (own_after s fs n x.operation))) in
        of_append n (raised r x) (raised_all (after r x) xs) ∙ (λ i. of n (same i) ++ more i) ∙ sym (of_append n (raised s x) (raised_all (after s x) (own n xs)))
    by later false (asked k f) =
        let more = later s fs (at_own k ∙ idle n (port_at r n) x.operation f ∙ e) in
        of_append n (raised r x) (raised_all (after r x) xs) ∙ (λ i. of n (idle_raised x.port (port_at r x.port) x.operation f i) ++ more i)
    by later false (other d) =
        let more = later s fs (other_after r x.port n p d x.operation ∙ e) in
        of_append n (raised r x) (raised_all (after r x) xs)
        ∙ (λ i. of_raised x.port n d (event_of x.port (port_at r x.port) x.operation).notices i ++ more i)

own_untaken : (n : ℕ) (xs : List Call) → untaken_at n (own n xs) ≡ true
unfolding own untaken_at
own_untaken n [] = refl
own_untaken n (x ∷ xs) = by (own_untaken n xs) ((x.port is n) && is_event x.operation) (owned n x)
  where
    by : untaken_at n (own n xs) ≡ true → (b : Bool) → Owned n x b → untaken_at n (if b then x ∷ own n xs else own n xs) ≡ true
    by more true (event k f) = event_untaken n x (own n xs) f more
    by more false o = more

-- the log of the blank recorder, by its newest notices
from_blank : (xs : List Call) (n : ℕ) → PortNumber n → untaken_at n xs ≡ true
    → newest16 (of n (notices_in (after_all blank xs).log)) ≡ newest16 (of n (raised_all blank xs))
unfolding after_all blank empty_log notices_in of
from_blank xs n p u = (logged []).newest xs n p u

pub news : (xs : List Call) (n : ℕ) → PortNumber n → untaken_at n xs ≡ true → SameNews xs n
news xs n p u =
    from_blank xs n p u ∙ ap newest16 (own_raised n p xs blank blank blank_four blank_four refl) ∙ sym (from_blank (own n xs) n p (own_untaken n xs))
