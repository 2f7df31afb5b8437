-- Laws of text on a page, for its `text`, `number` and `hex`. Assumes nothing.
use Rattle.std.specs.Prelude.{ℕ, ◌+◌, ◌<◌, ◌≤◌, ◌≡◌, List, ◌++◌, length, take}
use Rattle.std.proofs.Common.{arith, le-leb, inl, inr, length-append, length-take-le}
use Rattle.std.proofs.lemmas.Bool.{lt-leb, cases_lt}
use Rattle.std.proofs.lemmas.List.{take_at}
use Rattle.std.proofs.lemmas.List.Edits.{sets-eq}
use Rattle.printing.specs.Put.{placed, written, Put, Numbered, put, NumberedPage}

pub put_left_out : (room : ℕ) (page s : List ℕ) → room < length page + length s → page ≡ put room page s
unfolding put
put_left_out room page s h = simp (lt-leb (length page + length s) room h)

pub put_fits : (room : ℕ) (page s : List ℕ) → length page + length s ≤ room → page ++ s ≡ put room page s
unfolding put
put_fits room page s h = simp (le-leb (length page + length s) room h)

-- the page is the first n octets of a buffer
module _ (room n : ℕ) (octets page : List ℕ) (view : take n octets ≡ page) (all : length octets ≡ room) (within : n ≤ room) where
  length_page : length page ≡ n
  length_page = rw view at (length-take-le n octets (omega arith))

  module _ (s : List ℕ) where
    none_placed : room < n + length s → placed octets n s ≡ n
    unfolding placed
    none_placed h = rw all (simp (lt-leb (n + length s) room h))

    none_written : room < n + length s → written octets n s ≡ octets
    unfolding written
    none_written h = rw all (simp (lt-leb (n + length s) room h))

    all_placed : n + length s ≤ room → placed octets n s ≡ n + length s
    unfolding placed
    all_placed h = rw all (simp (le-leb (n + length s) room h))

    all_written : n + length s ≤ room → take (n + length s) (written octets n s) ≡ page ++ s
    unfolding written
    all_written h =
        let l = length_page in
        let e : length (page ++ s) ≡ n + length s = omega (arith, length-append page s) in
        rw (all, le-leb (n + length s) room h, sets-eq s octets n (omega arith), view) (take_at (page ++ s) _ _ e)

  module _ {s after : List ℕ} {r : ℕ} (p : Put octets n s r after) where
    pub page_holds : r ≤ room
    page_holds = elim (cases_lt room (n + length s)) [
      | inl h ↦ omega (arith, p.next, none_placed s h)
      | inr h ↦ omega (arith, p.next, all_placed s h)
    ]

    pub page_put : take r after ≡ put room page s
    page_put =
        let l = length_page in
        elim (cases_lt room (n + length s)) [
          | inl h ↦ rw (p.next, p.octets, none_placed s h, none_written s h, view) (put_left_out room page s (omega arith))
          | inr h ↦ rw (p.next, p.octets, all_placed s h, all_written s h) (put_fits room page s (omega arith))
        ]

  pub page_numbered : {x r : ℕ} {after : List ℕ} → Numbered octets n x r after → NumberedPage room page x (take r after)
  page_numbered m = record { count = m.count; fewest = m.fewest; put = page_put m.put }

  pub page_holds_number : {x r : ℕ} {after : List ℕ} → Numbered octets n x r after → r ≤ room
  page_holds_number m = page_holds m.put
