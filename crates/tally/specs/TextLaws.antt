-- The report's octets: what the inner functions promise, and a law for each way out. Assumes nothing.
use Rattle.std.specs.Prelude.{ℕ, suc, ◌+◌, ◌-◌, ◌*◌, ◌≤◌, ◌<◌, ◌≡◌, Bool, true, false, if◌then◌else◌}
use Rattle.std.proofs.Common.{arith, add-one, sym, ◌∙◌, length-append, length-drop, drop-cons, lt-ltb, le-ltb, ltb-true, ltb-false}
use Rattle.std.proofs.Math.Nat.{zero-add}
use Rattle.std.proofs.Math.Path.{refl, ap}
use mathlib.Core.List.{List, [], ◌∷◌, ◌++◌, append_assoc, append-nil}
use Rattle.std.proofs.Math.ListN.{length, drop, drop_of_length-le}
use Rattle.std.proofs.lemmas.List.Edits.{sets}
use Rattle.std.proofs.Math.Seq.{length-sets, sets-eq}
use Rattle.octets.specs.Words.{◌below◌}
use Rattle.octets.specs.Octets.{at}
use Rattle.octets.specs.Laws.{sets_append}
use Rattle.octets.specs.Texts.{text}
use Rattle.numerals.specs.Numerals.{decimal}
use Rattle.numerals.specs.NumeralLaws.{Laid, laid_both}
use Rattle.counters.specs.Counters.{Changes}
use Rattle.counting.specs.declared.Tally.{Tally}
use Rattle.tally.specs.Steps.{row, changes_text, settled_text, tally_text, report_length, report_output, Reports}

-- ---- a row of numbers

-- what stands behind the number before so many others
abbrev pub behind : Bool → ℕ
behind others = if others then 32 else 10

row_on : (n : ℕ) (ns : List ℕ) → row (n ∷ ns) ≡ decimal n ++ (behind (0 below length ns) ∷ []) ++ row ns
unfolding row
row_on n [] = sym (append-nil (decimal n ++ (10 ∷ [])))
row_on n (m ∷ ns) = rw (lt-ltb 0 (suc (length ns)) (omega arith)) (sym (append_assoc (decimal n) (32 ∷ []) (row (m ∷ ns))))

-- numbers from place i on are still to be put
pub record Rowing (before : List ℕ) (place : ℕ) (ns out : List ℕ) (p i : ℕ) : Type 0 where
  pub within : i ≤ length ns
  pub room : place + 21 * length ns ≤ length before
  pub long : length out ≡ length before
  pub few : p ≤ place + 21 * i
  pub next : p + length (row (drop i ns)) ≡ place + length (row ns)
  pub same : sets out p (row (drop i ns)) ≡ sets before place (row ns)

pub rowing_start : {out : List ℕ} {place : ℕ} {ns : List ℕ} → place + 21 * length ns ≤ length out → Rowing out place ns out place 0
rowing_start h = record { within = omega arith; room = h; long = refl; few = omega arith; next = refl; same = refl }

module _ {before ns out : List ℕ} {place p i : ℕ} where
  pub rowing_on : {x r : ℕ} {after : List ℕ} → Rowing before place ns out p i → i < length ns → x ≡ behind (i + 1 below length ns)
      → Laid out p (decimal (at ns i) ++ (x ∷ [])) 21 r after → Rowing before place ns after r (i + 1)
  rowing_on {x} {r} {after} w h e l =
      let k : length (drop (suc i) ns) ≡ length ns - suc i = length-drop (suc i) ns in
      let b : (0 below length (drop (suc i) ns)) ≡ (i + 1 below length ns) = rw k (left i (length ns)) in
      let t : row (drop i ns) ≡ decimal (at ns i) ++ (x ∷ []) ++ row (drop (suc i) ns) = rw (drop-cons ns i 0 h, e, ← b) (row_on (at ns i) (drop (suc i) ns)) in
      let s : length (row (drop i ns)) ≡ length (decimal (at ns i) ++ (x ∷ [])) + length (row (drop (suc i) ns)) = rw t (length-append (decimal (at ns i) ++ (x ∷ [])) (row (drop (suc i) ns))) in
      record {
        within = omega arith;
        room = w.room;
        long = l.long ∙ w.long;
        few = omega (arith, w.few, l.next, l.few);
        next = rw add-one (omega (arith, w.next, l.next));
        same = rw (add-one, l.next, l.octets) (sym (sets_append out p (decimal (at ns i) ++ (x ∷ [])) (row (drop (suc i) ns))) ∙ rw t at w.same);
      }
    where
      left : (i n : ℕ) → (0 below (n - suc i)) ≡ (i + 1 below n)
      left i n = by (i + 1 below n) refl
        where
          by : (b : Bool) → (i + 1 below n) ≡ b → (0 below (n - suc i)) ≡ b
          by true q = lt-ltb 0 (n - suc i) (omega (arith, ltb-true (i + 1) n q))
          by false q = le-ltb 0 (n - suc i) (omega (arith, ltb-false (i + 1) n q))

  pub rowing_end : Rowing before place ns out p i → length ns ≤ i → Laid before place (row ns) (21 * length ns) p out
  unfolding row
  rowing_end w h =
      let d : drop i ns ≡ [] = drop_of_length-le ns h in
      let n : p + 0 ≡ place + length (row ns) = rw d at w.next in
      record { next = omega arith; few = omega (arith, w.few, w.within); long = w.long; octets = rw d at w.same }

-- ---- the lines of an end, and the last line

pub changes_laid : {out one two three : List ℕ} {place p q r : ℕ} (c : Changes) → Laid out place (row c.groups) 168 p one → Laid one p (row c.flow) 168 q two
    → Laid two q (row c.applications) 168 r three → Laid out place (changes_text c) 504 r three
unfolding changes_text
changes_laid c a b d = laid_both a (laid_both b d)

module _ (out : List ℕ) (place : ℕ) (b : Bool) (n : ℕ) {one : List ℕ} where
  pub settled_laid : {r : ℕ} {after : List ℕ} → b ≡ true → one ≡ sets out place (text "settled ") → Laid one (place + 8) (decimal n ++ (10 ∷ [])) 21 r after
      → Laid out place (settled_text b n) 29 r after
  unfolding settled_text row
  settled_laid e f l =
      let h : Laid out place (text "settled ") 8 (place + 8) one = record { next = refl; few = omega arith; long = rw f (length-sets out place (text "settled ")); octets = f } in
      rw e (laid_both h l)

  pub unsettled_laid : b ≡ false → one ≡ sets out place (text "not settled" ++ (10 ∷ [])) → Laid out place (settled_text b n) 29 (place + 12) one
  unfolding settled_text
  unsettled_laid e f = rw e (record { next = refl; few = omega arith; long = rw f (length-sets out place (text "not settled" ++ (10 ∷ []))); octets = f })

-- ---- the report

module _ (t : Tally) (out : List ℕ) where
  pub report_short : length out < 1280 → Reports t out 0 out
  unfolding report_length report_output
  report_short h = record { answers = rw (lt-ltb (length out) 1280 h) refl; octets = rw (lt-ltb (length out) 1280 h) refl }

  pub report_laid : {o1 o2 o3 o4 o5 : List ℕ} {p1 p2 p3 p4 p5 : ℕ} → 1280 ≤ length out
      → Laid out 0 (row (t.from_a ∷ t.from_b ∷ t.others ∷ [])) 63 p1 o1 → Laid o1 p1 (row t.refusals) 168 p2 o2 → Laid o2 p2 (changes_text t.of_a) 504 p3 o3
      → Laid o3 p3 (changes_text t.of_b) 504 p4 o4 → Laid o4 p4 (settled_text t.settled t.frames) 29 p5 o5 → Reports t out p5 o5
  unfolding report_length report_output tally_text
  report_laid h a b c d e =
      let w = laid_both a (laid_both b (laid_both c (laid_both d e))) in
      let l : length (tally_text t) ≤ 1280 = omega (arith, w.few) in
      let z : 0 + length (tally_text t) ≡ length (tally_text t) = zero-add (length (tally_text t)) in
      record {
        answers = rw (le-ltb (length out) 1280 h) (w.next ∙ z);
        octets = rw (le-ltb (length out) 1280 h) (w.octets ∙ sets-eq (tally_text t) out 0 (omega arith) ∙ ap (λ (k : ℕ). tally_text t ++ drop k out) z);
      }
