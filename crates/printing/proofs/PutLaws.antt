-- Laws of text in an output, for `text`, `number`, `hex` and `digit`. Assumes nothing.
use Rattle.std.specs.Prelude.{ℕ, zero, suc, ◌+◌, ◌-◌, ◌*◌, ◌/◌, ◌%◌, ◌≤◌, ◌<◌, ◌≡◌, refl, List, [], ◌∷◌, ◌++◌, set, length, take}
use Rattle.std.proofs.Common.{arith, sym, ◌∙◌, ap, le-leb, lt-ltb, le-ltb, get_or, length-take-le}
use Rattle.std.proofs.lemmas.Bool.{lt-leb}
use Rattle.std.proofs.lemmas.List.{take_all}
use Rattle.std.proofs.lemmas.List.Edits.{sets}
use Rattle.std.proofs.Math.Numerals.{add-one}
use borrow.Rule.Slice.PartMut.{put_mid}
use Rattle.octets.specs.Laws.{put_in, sets_append}
use Rattle.printing.specs.Put.{placed, written, Put, glyph, hex_text}

module _ (out : List ℕ) (place : ℕ) (s : List ℕ) where
  pub put_none : length out < place + length s → Put out place s place out
  unfolding placed written
  put_none h = record { next = simp (lt-leb (place + length s) (length out) h); octets = simp (lt-leb (place + length s) (length out) h) }

  pub put_past : length out < place → Put out place s place out
  put_past h = put_none (omega arith)

  pub put_short : place ≤ length out → length out - place < length s → Put out place s place out
  put_short h k = put_none (omega arith)

  pub put_all : (now : List ℕ) → place + length s ≤ length out → now ≡ sets out place s → Put out place s (place + length s) now
  unfolding placed written
  put_all now h e = record { next = simp (le-leb (place + length s) (length out) h); octets = e ∙ simp (le-leb (place + length s) (length out) h) }

  -- what a copy into a part leaves
  pub put_copied : (t : List ℕ) → place ≤ length out → length s ≤ length out - place → t ≡ s
      → Put out place s (place + length s) (put_mid place (place + length s - place) out t)
  put_copied t h k e = let fits : place + length s ≤ length out = omega arith in put_all _ fits (put_in out s t place _ fits (omega arith) e)

-- ---- hex digits

pub glyph_digit : (d : ℕ) → d < 10 → 48 + d ≡ glyph d
unfolding glyph
glyph_digit d h = simp (lt-ltb d 10 h)

pub glyph_letter : (d : ℕ) → 10 ≤ d → 87 + d ≡ glyph d
unfolding glyph
glyph_letter d h = simp (le-ltb d 10 h)

length_hex : (s : List ℕ) → length (hex_text s) ≡ 2 * length s
unfolding hex_text
length_hex [] = refl
length_hex (x ∷ s) = omega (arith, length_hex s)

hex_more : (s : List ℕ) (i : ℕ) → i < length s → hex_text (take (suc i) s) ≡ hex_text (take i s) ++ glyph (get_or s i 0 / 16 % 16) ∷ glyph (get_or s i 0 % 16) ∷ []
unfolding hex_text
hex_more [] i h = absurd (omega arith)
hex_more (x ∷ s) zero h = refl
hex_more (x ∷ s) (suc i) h = ap (λ t. glyph (x / 16 % 16) ∷ glyph (x % 16) ∷ t) (hex_more s i (omega arith))

-- the first i octets stand as digits
pub record Spelling (before out s : List ℕ) (place i : ℕ) : Type 0 where
  pub room : place + 2 * length s ≤ length before
  pub now : out ≡ sets before place (hex_text (take i s))

module _ (out s : List ℕ) (place : ℕ) where
  pub spelling_start : place ≤ length out → length s ≤ (length out - place) / 2 → Spelling out out s place 0
  unfolding hex_text
  spelling_start h k = record { room = omega arith; now = refl }

  pub spelling_past : length out < place → Put out place (hex_text s) place out
  spelling_past h = put_past out place (hex_text s) h

  pub spelling_short : place ≤ length out → (length out - place) / 2 < length s → Put out place (hex_text s) place out
  spelling_short h k = put_none out place (hex_text s) (omega (arith, length_hex s))

module _ {before out s : List ℕ} {place i : ℕ} (r : Spelling before out s place i) where
  pub spelling_more : {x y : ℕ} → i < length s → x ≡ glyph (get_or s i 0 / 16 % 16) → y ≡ glyph (get_or s i 0 % 16)
      → Spelling before (set (set out (place + 2 * i) x) (place + 2 * i + 1) y) s place (i + 1)
  spelling_more {x} {y} h e f =
      let l : length (hex_text (take i s)) ≡ 2 * i = length_hex (take i s) ∙ ap (λ n. 2 * n) (length-take-le i s (omega arith)) in
      let two : sets before place (hex_text (take i s) ++ x ∷ y ∷ []) ≡ set (set out (place + 2 * i) x) (suc (place + 2 * i)) y =
      (rw (l, ← r.now) at (sets_append before place (hex_text (take i s)) (x ∷ y ∷ []))) in
      record { room = r.room; now = rw (add-one (place + 2 * i), add-one i, hex_more s i h, ← e, ← f) (sym two) }

  pub spelling_end : length s ≤ i → Put before place (hex_text s) (place + 2 * length s) out
  spelling_end h =
      let l = length_hex s in
      let p : Put before place (hex_text s) (place + length (hex_text s)) out = put_all before place (hex_text s) out (omega (arith, r.room, l)) (rw (take_all i s h) at r.now) in
      rw l at p
