-- Laws of words, numbers and octets. Assumes nothing.
use Rattle.std.specs.Prelude.{ℕ, zero, suc, ◌+◌, ◌-◌, ◌*◌, ◌/◌, ◌%◌, ◌≤◌, ◌<◌, min, ◌≡◌, refl, Bool, not, ◌&&◌, List, [], ◌∷◌, ◌++◌, eqb, take, drop, set, replicate, if◌then◌else◌, Option, Some, None, cond, position}
use native.Mathlib.Omega.{arith}
use Rattle.std.proofs.Math.Numerals.{add-one}
use Rattle.std.proofs.Common.{add-zero, zero-add, ap, ◌∙◌, drop_of_length-le, length-set, drop-cons, get_or-set_same, get_or-set_other}
use Rattle.std.proofs.Math.Nat.{add-mul-mod_self_right}
use Rattle.std.proofs.Math.Path.{sym}
use Rattle.std.proofs.Math.Bool.{true, false}
use Rattle.std.specs.Bool.{beq}
use Rattle.std.specs.Char.{is_ascii_digit}
use Rattle.std.specs.List.{position_or_len}
use Rattle.std.specs.Option.{unwrap_or}
use Rattle.std.proofs.lemmas.Grind.{common_steps}
use Rattle.std.proofs.lemmas.List.Recursion.{is_position_or_len}
use Rattle.std.proofs.lemmas.List.Sums.{prefix_len-le-length}
use Rattle.std.proofs.Math.ListN.{length}
use Rattle.std.proofs.lemmas.List.{length-replicate, set_at}
use Rattle.std.proofs.Math.Seq.{append_snoc, take-append_seam}
use borrow.Author.Tests.{leb-true, le-leb, lt-leb, eqb-true, eqb-false}
use Rattle.octets.specs.Words.{◌below◌, ◌atmost◌, ◌is◌}
use Rattle.octets.specs.Octets.{at}
use Rattle.octets.specs.Laws.{and_left}
use Rattle.words.specs.declared.Held.{Held}
use Rattle.words.specs.Text.{is_digit, decimal_digits, decimal_from, decimal, is_number, number, nibble, hex_digits, pair_at, listed, octets_of, held, pending}
use Rattle.words.specs.StepsLaws.{run, trimmed, first_word, rest, Nibbles}

-- ---- digits

pub ascii_digit : (c : ℕ) {b : Bool} → b ≡ is_ascii_digit c → b ≡ is_digit c
unfolding is_digit
ascii_digit c e = e

pub digit_least : (c : ℕ) → is_digit c ≡ true → 48 ≤ c
unfolding is_digit
digit_least c e = leb-true 48 c (and_left (48 atmost c) (c atmost 57) e)

-- ---- a run of spaces, or of other octets: it ends at the first octet that is not of it

run_is : (spaces : Bool) (s : List ℕ) → run spaces s ≡ position_or_len (λ c. not (beq (c is 32) spaces)) s
unfolding run
run_is spaces = is_position_or_len (run spaces) (λ c. not (beq (c is 32) spaces)) refl (λ c s. step (beq (c is 32) spaces) (run spaces s))
  where
    step : (b : Bool) (n : ℕ) → (if b then suc n else 0) ≡ cond (not b) 0 (1 + n)
    step true n = omega arith
    step false n = refl

pub run_place : (spaces : Bool) (s : List ℕ) {o : Option ℕ} → o ≡ position (λ c. not (beq (c is 32) spaces)) s → unwrap_or o (length s) ≡ run spaces s
run_place spaces s {o} e =
    let p = λ (c : ℕ). not (beq (c is 32) spaces) in
    rw (e, run_is spaces s) (grind (arith, common_steps, prefix_len-le-length (λ (c : ℕ). not (p c)) s))

-- ---- numbers

-- more digits make no smaller number
pub decimal_grows : (n : ℕ) (w : List ℕ) → n ≤ decimal_from n w
unfolding decimal_from
decimal_grows n [] = omega arith
decimal_grows n (c ∷ w) = omega (arith, decimal_grows (n * 10 + (c - 48)) w)

module _ (limit : ℕ) (w : List ℕ) where
  pub number_none : length w < 1 → None ≡ number limit w
  unfolding number is_number
  number_none h = simp (lt-leb 1 (length w) h)

  pub number_long : 5 < length w → None ≡ number limit w
  unfolding number is_number
  number_long h = simp (le-leb 1 (length w) (omega arith), lt-leb (length w) 5 h)

-- the first i digits make n, and the rest decides
pub record Counting (limit : ℕ) (w : List ℕ) (n i : ℕ) : Type 0 where
  pub some : 1 ≤ length w
  pub few : length w ≤ 5
  pub within : i ≤ length w
  pub small : n ≤ limit
  pub digits : decimal_digits (drop i w) ≡ decimal_digits w
  pub same : decimal_from n (drop i w) ≡ decimal w

pub counting_start : (limit : ℕ) (w : List ℕ) → 1 ≤ length w → length w ≤ 5 → Counting limit w 0 0
counting_start limit w h k = record { some = h; few = k; within = omega arith; small = omega arith; digits = refl; same = refl }

module _ {limit : ℕ} {w : List ℕ} {n i : ℕ} where
  pub counting_not : {b : Bool} → Counting limit w n i → i < length w → b ≡ is_digit (at w i) → b ≡ false → None ≡ number limit w
  unfolding number is_number decimal_digits
  counting_not {b} r h e t =
      let d : is_digit (at w i) ≡ false = sym e ∙ t in
      let z : false ≡ decimal_digits w = rw (drop-cons w i 0 h, d) at r.digits in
      simp (le-leb 1 (length w) r.some, le-leb (length w) 5 r.few, sym z)

  counting_here : Counting limit w n i → i < length w → decimal_from (n * 10 + (at w i - 48)) (drop (i + 1) w) ≡ decimal w
  unfolding decimal_from
  counting_here r h = rw add-one (rw (drop-cons w i 0 h) at r.same)

  pub counting_above : {m : ℕ} → Counting limit w n i → i < length w → m ≡ at w i - 48 → limit < n * 10 + m → None ≡ number limit w
  unfolding number is_number
  counting_above {m} r h e t =
      let k : limit < decimal w = omega (arith, counting_here r h, decimal_grows (n * 10 + (at w i - 48)) (drop (i + 1) w)) in
      elim (decimal_digits w) as (λ d. None ≡ (if (1 atmost length w && length w atmost 5 && d && decimal w atmost limit) then Some (decimal w) else None)) [
        | true ↦ simp (le-leb 1 (length w) r.some, le-leb (length w) 5 r.few, lt-leb (decimal w) limit k)
        | false ↦ simp (le-leb 1 (length w) r.some, le-leb (length w) 5 r.few)
      ]

  pub counting_on : {m : ℕ} {b : Bool} → Counting limit w n i → i < length w → b ≡ is_digit (at w i) → b ≡ true → m ≡ at w i - 48 → n * 10 + m ≤ limit → Counting limit w (n * 10 + m) (i + 1)
  unfolding decimal_digits
  counting_on {m} {b} r h e t g k =
      let d : is_digit (at w i) ≡ true = sym e ∙ t in
      record {
        some = r.some;
        few = r.few;
        within = omega arith;
        small = k;
        digits = rw add-one (rw (drop-cons w i 0 h, d) at r.digits);
        same = rw g (counting_here r h);
      }

  pub counting_end : Counting limit w n i → length w ≤ i → Some n ≡ number limit w
  unfolding number is_number decimal_digits decimal_from
  counting_end r h =
      let z : true ≡ decimal_digits w = rw (drop_of_length-le w h) at r.digits in
      let v : n ≡ decimal w = rw (drop_of_length-le w h) at r.same in
      simp (le-leb 1 (length w) r.some, le-leb (length w) 5 r.few, sym z, sym v, le-leb n limit r.small)

-- ---- hex digits

-- the first i digits are good or not, and the rest decides with them
pub record Hexing (w : List ℕ) (good : Bool) (i : ℕ) : Type 0 where
  pub within : i ≤ length w
  pub same : (good && hex_digits (drop i w)) ≡ hex_digits w

pub hexing_start : (w : List ℕ) → Hexing w true 0
hexing_start w = record { within = omega arith; same = refl }

and_twice : (a b c : Bool) → (a && b && c) ≡ (a && (b && c))
and_twice true b c = refl
and_twice false b c = refl

and_true : (a : Bool) → (a && true) ≡ a
and_true true = refl
and_true false = refl

module _ {w : List ℕ} {good : Bool} {i : ℕ} where
  pub hexing_on : {x : ℕ} → Hexing w good i → i < length w → x ≡ nibble (at w i) → Hexing w (good && x below 16) (i + 1)
  unfolding hex_digits
  hexing_on {x} r h e =
      record { within = omega arith; same = rw (add-one, and_twice, e) (rw (drop-cons w i 0 h) at r.same) }

  pub hexing_end : Hexing w good i → length w ≤ i → good ≡ hex_digits w
  unfolding hex_digits
  hexing_end r h = sym (and_true good) ∙ rw (drop_of_length-le w h) at r.same

-- ---- octets one behind the other

pub length-listed : (n i : ℕ) (f : ℕ → ℕ) → length (listed n i f) ≡ n
unfolding listed
length-listed zero i f = refl
length-listed (suc n) i f = ap suc (length-listed n (i + 1) f)

listed_last : (n i : ℕ) (f : ℕ → ℕ) → listed (suc n) i f ≡ listed n i f ++ (f (i + n) ∷ [])
unfolding listed
listed_last zero i f = ap (λ (k : ℕ). f k ∷ []) (sym (add-zero i))
listed_last (suc n) i f =
    let e : i + 1 + n ≡ i + suc n = omega arith in
    ap (λ (l : List ℕ). f i ∷ l) (listed_last n (i + 1) f ∙ ap (λ (k : ℕ). listed n (i + 1) f ++ (f k ∷ [])) e)

pub record Listing (f : ℕ → ℕ) (n : ℕ) (out : List ℕ) (i : ℕ) : Type 0 where
  pub within : i ≤ n
  pub most : n ≤ 513
  pub octets : out ≡ listed i 0 f ++ replicate (513 - i) 0

pub listing_start : (f : ℕ → ℕ) (n : ℕ) → n ≤ 513 → Listing f n (replicate 513 0) 0
unfolding listed
listing_start f n h = record { within = omega arith; most = h; octets = refl }

module _ {f : ℕ → ℕ} {n : ℕ} {out : List ℕ} {i : ℕ} where
  pub listing_more : {x : ℕ} → Listing f n out i → i < n → x ≡ f i → Listing f n (set out i x) (i + 1)
  listing_more {x} r h e =
      let m : 513 - i ≡ suc (513 - suc i) = omega arith in
      let o : out ≡ listed i 0 f ++ 0 ∷ replicate (513 - suc i) 0 = rw m at r.octets in
      let t : set out i x ≡ listed i 0 f ++ x ∷ replicate (513 - suc i) 0 =
      rw o (set_at (listed i 0 f) 0 (replicate (513 - suc i) 0) x i (length-listed i 0 f)) in
      let a : f (0 + i) ≡ x = ap f (zero-add i) ∙ sym e in
      record {
        within = omega arith;
        most = r.most;
        octets = t ∙ rw (add-one, listed_last i 0 f, a) (sym (append_snoc (listed i 0 f) x (replicate (513 - suc i) 0)));
      }

  pub listing_end : Listing f n out i → n ≤ i → record { n = n; octets = out } ≡ held 513 (listed n 0 f)
  unfolding held
  listing_end r h = let e : i ≡ n = omega arith in let o : out ≡ listed n 0 f ++ replicate (513 - n) 0 = r.octets ∙ rw e in rw (o, length-listed n 0 f)

pub octets_end : (w : List ℕ) {n : ℕ} {out : List ℕ} {i : ℕ} → Listing (pair_at w) n out i → n ≤ i → n ≡ min (length w / 2) 513 → record { n = n; octets = out } ≡ held 513 (octets_of w)
unfolding octets_of
octets_end w r h e = listing_end r h ∙ rw e

-- how many octets a text spells
pub octets_length : (w : List ℕ) {n : ℕ} → n ≡ min (length w / 2) 513 → n ≡ length (octets_of w)
unfolding octets_of
octets_length w e = e ∙ sym (length-listed (min (length w / 2) 513) 0 (pair_at w))

-- ---- what is held, read back

pub pending_held : (places : ℕ) (p : List ℕ) → pending (held places p) ≡ p
unfolding held
pending_held places p = take-append_seam p (replicate (places - length p) 0)

-- ---- the values of hex digits, of which the first i stand in v

pub record Valuing (w v : List ℕ) (n i : ℕ) : Type 0 where
  pub within : i ≤ n
  pub all : n ≡ 2 * min (length w / 2) 513
  pub long : length v ≡ 1026
  pub value : (k : ℕ) → k < i → at v k ≡ nibble (at w k) % 16

pub valuing_start : (w : List ℕ) {n m : ℕ} → m ≡ min (length w / 2) 513 → n ≡ 2 * m → Valuing w (replicate 1026 0) n 0
valuing_start w e h =
    record {
      within = omega arith;
      all = rw e at h;
      long = length-replicate {A = ℕ} 1026 0;
      value = λ k l. absurd (omega arith);
    }

module _ {w v : List ℕ} {n i : ℕ} where
  pub valuing_more : {x : ℕ} → Valuing w v n i → i < n → x ≡ nibble (at w i) → Valuing w (set v i (x % 16)) n (i + 1)
  valuing_more {x} r h e =
      record {
        within = omega arith;
        all = r.all;
        long = length-set v i (x % 16) ∙ r.long;
        value = λ k l. here k l (eqb k i) refl;
      }
    where
      here : (k : ℕ) → k < i + 1 → (b : Bool) → eqb k i ≡ b → at (set v i (x % 16)) k ≡ nibble (at w k) % 16
      here k l true q = rw (eqb-true k i q, get_or-set_same v i (x % 16) 0 (omega (arith, r.long, r.all)), e)
      here k l false q = get_or-set_other v i k (x % 16) 0 (eqb-false k i q) ∙ r.value k (omega (arith, eqb-false k i q))

  pub valuing_end : Valuing w v n i → n ≤ i → Nibbles w v
  valuing_end r h = record { value = λ k l. r.value k (omega (arith, r.all)) }

-- a product with 4097 moves the high value beside the low one
pub joined_is : {high low x y : ℕ} → y ≡ low → x ≡ high → x < 256 → (y * 256 + x) * 4097 / 256 % 256 ≡ (high * 16 + low) % 256
joined_is {high} {low} {x} {y} e g h =
    let q : (y * 256 + x) * 4097 / 256 ≡ high * 16 + low + low * 16 * 256 = omega arith in
    rw q (add-mul-mod_self_right (high * 16 + low) (low * 16) 256)

-- one octet more
pub joining : {w v : List ℕ} {i n x : ℕ} → Nibbles w v → i < n → n ≡ min (length w / 2) 513 → x ≡ (at v (2 * i) * 16 + at v (2 * i + 1)) % 256 → x ≡ pair_at w i
unfolding pair_at
joining {w} {v} {i} r h m e = e ∙ rw (r.value (2 * i) (omega arith), r.value (2 * i + 1) (omega arith)) (omega arith)

-- ---- steps along a line

pub trim_found : (s : List ℕ) {m : ℕ} {t : List ℕ} → m ≡ run true s → t ≡ drop m s → t ≡ trimmed s
trim_found s a b = b ∙ rw a

module _ (s : List ℕ) {m : ℕ} {t r : List ℕ} where
  pub word_found : t ≡ trimmed s → m ≡ run false t → r ≡ take m t → r ≡ first_word s
  unfolding first_word
  word_found a b c = c ∙ rw (b, a)

  pub behind_found : t ≡ trimmed s → m ≡ run false t → r ≡ drop m t → r ≡ rest s
  unfolding rest
  behind_found a b c = c ∙ rw (b, a)

pub pair_read : (w : List ℕ) (i : ℕ) {x y h l : ℕ} → x ≡ at w (2 * i) → h ≡ nibble x → y ≡ at w (2 * i + 1) → l ≡ nibble y → h % 16 * 16 + l % 16 ≡ pair_at w i
unfolding pair_at
pair_read w i a b c d = rw (b, a, d, c)

pub slice_is : {places : ℕ} (p : List ℕ) {h : Held places} {o : List ℕ} → h ≡ held places p → o ≡ pending h → o ≡ p
slice_is {places} p e f = f ∙ rw e (pending_held places p)
