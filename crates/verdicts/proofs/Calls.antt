-- The line of each call is read back as what happened: its words, numbers, bits and octets. Assumes nothing.
use Prim.Native.Nat.{ℕ, zero, suc, ◌+◌, ◌-◌, ◌*◌, ◌/◌, ◌%◌, ◌≤◌, ◌<◌, min}
use native.Mathlib.Omega.{arith}
use native.Mathlib.Nat.{add-zero, zero-add}
use mathlib.Core.Path.{◌≡◌, refl, sym, ap, ◌∙◌}
use mathlib.Core.Bool.{Bool, true, false, not, ◌&&◌, false≢true}
use mathlib.Core.List.{List, [], ◌∷◌, ◌++◌, append-nil}
use lib.ListN.{length, length-append}
use lib.Seq.{append_snoc}
use borrow.Author.Tests.{lt-ltb, le-ltb, le-leb, lt-leb, ltb-true, ltb-false, leb-true, eq-eqb, eqb-true, eqb-false, ne_eqb}
use Rattle.std.specs.Prelude.{if◌then◌else◌, Some, Ok}
use Rattle.octets.specs.Words.{◌below◌, ◌atmost◌, ◌is◌}
use Rattle.octets.specs.Octets.{at, same}
use Rattle.octets.specs.Laws.{and_left, and_right}
use Rattle.octets.specs.Texts.{text}
use Rattle.feature.specs.declared.Switches.{Switches}
use Rattle.port.specs.declared.Flag.{Flag}
use Rattle.port.specs.declared.Flag.TheVariants as flags
use Rattle.recorder.specs.declared.Change.TheVariants as change
use Rattle.grammar.specs.declared.Form.{Form}
use Rattle.lines.specs.declared.Kind.{Kind}
use Rattle.words.specs.Text.{is_digit, nibble, hex_digits, is_octets, pair_at, listed, octets_of, ended, words_from, words, first, others, decimal_digits, decimal_from, is_number, number, held}
use Rattle.words.specs.TextLaws.{pending_held}
use Rattle.words.specs.Text as spelling
use Rattle.grammar.specs.Grammar.{switches, fields, due, may_end}
use Rattle.fields.specs.Fields.{name_text, said, field_number, ended as line_ended, onward, values_from, values_of}
use Rattle.lines.specs.Lines.{line_of, returned, setting_kind, setting_with, plain, alone}
use Rattle.script.specs.Events.{flag_bit, flag, form_of, numbered, change_of, event_of, keyword, is_frame, event_line}
use Rattle.script.specs.Events as script
use Rattle.capture.specs.Capture as capture
use Rattle.numerals.specs.Numerals.{digits_of, decimal}
use Rattle.judgement.specs.Entries.{Sent, Given, Changed, told_by, change_on, entry_by, entry_as, entry_of}
use Rattle.verdicts.specs.Transcripts.{hex_digit, hex_of, sent_line, given_line, spaced, bit_word, flag_word, parameter_words, setting_words, OctetsWithin}

-- ---- hex digits are read back

nibble_hex : (d : ℕ) → d < 16 → nibble (hex_digit d) ≡ d
unfolding nibble is_digit
nibble_hex d h = by (d below 10) refl
  where
    by : (b : Bool) → (d below 10) ≡ b
        → (if 48 atmost (if b then 48 + d else 87 + d) && (if b then 48 + d else 87 + d) atmost 57 then (if b then 48 + d else 87 + d) - 48
        else if 97 atmost (if b then 48 + d else 87 + d) && (if b then 48 + d else 87 + d) atmost 102 then (if b then 48 + d else 87 + d) - 87 else 16) ≡ d
    by true e =
        let l : d < 10 = ltb-true d 10 e in
        rw (le-leb 48 (48 + d) (omega arith), le-leb (48 + d) 57 (omega arith)) (omega arith)
    by false e =
        let l : 10 ≤ d = ltb-false d 10 e in
        rw (le-leb 48 (87 + d) (omega arith), lt-leb (87 + d) 57 (omega arith), le-leb 97 (87 + d) (omega arith), le-leb (87 + d) 102 (omega arith)) (omega arith)

length_hex : (o : List ℕ) → length (hex_of o) ≡ 2 * length o
unfolding hex_of
length_hex [] = refl
length_hex (x ∷ o) = omega (arith, length_hex o)

-- each octet's digits
small_rest : (x : ℕ) (o : List ℕ) → ((i : ℕ) → at (x ∷ o) i < 256) → (i : ℕ) → at o i < 256
small_rest x o h i = h (suc i)

all_hex : (o : List ℕ) → ((i : ℕ) → at o i < 256) → hex_digits (hex_of o) ≡ true
unfolding hex_digits hex_of
all_hex [] h = refl
all_hex (x ∷ o) h =
    let s : x < 256 = h 0 in
    let a : nibble (hex_digit (x / 16)) < 16 = rw (nibble_hex (x / 16) (omega arith)) (omega arith) in
    let b : nibble (hex_digit (x % 16)) < 16 = rw (nibble_hex (x % 16) (omega arith)) (omega arith) in
    rw (lt-ltb (nibble (hex_digit (x / 16))) 16 a, lt-ltb (nibble (hex_digit (x % 16))) 16 b) (all_hex o (small_rest x o h))

high_at : (o : List ℕ) (j : ℕ) → j < length o → at (hex_of o) (2 * j) ≡ hex_digit (at o j / 16)
unfolding hex_of
high_at [] j h = absurd (omega arith)
high_at (x ∷ o) zero h = refl
high_at (x ∷ o) (suc j) h =
    let e : 2 * suc j ≡ suc (suc (2 * j)) = omega arith in
    rw e (high_at o j (omega arith))

low_at : (o : List ℕ) (j : ℕ) → j < length o → at (hex_of o) (2 * j + 1) ≡ hex_digit (at o j % 16)
unfolding hex_of
low_at [] j h = absurd (omega arith)
low_at (x ∷ o) zero h = refl
low_at (x ∷ o) (suc j) h =
    let e : 2 * suc j + 1 ≡ suc (suc (2 * j + 1)) = omega arith in
    rw e (low_at o j (omega arith))

pair_hex : (o : List ℕ) → ((i : ℕ) → at o i < 256) → (j : ℕ) → j < length o → pair_at (hex_of o) j ≡ at o j
unfolding pair_at
pair_hex o h j l =
    let s : at o j < 256 = h j in
    rw (high_at o j l, low_at o j l, nibble_hex (at o j / 16) (omega arith), nibble_hex (at o j % 16) (omega arith)) (omega arith)

listed_is : (o : List ℕ) (f : ℕ → ℕ) (i : ℕ) → ((j : ℕ) → j < length o → f (i + j) ≡ at o j) → listed (length o) i f ≡ o
unfolding listed
listed_is [] f i h = refl
listed_is (x ∷ o) f i h =
    let a : f i ≡ x = ap f (sym (add-zero i)) ∙ h 0 (omega arith) in
    let b : listed (length o) (i + 1) f ≡ o = listed_is o f (i + 1) (λ j l. ap f (more j) ∙ h (suc j) (omega arith)) in
    λ k. a k ∷ b k
  where
    more : (j : ℕ) → i + 1 + j ≡ i + suc j
    more j = omega arith

read_back : (o : List ℕ) → length o ≤ 513 → ((i : ℕ) → at o i < 256) → octets_of (hex_of o) ≡ o
unfolding octets_of
read_back o few h =
    let n : min (length (hex_of o) / 2) 513 ≡ length o = omega (arith, length_hex o) in
    rw n (listed_is o (pair_at (hex_of o)) 0 (λ j l. ap (pair_at (hex_of o)) (zero-add j) ∙ pair_hex o h j l))

is_octets_lem : (most : ℕ) (o : List ℕ) → length o ≤ most → ((i : ℕ) → at o i < 256) → is_octets most (hex_of o) ≡ true
unfolding is_octets
is_octets_lem most o few h =
    rw (eq-eqb (length (hex_of o) % 2) 0 (omega (arith, length_hex o)), le-leb (length (hex_of o) / 2) most (omega (arith, length_hex o)), all_hex o h) refl

pub sent_line_lem : (o : List ℕ) → OctetsWithin 513 o → entry_of (sent_line o) ≡ Sent o
unfolding entry_as capture.form_of same
sent_line_lem o s = rw (is_octets_lem 513 o s.few s.octets, read_back o s.few s.octets) refl

pub given_line_lem : (o : List ℕ) → OctetsWithin 513 o → entry_of (given_line o) ≡ Given o
unfolding entry_as capture.form_of same
given_line_lem o s = rw (is_octets_lem 513 o s.few s.octets, read_back o s.few s.octets) refl

-- ---- words are read back

-- neither a space nor a carriage return
is_letter : ℕ → Bool
is_letter c = not (c is 32) && not (c is 13)

letters : List ℕ → Bool
letters [] = true
letters (c ∷ w) = is_letter c && letters w

is_word : List ℕ → Bool
is_word [] = false
is_word (c ∷ w) = letters (c ∷ w)

abbrev Words : List (List ℕ) → Type 0
Words [] = Unit {0}
Words (w ∷ ws) = (is_word w ≡ true) × Words ws

not_space : (c : ℕ) → is_letter c ≡ true → (c is 32) ≡ false
unfolding is_letter
not_space c = by (c is 32) (c is 13)
  where
    by : (a b : Bool) → not a && not b ≡ true → a ≡ false
    by true b e = absurd (false≢true e)
    by false b e = refl

not_return : (c : ℕ) → is_letter c ≡ true → (c is 13) ≡ false
unfolding is_letter
not_return c = by (c is 32) (c is 13)
  where
    by : (a b : Bool) → not a && not b ≡ true → b ≡ false
    by true b e = absurd (false≢true e)
    by false true e = absurd (false≢true e)
    by false false e = refl

word_letters : (w : List ℕ) → is_word w ≡ true → letters w ≡ true
unfolding is_word
word_letters [] e = absurd (false≢true e)
word_letters (c ∷ w) e = e

-- a word up to its space, and the last one
up_to_space : (w s u : List ℕ) → letters w ≡ true → words_from u (w ++ (32 ∷ s)) ≡ ended (u ++ w) (words s)
unfolding words_from letters
up_to_space [] s u e = rw (append-nil u) refl
up_to_space (c ∷ w) s u e =
    rw (not_space c (and_left (is_letter c) (letters w) e)) (up_to_space w s (u ++ (c ∷ [])) (and_right (is_letter c) (letters w) e) ∙ rw (append_snoc u c w) refl)

up_to_end : (w u : List ℕ) → letters w ≡ true → words_from u w ≡ ended (u ++ w) []
unfolding words_from letters
up_to_end [] u e = rw (append-nil u) refl
up_to_end (c ∷ w) u e =
    rw (not_space c (and_left (is_letter c) (letters w) e)) (up_to_end w (u ++ (c ∷ [])) (and_right (is_letter c) (letters w) e) ∙ rw (append_snoc u c w) refl)

ended_word : (w : List ℕ) (ws : List (List ℕ)) → is_word w ≡ true → ended w ws ≡ w ∷ ws
unfolding is_word ended
ended_word [] ws e = absurd (false≢true e)
ended_word (c ∷ w) ws e = refl

words_spaced : (ws : List (List ℕ)) → Words ws → words (spaced ws) ≡ ws
unfolding spaced words_from ended
words_spaced [] h = refl
words_spaced (w ∷ []) h = up_to_end w [] (word_letters w h.0) ∙ ended_word w [] h.0
words_spaced (w ∷ v ∷ ws) h =
    up_to_space w (spaced (v ∷ ws)) [] (word_letters w h.0) ∙ ap (ended w) (words_spaced (v ∷ ws) h.1) ∙ ended_word w (v ∷ ws) h.0

-- no carriage return stands at its end
no_return : List ℕ → Bool
no_return [] = true
no_return (c ∷ s) = not (c is 13) && no_return s

none_at : (s : List ℕ) (i : ℕ) → no_return s ≡ true → (at s i is 13) ≡ false
unfolding no_return
none_at [] i e = refl
none_at (c ∷ s) zero e = by (c is 13) (and_left (not (c is 13)) (no_return s) e)
  where
    by : (b : Bool) → not b ≡ true → b ≡ false
    by true q = absurd (false≢true q)
    by false q = refl
none_at (c ∷ s) (suc i) e = none_at s i (and_right (not (c is 13)) (no_return s) e)

none_in : (w s : List ℕ) → letters w ≡ true → no_return s ≡ true → no_return (w ++ s) ≡ true
unfolding no_return letters
none_in [] s e h = h
none_in (c ∷ w) s e h = rw (not_return c (and_left (is_letter c) (letters w) e)) (none_in w s (and_right (is_letter c) (letters w) e) h)

none_spaced : (ws : List (List ℕ)) → Words ws → no_return (spaced ws) ≡ true
unfolding spaced no_return
none_spaced [] h = refl
none_spaced (w ∷ []) h = rw (append-nil w) at (none_in w [] (word_letters w h.0) refl)
none_spaced (w ∷ v ∷ ws) h = none_in w (32 ∷ spaced (v ∷ ws)) (word_letters w h.0) (none_spaced (v ∷ ws) h.1)

-- how long a line is at most
wide : List (List ℕ) → ℕ
wide [] = 0
wide (w ∷ ws) = length w + 1 + wide ws

long_spaced : (ws : List (List ℕ)) → length (spaced ws) ≤ wide ws
unfolding spaced wide
long_spaced [] = omega arith
long_spaced (w ∷ []) = omega arith
long_spaced (w ∷ v ∷ ws) = omega (arith, length-append w (32 ∷ spaced (v ∷ ws)), long_spaced (v ∷ ws))

-- a line of words that is not too long is read by its words
by_words : (ws : List (List ℕ)) → Words ws → wide ws ≤ 1100 → is_frame (spaced ws) ≡ false → event_line (spaced ws) ≡ event_of (keyword (first ws)) (others ws)
unfolding event_line returned
by_words ws h l f =
    rw (le-ltb 1100 (length (spaced ws)) (omega (arith, long_spaced ws)), none_at (spaced ws) (length (spaced ws) - 1) (none_spaced ws h), f, words_spaced ws h) refl

-- ---- numbers are read back

is_plain : Form → Bool
is_plain Form.Groups = false
is_plain Form.Flow = false
is_plain Form.Applications = false
is_plain Form.Plain = true

plain_is : (f : Form) → is_plain f ≡ true → f ≡ Form.Plain
unfolding is_plain
plain_is Form.Groups e = absurd (false≢true e)
plain_is Form.Flow e = absurd (false≢true e)
plain_is Form.Applications e = absurd (false≢true e)
plain_is Form.Plain e = refl

-- the digits of a number are a word of at most three letters, which names no feature and is read as the number
is_numeral : ℕ → Bool
is_numeral n =
    (is_word (decimal n) && length (decimal n) atmost 3) && ((is_number 255 (decimal n) && spelling.decimal (decimal n) is n) && is_plain (form_of (decimal n)))

all_below : ℕ → (ℕ → Bool) → Bool
all_below zero t = true
all_below (suc n) t = t n && all_below n t

one_below : (m n : ℕ) (t : ℕ → Bool) → all_below m t ≡ true → n < m → t n ≡ true
unfolding all_below
one_below zero n t e h = absurd (omega arith)
one_below (suc m) n t e h = by (n is m) refl (one_below m n t (and_right (t m) (all_below m t) e))
  where
    by : (b : Bool) → (n is m) ≡ b → (n < m → t n ≡ true) → t n ≡ true
    by true q k = ap t (eqb-true n m q) ∙ and_left (t m) (all_below m t) e
    by false q k = k (omega (arith, eqb-false n m q))

all_numerals : all_below 256 is_numeral ≡ true
unfolding all_below is_numeral is_word letters is_letter digits_of is_number decimal_digits is_digit decimal_from is_plain form_of same name_text
all_numerals = refl

record Numeral (n : ℕ) : Type 0 where
  word : is_word (decimal n) ≡ true
  short : length (decimal n) ≤ 3
  read : number 255 (decimal n) ≡ Some n
  form : form_of (decimal n) ≡ Form.Plain

numeral : (n : ℕ) → n ≤ 255 → Numeral n
unfolding is_numeral number
numeral n h = by (one_below 256 n is_numeral all_numerals (omega arith))
  where
    d : List ℕ
    d = decimal n

    by : (is_word d && length d atmost 3) && ((is_number 255 d && spelling.decimal d is n) && is_plain (form_of d)) ≡ true → Numeral n
    by e =
        let a : is_word d && length d atmost 3 ≡ true = and_left (is_word d && length d atmost 3) ((is_number 255 d && spelling.decimal d is n) && is_plain (form_of d)) e in
        let b : (is_number 255 d && spelling.decimal d is n) && is_plain (form_of d) ≡ true =
        and_right (is_word d && length d atmost 3) ((is_number 255 d && spelling.decimal d is n) && is_plain (form_of d)) e in
        let c : is_number 255 d && spelling.decimal d is n ≡ true = and_left (is_number 255 d && spelling.decimal d is n) (is_plain (form_of d)) b in
        record {
          word = and_left (is_word d) (length d atmost 3) a;
          short = leb-true (length d) 3 (and_right (is_word d) (length d atmost 3) a);
          read = rw (and_left (is_number 255 d) (spelling.decimal d is n) c) (ap Some (eqb-true (spelling.decimal d) n (and_right (is_number 255 d) (spelling.decimal d is n) c)));
          form = plain_is (form_of d) (and_right (is_number 255 d && spelling.decimal d is n) (is_plain (form_of d)) b);
        }

-- ---- bits, flags, gone

bit_word_lem : (b : Bool) → is_word (bit_word b) ≡ true
unfolding bit_word is_word letters is_letter
bit_word_lem true = refl
bit_word_lem false = refl

bit_long : (b : Bool) → length (bit_word b) ≡ 1
unfolding bit_word
bit_long true = refl
bit_long false = refl

pub gone_line : entry_of (text "gone") ≡ Changed change.PeerGone []
unfolding entry_as capture.form_of same event_line returned is_frame words_from ended first others keyword event_of alone line_of held told_by entry_by change_on
gone_line = refl

pub flag_line : (x : Flag) (on : Bool) → entry_of (spaced (flag_word x ∷ bit_word on ∷ [])) ≡ Changed (change.Flag x on) []
unfolding spaced flag_word bit_word entry_as capture.form_of same event_line returned is_frame words_from ended first others keyword script.flag_word event_of flag flag_bit field_number number is_number decimal_digits is_digit decimal_from alone line_of held told_by entry_by change_on
flag_line flags.Admin true = refl
flag_line flags.Admin false = refl
flag_line flags.Receive true = refl
flag_line flags.Receive false = refl
flag_line flags.Transmit true = refl
flag_line flags.Transmit false = refl
flag_line flags.Several true = refl
flag_line flags.Several false = refl

-- ---- settings

digit_letter : (d : ℕ) → d < 16 → is_letter (hex_digit d) ≡ true
unfolding is_letter
digit_letter d h = by (d below 10)
  where
    by : (b : Bool) → not ((if b then 48 + d else 87 + d) is 32) && not ((if b then 48 + d else 87 + d) is 13) ≡ true
    by true = rw (ne_eqb (48 + d) 32 (omega arith), ne_eqb (48 + d) 13 (omega arith)) refl
    by false = rw (ne_eqb (87 + d) 32 (omega arith), ne_eqb (87 + d) 13 (omega arith)) refl

hex_letters : (o : List ℕ) → ((i : ℕ) → at o i < 256) → letters (hex_of o) ≡ true
unfolding letters hex_of
hex_letters [] h = refl
hex_letters (x ∷ o) h =
    let s : x < 256 = h 0 in
    rw (digit_letter (x / 16) (omega arith), digit_letter (x % 16) (omega arith)) (hex_letters o (small_rest x o h))

-- the words behind the number
abbrev behind : Switches → List (List ℕ) → List (List ℕ)
behind w ps = text "advertise" ∷ bit_word w.advertise ∷ text "enable" ∷ bit_word w.enable ∷ text "willing" ∷ bit_word w.willing ∷ ps

abbrev switched : Bool → Bool → Bool → Switches
switched a e w = record { advertise = a; enable = e; willing = w }

module _ (n : ℕ) (o : List ℕ) where
  without : (a e w : Bool) → setting_with 3 n (values_of Form.Plain (behind (switched a e w) [])) (λ v. o) ≡ Ok (line_of (Kind.Setting n (switched a e w)) o)
  unfolding bit_word setting_with setting_kind values_of values_from onward line_ended field_number said name_text same due fields switches may_end number is_number decimal_digits is_digit decimal_from
  without true true true = refl
  without true true false = refl
  without true false true = refl
  without true false false = refl
  without false true true = refl
  without false true false = refl
  without false false true = refl
  without false false false = refl

  having : (h : List ℕ) → is_octets 507 h ≡ true → (a e w : Bool)
      → setting_with 3 n (values_of Form.Plain (behind (switched a e w) (text "parameters" ∷ h ∷ []))) (λ v. o) ≡ Ok (line_of (Kind.Setting n (switched a e w)) o)
  unfolding bit_word setting_with setting_kind values_of values_from onward line_ended field_number said name_text same due fields switches may_end number is_number decimal_digits is_digit decimal_from
  having h q true true true = rw q refl
  having h q true true false = rw q refl
  having h q true false true = rw q refl
  having h q true false false = rw q refl
  having h q false true true = rw q refl
  having h q false true false = rw q refl
  having h q false false true = rw q refl
  having h q false false false = rw q refl

plain_read : (n : ℕ) (w : Switches) (o : List ℕ) → OctetsWithin 507 o
    → plain n (behind w (parameter_words o)) ≡ Ok (line_of (Kind.Setting n w) o)
unfolding plain parameter_words first octets_of listed
plain_read n w [] r = without n [] w.advertise w.enable w.willing
plain_read n w (x ∷ o) r =
    having n (octets_of (hex_of (x ∷ o))) (hex_of (x ∷ o)) (is_octets_lem 507 (x ∷ o) r.few r.octets) w.advertise w.enable w.willing
    ∙ ap (λ (y : List ℕ). Ok (line_of (Kind.Setting n w) y)) (read_back (x ∷ o) (omega (arith, r.few)) r.octets)

module _ (n : ℕ) (w : Switches) (h : n ≤ 255) where
  setting_words_lem : (o : List ℕ) → OctetsWithin 507 o → Words (setting_words n w o)
  unfolding setting_words parameter_words is_word letters is_letter hex_of
  setting_words_lem [] r = (refl, ((numeral n h).word, (refl, (bit_word_lem w.advertise, (refl, (bit_word_lem w.enable, (refl, (bit_word_lem w.willing, tt))))))))
  setting_words_lem (x ∷ o) r =
      (refl, ((numeral n h).word, (refl, (bit_word_lem w.advertise, (refl, (bit_word_lem w.enable, (refl, (bit_word_lem w.willing, (refl, (hex_letters (x ∷ o) r.octets, tt))))))))))

  setting_wide : (o : List ℕ) → OctetsWithin 507 o → wide (setting_words n w o) ≤ 1100
  unfolding setting_words parameter_words wide
  setting_wide [] r = omega (arith, (numeral n h).short, bit_long w.advertise, bit_long w.enable, bit_long w.willing)
  setting_wide (x ∷ o) r =
      omega (arith, (numeral n h).short, bit_long w.advertise, bit_long w.enable, bit_long w.willing, length_hex (x ∷ o), r.few)

  setting_read : (o : List ℕ) → OctetsWithin 507 o → event_line (spaced (setting_words n w o)) ≡ Ok (line_of (Kind.Setting n w) o)
  unfolding setting_words spaced is_frame same keyword first others event_of change_of numbered
  setting_read o r =
      let e : n % 256 ≡ n = omega arith in
      by_words (setting_words n w o) (setting_words_lem o r) (setting_wide o r) refl ∙ rw ((numeral n h).form, (numeral n h).read, e) (plain_read n w o r)

  pub setting_line_lem : (o : List ℕ) → OctetsWithin 507 o → entry_of (spaced (setting_words n w o)) ≡ Changed (change.Setting n w) o
  unfolding setting_words spaced entry_as capture.form_of same line_of held told_by entry_by change_on
  setting_line_lem o r = rw (setting_read o r) (ap (Changed (change.Setting n w)) (pending_held 513 o))
