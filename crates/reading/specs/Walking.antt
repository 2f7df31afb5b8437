-- 01, TLV layout: "The reader hands out sub-TLVs one at a time over the caller's own octets and copies none." What the thin reader
-- promises, and what a caller meets who walks with it.
use Rattle.tlv.specs.Refusals.{rejection}
use Rattle.std.specs.Prelude.{Err, ℕ, ◌+◌, ◌≡◌, true, ◌↔◌, List, [], ◌∷◌, length, if◌then◌else◌}
use Rattle.std.specs.Borrow.{Bor}
use Rattle.tlv.specs.declared.Refusal.TheVariants.{PastEnd}
use Rattle.tlv.specs.declared.Head.{Head}
use Rattle.tlv.specs.declared.Head.TheVariants.{End, Past, SubTlv}
use Rattle.contents.specs.declared.Contents.{Contents}
use Rattle.reading.specs.declared.reader.Reader.{Reader}
use Rattle.tlv.specs.Layout.{length_at, head_at, is_dcbx}
use Rattle.contents.specs.Contents.{noted, no_contents}
use Rattle.reading.specs.Reading.{walked, read_frame}

-- `new`: over the caller's octets, at the first sub-TLV behind the TLV's six
abbrev pub New : Bor (List ℕ) → Reader → Type 0
New src r = (r.src ≡ src) × (r.at ≡ 6)

-- `next`: what stands at the reader's place
abbrev pub Next : Reader → Head → Type 0
Next r h = h ≡ head_at r.src.now r.at

-- `moved`: over the same octets, at the place given
abbrev pub Moved : Reader → ℕ → Reader → Type 0
Moved r place q = (q.src ≡ r.src) × (q.at ≡ place)

-- a sub-TLV as `next` hands it out
pub record Handed : Type 0 where
  pub type : ℕ
  pub start : ℕ
  pub length : ℕ

-- A walk with the reader r: the sub-TLVs that `next` hands out, in order, while the reader is moved behind each; and the place of the
-- answer that is none, and this answer.
pub data Meets : Reader → List Handed → ℕ → Head → Type 0 where
  ends : {r : Reader} → Next r End → Meets r [] r.at End
  overruns : {r : Reader} → Next r Past → Meets r [] r.at Past
  hands : {r q : Reader} {type start n : ℕ} {ms : List Handed} {place : ℕ} {last : Head}
      → Next r (SubTlv type start n) → Moved r (start + n) q → Meets q ms place last
      → Meets r (record { type = type; start = start; length = n } ∷ ms) place last

-- sub-TLVs noted one after the other
unfoldable pub noted_all : List ℕ → List Handed → Contents → Contents
noted_all o [] c = c
noted_all o (m ∷ ms) c = noted_all o ms (noted o c m.type m.start m.length)

-- what is met is what `walked` notes, in order; then comes the end, or past exactly where the walk says so: where refusal 5 is given,
-- with this place, in a frame that 3 and 4 leave
pub record AsWalked (o : List ℕ) (ms : List Handed) (i : ℕ) (last : Head) : Type 0 where
  pub contents : (walked o).contents ≡ noted_all o ms no_contents
  pub place : (walked o).place ≡ i
  pub answer : last ≡ (if (walked o).past then Past else End)
  pub refused : is_dcbx o ≡ true → length_at o 0 + 2 ≡ length o → (last ≡ Past) ↔ (read_frame o ≡ Err (rejection PastEnd i))

-- The thin reader can be walked with: from `new` on there is a walk to an end, and each is as `walked` says.
pub record Walkable (src : Bor (List ℕ)) : Type 0 where
  pub ends : (r : Reader) → New src r → (ms : List Handed) × (place : ℕ) × (last : Head) × Meets r ms place last
  pub met : (r : Reader) (ms : List Handed) (place : ℕ) (last : Head) → New src r → Meets r ms place last → AsWalked src.now ms place last
