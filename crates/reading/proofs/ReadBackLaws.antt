-- Octets that were written are read back: theorems on the walk and on `read_frame`, by values. Assumes nothing.
use Rattle.std.specs.Prelude.{Ok, ℕ, ◌<◌, ◌≡◌, refl, List, ◌++◌, length}
use Rattle.std.proofs.Common.{arith, length-append, drop_at}
use Rattle.tlv.specs.Layout.{frame_head}
use Rattle.contents.specs.Contents.{no_contents}
use Rattle.reading.specs.Reading.{walked, read_frame}
use Rattle.reading.proofs.ValuesLaws.{Tlv, octets_all, frame_of, Values, OneControl, values_in, no_values, noted_values, Parts, parts_octets, parts_values, LaidOut}
use Rattle.reading.proofs.WrittenLaws.{Sized, Walks, walks_written, sized, frame_accepted, parts_tlvs, parts_octets_lem, parts_noted}

-- behind any six octets the walk finds the values of the sub-TLVs that were written, and comes to the end
pub walked_written : (six : List ℕ) (ts : List Tlv) → length six ≡ 6 → Sized ts
    → Walks (six ++ octets_all ts) (walked (six ++ octets_all ts)) (noted_values ts no_values)
unfolding walked
walked_written six ts l z =
    let o : List ℕ = six ++ octets_all ts in
    walks_written o ts (length o) 6 no_contents z (omega (arith, length-append six (octets_all ts))) (drop_at six (octets_all ts) 6 l)

-- a frame is accepted, with these values
pub record ReadBack (o : List ℕ) (x : Values) : Type 0 where
  pub accepted : read_frame o ≡ Ok (walked o).contents
  pub values : values_in o (walked o).contents ≡ x

pub read_written : (ts : List Tlv) → length (octets_all ts) < 508 → OneControl (noted_values ts no_values) → ReadBack (frame_of ts) (noted_values ts no_values)
read_written ts h v =
    let w = walked_written (frame_head (length (octets_all ts))) ts (omega arith) (sized ts (omega arith)) in
    record { accepted = frame_accepted ts h w v; values = w.values }

-- a frame in the order of writing
pub read_parts : (p : Parts) → length (parts_octets p) < 508 → LaidOut p → ReadBack (frame_head (length (parts_octets p)) ++ parts_octets p) (parts_values p)
read_parts p h l =
    let ts : List Tlv = parts_tlvs p in
    let e : octets_all ts ≡ parts_octets p = parts_octets_lem p in
    let v : noted_values ts no_values ≡ parts_values p = parts_noted p l in
    let one : OneControl (parts_values p) = record { once = refl; long = l.long; versions = l.versions } in
    rw (← e, ← v) (read_written ts (rw e h) (rw v one))
