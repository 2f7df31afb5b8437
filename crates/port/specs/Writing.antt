-- 01, TLV layout, Writing: "control, then the advertised features in ascending type". In place of "The frame always carries the present settings"
-- 02, E5: "The port shall keep, beside each feature's present state, the sub-TLV last released, and write that one".
use Rattle.std.specs.Prelude.{ℕ, ◌+◌, Bool, not, ◌≡◌, List, [], ◌∷◌, ◌++◌, length, drop, if◌then◌else◌, Ok, Err}
use Rattle.octets.specs.Words.{◌below◌}
use Rattle.octets.specs.Octets.{octets4, same, head}
use Rattle.tlv.specs.Layout.{fixed_octets}
use Rattle.tlv.specs.declared.Refusal.TheVariants.{NotRunning, ShortOutput}
use Rattle.parameters.specs.declared.Feature.{Feature}
use Rattle.parameters.specs.declared.Feature.TheVariants.{Groups, Flow, Applications}
use Rattle.machine.specs.State.{release_tlv}
use Rattle.port.specs.declared.Control.{Control}
use Rattle.port.specs.declared.Port.{Port}
use Rattle.port.specs.Types.{Written}
use Rattle.port.specs.Parts.{feature_of, released_of, running}

-- "Type 1, control, length 10: Oper version, Max version, SeqNo (4), AckNo (4)."
abbrev pub control_value : Control → List ℕ
control_value c = c.oper ∷ c.max ∷ (octets4 c.seq ++ octets4 c.ack)

-- the sub-TLV of a feature that was last released
abbrev pub released_tlv : Port → Feature → List ℕ
released_tlv p f = release_tlv f (feature_of p f).max (released_of p f)

unfoldable pub sub_tlvs : Port → List ℕ
sub_tlvs p = head 1 10 ++ control_value p.control ++ (released_tlv p Groups ++ (released_tlv p Flow ++ released_tlv p Applications))

-- "The TLV is type 127, OUI 00 1b 21, subtype 2, then sub-TLVs"
unfoldable pub frame : Port → List ℕ
frame p = head 127 (4 + length (sub_tlvs p)) ++ fixed_octets ++ sub_tlvs p

-- 01, Send rule: "An event asks for a send exactly if the octets to be written differ before and after it; a stopped port has none"
unfoldable pub to_write : Port → List ℕ
to_write p = if running p then frame p else []

unfoldable pub asks : Port → Port → Bool
asks before after = not (same (to_write before) (to_write after))

-- A request to write: the answer, and the lent output afterwards. "A written frame changes only its own octets of the output."
unfoldable pub written : Port → List ℕ → Written
written p out =
    if not (running p) then Err NotRunning
    else if length out below length (frame p) then Err ShortOutput
    else Ok (length (frame p))

unfoldable pub output : Port → List ℕ → List ℕ
output p out =
    if not (running p) then out
    else if length out below length (frame p) then out
    else frame p ++ drop (length (frame p)) out

-- both as one promise
pub record Wrote (p : Port) (out : List ℕ) (r : Written) (now : List ℕ) : Type 0 where
  pub answers : r ≡ written p out
  pub octets : now ≡ output p out
