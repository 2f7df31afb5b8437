-- Writing a frame and the wish to send: what their functions promise, and a law for each way out of them, with premises in the form in
-- which a test leaves them. Assumes nothing.
use Rattle.std.specs.Prelude.{ℕ, ◌+◌, ◌≤◌, ◌≡◌, Bool}
use mathlib.Core.List.{List, ◌++◌}
use Rattle.std.proofs.Math.ListN.{length}
use Rattle.octets.specs.Octets.{head}
use Rattle.parameters.specs.declared.Feature.{Feature}
use Rattle.parameters.specs.declared.Feature.TheVariants.{Groups, Flow, Applications}
use Rattle.feature.specs.declared.Release.{Release}
use Rattle.machine.specs.State.{release_tlv, differing}
use Rattle.port.specs.declared.Control.{Control}
use Rattle.port.specs.declared.Port.{Port}
use Rattle.port.specs.Writing.{control_value, released_tlv, frame}

-- ---- the parts of a frame

abbrev pub control_tlv : Control → List ℕ
control_tlv c = head 1 10 ++ control_value c

abbrev pub feature_tlvs : Port → List ℕ
feature_tlvs p = released_tlv p Groups ++ (released_tlv p Flow ++ released_tlv p Applications)

-- ---- promises

-- the number of a frame's octets: 18, and three sub-TLVs of at most 102
pub record FrameLength (p : Port) (n : ℕ) : Type 0 where
  pub is : n ≡ length (frame p)
  pub parts : n ≡ 18 + length (released_tlv p Groups) + length (released_tlv p Flow) + length (released_tlv p Applications)
  pub small : n ≤ 324

-- whether a feature's sub-TLVs differ, each of at most 102 octets
pub record Differs (f : Feature) (m : ℕ) (x : Release) (n : ℕ) (y : Release) (r : Bool) : Type 0 where
  pub is : r ≡ differing f m x n y
  pub before : length (release_tlv f m x) ≤ 102
  pub after : length (release_tlv f n y) ≤ 102
