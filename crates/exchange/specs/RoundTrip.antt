-- 02, E5: "The port shall keep, beside each feature's present state, the sub-TLV last released, and write that one". The round trip: what is written reads
-- back as what was released. Nothing is asked of the present settings: while a change waits, what is read is what was released before it (such ports:
-- worked/Worked, `waiting`).
use Rattle.std.specs.Prelude.{ℕ, ◌≡◌, Bool, true, false, List, take, Ok}
use Rattle.contents.specs.declared.Contents.{Contents}
use Rattle.tlv.specs.declared.Revision.{Revision}
use Rattle.tlv.specs.Revisions.{has_applications}
use Rattle.reading.specs.Revisions.{read_for}
use Rattle.parameters.specs.declared.Feature.{Feature}
use Rattle.parameters.specs.Parameters.{content}
use Rattle.feature.specs.declared.Release.{Release}
use Rattle.feature.specs.Outcome.{Received, oper_of, max_of, enable_of, willing_of, error_of, parameters_of}
use Rattle.machine.specs.State.{value}
use Rattle.port.specs.declared.Port.{Port}
use Rattle.port.specs.Parts.{feature_of, released_of, three}
use Rattle.port.specs.Writing.{frame, written, output}
use Rattle.port.specs.Sound.{SoundPort}
use Rattle.admission.specs.Admission.{message}
use Rattle.recorder.specs.declared.Recorder.{Recorder}
use Rattle.recorder.specs.Recorder.{port_at}
use Rattle.recorder.specs.Recorder as recorder
use Rattle.calls.specs.Sound.{Reachable}

-- 02, E11: "Under 1.0 type 4 is skipped like any unknown type": the features that a reader of a revision has
abbrev pub knows : Revision → Feature → Bool
knows v f = three true true (has_applications v) f

-- "Types 2 to 4, features: Oper, Max, flags, SubType, then parameters." What was found of a feature is one sub-TLV, and its value is that of a release at
-- a highest version: to the octet, and so by each of its parts.
pub record FoundOnce (highest : ℕ) (x : Release) (found : Received) : Type 0 where
  pub once : found.count ≡ 1
  pub octets : found.value ≡ value highest x
  pub oper : oper_of found.value ≡ x.oper
  pub max : max_of found.value ≡ highest
  pub enable : enable_of found.value ≡ x.setting.enable
  pub willing : willing_of found.value ≡ x.setting.willing
  pub error : error_of found.value ≡ x.error
  pub parameters : parameters_of found.value ≡ content x.setting.desired

-- Octets are read by a reader of a revision, without refusal, as what port p has last released.
pub record ReadsBack (v : Revision) (p : Port) (octets : List ℕ) : Type 0 where
  pub contents : Contents
  pub accepted : read_for v octets ≡ Ok contents
  -- "Type 1, control, length 10: Oper version, Max version, SeqNo (4), AckNo (4).": exactly one, the port's own
  pub control : contents.control.count ≡ 1
  pub oper : (message octets contents).oper ≡ p.control.oper
  pub max : (message octets contents).max ≡ p.control.max
  pub seq : (message octets contents).seq ≡ p.control.seq
  pub ack : (message octets contents).ack ≡ p.control.ack
  -- of a feature that was released as advertised, that release, with the highest version that the port has from its creation on
  pub released : (f : Feature) → knows v f ≡ true → (released_of p f).setting.advertise ≡ true
      → FoundOnce (feature_of p f).max (released_of p f) ((message octets contents).has f)
  -- of one that was released as not advertised, none; nor of applications by a reader of Rev 1.0
  pub withheld : (f : Feature) → (released_of p f).setting.advertise ≡ false → ((message octets contents).has f).count ≡ 0
  pub skipped : (f : Feature) → knows v f ≡ false → ((message octets contents).has f).count ≡ 0

-- the frame of a port; and what an accepted request to write leaves in the output that it was lent
pub record RoundTrip (p : Port) : Type 0 where
  pub frames : (v : Revision) → ReadsBack v p (frame p)
  pub writes : (v : Revision) (out : List ℕ) (n : ℕ) → written p out ≡ Ok n → ReadsBack v p (take n (output p out))

-- of every sound port; so of every port of a reachable recorder, after any calls; and of each accepted request to write there
pub record RoundTrips : Type 0 where
  pub of_ports : (p : Port) → SoundPort p → RoundTrip p
  pub of_recorders : (r : Recorder) → Reachable r → (n : ℕ) → RoundTrip (port_at r n)
  pub operated : (r : Recorder) → Reachable r → (n : ℕ) (v : Revision) (out : List ℕ) (k : ℕ) → recorder.written n (port_at r n) out ≡ Ok k
      → ReadsBack v (port_at r n) (take k (recorder.output n (port_at r n) out))
