-- What every reachable port has: lengths, ranges, Oper at most Max, valid settings, also of what was last released; and how far what is released
-- is the present (`InStep`). (In antt an array is a list of any length and a
-- number has no bound, so theorems over ports need it.)
use Rattle.std.specs.Prelude.{ℕ, ◌<◌, ◌≤◌, ◌^◌, ◌≡◌, Bool, true, false, not, ◌&&◌, ◌⊎◌, [], Option, None, Some}
use Rattle.tlv.specs.Revisions.{has_applications}
use Rattle.parameters.specs.declared.Feature.{Feature}
use Rattle.parameters.specs.declared.Feature.TheVariants.{Applications}
use Rattle.parameters.specs.declared.Parameters.{Parameters}
use Rattle.parameters.specs.Parameters as parameters
use Rattle.feature.specs.declared.Setting.{Setting}
use Rattle.feature.specs.declared.Peer.{Peer}
use Rattle.feature.specs.declared.State.{State}
use Rattle.feature.specs.declared.Release.{Release}
use Rattle.machine.specs.State.{next, sub_tlv, setting_of}
use Rattle.port.specs.declared.Control.{Control}
use Rattle.port.specs.declared.Port.{Port}
use Rattle.port.specs.Parts.{switched_off, feature_of, released_of, running}
use Rattle.port.specs.Writing.{released_tlv}

-- valid parameters as a state holds them: 96 places, zero past the length, and no application entry but our own
pub record SoundParameters (f : Feature) (p : Parameters) : Type 0 where
  pub whole : p ≡ parameters.stored (parameters.content p)
  pub own : parameters.ours f (parameters.content p) ≡ parameters.content p
  pub valid : parameters.valid f (parameters.content p) ≡ true

pub record SoundSetting (f : Feature) (s : Setting) : Type 0 where
  pub desired : SoundParameters f s.desired
  pub local : parameters.local_values f (parameters.content s.desired) ≡ true

pub record SoundPeer (f : Feature) (o : Option Peer) : Type 0 where
  pub some : (p : Peer) → o ≡ Some p → SoundParameters f p.parameters

-- Rule 7 applies, to a peer that is held: "Willing differs: the unwilling end's configuration". So an end adopts its peer's exactly if it is
-- the willing one.
abbrev pub adopts_by : Setting → Option Peer → Bool
adopts_by s None = false
adopts_by s (Some p) = s.enable && p.enable && s.willing && not p.willing

-- of a feature that is not advertised no peer is held
pub record SoundState (f : Feature) (x : State) : Type 0 where
  pub max : x.max < 256
  pub oper : x.outcome.oper ≤ x.max
  pub sequence : x.sequence < 2 ^ 32
  pub setting : SoundSetting f x.setting
  pub peer : SoundPeer f x.outcome.peer
  -- so OperCfg is sound too (proofs/Soundness: `configuration_sound`)
  pub adopts : x.outcome.adopts ≡ adopts_by x.setting x.outcome.peer
  pub withheld : x.setting.advertise ≡ false → x.outcome.peer ≡ None

pub record SoundControl (c : Control) : Type 0 where
  pub max : c.max < 256
  pub oper : c.oper ≤ c.max
  pub seq : c.seq < 2 ^ 32
  pub ack : c.ack < 2 ^ 32
  pub rcvd : c.rcvd < 2 ^ 32

-- what was last released of a feature with a Max: well-formed, so that it is read as it is written
pub record SoundRelease (f : Feature) (max : ℕ) (r : Release) : Type 0 where
  pub oper : r.oper ≤ max
  pub setting : SoundSetting f r.setting

-- 02, E11: "for 1.0 creation takes no setting for type 4, which is held unadvertised, not enabled and empty"
pub record NoApplications (x : State) : Type 0 where
  pub setting : x.setting ≡ setting_of Applications switched_off []
  pub max : x.max ≡ 0

pub record SoundPort (p : Port) : Type 0 where
  pub control : SoundControl p.control
  pub features : (f : Feature) → SoundState f (feature_of p f)
  pub released : (f : Feature) → SoundRelease f (feature_of p f).max (released_of p f)
  pub revision : has_applications p.revision ≡ false → NoApplications p.applications
  -- nor are applications released there
  pub withheld : has_applications p.revision ≡ false → p.released.applications.setting ≡ setting_of Applications switched_off []

-- 02, E5: what is released of a feature is its present sub-TLV, but for a change that waits for SeqNo to be acknowledged.
pub record InStep (p : Port) : Type 0 where
  -- a feature that is not Syncd was released under the present SeqNo, or will be under the next
  pub number : (f : Feature) → (feature_of p f).syncd ≡ false → ((feature_of p f).sequence ≡ p.control.seq) ⊎ ((feature_of p f).sequence ≡ next p.control.seq)
  -- one that is Syncd never waits, nor does one that was released under the present SeqNo
  pub synced : (f : Feature) → (feature_of p f).syncd ≡ true → released_tlv p f ≡ sub_tlv f (feature_of p f)
  pub asked : (f : Feature) → (feature_of p f).sequence ≡ p.control.seq → released_tlv p f ≡ sub_tlv f (feature_of p f)
  -- the send rule is done: where SeqNo is acknowledged, each feature is Syncd
  pub done : running p ≡ true → p.control.rcvd ≡ p.control.seq → (f : Feature) → (feature_of p f).syncd ≡ true
