-- The fresh state of a sound port is sound, has its settings and flags, and is its own fresh state. Assumes nothing.
use Prim.Native.Nat.{ℕ, ◌<◌, ◌^◌}
use native.Mathlib.Nat.{le_refl}
use mathlib.Core.Path.{◌≡◌, refl, ap, ◌∙◌}
use mathlib.Core.Bool.{Bool, true, false, ◌&&◌}
use lib.Dec.{lit<}
use Rattle.std.specs.Prelude.{if◌then◌else◌}
use Rattle.parameters.specs.declared.Feature.{Feature}
use Rattle.parameters.specs.declared.Feature.TheVariants.{Groups, Flow, Applications}
use Rattle.feature.specs.declared.Reason.TheVariants.{NoPeerYet, NotAdvertised}
use Rattle.feature.specs.declared.Setting.{Setting}
use Rattle.feature.specs.declared.State.{State}
use Rattle.feature.specs.Outcome.{no_peer, without_peer}
use Rattle.machine.specs.State.{next, fresh_at, fresh, stopped, present}
use Rattle.port.specs.declared.Control.{Control}
use Rattle.port.specs.declared.Port.{Port}
use Rattle.port.specs.Parts.{feature_of, with_control, with_features, presents, release, running}
use Rattle.sending.specs.Sending.{with_seq, raises_seq_no, sent, fresh_control, fresh_parts, fresh_port}
use Rattle.port.specs.Sound.{SoundSetting, SoundState, SoundRelease, NoApplications, SoundPort}
use Rattle.tlv.specs.Revisions.{has_applications}
use Rattle.invariants.proofs.Soundness.{none_sound, port_sound, present_sound, sent_sound}

-- ---- one feature

module _ (sequence max : ℕ) (s : Setting) where
  -- over its test: is the feature advertised
  abbrev made : Bool → State
  made b =
      if b then record { max = max; setting = s; outcome = without_peer NoPeerYet max false; syncd = false; sequence = sequence }
      else
      record {
        max = max;
        setting = s;
        outcome = record { reason = NotAdvertised; oper = max; error = false; mode = s.enable; peer = no_peer; adopts = false };
        syncd = true;
        sequence = sequence;
      }

  made_max : (b : Bool) → (made b).max ≡ max
  made_max true = refl
  made_max false = refl

  made_setting : (b : Bool) → (made b).setting ≡ s
  made_setting true = refl
  made_setting false = refl

  made_sound : (f : Feature) (b : Bool) → max < 256 → sequence < 2 ^ 32 → SoundSetting f s → SoundState f (made b)
  made_sound f true h n k =
      record { max = h; oper = le_refl max; sequence = n; setting = k; peer = none_sound f; adopts = refl; withheld = λ e. refl }
  made_sound f false h n k =
      record { max = h; oper = le_refl max; sequence = n; setting = k; peer = none_sound f; adopts = refl; withheld = λ e. refl }

  pub fresh_max : (fresh_at sequence max s).max ≡ max
  unfolding fresh_at
  fresh_max = made_max s.advertise

  pub fresh_setting : (fresh_at sequence max s).setting ≡ s
  unfolding fresh_at
  fresh_setting = made_setting s.advertise

  pub fresh_sound : (f : Feature) → max < 256 → sequence < 2 ^ 32 → SoundSetting f s → SoundState f (fresh_at sequence max s)
  unfolding fresh_at
  fresh_sound f h n k = made_sound f s.advertise h n k

pub state_again : (max : ℕ) (s : Setting) → fresh (fresh max s).max (fresh max s).setting ≡ fresh max s
state_again max s = λ i. fresh (fresh_max 1 max s i) (fresh_setting 1 max s i)

stopped_sound : (f : Feature) (x : State) → SoundState f x → SoundState f (stopped x)
stopped_sound f x h = record { max = h.max; oper = h.oper; sequence = h.sequence; setting = h.setting; peer = h.peer; adopts = h.adopts; withheld = h.withheld }

-- ---- what a fresh state takes from a port: versions, settings and flags

pub record Alike (p q : Port) : Type 0 where
  pub revision : q.revision ≡ p.revision
  pub admin : q.admin ≡ p.admin
  pub receive : q.receive ≡ p.receive
  pub transmit : q.transmit ≡ p.transmit
  pub several : q.several ≡ p.several
  pub control : q.control.max ≡ p.control.max
  pub max : (f : Feature) → (feature_of q f).max ≡ (feature_of p f).max
  pub setting : (f : Feature) → (feature_of q f).setting ≡ (feature_of p f).setting

alike_trans : (p q r : Port) → Alike p q → Alike q r → Alike p r
alike_trans p q r h k =
    record {
      revision = k.revision ∙ h.revision;
      admin = k.admin ∙ h.admin;
      receive = k.receive ∙ h.receive;
      transmit = k.transmit ∙ h.transmit;
      several = k.several ∙ h.several;
      control = k.control ∙ h.control;
      max = λ f. k.max f ∙ h.max f;
      setting = λ f. k.setting f ∙ h.setting f;
    }

-- the send rule keeps them
of_release : (p : Port) (c : Control) (f : Feature) → feature_of (release (with_control p c)) f ≡ feature_of p f
of_release p c Groups = refl
of_release p c Flow = refl
of_release p c Applications = refl

module _ (p : Port) where
  counted_alike : (b : Bool) → Alike p (if b then release (with_control p (with_seq p.control (next p.control.seq))) else p)
  counted_alike false = record { revision = refl; admin = refl; receive = refl; transmit = refl; several = refl; control = refl; max = λ f. refl; setting = λ f. refl }
  counted_alike true =
      let c : Control = with_seq p.control (next p.control.seq) in
      record {
        revision = refl;
        admin = refl;
        receive = refl;
        transmit = refl;
        several = refl;
        control = refl;
        max = λ f. ap (λ (x : State). x.max) (of_release p c f);
        setting = λ f. ap (λ (x : State). x.setting) (of_release p c f);
      }

  pub sent_alike : Alike p (sent p)
  unfolding sent
  sent_alike = counted_alike (raises_seq_no p)

pub runs_alike : (p q : Port) → Alike p q → running q ≡ running p
runs_alike p q h = λ i. h.admin i && h.receive i && h.transmit i

-- ---- the fresh state of a port

module _ (p : Port) where
  parts_max : (f : Feature) → (feature_of (fresh_parts p) f).max ≡ (feature_of p f).max
  parts_max Groups = fresh_max 1 p.groups.max p.groups.setting
  parts_max Flow = fresh_max 1 p.flow.max p.flow.setting
  parts_max Applications = fresh_max 1 p.applications.max p.applications.setting

  parts_setting : (f : Feature) → (feature_of (fresh_parts p) f).setting ≡ (feature_of p f).setting
  parts_setting Groups = fresh_setting 1 p.groups.max p.groups.setting
  parts_setting Flow = fresh_setting 1 p.flow.max p.flow.setting
  parts_setting Applications = fresh_setting 1 p.applications.max p.applications.setting

  parts_alike : Alike p (fresh_parts p)
  parts_alike = record { revision = refl; admin = refl; receive = refl; transmit = refl; several = refl; control = refl; max = parts_max; setting = parts_setting }

  abbrev still : Port
  still = with_features (fresh_parts p) (λ f. stopped (feature_of (fresh_parts p) f))

  still_alike : Alike p still
  still_alike = record { revision = refl; admin = refl; receive = refl; transmit = refl; several = refl; control = refl; max = max; setting = setting }
    where
      max : (f : Feature) → (feature_of still f).max ≡ (feature_of p f).max
      max Groups = parts_max Groups
      max Flow = parts_max Flow
      max Applications = parts_max Applications

      setting : (f : Feature) → (feature_of still f).setting ≡ (feature_of p f).setting
      setting Groups = parts_setting Groups
      setting Flow = parts_setting Flow
      setting Applications = parts_setting Applications

  pub fresh_alike : Alike p (fresh_port p)
  unfolding fresh_port
  fresh_alike = by (running p)
    where
      by : (b : Bool) → Alike p (if b then sent (fresh_parts p) else still)
      by true = alike_trans p (fresh_parts p) (sent (fresh_parts p)) parts_alike (sent_alike (fresh_parts p))
      by false = still_alike

  module _ (h : SoundPort p) where
    feature_sound : (f : Feature) → SoundState f (fresh (feature_of p f).max (feature_of p f).setting)
    feature_sound f = fresh_sound 1 (feature_of p f).max (feature_of p f).setting f (h.features f).max (lit< tt) (h.features f).setting

    release_sound : (f : Feature) → let x : State = fresh (feature_of p f).max (feature_of p f).setting in SoundRelease f x.max (present x)
    release_sound f = present_sound f _ (feature_sound f)

    fresh_none : has_applications p.revision ≡ false → NoApplications (fresh p.applications.max p.applications.setting)
    fresh_none e =
        record {
          setting = fresh_setting 1 p.applications.max p.applications.setting ∙ (h.revision e).setting;
          max = fresh_max 1 p.applications.max p.applications.setting ∙ (h.revision e).max;
        }

    parts_sound : SoundPort (fresh_parts p)
    parts_sound =
        port_sound (fresh_parts p)
        (record { max = h.control.max; oper = le_refl p.control.max; seq = lit< tt; ack = lit< tt; rcvd = lit< tt })
        (feature_sound Groups) (feature_sound Flow) (feature_sound Applications) (release_sound Groups) (release_sound Flow) (release_sound Applications) fresh_none (λ e. (fresh_none e).setting)

    pub fresh_kept : SoundPort (fresh_port p)
    unfolding fresh_port
    fresh_kept = by (running p)
      where
        by : (b : Bool) → SoundPort (if b then sent (fresh_parts p) else still)
        by true = sent_sound (fresh_parts p) parts_sound
        by false =
            port_sound still parts_sound.control (stopped_sound Groups _ (feature_sound Groups)) (stopped_sound Flow _ (feature_sound Flow))
            (stopped_sound Applications _ (feature_sound Applications)) (release_sound Groups) (release_sound Flow) (release_sound Applications) (λ e. record { setting = (fresh_none e).setting; max = (fresh_none e).max })
            (λ e. (fresh_none e).setting)

-- it depends on versions, settings and flags alone
pub fresh_same : (p q : Port) → Alike p q → fresh_port q ≡ fresh_port p
unfolding fresh_port
fresh_same p q h =
    λ i. if runs_alike p q h i then sent (parts i) else with_features (parts i) (λ f. stopped (feature_of (parts i) f))
  where
    feature : (f : Feature) → fresh (feature_of q f).max (feature_of q f).setting ≡ fresh (feature_of p f).max (feature_of p f).setting
    feature f = λ i. fresh (h.max f i) (h.setting f i)

    parts : fresh_parts q ≡ fresh_parts p
    parts =
        λ i. record {
          revision = h.revision i;
          admin = h.admin i;
          receive = h.receive i;
          transmit = h.transmit i;
          several = h.several i;
          control = fresh_control (h.control i);
          groups = feature Groups i;
          flow = feature Flow i;
          applications = feature Applications i;
          released = presents (feature Groups i) (feature Flow i) (feature Applications i);
        }

pub fresh_again : (p : Port) → fresh_port (fresh_port p) ≡ fresh_port p
fresh_again p = fresh_same p (fresh_port p) (fresh_alike p)
