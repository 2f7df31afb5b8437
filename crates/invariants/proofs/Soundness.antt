-- Handling a frame keeps a port sound, whatever the frame holds: the outcome rules, the steps, the send rule. Assumes nothing.
use Prim.Native.Nat.{ℕ, ◌+◌, ◌<◌, ◌≤◌, ◌^◌, min}
use native.Mathlib.Omega.{arith}
use native.Mathlib.Nat.{min-le_left, le_refl, mod-lt}
use mathlib.Core.Path.{◌≡◌, refl, sym, ap, subst, ◌∙◌}
use mathlib.Core.Bool.{Bool, true, false, not, ◌||◌, false≢true}
use mathlib.Core.List.{List, []}
use lib.ListN.{length, take, drop, length-take, get_or-eq_default}
use lib.Seq.{get_or-take, get_or-drop}
use lib.Dec.{lit<}
use borrow.Author.Tests.{ltb-true, ltb-false}
use Rattle.std.specs.Prelude.{if◌then◌else◌, Option, None, Some}
use Rattle.octets.specs.Words.{◌below◌, ◌is◌}
use Rattle.octets.specs.Octets.{at, number4}
use Rattle.contents.specs.declared.Contents.{Contents}
use Rattle.contents.specs.Contents.{value_of}
use Rattle.tlv.specs.Revisions.{has_applications}
use Rattle.parameters.specs.declared.Feature.{Feature}
use Rattle.parameters.specs.declared.Feature.TheVariants.{Groups, Flow, Applications}
use Rattle.parameters.specs.Parameters.{valid, compatible, ours, stored, content}
use Rattle.config.specs.FeatureLaws.{ours_length, valid_ours}
use Rattle.applications.specs.OursLaws.{ours_ours}
use Rattle.parameters.specs.StoringLaws.{content_stored}
use Rattle.feature.specs.declared.Reason.{Reason}
use Rattle.feature.specs.declared.Reason.TheVariants.{Absent, Duplicate, Bad, Waiting, ControlTwice}
use Rattle.feature.specs.declared.Setting.{Setting}
use Rattle.feature.specs.declared.Peer.{Peer}
use Rattle.feature.specs.declared.Outcome.{Outcome}
use Rattle.feature.specs.declared.State.{State}
use Rattle.feature.specs.Outcome.{Received, oper_of, max_of, parameters_of, parameters_held, configuration, lower, held_peer, without_peer, judged, outcome}
use Rattle.feature.specs.declared.Release.{Release}
use Rattle.machine.specs.State.{next, with_outcome, present, changed, marked, setting_of}
use Rattle.turn.specs.Turn.{control_twice, acknowledged, received}
use Rattle.port.specs.declared.Port.{Port}
use Rattle.port.specs.Parts.{switched_off, feature_of, released_of, with_control, release}
use Rattle.sending.specs.Sending.{with_seq, raises_seq_no, sent, step5, completed}
use Rattle.admission.specs.Admission.{Message, message, met}
use Rattle.handling.specs.Handling.{twice, exchanged, once, steps1to4}
use Rattle.port.specs.Sound.{SoundParameters, SoundSetting, SoundPeer, adopts_by, SoundState, SoundControl, SoundRelease, NoApplications, SoundPort}
use Rattle.feature.specs.RulesLaws.{judged_by_lem, judged_oper, judged_peer}
use Rattle.invariants.proofs.Outcomes.{SoundOutcome, judged_by_adopts}

-- ---- outcomes

-- valid parameters that were read are held soundly
pub sound_stored : (f : Feature) (o : List ℕ) → valid f o ≡ true → SoundParameters f (stored (ours f o))
sound_stored f o v =
    let e : content (stored (ours f o)) ≡ ours f o = content_stored (ours f o) (ours_length f o v) in
    record { whole = ap stored (sym e); own = ap (ours f) e ∙ ours_ours f o ∙ sym e; valid = ap (valid f) e ∙ valid_ours f o v }

-- no peer is held
pub none_sound : (f : Feature) → SoundPeer f None
none_sound f = record { some = λ p e. absurd (cc) }

module _ (f : Feature) (max : ℕ) (s : Setting) (h : SoundSetting f s) where
  without_sound : (why : Reason) (oper : ℕ) (error : Bool) → oper ≤ max → SoundOutcome f max s (without_peer why oper error)
  without_sound why oper error k =
      record { oper = k; peer = none_sound f; adopts = refl }

  module _ (oper : ℕ) (k : oper ≤ max) (p : Peer) (good : SoundParameters f p.parameters) where
    held_sound : SoundPeer f (Some p)
    held_sound = record { some = λ q e. let d : p ≡ q = cc in subst (λ (r : Peer). SoundParameters f r.parameters) d good }

    pub judged_sound : SoundOutcome f max s (judged f s oper p)
    judged_sound =
        let suits : Bool = compatible f (content s.desired) (content p.parameters) in
        record {
          oper = rw (judged_oper f s oper p) k;
          peer = rw (judged_peer f s oper p) held_sound;
          adopts =
              ap (λ (o : Outcome). o.adopts) (judged_by_lem f s oper p)
              ∙ judged_by_adopts s.enable p.enable s.willing p.willing suits oper p
              ∙ sym (ap (adopts_by s) (judged_peer f s oper p));
        }

  -- rules 1 to 5 over their tests
  ruled_sound : (oper low : ℕ) → oper ≤ max → low ≤ max → (v : List ℕ) (a b c d e : Bool) → valid f (parameters_of v) ≡ e →
      SoundOutcome f max s
      (if a then without_peer Absent max false
      else if b then without_peer Duplicate oper true
      else if c then without_peer Bad oper true
      else if not d then without_peer Waiting low false
      else if not e then without_peer Bad low true
      else judged f s low (held_peer f v))
  ruled_sound oper low k l v true b c d e g = without_sound Absent max false (le_refl max)
  ruled_sound oper low k l v false true c d e g = without_sound Duplicate oper true k
  ruled_sound oper low k l v false false true d e g = without_sound Bad oper true k
  ruled_sound oper low k l v false false false false e g = without_sound Waiting low false l
  ruled_sound oper low k l v false false false true false g = without_sound Bad low true l
  ruled_sound oper low k l v false false false true true g = judged_sound low l (held_peer f v) (sound_stored f (parameters_of v) g)

  pub outcome_sound : (oper : ℕ) → oper ≤ max → (r : Received) → SoundOutcome f max s (outcome f max s oper r)
  unfolding outcome
  outcome_sound oper k r =
      ruled_sound oper (min max (max_of r.value)) k (min-le_left max (max_of r.value)) r.value (r.count is 0) (1 below r.count)
      (length r.value below 4 || max_of r.value below oper_of r.value) (oper_of r.value is lower max (max_of r.value)) (valid f (parameters_of r.value))
      refl

-- ---- one feature

pub next_small : (n : ℕ) → next n < 2 ^ 32
next_small n = mod-lt (n + 1) (lit< tt)

module _ (f : Feature) where
  with_sound : (x : State) (o : Outcome) → SoundState f x → SoundOutcome f x.max x.setting o → x.setting.advertise ≡ true → SoundState f (with_outcome x o)
  with_sound x o h k a =
      record {
        max = h.max;
        oper = k.oper;
        sequence = h.sequence;
        setting = h.setting;
        peer = k.peer;
        adopts = k.adopts;
        withheld = λ e. absurd (false≢true (sym e ∙ a));
      }

  -- an advertised feature gets another outcome
  advertised_sound : (x : State) (o : Outcome) → SoundState f x → SoundOutcome f x.max x.setting o → SoundState f (if x.setting.advertise then with_outcome x o else x)
  advertised_sound x o h k = by x.setting.advertise refl
    where
      by : (b : Bool) → x.setting.advertise ≡ b → SoundState f (if b then with_outcome x o else x)
      by true a = with_sound x o h k a
      by false a = h

  acknowledged_sound : (rcvd seq : ℕ) (x : State) → SoundState f x → SoundState f (acknowledged rcvd seq x)
  unfolding acknowledged
  acknowledged_sound rcvd seq x h =
      record { max = h.max; oper = h.oper; sequence = h.sequence; setting = h.setting; peer = h.peer; adopts = h.adopts; withheld = h.withheld }

  -- where a test decides between two states
  pub either_sound : (b : Bool) (x y : State) → SoundState f x → SoundState f y → SoundState f (if b then x else y)
  either_sound true x y h k = h
  either_sound false x y h k = k

  received_sound : (r : Received) (x : State) → SoundState f x → SoundState f (received f r x)
  unfolding received
  received_sound r x h = advertised_sound x _ h (outcome_sound f x.max x.setting h.setting x.outcome.oper h.oper r)

  twice_sound : (x : State) → SoundState f x → SoundState f (control_twice x)
  unfolding control_twice
  twice_sound x h = advertised_sound x _ h (without_sound f x.max x.setting h.setting ControlTwice x.outcome.oper true h.oper)

  marked_sound : (seq : ℕ) (x y : State) → SoundState f y → SoundState f (marked f seq x y)
  unfolding marked
  marked_sound seq x y h =
      either_sound (changed f x y) _ y
      (record { max = h.max; oper = h.oper; sequence = next_small seq; setting = h.setting; peer = h.peer; adopts = h.adopts; withheld = h.withheld })
      h

-- 02, E11: no frame gives a port without applications any
either_none : (b : Bool) (x y : State) → NoApplications x → NoApplications y → NoApplications (if b then x else y)
either_none true x y h k = h
either_none false x y h k = k

received_none : (r : Received) (rcvd seq : ℕ) (x : State) → NoApplications x → NoApplications (received Applications r (acknowledged rcvd seq x))
unfolding received acknowledged
received_none r rcvd seq x h =
    either_none x.setting.advertise _ _ (record { setting = h.setting; max = h.max }) (record { setting = h.setting; max = h.max })

twice_none : (x : State) → NoApplications x → NoApplications (control_twice x)
unfolding control_twice
twice_none x h = either_none x.setting.advertise _ x (record { setting = h.setting; max = h.max }) h

marked_none : (seq : ℕ) (x y : State) → NoApplications y → NoApplications (marked Applications seq x y)
unfolding marked
marked_none seq x y h = either_none (changed Applications x y) _ y (record { setting = h.setting; max = h.max }) h

-- OperCfg of a sound state is sound
pub configuration_sound : (f : Feature) (x : State) → SoundState f x → SoundParameters f (configuration x.setting x.outcome)
configuration_sound f x h = by x.outcome.adopts refl
  where
    held : (o : Option Peer) → x.outcome.peer ≡ o → adopts_by x.setting o ≡ true → SoundParameters f (parameters_held o)
    held None e a = absurd (false≢true a)
    held (Some p) e a = h.peer.some p e

    by : (b : Bool) → x.outcome.adopts ≡ b → SoundParameters f (if b then parameters_held x.outcome.peer else x.setting.desired)
    by true e = held x.outcome.peer refl (sym h.adopts ∙ e)
    by false e = h.setting.desired

-- ---- the port

pub port_sound : (p : Port) → SoundControl p.control → SoundState Groups p.groups → SoundState Flow p.flow →
    SoundState Applications p.applications → SoundRelease Groups p.groups.max p.released.groups → SoundRelease Flow p.flow.max p.released.flow →
    SoundRelease Applications p.applications.max p.released.applications → (has_applications p.revision ≡ false → NoApplications p.applications) →
    (has_applications p.revision ≡ false → p.released.applications.setting ≡ setting_of Applications switched_off []) → SoundPort p
port_sound p c g w a rg rw ra r n = record { control = c; features = of; released = released; revision = r; withheld = n }
  where
    of : (f : Feature) → SoundState f (feature_of p f)
    of Groups = g
    of Flow = w
    of Applications = a

    released : (f : Feature) → SoundRelease f (feature_of p f).max (released_of p f)
    released Groups = rg
    released Flow = rw
    released Applications = ra

-- what a sound state would release
pub present_sound : (f : Feature) (x : State) → SoundState f x → SoundRelease f x.max (present x)
present_sound f x h = record { oper = h.oper; setting = h.setting }

-- what was released stays sound as long as Max does
moved : (f : Feature) (r : Release) {m n : ℕ} → n ≡ m → SoundRelease f m r → SoundRelease f n r
moved f r e h = rw e h

either_max : (b : Bool) (x y : State) {n : ℕ} → x.max ≡ n → y.max ≡ n → (if b then x else y).max ≡ n
either_max true x y e d = e
either_max false x y e d = d

pub marked_max : (f : Feature) (seq : ℕ) (x y : State) → (marked f seq x y).max ≡ y.max
unfolding marked
marked_max f seq x y = either_max (changed f x y) _ y refl refl

pub twice_max : (x : State) → (control_twice x).max ≡ x.max
unfolding control_twice
twice_max x = either_max x.setting.advertise _ x refl refl

pub received_max : (f : Feature) (r : Received) (rcvd seq : ℕ) (x : State) → (received f r (acknowledged rcvd seq x)).max ≡ x.max
unfolding received acknowledged
received_max f r rcvd seq x = either_max x.setting.advertise _ _ refl refl

counted_sound : (b : Bool) (p : Port) → SoundPort p → SoundPort (if b then release (with_control p (with_seq p.control (next p.control.seq))) else p)
counted_sound true p h =
    let c = h.control in
    port_sound _ (record { max = c.max; oper = c.oper; seq = next_small p.control.seq; ack = c.ack; rcvd = c.rcvd })
    (h.features Groups) (h.features Flow) (h.features Applications)
    (present_sound Groups p.groups (h.features Groups)) (present_sound Flow p.flow (h.features Flow)) (present_sound Applications p.applications (h.features Applications))
    h.revision (λ e. (h.revision e).setting)
counted_sound false p h = h

pub sent_sound : (p : Port) → SoundPort p → SoundPort (sent p)
unfolding sent
sent_sound p h = counted_sound (raises_seq_no p) p h

-- step 5 and the send rule, after a port that is sound
pub completed_sound : (before after : Port) → SoundPort after → SoundPort (completed before after)
completed_sound before after h =
    sent_sound (step5 before after)
    (port_sound (step5 before after) h.control
    (marked_sound Groups after.control.seq before.groups after.groups (h.features Groups))
    (marked_sound Flow after.control.seq before.flow after.flow (h.features Flow))
    (marked_sound Applications after.control.seq before.applications after.applications (h.features Applications))
    (moved Groups _ (marked_max Groups after.control.seq before.groups after.groups) (h.released Groups))
    (moved Flow _ (marked_max Flow after.control.seq before.flow after.flow) (h.released Flow))
    (moved Applications _ (marked_max Applications after.control.seq before.applications after.applications) (h.released Applications))
    (λ e. marked_none after.control.seq before.applications after.applications (h.revision e)) h.withheld)

module _ (p : Port) (h : SoundPort p) where
  -- two controls
  pub twice_kept : SoundPort (twice p)
  unfolding twice
  twice_kept =
      let c = h.control in
      port_sound (twice p) (record { max = c.max; oper = c.oper; seq = c.seq; ack = c.ack; rcvd = c.rcvd })
      (twice_sound Groups p.groups (h.features Groups))
      (twice_sound Flow p.flow (h.features Flow))
      (twice_sound Applications p.applications (h.features Applications))
      (moved Groups _ (twice_max p.groups) (h.released Groups)) (moved Flow _ (twice_max p.flow) (h.released Flow))
      (moved Applications _ (twice_max p.applications) (h.released Applications))
      (λ e. twice_none p.applications (h.revision e)) h.withheld

  -- one readable control
  module _ (m : Message) (seq : m.seq < 2 ^ 32) (ack : m.ack < 2 ^ 32) where
    abbrev low : ℕ
    low = min p.control.max m.max

    feature_kept : (f : Feature) → SoundState f (received f (m.has f) (acknowledged m.ack p.control.seq (feature_of p f)))
    feature_kept f = received_sound f (m.has f) _ (acknowledged_sound f m.ack p.control.seq (feature_of p f) (h.features f))

    release_kept : (f : Feature) → SoundRelease f (received f (m.has f) (acknowledged m.ack p.control.seq (feature_of p f))).max (released_of p f)
    release_kept f = moved f _ (received_max f (m.has f) m.ack p.control.seq (feature_of p f)) (h.released f)

    tested_kept : (b : Bool) → SoundPort (if b then exchanged low m p else with_control p (met low p.control))
    unfolding exchanged
    tested_kept true =
        let c = h.control in
        port_sound (exchanged low m p)
        (record { max = c.max; oper = min-le_left p.control.max m.max; seq = c.seq; ack = seq; rcvd = ack })
        (feature_kept Groups) (feature_kept Flow) (feature_kept Applications)
        (release_kept Groups) (release_kept Flow) (release_kept Applications)
        (λ e. received_none (m.has Applications) m.ack p.control.seq p.applications (h.revision e)) h.withheld
    tested_kept false =
        let c = h.control in
        port_sound (with_control p (met low p.control))
        (record { max = c.max; oper = min-le_left p.control.max m.max; seq = c.seq; ack = c.ack; rcvd = c.rcvd })
        (h.features Groups) (h.features Flow) (h.features Applications) (h.released Groups) (h.released Flow) (h.released Applications) h.revision h.withheld

    pub once_kept : SoundPort (once m p)
    unfolding once
    once_kept = tested_kept (m.oper is low)

-- ---- any frame of octets

-- every octet is below 256
abbrev pub Octets : List ℕ → Type 0
Octets o = (i : ℕ) → at o i < 256

value_octets : (o : List ℕ) (start n : ℕ) → Octets o → Octets (take n (drop start o))
value_octets o start n h i = by (i below n) refl
  where
    by : (b : Bool) → (i below n) ≡ b → at (take n (drop start o)) i < 256
    by true e = rw (get_or-take n (drop start o) i 0 (ltb-true i n e), get_or-drop start o i 0) (h (start + i))
    by false e =
        let k : length (take n (drop start o)) ≤ i = omega (arith, length-take n (drop start o), ltb-false i n e) in
        rw (get_or-eq_default (take n (drop start o)) 0 k) (lit< tt)

number_small : (o : List ℕ) (i : ℕ) → Octets o → number4 o i < 2 ^ 32
number_small o i h = omega (arith, h i, h (i + 1), h (i + 2), h (i + 3))

pub steps_sound : (o : List ℕ) (c : Contents) (p : Port) → Octets o → SoundPort p → SoundPort (steps1to4 o c p)
unfolding steps1to4
steps_sound o c p k h = by (1 below c.control.count)
  where
    by : (b : Bool) → SoundPort (if b then twice p else once (message o c) p)
    by true = twice_kept p h
    by false =
        let g : Octets (value_of o c.control) = value_octets o c.control.start c.control.length k in
        once_kept p h (message o c) (number_small (value_of o c.control) 2 g) (number_small (value_of o c.control) 6 g)
