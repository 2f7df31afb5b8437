-- What a sound port writes is read as its message. Assumes nothing.
use Prim.Native.Nat.{ℕ, ◌+◌, ◌≤◌}
use native.Mathlib.Omega.{arith}
use mathlib.Core.Path.{◌≡◌, refl, ap, ◌∙◌}
use mathlib.Core.Bool.{Bool, true, false}
use mathlib.Core.List.{List, [], ◌++◌}
use lib.ListN.{length, length-append}
use borrow.Author.Tests.{eqb-true}
use Rattle.std.specs.Prelude.{if◌then◌else◌, Ok}
use Rattle.octets.specs.Octets.{at, number4, headed, head}
use Rattle.octets.specs.Laws.{and_left}
use Rattle.contents.specs.declared.Contents.{Contents}
use Rattle.tlv.specs.Layout.{fixed_octets, frame_head}
use Rattle.reading.specs.Reading.{walked, read_frame}
use Rattle.contents.specs.Contents.{value_of}
use Rattle.reading.proofs.ValuesLaws.{Counted, Values, Part, Parts, parts_octets, part_counted, parts_values, LaidOut}
use Rattle.reading.proofs.ReadBackLaws.{ReadBack, read_parts}
use Rattle.parameters.specs.declared.Feature.{Feature}
use Rattle.parameters.specs.declared.Feature.TheVariants.{Groups, Flow, Applications}
use Rattle.parameters.specs.Parameters.{feature_number, valid_groups, valid_flow, valid, ours, content}
use Rattle.config.specs.FeatureLaws.{ours_length}
use Rattle.feature.specs.declared.Release.{Release}
use Rattle.feature.specs.declared.Setting.{Setting}
use Rattle.feature.specs.Outcome.{Received}
use Rattle.machine.specs.State.{value, release_tlv}
use Rattle.port.proofs.WritingLaws.{number4_octets4}
use Rattle.port.specs.declared.Port.{Port}
use Rattle.port.specs.Parts.{feature_of, released_of}
use Rattle.port.specs.Writing.{control_value, released_tlv, sub_tlvs, frame}
use Rattle.admission.specs.Admission.{has_of, message}
use Rattle.port.specs.Sound.{SoundRelease, SoundPort}
use Rattle.exchange.proofs.Core as core
use Rattle.exchange.proofs.View.{settings, view, Offers}

-- ---- the frame by its parts

abbrev part_of : ℕ → Release → Part
part_of max r = record { advertised = r.setting.advertise; value = value max r }

abbrev parts_of : Port → Parts
parts_of q =
    record { control = control_value q.control; groups = part_of q.groups.max q.released.groups; flow = part_of q.flow.max q.released.flow; applications = part_of q.applications.max q.released.applications }

parts_written : (q : Port) → sub_tlvs q ≡ parts_octets (parts_of q)
unfolding sub_tlvs release_tlv parts_octets feature_number
parts_written q = refl

frame_written : (q : Port) → frame q ≡ frame_head (length (parts_octets (parts_of q))) ++ parts_octets (parts_of q)
unfolding frame
frame_written q = ap (λ o. head 127 (4 + length o) ++ fixed_octets ++ o) (parts_written q)

-- ---- lengths

-- the longest parameters of each feature
abbrev longest : Feature → ℕ
longest Groups = 13
longest Flow = 2
longest Applications = 96

valid_longest : (f : Feature) (o : List ℕ) → valid f o ≡ true → ours f o ≡ o → length o ≤ longest f
unfolding valid valid_groups valid_flow
valid_longest Groups o e k = let l : length o ≡ 13 = eqb-true (length o) 13 (and_left _ _ (and_left _ _ (and_left _ _ e))) in omega arith
valid_longest Flow o e k = let l : length o ≡ 2 = eqb-true (length o) 2 (and_left _ _ e) in omega arith
valid_longest Applications o e k = rw k at (ours_length Applications o e)

sub_length : (f : Feature) (max : ℕ) (x : Release) → SoundRelease f max x → length (release_tlv f max x) ≤ 6 + longest f
unfolding release_tlv
sub_length f max x h = by x.setting.advertise
  where
    by : (b : Bool) →
        length (if b then headed (feature_number f) (value max x) else []) ≤ 6 + longest f
    by true = omega (arith, valid_longest f (content x.setting.desired) h.setting.desired.valid h.setting.desired.own)
    by false = omega arith

subs_length : (q : Port) → SoundPort q → length (sub_tlvs q) ≤ 141
unfolding sub_tlvs
subs_length q h =
    omega (
      arith,
      length-append (released_tlv q Groups) (released_tlv q Flow ++ released_tlv q Applications),
      length-append (released_tlv q Flow) (released_tlv q Applications),
      sub_length Groups q.groups.max q.released.groups (h.released Groups),
      sub_length Flow q.flow.max q.released.flow (h.released Flow),
      sub_length Applications q.applications.max q.released.applications (h.released Applications),
    )

-- ---- reading it

module _ (q : Port) (h : SoundPort q) where
  laid_out : LaidOut (parts_of q)
  laid_out = record { long = refl; versions = h.control.oper; groups = refl; flow = refl; applications = refl }

  pub read_back : ReadBack (frame q) (parts_values (parts_of q))
  read_back =
      let k = subs_length q h in
      rw (frame_written q) (read_parts (parts_of q) (rw (← parts_written q) (omega arith)) laid_out)

  abbrev pub contents : Contents
  contents = (walked (frame q)).contents

  pub accepted : read_frame (frame q) ≡ Ok contents
  accepted = read_back.accepted

  pub one_control : contents.control.count ≡ 1
  one_control = ap (λ (x : Values). x.control.count) read_back.values

  pub control_read : value_of (frame q) contents.control ≡ control_value q.control
  control_read = ap (λ (x : Values). x.control.value) read_back.values

  part_read : (max : ℕ) (x : Release) (c : Counted) → c ≡ part_counted (part_of max x) → (b : Bool) → x.setting.advertise ≡ b →
      ◌≡◌ {A = Received} (record { count = c.count; value = c.value })
      (core.written b (record { max = max; setting = x.setting }) (record { oper = x.oper; error = x.error }))
  unfolding core.written
  part_read max x c e b a = grind arith

  -- of a port that has released no applications none are found
  pub none_written : q.released.applications.setting.advertise ≡ false → contents.applications.count ≡ 0
  unfolding core.written
  none_written a =
      ap (λ (r : Received). r.count) (part_read q.applications.max q.released.applications _ (ap (λ (x : Values). x.applications) read_back.values) _ refl) ∙ rw a refl

  -- the numbers of control
  pub seq_read : (message (frame q) contents).seq ≡ q.control.seq
  seq_read = ap (λ v. number4 v 2) control_read ∙ number4_octets4 q.control.seq h.control.seq

  pub ack_read : (message (frame q) contents).ack ≡ q.control.ack
  ack_read = ap (λ v. number4 v 6) control_read ∙ number4_octets4 q.control.ack h.control.ack

  -- of each feature what was released
  pub has_released : (f : Feature) → (let x : Release = released_of q f in
      has_of (frame q) contents f ≡ core.written x.setting.advertise (record { max = (feature_of q f).max; setting = x.setting }) (record { oper = x.oper; error = x.error }))
  has_released Groups = part_read q.groups.max q.released.groups _ (ap (λ (x : Values). x.groups) read_back.values) _ refl
  has_released Flow = part_read q.flow.max q.released.flow _ (ap (λ (x : Values). x.flow) read_back.values) _ refl
  has_released Applications = part_read q.applications.max q.released.applications _ (ap (λ (x : Values). x.applications) read_back.values) _ refl

  -- what is released is of the present settings
  module _ (own : Offers q) where
    has_read : (f : Feature) → has_of (frame q) contents f ≡ (core.message (settings q) (view q)).has f
    unfolding core.message
    has_read f =
        has_released f
        ∙ ap (λ (s : Setting). core.written s.advertise (record { max = (feature_of q f).max; setting = s }) (record { oper = (released_of q f).oper; error = (released_of q f).error })) (own f)

    pub message_read : message (frame q) contents ≡ core.message (settings q) (view q)
    unfolding core.message
    message_read = λ i. record { oper = at (control_read i) 0; max = at (control_read i) 1; seq = seq_read i; ack = ack_read i; has = λ f. has_read f i }
