-- What our own engine writes can be spelt, at any port that was made and behind any lines: its settings are octets throughout. Assumes nothing.
use Prim.Native.Nat.{ℕ, zero, suc, ◌+◌, ◌-◌, ◌*◌, ◌/◌, ◌%◌, ◌≤◌, ◌<◌, min}
use native.Mathlib.Omega.{arith}
use mathlib.Core.Path.{◌≡◌, refl, ap}
use mathlib.Core.Bool.{Bool, true, false, not, beq}
use mathlib.Core.List.{List, [], ◌∷◌, ◌++◌}
use lib.ListN.{length, take, drop, replicate, length-take}
use lib.Seq.{get_or-drop}
use lib.Dec.{lit<}
use Rattle.std.specs.Prelude.{if◌then◌else◌, Option, Some, None, Result, Ok, Err}
use Rattle.octets.specs.Words.{◌below◌, ◌is◌}
use Rattle.octets.specs.Octets.{at, head, headed}
use Rattle.tlv.specs.declared.Refusal.{Refusal}
use Rattle.tlv.specs.declared.Refusal.TheVariants.{NotRunning, SeveralNeighbours, InvalidSetting, UnknownFeature}
use Rattle.contents.specs.declared.Contents.{Contents}
use Rattle.contents.specs.Contents.{Reading}
use Rattle.tlv.specs.Layout.{frame_head}
use Rattle.tlv.specs.Revisions.{has_applications}
use Rattle.reading.specs.Revisions.{read_for}
use Rattle.parameters.specs.declared.Feature.{Feature}
use Rattle.parameters.specs.declared.Feature.TheVariants.{Groups, Flow, Applications}
use Rattle.parameters.specs.declared.Parameters.{Parameters}
use Rattle.parameters.specs.Parameters.{feature_number, entry_count, is_ours, ours_of, ours, valid_local, stored, content}
use Rattle.feature.specs.declared.Setting.{Setting}
use Rattle.feature.specs.declared.Switches.{Switches}
use Rattle.feature.specs.declared.State.{State}
use Rattle.feature.specs.declared.Release.{Release}
use Rattle.feature.specs.Outcome.{Received, lower}
use Rattle.machine.specs.State.{next, fresh, stopped, flags, value, release_tlv, changed, marked, setting_of, same_setting, reset}
use Rattle.turn.specs.Turn.{control_twice, acknowledged, received}
use Rattle.port.specs.declared.Control.{Control}
use Rattle.port.specs.declared.Flag.{Flag}
use Rattle.port.specs.declared.Flag.TheVariants.{Admin, Receive, Transmit, Several}
use Rattle.port.specs.declared.Port.{Port}
use Rattle.port.specs.Types.{Raised}
use Rattle.port.specs.declared.Versions.{Versions}
use Rattle.port.specs.Parts.{switched_off, feature_of, released_of, with_control, with_features, release, flag_of, with_flag, running}
use Rattle.port.specs.Sound.{SoundParameters, SoundControl, SoundRelease, SoundPort}
use Rattle.port.specs.Writing.{released_tlv, sub_tlvs, frame}
use Rattle.port.specs.WritingLaws.{control_tlv, feature_tlvs}
use Rattle.port.proofs.WritingLaws.{frame_longest}
use Rattle.sending.specs.Sending.{with_seq, raises_seq_no, sent, fresh_parts, fresh_port, step5, completed}
use Rattle.events.specs.PortEvents.{event, unchanged, refused}
use Rattle.flags.specs.Flags.{restarts, flag_notice, flag_set, flagged, peer_gone}
use Rattle.changes.specs.Changes.{with_feature, with_setting, setting_changed, set_to, changed_feature, changed_applications, changed_setting}
use Rattle.creation.specs.Creation.{blank_parameters, blank_port, started, created_port, settings_valid, created, created_with, versions_for, switches_for, parameters_for}
use Rattle.creation.specs.Creation as creation
use Rattle.admission.specs.Admission.{Message, message, met, rejected}
use Rattle.handling.specs.Handling.{twice, exchanged, once, steps1to4, frame_event, accepted, given, handled}
use Rattle.invariants.proofs.Soundness.{Octets}
use Rattle.invariants.proofs.Fresh.{fresh_setting}
use Rattle.invariants.proofs.Standing.{Standing, handled_stands, flagged_stands, gone_stands, setting_stands, created_stands, blank_stands}
use Rattle.recorder.specs.declared.Change.{Change}
use Rattle.recorder.specs.declared.Change.TheVariants as change
use Rattle.recorder.specs.Recorder.{happens}
use Rattle.calls.proofs.Reachable.{versions_small}
use Rattle.grammar.specs.declared.Form.{Form}
use Rattle.fields.specs.declared.Values.{Values}
use Rattle.fields.specs.declared.Undue.{Undue}
use Rattle.script.specs.declared.Keyword.{Keyword}
use Rattle.lines.specs.declared.Kind.{Kind}
use Rattle.words.specs.Text.{pair_at, listed, octets_of, words, first, others, number, pending}
use Rattle.words.specs.TextLaws.{pending_held}
use Rattle.grammar.specs.declared.Field.TheVariants.{Bit}
use Rattle.fields.specs.Fields.{field_number, entry_octet, groups_octet, parameter_count, parameter_at, parameters_of, values_of}
use Rattle.lines.specs.Lines.{Parsed, line_of, bare, returned, setting_kind, setting_with, feature, plain, alone}
use Rattle.script.specs.Events.{flag_bit, flag, write_room, write, form_of, numbered, change_of, event_of, keyword, is_frame, event_line}
use Rattle.capture.specs.declared.Form as forms
use Rattle.capture.specs.declared.Form.TheVariants.{FromA, FromB, Other}
use Rattle.capture.specs.Capture as capture
use Rattle.judgement.specs.Entries.{Entry, Sent, Given, Changed, Passed, octets_in, entry_by, told_by, change_on, entry_as, entry_of, port_after}
use Rattle.verdicts.specs.Transcripts.{OctetsWithin, SettingsInRange}

-- a port's own settings, which alone it writes, are octets, the present ones and those last released
pub record OwnOctets (p : Port) : Type 0 where
  pub present : (f : Feature) (i : ℕ) → at (content (feature_of p f).setting.desired) i < 256
  pub released : (f : Feature) (i : ℕ) → at (content (released_of p f).setting.desired) i < 256

-- ---- lists of octets

none_octets : Octets []
none_octets i = lit< tt

cons_octets : (x : ℕ) (o : List ℕ) → x < 256 → Octets o → Octets (x ∷ o)
cons_octets x o h k zero = h
cons_octets x o h k (suc i) = k i

-- of a list that is written out, one by one
abbrev Each : List ℕ → Type 0
Each [] = Unit {0}
Each (x ∷ o) = (x < 256) × Each o

each_octets : (o : List ℕ) → Each o → Octets o
each_octets [] h = none_octets
each_octets (x ∷ o) h = cons_octets x o h.0 (each_octets o h.1)

append_octets : (a b : List ℕ) → Octets a → Octets b → Octets (a ++ b)
append_octets [] b h k = k
append_octets (x ∷ a) b h k = cons_octets x (a ++ b) (h 0) (append_octets a b (λ i. h (suc i)) k)

zeros_octets : (n : ℕ) → Octets (replicate n 0)
zeros_octets zero = none_octets
zeros_octets (suc n) = cons_octets 0 (replicate n 0) (lit< tt) (zeros_octets n)

take_octets : (n : ℕ) (o : List ℕ) → Octets o → Octets (take n o)
take_octets zero o h = none_octets
take_octets (suc n) [] h = none_octets
take_octets (suc n) (x ∷ o) h = cons_octets x (take n o) (h 0) (take_octets n o (λ i. h (suc i)))

drop_octets : (n : ℕ) (o : List ℕ) → Octets o → Octets (drop n o)
drop_octets n o h i = rw (get_or-drop n o i 0) (h (n + i))

either_octets : (b : Bool) (x y : List ℕ) → Octets x → Octets y → Octets (if b then x else y)
either_octets true x y h k = h
either_octets false x y h k = k

listed_octets : (n i : ℕ) (f : ℕ → ℕ) → ((j : ℕ) → f j < 256) → Octets (listed n i f)
unfolding listed
listed_octets zero i f h = none_octets
listed_octets (suc n) i f h = cons_octets (f i) (listed n (i + 1) f) (h i) (listed_octets n (i + 1) f h)

-- ---- what a line gives

pub octets_of_lem : (w : List ℕ) → Octets (octets_of w)
unfolding octets_of pair_at
octets_of_lem w = listed_octets (min (length w / 2) 513) 0 (pair_at w) (λ j. omega arith)

entry_small : (v : List ℕ) (j k : ℕ) → entry_octet v j k < 256
unfolding entry_octet
entry_small v j k = by (k is 0) (k is 1) (k is 2) (k is 3) (k is 4)
  where
    by : (a b c d e : Bool)
        → (if a then at v (j + 1) / 256 % 256
        else if b then at v (j + 1) % 256
        else if c then at v j % 4
        else if d then 27
        else if e then 33
        else at v (j + 2) % 256) < 256
    by true b c d e = omega arith
    by false true c d e = omega arith
    by false false true d e = omega arith
    by false false false true e = lit< tt
    by false false false false true = lit< tt
    by false false false false false = omega arith

groups_small : (v : List ℕ) (i : ℕ) → groups_octet v i < 256
unfolding groups_octet
groups_small v i = by (i below 4) (i below 12)
  where
    by : (a b : Bool) → (if a then at v (7 + 2 * i) % 16 * 16 + at v (8 + 2 * i) % 16 else if b then at v (12 + i) % 256 else at v (13 + i) % 256) < 256
    by true b = omega arith
    by false true = omega arith
    by false false = omega arith

parameter_small : (f : Form) (v : List ℕ) (i : ℕ) → parameter_at f v i < 256
unfolding parameter_at
parameter_small Form.Groups v i = groups_small v i
parameter_small Form.Flow v i = omega arith
parameter_small Form.Applications v i = entry_small v (6 + i / 6 * 3) (i % 6)
parameter_small Form.Plain v i = lit< tt

parameters_octets : (f : Form) (v : Values) → Octets (parameters_of f v)
unfolding parameters_of
parameters_octets f v = listed_octets (parameter_count f v.place) 0 (parameter_at f v.numbers) (parameter_small f v.numbers)

-- the octets of a line
abbrev Held : Parsed → Type 0
Held (Ok l) = Octets (pending l.octets)
Held (Err why) = Unit {0}

line_held : (k : Kind) (o : List ℕ) → Octets o → Held (Ok (line_of k o))
unfolding line_of
line_held k o h = rw (pending_held 513 o) h

bare_held : (k : Kind) → Held (Ok (bare k))
bare_held k = line_held k [] none_octets

either_held : (b : Bool) (x y : Parsed) → Held x → Held y → Held (if b then x else y)
either_held true x y h k = h
either_held false x y h k = k

alone_held : (k : Kind) (word : ℕ) (ws : List (List ℕ)) → Held (alone k word ws)
unfolding alone
alone_held k word ws = either_held (length ws is 0) (Ok (bare k)) _ (bare_held k) tt

setting_held : (word n : ℕ) (v : Result Values Undue) (p : Values → List ℕ) → ((x : Values) → Octets (p x)) → Held (setting_with word n v p)
unfolding setting_with
setting_held word n (Ok v) p h = line_held (setting_kind n v.numbers) (p v) (h v)
setting_held word n (Err u) p h = tt

feature_held : (f : Form) (word n : ℕ) (ws : List (List ℕ)) → Held (feature f word n ws)
unfolding feature
feature_held f word n ws = setting_held word n (values_of f ws) (parameters_of f) (parameters_octets f)

numbered_held : (x : Option ℕ) (ws : List (List ℕ)) → Held (numbered x ws)
unfolding numbered plain
numbered_held None ws = tt
numbered_held (Some n) ws = setting_held 3 (n % 256) (values_of Form.Plain ws) (λ v. octets_of (first (drop 7 ws))) (λ v. octets_of_lem (first (drop 7 ws)))

change_held : (f : Form) (ws : List (List ℕ)) → Held (change_of f ws)
unfolding change_of
change_held Form.Groups ws = feature_held Form.Groups 3 2 (others ws)
change_held Form.Flow ws = feature_held Form.Flow 3 3 (others ws)
change_held Form.Applications ws = feature_held Form.Applications 3 4 (others ws)
change_held Form.Plain ws = numbered_held (number 255 (first ws)) (others ws)

flag_held : (x : Flag) (b : Option ℕ) (ws : List (List ℕ)) → Held (flag_bit x b ws)
unfolding flag_bit
flag_held x None ws = tt
flag_held x (Some n) ws = alone_held _ 3 ws

write_held : (x : Option ℕ) (ws : List (List ℕ)) → Held (write_room x ws)
unfolding write_room
write_held None ws = tt
write_held (Some n) ws = alone_held _ 3 ws

event_held : (k : Keyword) (ws : List (List ℕ)) → Held (event_of k ws)
unfolding event_of flag write
event_held Keyword.Gone ws = alone_held _ 2 ws
event_held Keyword.Take ws = alone_held _ 2 ws
event_held Keyword.Show ws = alone_held _ 2 ws
event_held Keyword.Set ws = change_held (form_of (first ws)) ws
event_held Keyword.Write ws = write_held (number 1000 (first ws)) (others ws)
event_held (Keyword.Flag x) ws = flag_held x (field_number Bit (first ws)) (others ws)
event_held Keyword.Frame ws = tt
event_held Keyword.Other ws = tt

line_octets : (l : List ℕ) → Held (event_line l)
unfolding event_line
line_octets l =
    either_held (1100 below length l) _ _ tt
    (either_held (returned l) _ _ tt
    (either_held (is_frame l) _ _ (line_held _ (octets_of (drop 2 l)) (octets_of_lem (drop 2 l))) (event_held (keyword (first (words l))) (others (words l)))))

told_octets : (x : Option Change) (o : List ℕ) → Octets o → Octets (octets_in (entry_by x o))
unfolding entry_by octets_in
told_octets (Some x) o h = h
told_octets None o h = none_octets

said_octets : (x : Parsed) → Held x → Octets (octets_in (change_on x))
unfolding change_on octets_in
said_octets (Ok l) h = told_octets (told_by l.kind) (pending l.octets) h
said_octets (Err why) h = none_octets

-- what a line carries, a frame or parameters, are octets
pub entry_octets : (l : List ℕ) → Octets (octets_in (entry_of l))
unfolding entry_as octets_in
entry_octets l = by (capture.form_of l)
  where
    by : (f : forms.Form) → Octets (octets_in (entry_as f l))
    by FromA = octets_of_lem (drop 2 l)
    by FromB = octets_of_lem (drop 2 l)
    by Other = said_octets (event_line l) (line_octets l)

-- ---- what a port holds of its end's settings, the present ones and those last released

record Holds (S : Setting → Type 0) (p : Port) : Type 0 where
  present : (f : Feature) → S (feature_of p f).setting
  released : (f : Feature) → S (released_of p f).setting

-- whatever the settings have, they have behind an event, if a new one has it
module _ (S : Setting → Type 0) where
  holds : (p : Port) → S p.groups.setting → S p.flow.setting → S p.applications.setting → S p.released.groups.setting → S p.released.flow.setting
      → S p.released.applications.setting → Holds S p
  holds p g w a rg rw ra = record { present = present; released = released }
    where
      present : (f : Feature) → S (feature_of p f).setting
      present Groups = g
      present Flow = w
      present Applications = a

      released : (f : Feature) → S (released_of p f).setting
      released Groups = rg
      released Flow = rw
      released Applications = ra

  with_features_lem : (p : Port) (c : Control) (x : Feature → State) → ((f : Feature) → S (x f).setting) → Holds S p → Holds S (with_features (with_control p c) x)
  with_features_lem p c x k h = holds (with_features (with_control p c) x) (k Groups) (k Flow) (k Applications) (h.released Groups) (h.released Flow) (h.released Applications)

  with_control_lem : (p : Port) (c : Control) → Holds S p → Holds S (with_control p c)
  with_control_lem p c h = with_features_lem p c (feature_of p) h.present h

  -- where a test decides between two states
  either_setting : (b : Bool) (x y : State) → S x.setting → S y.setting → S (if b then x else y).setting
  either_setting true x y h k = h
  either_setting false x y h k = k

  -- the send rule releases the present settings or none
  sent_holds : (p : Port) → Holds S p → Holds S (sent p)
  unfolding sent
  sent_holds p h = by (raises_seq_no p)
    where
      by : (b : Bool) → Holds S (if b then release (with_control p (with_seq p.control (next p.control.seq))) else p)
      by true = holds _ (h.present Groups) (h.present Flow) (h.present Applications) (h.present Groups) (h.present Flow) (h.present Applications)
      by false = h

  fresh_holds : (p : Port) → ((f : Feature) → S (feature_of p f).setting) → Holds S (fresh_port p)
  unfolding fresh_port
  fresh_holds p h = by (running p)
    where
      at : (f : Feature) → S (fresh (feature_of p f).max (feature_of p f).setting).setting
      at f = rw (fresh_setting 1 (feature_of p f).max (feature_of p f).setting) (h f)

      parts : Holds S (fresh_parts p)
      parts = holds (fresh_parts p) (at Groups) (at Flow) (at Applications) (at Groups) (at Flow) (at Applications)

      by : (b : Bool) → Holds S (if b then sent (fresh_parts p) else with_features (fresh_parts p) (λ f. stopped (feature_of (fresh_parts p) f)))
      by true = sent_holds (fresh_parts p) parts
      by false = holds _ (at Groups) (at Flow) (at Applications) (at Groups) (at Flow) (at Applications)

  marked_setting : (f : Feature) (seq : ℕ) (x y : State) → S y.setting → S (marked f seq x y).setting
  unfolding marked
  marked_setting f seq x y h = either_setting (changed f x y) _ y h h

  completed_holds : (before after : Port) → Holds S after → Holds S (completed before after)
  completed_holds before after h =
      sent_holds (step5 before after)
      (with_features_lem after after.control (λ f. marked f after.control.seq (feature_of before f) (feature_of after f))
      (λ f. marked_setting f after.control.seq (feature_of before f) (feature_of after f) (h.present f)) h)

  -- a frame

  twice_setting : (x : State) → S x.setting → S (control_twice x).setting
  unfolding control_twice
  twice_setting x h = either_setting x.setting.advertise _ x h h

  received_setting : (f : Feature) (r : Received) (rcvd seq : ℕ) (x : State) → S x.setting → S (received f r (acknowledged rcvd seq x)).setting
  unfolding received acknowledged
  received_setting f r rcvd seq x h = either_setting x.setting.advertise _ _ h h

  exchanged_holds : (oper : ℕ) (m : Message) (p : Port) → Holds S p → Holds S (exchanged oper m p)
  unfolding exchanged
  exchanged_holds oper m p h =
      with_features_lem p _ (λ f. received f (m.has f) (acknowledged m.ack p.control.seq (feature_of p f)))
      (λ f. received_setting f (m.has f) m.ack p.control.seq (feature_of p f) (h.present f)) h

  once_holds : (m : Message) (p : Port) → Holds S p → Holds S (once m p)
  unfolding once
  once_holds m p h = by (m.oper is lower p.control.max m.max)
    where
      by : (b : Bool) → Holds S (if b then exchanged (lower p.control.max m.max) m p else with_control p (met (lower p.control.max m.max) p.control))
      by true = exchanged_holds (lower p.control.max m.max) m p h
      by false = with_control_lem p (met (lower p.control.max m.max) p.control) h

  twice_holds : (p : Port) → Holds S p → Holds S (twice p)
  unfolding twice
  twice_holds p h = with_features_lem p _ (λ f. control_twice (feature_of p f)) (λ f. twice_setting (feature_of p f) (h.present f)) h

  steps_hold : (o : List ℕ) (c : Contents) (p : Port) → Holds S p → Holds S (steps1to4 o c p)
  unfolding steps1to4
  steps_hold o c p h = by (1 below c.control.count)
    where
      by : (b : Bool) → Holds S (if b then twice p else once (message o c) p)
      by true = twice_holds p h
      by false = once_holds (message o c) p h

  rejected_holds : (why : Refusal) (place : ℕ) (p : Port) → Holds S p → Holds S (rejected why place p).port
  unfolding rejected
  rejected_holds why place p h = with_control_lem p _ h

  handled_holds : (p : Port) (o : List ℕ) → Holds S p → Holds S (handled p o).port
  unfolding handled given accepted frame_event
  handled_holds p o h = by (running p) p.several (read_for p.revision o)
    where
      by : (a b : Bool) (x : Reading) → Holds S (if not a then rejected NotRunning 0 p else if b then rejected SeveralNeighbours 0 p else given o x p).port
      by false b x = rejected_holds NotRunning 0 p h
      by true true x = rejected_holds SeveralNeighbours 0 p h
      by true false (Err r) = rejected_holds r.why r.place p h
      by true false (Ok c) = completed_holds p (steps1to4 o c p) (steps_hold o c p h)

  -- flags and peer gone

  flag_holds : (p : Port) (x : Flag) (on : Bool) → Holds S p → Holds S (with_flag p x on)
  flag_holds p Admin on h = holds _ (h.present Groups) (h.present Flow) (h.present Applications) (h.released Groups) (h.released Flow) (h.released Applications)
  flag_holds p Receive on h = holds _ (h.present Groups) (h.present Flow) (h.present Applications) (h.released Groups) (h.released Flow) (h.released Applications)
  flag_holds p Transmit on h = holds _ (h.present Groups) (h.present Flow) (h.present Applications) (h.released Groups) (h.released Flow) (h.released Applications)
  flag_holds p Several on h = holds _ (h.present Groups) (h.present Flow) (h.present Applications) (h.released Groups) (h.released Flow) (h.released Applications)

  flagged_holds : (x : Flag) (on : Bool) (p : Port) → Holds S p → Holds S (flagged x on p).port
  unfolding flagged flag_set
  flagged_holds x on p h = by (beq (flag_of p x) on) (restarts x on p (with_flag p x on))
    where
      q : Holds S (with_flag p x on)
      q = flag_holds p x on h

      by : (a b : Bool) → Holds S (if a then unchanged p else event (flag_notice x on) p (if b then fresh_port (with_flag p x on) else with_flag p x on)).port
      by true b = h
      by false true = fresh_holds (with_flag p x on) q.present
      by false false = q

  gone_holds : (p : Port) → Holds S p → Holds S (peer_gone p).port
  unfolding peer_gone
  gone_holds p h = by (running p) _
    where
      by : (b : Bool) (x : Raised) → Holds S (if not b then refused NotRunning p else event x p (fresh_port p)).port
      by false x = h
      by true x = fresh_holds p h.present

  -- a setting

  feature_holds : (p : Port) (f : Feature) (x : State) → S x.setting → Holds S p → Holds S (with_feature p f x)
  feature_holds p Groups x k h = holds _ k (h.present Flow) (h.present Applications) (h.released Groups) (h.released Flow) (h.released Applications)
  feature_holds p Flow x k h = holds _ (h.present Groups) k (h.present Applications) (h.released Groups) (h.released Flow) (h.released Applications)
  feature_holds p Applications x k h = holds _ (h.present Groups) (h.present Flow) k (h.released Groups) (h.released Flow) (h.released Applications)

  reset_setting : (f : Feature) (seq : ℕ) (s : Setting) (x : State) → S s → S (reset f seq s x).setting
  unfolding reset
  reset_setting f seq s x k = either_setting (beq x.setting.advertise s.advertise) _ _ k (rw (fresh_setting (next seq) x.max s) k)

  set_holds : (f : Feature) (s : Setting) (p : Port) → S s → Holds S p → Holds S (setting_changed f s p)
  unfolding setting_changed
  set_holds f s p k h = by (running p)
    where
      by : (b : Bool) → Holds S (if b then completed p (with_feature p f (reset f p.control.seq s (feature_of p f))) else fresh_port (with_feature p f (with_setting (feature_of p f) s)))
      by true = completed_holds p _ (feature_holds p f _ (reset_setting f p.control.seq s (feature_of p f) k) h)
      by false = fresh_holds _ (feature_holds p f (with_setting (feature_of p f) s) k h).present

  module _ (w : Switches) (o : List ℕ) (k : (f : Feature) → S (setting_of f w o)) (p : Port) (h : Holds S p) where
    changed_holds : (f : Feature) → Holds S (changed_feature f w o p).port
    unfolding changed_feature set_to
    changed_holds f = by (valid_local f o) (same_setting (feature_of p f).setting (setting_of f w o))
      where
        by : (a b : Bool) → Holds S (if a then if b then unchanged p else event None p (setting_changed f (setting_of f w o) p) else refused InvalidSetting p).port
        by false b = h
        by true true = h
        by true false = set_holds f (setting_of f w o) p (k f) h

    setting_holds : (number : ℕ) → Holds S (changed_setting number w o p).port
    unfolding changed_setting changed_applications
    setting_holds number = by (number is 2) (number is 3) (number is 4) (has_applications p.revision)
      where
        by : (a b c d : Bool)
            → Holds S
            (if a then changed_feature Groups w o p
            else if b then changed_feature Flow w o p
            else if c then (if d then changed_feature Applications w o p else refused UnknownFeature p)
            else refused UnknownFeature p).port
        by true b c d = changed_holds Groups
        by false true c d = changed_holds Flow
        by false false true true = changed_holds Applications
        by false false true false = h
        by false false false d = h

  happens_holds : (p : Port) (x : Change) (o : List ℕ) → ((f : Feature) (w : Switches) → S (setting_of f w o)) → Holds S p → Holds S (happens p x o).port
  unfolding happens
  happens_holds p change.Frame o k h = handled_holds p o h
  happens_holds p change.PeerGone o k h = gone_holds p h
  happens_holds p (change.Flag x on) o k h = flagged_holds x on p h
  happens_holds p (change.Setting n w) o k h = setting_holds w o (λ f. k f w) p h n

  -- creation
  started_holds : (v : Versions) (g w a : Setting) → S g → S w → S a → Holds S (started v g w a)
  unfolding started
  started_holds v g w a hg hw ha = sent_holds _ (holds _ (at v.groups g hg) (at v.flow w hw) (at v.applications a ha) (at v.groups g hg) (at v.flow w hw) (at v.applications a ha))
    where
      at : (max : ℕ) (s : Setting) → S s → S (fresh max s).setting
      at max s k = rw (fresh_setting 1 max s) k

-- ---- a port's own settings are octets

abbrev Small : Setting → Type 0
Small s = Octets (content s.desired)

ours_octets : (f : Feature) (o : List ℕ) → Octets o → Octets (ours f o)
unfolding ours ours_of
ours_octets Groups o h = h
ours_octets Flow o h = h
ours_octets Applications o h = by (entry_count o)
  where
    by : (n : ℕ) → Octets (ours_of n o)
    by zero = none_octets
    by (suc n) =
        append_octets (ours_of n o) (if is_ours o n then take 6 (drop (6 * n) o) else []) (by n)
        (either_octets (is_ours o n) (take 6 (drop (6 * n) o)) [] (take_octets 6 (drop (6 * n) o) (drop_octets (6 * n) o h)) none_octets)

stored_octets : (o : List ℕ) → Octets o → Octets (content (stored o))
unfolding content stored
stored_octets o h =
    take_octets (length (take 96 o)) (take 96 o ++ replicate (96 - length o) 0) (append_octets (take 96 o) (replicate (96 - length o) 0) (take_octets 96 o h) (zeros_octets (96 - length o)))

setting_small : (f : Feature) (w : Switches) (o : List ℕ) → Octets o → Small (setting_of f w o)
setting_small f w o h = stored_octets (ours f o) (ours_octets f o h)

own_held : (p : Port) → Holds Small p → OwnOctets p
own_held p h = record { present = h.present; released = h.released }

-- ---- whatever happens at a port

pub happens_own : (p : Port) (x : Change) (o : List ℕ) → Octets o → OwnOctets p → OwnOctets (happens p x o).port
happens_own p x o k h = own_held _ (happens_holds Small p x o (λ f w. setting_small f w o k) (record { present = h.present; released = h.released }))

pub happens_stands : (p : Port) (x : Change) (o : List ℕ) → Octets o → Standing p → Standing (happens p x o).port
unfolding happens
happens_stands p change.Frame o k h = handled_stands p o k h
happens_stands p change.PeerGone o k h = gone_stands p h
happens_stands p (change.Flag x on) o k h = flagged_stands x on p h
happens_stands p (change.Setting n w) o k h = setting_stands p h n w o

pub after_own : (p : Port) (e : Entry) → Octets (octets_in e) → OwnOctets p → OwnOctets (port_after p e)
unfolding port_after octets_in
after_own p (Sent o) k h = h
after_own p (Given o) k h = happens_own p change.Frame o k h
after_own p (Changed x o) k h = happens_own p x o k h
after_own p Passed k h = h

pub after_stands : (p : Port) (e : Entry) → Octets (octets_in e) → Standing p → Standing (port_after p e)
unfolding port_after octets_in
after_stands p (Sent o) k h = h
after_stands p (Given o) k h = happens_stands p change.Frame o k h
after_stands p (Changed x o) k h = happens_stands p x o k h
after_stands p Passed k h = h

-- ---- what it writes

control_octets : (c : Control) → SoundControl c → Octets (control_tlv c)
control_octets c h = each_octets (control_tlv c) (omega arith)

flags_small : (a b c : Bool) → flags a b c < 256
flags_small a b c = omega (arith, at_most a 128, at_most b 64, at_most c 32)
  where
    at_most : (b : Bool) (n : ℕ) → (if b then n else 0) ≤ n
    at_most true n = omega arith
    at_most false n = omega arith

content_short : (f : Feature) (x : Parameters) → SoundParameters f x → length (content x) ≤ 96
unfolding content stored
content_short f x h =
    omega (arith, length-take x.length x.octets, ap (λ (y : Parameters). y.length) h.whole, length-take 96 (take x.length x.octets))

type_small : (f : Feature) → feature_number f < 128
unfolding feature_number
type_small Groups = lit< tt
type_small Flow = lit< tt
type_small Applications = lit< tt

tlv_octets : (f : Feature) (max : ℕ) (r : Release) → max < 256 → SoundRelease f max r → Small r.setting → Octets (release_tlv f max r)
unfolding release_tlv
tlv_octets f max r m h k =
    let n : length (content r.setting.desired) ≤ 96 = content_short f r.setting.desired h.setting.desired in
    let b : ℕ = flags r.setting.enable r.setting.willing r.error in
    let l : b < 256 = flags_small r.setting.enable r.setting.willing r.error in
    either_octets r.setting.advertise (headed (feature_number f) (value max r)) []
    (append_octets (head (feature_number f) (length (value max r)) ++ (r.oper ∷ max ∷ b ∷ 0 ∷ [])) (content r.setting.desired)
    (each_octets (head (feature_number f) (length (value max r)) ++ (r.oper ∷ max ∷ b ∷ 0 ∷ [])) (omega (arith, type_small f, h.oper))) k)
    none_octets

module _ (p : Port) (h : SoundPort p) (k : OwnOctets p) where
  released_octets : (f : Feature) → Octets (released_tlv p f)
  released_octets f = tlv_octets f (feature_of p f).max (released_of p f) (h.features f).max (h.released f) (k.released f)

  subs_octets : Octets (sub_tlvs p)
  unfolding sub_tlvs
  subs_octets =
      append_octets (control_tlv p.control) (feature_tlvs p) (control_octets p.control h.control)
      (append_octets (released_tlv p Groups) (released_tlv p Flow ++ released_tlv p Applications) (released_octets Groups)
      (append_octets (released_tlv p Flow) (released_tlv p Applications) (released_octets Flow) (released_octets Applications)))

  pub frame_spelt : OctetsWithin 513 (frame p)
  unfolding frame
  frame_spelt =
      record {
        few = omega (arith, frame_longest p h);
        octets = append_octets (frame_head (length (sub_tlvs p))) (sub_tlvs p) (each_octets (frame_head (length (sub_tlvs p))) (omega (arith, frame_longest p h))) subs_octets;
      }

-- ---- a port that was made

blank_octets : (f : Feature) → Octets (blank_parameters f)
unfolding blank_parameters
blank_octets Groups = each_octets (blank_parameters Groups) (omega arith)
blank_octets Flow = each_octets (blank_parameters Flow) (omega arith)
blank_octets Applications = none_octets

pub blank_own : OwnOctets blank_port
unfolding blank_port
blank_own = own_held blank_port (holds Small blank_port (at Groups) (at Flow) (at Applications) (at Groups) (at Flow) (at Applications))
  where
    at : (f : Feature) → Small (fresh 0 (setting_of f switched_off (blank_parameters f))).setting
    at f = rw (fresh_setting 1 0 (setting_of f switched_off (blank_parameters f))) (setting_small f switched_off (blank_parameters f) (blank_octets f))

-- the parameters that a revision takes
parameters_small : (v : Versions) (o : Feature → List ℕ) → ((f : Feature) → Octets (o f)) → (f : Feature) → Octets (parameters_for v.revision o f)
parameters_small v o h Groups = h Groups
parameters_small v o h Flow = h Flow
parameters_small v o h Applications = either_octets (has_applications v.revision) (o Applications) [] (h Applications) none_octets

module _ (v : Versions) (w : Feature → Switches) (o : Feature → List ℕ) (r : SettingsInRange v o) where
  pub made : Standing (created v w o blank_port).port × OwnOctets (created v w o blank_port).port
  unfolding created created_with
  made = by (settings_valid (parameters_for v.revision o)) refl
    where
      at : (f : Feature) → Small (setting_of f (switches_for v.revision w f) (parameters_for v.revision o f))
      at f = setting_small f (switches_for v.revision w f) (parameters_for v.revision o f) (parameters_small v o r.octets f)

      by : (b : Bool) → settings_valid (parameters_for v.revision o) ≡ b
          → let q : Port = (if b then creation.made blank_port (created_port (versions_for v) (switches_for v.revision w) (parameters_for v.revision o)) else refused InvalidSetting blank_port).port in
          Standing q × OwnOctets q
      by false e = (blank_stands, blank_own)
      by true e = (
        created_stands (versions_for v) (switches_for v.revision w) (parameters_for v.revision o) r.control (versions_small v r.versions) e (λ t. (rw t refl, rw t refl, rw t refl)),
        own_held _ (started_holds Small (versions_for v) _ _ _ (at Groups) (at Flow) (at Applications)),
      )
