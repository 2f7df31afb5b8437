-- One call at a recorder: its answer is what the table gives, and a refused call changes nothing but a frame's mark and notice. Assumes nothing.
use Prim.Native.Nat.{ℕ, zero, suc}
use mathlib.Core.Path.{◌≡◌, ◌∙◌, refl, sym, ap}
use mathlib.Core.Bool.{Bool, true, false, not, ◌&&◌, ◌||◌, beq, false≢true}
use mathlib.Core.List.{List, [], ◌∷◌, ◌++◌}
use lib.ListN.{length, drop, get_or, set}
use borrow.Author.Tests.{eqb-false}
use Rattle.std.specs.Prelude.{if◌then◌else◌, None, Ok, Err}
use Rattle.octets.specs.Words.{◌below◌, ◌is◌}
use Rattle.octets.specs.Laws.{same_refl}
use Rattle.tlv.specs.declared.Refusal.{Refusal}
use Rattle.tlv.specs.declared.Refusal.TheVariants.{NotRunning, SeveralNeighbours, NotDcbx, WrongLength, PastEnd, NoControl, ControlLength, ControlVersion, InvalidSetting, ShortOutput, UnknownFeature, NoNotice, NoPort}
use Rattle.contents.specs.Contents.{Reading}
use Rattle.tlv.specs.Refusals.{Reply, refusal_number, refusal_at}
use Rattle.tlv.specs.declared.Revision.{Revision}
use Rattle.tlv.specs.declared.Revision.TheVariants.{Rev101, Rev10}
use Rattle.reading.specs.Reading.{read_frame}
use Rattle.tlv.specs.Revisions.{has_applications}
use Rattle.reading.specs.Revisions.{skipping, read_for}
use Rattle.invariants.proofs.Standing.{none_valid}
use Rattle.parameters.specs.declared.Feature.{Feature}
use Rattle.parameters.specs.declared.Feature.TheVariants.{Groups, Flow, Applications}
use Rattle.parameters.specs.Parameters.{valid_local}
use Rattle.feature.specs.declared.Switches.{Switches}
use Rattle.machine.specs.State.{setting_of, same_setting}
use Rattle.notices.specs.declared.Kind.TheVariants.{ControlError}
use Rattle.notices.specs.declared.Log.{Log}
use Rattle.notices.specs.Notices.{is_port, count_of, oldest_of, logged_all, without_oldest}
use Rattle.port.specs.declared.Event.{Event}
use Rattle.port.specs.declared.Flag.{Flag}
use Rattle.port.specs.declared.Notices.{Notices}
use Rattle.port.specs.declared.Port.{Port}
use Rattle.port.specs.Types.{Raised}
use Rattle.port.specs.declared.Versions.{Versions}
use Rattle.port.specs.Parts.{feature_of, flag_of, running}
use Rattle.port.specs.Replies.{event_reply, written_reply}
use Rattle.port.specs.Writing as writing
use Rattle.creation.specs.Creation.{blank_port, created_port, settings_valid, made, versions_for, switches_for, parameters_for}
use Rattle.events.specs.PortEvents.{listed, in_order, silent, refused, unchanged, event}
use Rattle.flags.specs.Flags.{flag_notice, flag_set}
use Rattle.sending.specs.Sending.{fresh_port}
use Rattle.changes.specs.Changes.{setting_changed, set_to, changed_feature}
use Rattle.creation.specs.Creation as creation
use Rattle.flags.specs.Flags as flags
use Rattle.changes.specs.Changes as changes
use Rattle.admission.specs.Admission.{newly_marked, breaks, with_broken, alone, rejected}
use Rattle.handling.specs.Handling.{frame_event, accepted, given}
use Rattle.handling.specs.Handling as handling
use Rattle.recorder.specs.declared.Recorder.{Recorder}
use Rattle.logging.specs.declared.Taken.{Taken}
use Rattle.logging.specs.Logging.{taken}
use Rattle.recorder.specs.Recorder.{place_of, port_at, happens, changed, created, stored, written, output}
use Rattle.calls.specs.Calls.{Operation, create, frame, gone, flag, setting, write, take, Call, event_of, raised_at, after_at, lent_to, lent_at, took_reply, reply_at}
use Rattle.calls.specs.Rows.{is_frame, invalid, takes_setting}
use Rattle.calls.specs.Table.{applies, order, first_in, first_at, place_beside}
use Rattle.calls.specs.Demand1.{unmarked, asked, values_at, reply, is_broken, news_of, left_by, Answers}
use Rattle.calls.proofs.FrameRows.{read_number, read_place, reading}

-- ---- a refusal's number is none of the done's

reply_refused : (why : Refusal) (place : ℕ) (values : List ℕ) → refusal_at why place ≡ reply (refusal_number why) place values
unfolding refusal_number reply
reply_refused NotRunning place values = refl
reply_refused SeveralNeighbours place values = refl
reply_refused NotDcbx place values = refl
reply_refused WrongLength place values = refl
reply_refused PastEnd place values = refl
reply_refused NoControl place values = refl
reply_refused ControlLength place values = refl
reply_refused ControlVersion place values = refl
reply_refused InvalidSetting place values = refl
reply_refused ShortOutput place values = refl
reply_refused UnknownFeature place values = refl
reply_refused NoNotice place values = refl
reply_refused NoPort place values = refl

-- ---- the answer by the table, and what a refused call leaves of the port and raises

and_no : (b : Bool) → (b && false) ≡ false
and_no true = refl
and_no false = refl

here_no : (b : Bool) → b ≡ false → (b && true) ≡ false
here_no b e = rw e refl

-- what a refusal with number k leaves of port p, where the number names it
abbrev port_left : Bool → ℕ → Operation → Port → Port
port_left here k x p = if is_frame x && here then with_broken p (is_broken k) else p

abbrev notices_left : ℕ → Port → Notices
notices_left k p = if is_broken k then alone (newly_marked ControlError p.control.broken true) else silent

-- the event of an operation x over the tests of its definition: what it answers, by a number of the table, the place and the values
-- beside it; and what it leaves of the port and raises where that number is not 0
record Told (here : Bool) (x : Operation) (p : Port) (e : Event) (n : ℕ) (values : List ℕ) : Type 0 where
  answer : event_reply e.answer ≡ reply n (place_beside n x) values
  port : (n ≡ 0 → ⊥) → e.port ≡ port_left here n x p
  notices : (n ≡ 0 → ⊥) → e.notices ≡ notices_left n p
  whole : is_frame x ≡ false → is_broken n ≡ false

-- of an event that asks where the octets to be written differ
abbrev Asks : Bool → Operation → Port → Event → ℕ → Type 0
Asks here op p e n = Told here op p e n (asked p e.port)

module _ (op : Operation) (p : Port) where
  told_refused : (here : Bool) → (is_frame op && here) ≡ false → (why : Refusal) {values : List ℕ} → 0 ≡ place_beside (refusal_number why) op → is_broken (refusal_number why) ≡ false
      → Told here op p (refused why p) (refusal_number why) values
  told_refused here h why {values} e b =
      record {
        answer = reply_refused why 0 values ∙ ap (λ (i : ℕ). reply (refusal_number why) i values) e;
        port = λ z. rw h refl;
        notices = λ z. rw b refl;
        whole = λ z. b;
      }

  -- a frame
  told_rejected : is_frame op ≡ true → (why : Refusal) (place : ℕ) {values : List ℕ} → place ≡ place_beside (refusal_number why) op
      → Told true op p (rejected why place p) (refusal_number why) values
  unfolding rejected breaks
  told_rejected h why place {values} e =
      record {
        answer = reply_refused why place values ∙ ap (λ (i : ℕ). reply (refusal_number why) i values) e;
        port = λ z. rw h refl;
        notices = λ z. by (is_broken (refusal_number why)) p.control.broken;
        whole = λ z. absurd (false≢true (sym z ∙ h));
      }
    where
      by : (a b : Bool) → alone (newly_marked ControlError b a) ≡ (if a then alone (newly_marked ControlError b true) else silent)
      by true b = refl
      by false true = refl
      by false false = refl

  -- 16 before all others
  told_at : (b : Bool) (e : Event) (n : ℕ) → Asks true op p e n → Asks b op p (if b then e else refused NoPort p) (if not b then 16 else n)
  unfolding refusal_number place_beside
  told_at true e n h = h
  told_at false e n h = told_refused false (and_no (is_frame op)) NoPort refl refl

  told_event : (x : Raised) (q : Port) → Asks true op p (event x p q) 0
  unfolding writing.asks reply
  told_event x q = record { answer = refl; port = λ h. absurd (h refl); notices = λ h. absurd (h refl); whole = λ z. refl }

  told_unchanged : Asks true op p (unchanged p) 0
  unfolding reply
  told_unchanged = record { answer = rw (same_refl (writing.to_write p)) refl; port = λ h. absurd (h refl); notices = λ h. absurd (h refl); whole = λ z. refl }

  told_frame : is_frame op ≡ true → (o : List ℕ) (a b : Bool) (x : Reading) (n : ℕ) → read_number x ≡ n → read_place x ≡ place_beside n op →
      Asks true op p (if not a then rejected NotRunning 0 p else if b then rejected SeveralNeighbours 0 p else given o x p) (if not a then 1 else if b then 2 else n)
  unfolding given accepted frame_event refusal_number place_beside
  told_frame h o false b x n e i = told_rejected h NotRunning 0 refl
  told_frame h o true true x n e i = told_rejected h SeveralNeighbours 0 refl
  told_frame h o true false (Err r) n e i = rw (← e) (told_rejected h r.why r.place (i ∙ rw e refl))
  told_frame h o true false (Ok d) n e i = rw (← e) (told_event _ _)

  told_gone : is_frame op ≡ false → (a : Bool) (x : Raised) → Asks true op p (if not a then refused NotRunning p else event x p (fresh_port p)) (if not a then 1 else 0)
  unfolding refusal_number place_beside
  told_gone h false x = told_refused true (here_no (is_frame op) h) NotRunning refl refl
  told_gone h true x = told_event x (fresh_port p)

  told_flag : (b : Bool) (x : Raised) (q : Port) → Asks true op p (if b then unchanged p else event x p q) 0
  told_flag true x q = told_unchanged
  told_flag false x q = told_event x q

  told_feature : is_frame op ≡ false → (f : Feature) (w : Switches) (o : List ℕ) (b : Bool) →
      Asks true op p (if b then set_to f (setting_of f w o) p else refused InvalidSetting p) (if not b then 9 else 0)
  unfolding refusal_number place_beside set_to
  told_feature h f w o false = told_refused true (here_no (is_frame op) h) InvalidSetting refl refl
  told_feature h f w o true = told_flag (same_setting (feature_of p f).setting (setting_of f w o)) None (setting_changed f (setting_of f w o) p)

  -- over the tests "number is 2, 3, 4", and whether the port's revision has applications
  told_setting : is_frame op ≡ false → (w : Switches) (o : List ℕ) (a b c d : Bool) →
      Asks true op p
      (if a then changed_feature Groups w o p
      else if b then changed_feature Flow w o p
      else if c then (if d then changed_feature Applications w o p else refused UnknownFeature p)
      else refused UnknownFeature p)
      (if not (a || b || (c && d)) then 11
      else if (if a then not (valid_local Groups o) else if b then not (valid_local Flow o) else if c then not (valid_local Applications o) else true) then 9
      else 0)
  unfolding refusal_number place_beside changed_feature
  told_setting h w o true b c d = told_feature h Groups w o (valid_local Groups o)
  told_setting h w o false true c d = told_feature h Flow w o (valid_local Flow o)
  told_setting h w o false false true true = told_feature h Applications w o (valid_local Applications o)
  told_setting h w o false false true false = told_refused true (here_no (is_frame op) h) UnknownFeature refl refl
  told_setting h w o false false false d = told_refused true (here_no (is_frame op) h) UnknownFeature refl refl

  -- creation, over the tests of its three settings
  told_created : is_frame op ≡ false → (v : Versions) (w : Feature → Switches) (o : Feature → List ℕ) (t a b d : Bool) →
      Asks t op p (if t then (if a && b && d then made p (created_port v w o) else refused InvalidSetting p) else refused NoPort p)
      (if not t then 16 else if not a || not b || not d then 9 else 0)
  unfolding refusal_number place_beside writing.asks reply
  told_created h v w o false a b d = told_refused false (and_no (is_frame op)) NoPort refl refl
  told_created h v w o true false b d = told_refused true (here_no (is_frame op) h) InvalidSetting refl refl
  told_created h v w o true true false d = told_refused true (here_no (is_frame op) h) InvalidSetting refl refl
  told_created h v w o true true true false = told_refused true (here_no (is_frame op) h) InvalidSetting refl refl
  told_created h v w o true true true true = record { answer = refl; port = λ z. absurd (z refl); notices = λ z. absurd (z refl); whole = λ z. refl }

-- a request to write, over its tests
module _ (out after : List ℕ) (n : ℕ) where
  write_reply : (t a b : Bool) →
      written_reply (if t then (if not a then Err NotRunning else if b then Err ShortOutput else Ok n) else Err NoPort)
      ≡ reply (if not t then 16 else if not a then 1 else if b then 10 else 0) (place_beside (if not t then 16 else if not a then 1 else if b then 10 else 0) (write out)) (n ∷ [])
  unfolding refusal_number reply place_beside
  write_reply false a b = refl
  write_reply true false b = refl
  write_reply true true true = refl
  write_reply true true false = refl

  write_stays : (t a b : Bool) → (◌≡◌ {A = ℕ} (if not t then 16 else if not a then 1 else if b then 10 else 0) 0 → ⊥)
      → (if t then (if not a then out else if b then out else after) else out) ≡ out
  write_stays false a b h = refl
  write_stays true false b h = refl
  write_stays true true true h = refl
  write_stays true true false h = absurd (h refl)

-- a number of its own is none of a broken control's
write_whole : (t a b : Bool) → is_broken (if not t then 16 else if not a then 1 else if b then 10 else 0) ≡ false
write_whole false a b = refl
write_whole true false b = refl
write_whole true true true = refl
write_whole true true false = refl

take_whole : (t b : Bool) → is_broken (if not t then 16 else if b then 12 else 0) ≡ false
take_whole false b = refl
take_whole true true = refl
take_whole true false = refl

-- taking, over its tests
module _ (n : ℕ) (l : Log) where
  abbrev pub took_by : Bool → Bool → Taken
  took_by t b =
      if not t then record { answer = Err NoPort; log = l }
      else if b then record { answer = Err NoNotice; log = l }
      else record { answer = Ok (oldest_of n l); log = without_oldest n l }

  take-reply : (ports : List Port) (t b : Bool) →
      took_reply (took_by t b).answer
      ≡ reply (if not t then 16 else if b then 12 else 0) (place_beside (if not t then 16 else if b then 12 else 0) take) (values_at (record { ports = ports; log = l }) n take)
  unfolding refusal_number reply place_beside values_at
  take-reply ports false b = refl
  take-reply ports true true = refl
  take-reply ports true false = refl

  take_stays : (t b : Bool) → (◌≡◌ {A = ℕ} (if not t then 16 else if b then 12 else 0) 0 → ⊥) → (took_by t b).log ≡ l
  take_stays false b h = refl
  take_stays true true h = refl
  take_stays true false h = absurd (h refl)

-- ---- the events of a port

-- no refusal depends on the revision
read_number_lem : (r : Revision) (o : List ℕ) → read_number (read_for r o) ≡ read_number (read_frame o)
unfolding read_for skipping
read_number_lem Rev101 o = refl
read_number_lem Rev10 o = by (read_frame o)
  where
    by : (x : Reading) → read_number (skipping x) ≡ read_number x
    by (Err r) = refl
    by (Ok c) = refl

read_place_lem : (r : Revision) (o : List ℕ) → read_place (read_for r o) ≡ read_place (read_frame o)
unfolding read_for skipping
read_place_lem Rev101 o = refl
read_place_lem Rev10 o = by (read_frame o)
  where
    by : (x : Reading) → read_place (skipping x) ≡ read_place x
    by (Err r) = refl
    by (Ok c) = refl

-- what a creation takes for applications is valid, where it takes nothing: 02, E11
taken_applications : (r : Revision) (o : Feature → List ℕ) →
    (takes_setting r Applications && not (valid_local Applications (o Applications))) ≡ not (valid_local Applications (parameters_for r o Applications))
taken_applications r o = by (has_applications r)
  where
    by : (b : Bool) → (b && not (valid_local Applications (o Applications))) ≡ not (valid_local Applications (if b then o Applications else []))
    by true = refl
    by false = rw none_valid refl

module _ (n : ℕ) (p : Port) (held : ℕ) where
  abbrev first : Operation → ℕ
  first x = first_in order n p held x

  create_told : (v : Versions) (w : Feature → Switches) (o : Feature → List ℕ) → Asks (is_port n) (create v w o) p (event_of n p (create v w o)) (first (create v w o))
  unfolding event_of created creation.created creation.created_with settings_valid first_in applies
  create_told v w o =
      rw (taken_applications v.revision o)
      (told_created (create v w o) p refl (versions_for v) (switches_for v.revision w) (parameters_for v.revision o) (is_port n) (valid_local Groups (o Groups))
      (valid_local Flow (o Flow)) (valid_local Applications (parameters_for v.revision o Applications)))

  frame_told : (o : List ℕ) → Asks (is_port n) (frame o) p (event_of n p (frame o)) (first (frame o))
  unfolding event_of changed happens handling.handled first_in applies
  frame_told o = told_at (frame o) p (is_port n) _ _ (told_frame (frame o) p refl o (running p) p.several (read_for p.revision o) _ (read_number_lem p.revision o ∙ (reading o).number) (read_place_lem p.revision o ∙ (reading o).place))

  gone_told : Asks (is_port n) gone p (event_of n p gone) (first gone)
  unfolding event_of changed happens flags.peer_gone first_in applies
  gone_told = told_at gone p (is_port n) _ _ (told_gone gone p refl (running p) _)

  flag_told : (x : Flag) (on : Bool) → Asks (is_port n) (flag x on) p (event_of n p (flag x on)) (first (flag x on))
  unfolding event_of changed happens flags.flagged first_in applies
  flag_told x on = told_at (flag x on) p (is_port n) _ _ (told_flag (flag x on) p (beq (flag_of p x) on) (flag_notice x on) (flag_set x on p))

  setting_told : (number : ℕ) (w : Switches) (o : List ℕ) → Asks (is_port n) (setting number w o) p (event_of n p (setting number w o)) (first (setting number w o))
  unfolding event_of changed happens changes.changed_setting changes.changed_applications first_in applies invalid
  setting_told number w o = told_at (setting number w o) p (is_port n) _ _ (told_setting (setting number w o) p refl w o (number is 2) (number is 3) (number is 4) (has_applications p.revision))

-- ---- what a refused event leaves of a recorder

set_same : (l : List Port) (i : ℕ) (d : Port) → set l i (get_or l i d) ≡ l
set_same [] i d = refl
set_same (x ∷ l) zero d = refl
set_same (x ∷ l) (suc i) d = ap (◌∷◌ x) (set_same l i d)

silent_logged : (l : Log) (n : ℕ) → logged_all l (in_order n silent) ≡ l
unfolding logged_all in_order listed
silent_logged l n = refl

module _ (r : Recorder) (n : ℕ) where
  -- writing and taking raise nothing
  pub write_quiet : (out : List ℕ) → raised_at r n (write out) ≡ []
  unfolding event_of in_order listed
  write_quiet out = refl

  pub take-quiet : raised_at r n take ≡ []
  unfolding event_of in_order listed
  take-quiet = refl

  -- an event that leaves the port and raises nothing leaves the recorder
  pub stored_same : (e : Event) → e.port ≡ port_at r n → e.notices ≡ silent → stored r n e ≡ r
  unfolding stored
  stored_same e ep en = by (is_port n)
    where
      same : record { ports = set r.ports (place_of n) e.port; log = logged_all r.log (in_order n e.notices) } ≡ r
      same = rw (ep, en, silent_logged r.log n, set_same r.ports (place_of n) blank_port) refl

      by : (b : Bool) → (if b then record { ports = set r.ports (place_of n) e.port; log = logged_all r.log (in_order n e.notices) } else r) ≡ r
      by true = same
      by false = refl

  -- what a refused event leaves
  news_in_order : (k : ℕ) (p : Port) → in_order n (notices_left k p) ≡ news_of n k p
  unfolding in_order listed news_of
  news_in_order k p = by (is_broken k) p.control.broken
    where
      by : (a b : Bool) → in_order n (if a then alone (newly_marked ControlError b true) else silent) ≡ (if a && not b then record { port = n; kind = ControlError; feature = 0 } ∷ [] else [])
      by true true = refl
      by true false = refl
      by false b = refl

  told_leaves : {op : Operation} {k : ℕ} {values : List ℕ} (e : Event) → Told (is_port n) op (port_at r n) e k values → (k ≡ 0 → ⊥) → stored r n e ≡ left_by r n k op
  unfolding stored left_by news_of logged_all
  told_leaves {op} {k} e t h = by (is_port n) (is_frame op) refl refl
    where
      log : logged_all r.log (in_order n e.notices) ≡ logged_all r.log (news_of n k (port_at r n))
      log = ap (λ (x : Notices). logged_all r.log (in_order n x)) (t.notices h) ∙ ap (logged_all r.log) (news_in_order k (port_at r n))

      by : (a b : Bool) → is_port n ≡ a → is_frame op ≡ b
          → (if a then record { ports = set r.ports (place_of n) e.port; log = logged_all r.log (in_order n e.notices) } else r)
          ≡ (if b && a then record { ports = set r.ports (place_of n) (with_broken (port_at r n) (is_broken k)); log = logged_all r.log (news_of n k (port_at r n)) } else r)
      by false b ea eb = rw (and_no b) refl
      by true true ea eb =
          let q : e.port ≡ with_broken (port_at r n) (is_broken k) = t.port h ∙ rw (ea, eb) refl in
          λ i. record { ports = set r.ports (place_of n) (q i); log = log i }
      by true false ea eb =
          let q : e.port ≡ port_at r n = t.port h ∙ rw (ea, eb) refl in
          let none : news_of n k (port_at r n) ≡ [] = rw (t.whole eb) refl in
          (λ i. record { ports = set r.ports (place_of n) (q i); log = (log ∙ ap (logged_all r.log) none) i })
          ∙ rw (set_same r.ports (place_of n) blank_port) refl

  table : (x : Operation) → reply_at r n x ≡ reply (first_at r n x) (place_beside (first_at r n x) x) (values_at r n x)
  unfolding reply_at values_at written writing.written taken first_in applies
  table (create v w o) = (create_told n (port_at r n) (count_of n r.log) v w o).answer
  table (frame o) = (frame_told n (port_at r n) (count_of n r.log) o).answer
  table gone = (gone_told n (port_at r n) (count_of n r.log)).answer
  table (flag x on) = (flag_told n (port_at r n) (count_of n r.log) x on).answer
  table (setting number w o) = (setting_told n (port_at r n) (count_of n r.log) number w o).answer
  table (write out) =
      write_reply out out (length (writing.frame (port_at r n))) (is_port n) (running (port_at r n)) (length out below length (writing.frame (port_at r n)))
  table take = take-reply n r.log r.ports (is_port n) (count_of n r.log is 0)

  leaves : (x : Operation) → (first_at r n x ≡ 0 → ⊥) → (after_at r n x ≡ left_by r n (first_at r n x) x) × (lent_at r n x ≡ lent_to x)
  unfolding after_at lent_at output writing.output taken first_in applies left_by
  leaves (create v w o) h = (told_leaves _ (create_told n (port_at r n) (count_of n r.log) v w o) h, refl)
  leaves (frame o) h = (told_leaves _ (frame_told n (port_at r n) (count_of n r.log) o) h, refl)
  leaves gone h = (told_leaves _ (gone_told n (port_at r n) (count_of n r.log)) h, refl)
  leaves (flag x on) h = (told_leaves _ (flag_told n (port_at r n) (count_of n r.log) x on) h, refl)
  leaves (setting number w o) h = (told_leaves _ (setting_told n (port_at r n) (count_of n r.log) number w o) h, refl)
  leaves (write out) h = (
    refl,
    ap (λ (o : List ℕ). o ∷ [])
        (write_stays out (writing.frame (port_at r n) ++ drop (length (writing.frame (port_at r n))) out) (length (writing.frame (port_at r n))) (is_port n)
        (running (port_at r n)) (length out below length (writing.frame (port_at r n))) h),
  )
  leaves take h = (
    ap (λ (l : Log). record { ports = r.ports; log = l }) (take_stays n r.log (is_port n) (count_of n r.log is 0) h),
    refl,
  )

  raises_news : {op : Operation} {k : ℕ} {values : List ℕ} (e : Event) → Told (is_port n) op (port_at r n) e k values → (k ≡ 0 → ⊥)
      → in_order n e.notices ≡ news_of n k (port_at r n)
  raises_news {k = k} e t h = ap (in_order n) (t.notices h) ∙ news_in_order k (port_at r n)

  raises : (x : Operation) → (first_at r n x ≡ 0 → ⊥) → raised_at r n x ≡ news_of n (first_at r n x) (port_at r n)
  unfolding news_of first_in applies
  raises (create v w o) h = raises_news _ (create_told n (port_at r n) (count_of n r.log) v w o) h
  raises (frame o) h = raises_news _ (frame_told n (port_at r n) (count_of n r.log) o) h
  raises gone h = raises_news _ (gone_told n (port_at r n) (count_of n r.log)) h
  raises (flag x on) h = raises_news _ (flag_told n (port_at r n) (count_of n r.log) x on) h
  raises (setting number w o) h = raises_news _ (setting_told n (port_at r n) (count_of n r.log) number w o) h
  raises (write out) h = write_quiet out ∙ rw (write_whole (is_port n) (running (port_at r n)) (length out below length (writing.frame (port_at r n)))) refl
  raises take h = take-quiet ∙ rw (take_whole (is_port n) (count_of n r.log is 0)) refl

  -- a call whose number is not 0 is refused by a row of the table
  pub refused_first : (x : Operation) → ((reply_at r n x).number is 0) ≡ false → first_at r n x ≡ 0 → ⊥
  unfolding reply
  refused_first x z e =
      eqb-false (reply_at r n x).number 0 z
      (ap (λ (a : Reply). a.number) (table x) ∙ ap (λ (k : ℕ). (reply k (place_beside k x) (values_at r n x)).number) e)

  -- and leaves its port, but for the mark
  left_unmarked : {op : Operation} {k : ℕ} {values : List ℕ} (e : Event) → Told (is_port n) op (port_at r n) e k values → (k ≡ 0 → ⊥) → unmarked e.port ≡ unmarked (port_at r n)
  left_unmarked {op} {k} e t h = ap unmarked (t.port h) ∙ by (is_frame op && is_port n)
    where
      by : (b : Bool) → unmarked (if b then with_broken (port_at r n) (is_broken k) else port_at r n) ≡ unmarked (port_at r n)
      by true = refl
      by false = refl

  pub refused_port : (x : Operation) → ((reply_at r n x).number is 0) ≡ false → unmarked (event_of n (port_at r n) x).port ≡ unmarked (port_at r n)
  unfolding event_of
  refused_port (create v w o) z = left_unmarked _ (create_told n (port_at r n) (count_of n r.log) v w o) (refused_first (create v w o) z)
  refused_port (frame o) z = left_unmarked _ (frame_told n (port_at r n) (count_of n r.log) o) (refused_first (frame o) z)
  refused_port gone z = left_unmarked _ (gone_told n (port_at r n) (count_of n r.log)) (refused_first gone z)
  refused_port (flag x on) z = left_unmarked _ (flag_told n (port_at r n) (count_of n r.log) x on) (refused_first (flag x on) z)
  refused_port (setting number w o) z =
      left_unmarked _ (setting_told n (port_at r n) (count_of n r.log) number w o) (refused_first (setting number w o) z)
  refused_port (write out) z = refl
  refused_port take z = refl

pub answers : (r : Recorder) (x : Call) → Answers r x
answers r x =
    record {
      answer = table r x.port x.operation;
      unchanged = leaves r x.port x.operation;
      raises = raises r x.port x.operation;
    }
