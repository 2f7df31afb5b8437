-- 02, E7: that no end is restarted and none is told that its peer is gone is needed, by an exchange each. Assumes nothing.
use Rattle.std.specs.Prelude.{Ok}
use Prim.Native.Nat.{ℕ, ◌<◌}
use native.Mathlib.Omega.{arith}
use mathlib.Core.Path.{◌≡◌, refl, sym, ap, ◌∙◌, subst}
use mathlib.Core.Bool.{true, false, false≢true}
use mathlib.Core.List.{List, [], ◌∷◌, ◌++◌}
use mathlib.Core.Option.{none, some}
use lib.ListN.{length, get_or}
use lib.Dec.{lit<}
use Rattle.octets.specs.Octets.{same}
use Rattle.tlv.specs.Layout as layout
use Rattle.contents.specs.Contents as contents
use Rattle.reading.specs.Reading as reading
use Rattle.reading.specs.Reading.{walked, read_frame}
use Rattle.tlv.specs.Revisions as revisions
use Rattle.reading.specs.Revisions as revising
use Rattle.tlv.specs.declared.Revision.TheVariants.{Rev101}
use Rattle.contents.specs.declared.Contents.{Contents}
use Rattle.parameters.specs.declared.Feature.{Feature}
use Rattle.parameters.specs.declared.Feature.TheVariants.{Groups, Flow, Applications}
use Rattle.parameters.specs.Parameters as parameters
use Rattle.feature.specs.declared.Switches.{Switches}
use Rattle.feature.specs.Outcome as rules
use Rattle.machine.specs.State as machine
use Rattle.turn.specs.Turn as turn
use Rattle.port.specs.declared.Port.{Port}
use Rattle.port.specs.declared.Versions.{Versions}
use Rattle.port.specs.Parts.{max_of, switched_off}
use Rattle.port.specs.Writing as writing
use Rattle.creation.specs.Creation as creation
use Rattle.sending.specs.Sending as sending
use Rattle.flags.specs.Flags as flags
use Rattle.changes.specs.Changes as changes
use Rattle.admission.specs.Admission as admission
use Rattle.handling.specs.Handling as handling
use Rattle.admission.specs.Admission.{has_of}
use Rattle.rounds.specs.Rounds as ends
use Rattle.rounds.specs.Rounds.{End, left, right, other, Ends, writes, handles, Accepts}
use Rattle.exchange.specs.Demand3.{Begun}
use Rattle.exchange.proofs.NotEmpty.{lent}
use Rattle.exchange.proofs.Restarts.{created_starts}
use Rattle.ticks.specs.Ticks as runs
use Rattle.ticks.specs.Ticks.{Happening, sets, call, frame_of, happened, after, present_tlv, Carries, Handled}
use Rattle.ticks.specs.Needed.{restarted, gone, Breaks}

-- ---- the moments of a run, one after the other

no_moment : (before later : List Happening) (x : Happening) → [] ≡ before ++ (x ∷ later) → ⊥
no_moment [] later x e = let l : 0 ≡ length (x ∷ later) = ap length e in omega arith
no_moment (y ∷ before) later x e = let l : 0 ≡ length (y ∷ (before ++ (x ∷ later))) = ap length e in omega arith

module _ (e : End) (f : Feature) (tlv : List ℕ) where
  none_handled : (c : Ends) → Handled [] c e f tlv → ⊥
  none_handled c h = no_moment h.before h.later (call (handles (other e))) h.run

  -- not at the first, and not later
  not_handled : (x : Happening) (xs : List Happening) (c : Ends) → (x ≡ call (handles (other e)) → (o : List ℕ) → frame_of e c ≡ some o → Carries f tlv o → ⊥)
      → (Handled xs (happened x c) e f tlv → ⊥) → Handled (x ∷ xs) c e f tlv → ⊥
  unfolding after
  not_handled x xs c here there h = by h.before h.run refl
    where
      by : (before : List Happening) → x ∷ xs ≡ before ++ (call (handles (other e)) ∷ h.later) → h.before ≡ before → ⊥
      by [] r b =
          let first : x ≡ call (handles (other e)) = cc in
          here first h.octets (subst (λ zs. frame_of e (after zs c) ≡ some h.octets) b h.written) h.carries
      by (y ∷ before) r b =
          let first : y ≡ x = cc in
          let rest : xs ≡ before ++ (call (handles (other e)) ∷ h.later) = cc in
          let is : after h.before c ≡ after before (happened x c) = ap (λ zs. after zs c) b ∙ ap (λ z. after before (happened z c)) first in
          there
          (record {
            before = before;
            later = h.later;
            run = rest;
            octets = h.octets;
            written = subst (λ d. frame_of e d ≡ some h.octets) is h.written;
            handled = subst (λ d. runs.PastStep3 (runs.port_of (other e) d) h.octets) is h.handled;
            carries = h.carries;
          })

-- ---- both ends advertise flow control, mask 08 and 8 classes; all Max 0

unfoldable versions : Versions
versions = record { revision = Rev101; control = 0; groups = 0; flow = 0; applications = 0 }

unfoldable on : Switches
on = record { advertise = true; enable = true; willing = false }

unfoldable switches : Feature → Switches
switches Groups = switched_off
switches Flow = on
switches Applications = switched_off

unfoldable desired : Feature → List ℕ
desired Groups = 0 ∷ 0 ∷ 0 ∷ 0 ∷ 100 ∷ 0 ∷ 0 ∷ 0 ∷ 0 ∷ 0 ∷ 0 ∷ 0 ∷ 0 ∷ []
desired Flow = 8 ∷ 8 ∷ []
desired Applications = []

unfoldable created : Port
created = creation.created_port versions switches desired

unfoldable start : Ends
start = record { l = created; r = created; from_l = none; from_r = none }

small : (f : Feature) → max_of versions f < 256
unfolding versions
small Groups = lit< tt
small Flow = lit< tt
small Applications = lit< tt

begun : Begun start
unfolding start created desired versions revisions.has_applications creation.settings_valid parameters.valid_local parameters.local_values parameters.valid parameters.valid_groups parameters.valid_flow parameters.valid_applications parameters.is_ours parameters.ours_of parameters.ours parameters.few_and_new parameters.good_halves parameters.sum parameters.all_from parameters.new_name parameters.same_name parameters.ones
begun =
    record {
      l = created_starts versions switches desired (lit< tt) small refl (λ e. absurd (false≢true (sym e)));
      r = created_starts versions switches desired (lit< tt) small refl (λ e. absurd (false≢true (sym e)));
      no_l = refl;
      no_r = refl;
    }

-- the left end's frame is handled at the right one; then its setting becomes 4 classes, which is compatible and changes no Oper and no Error
unfoldable first : List Happening
first = call (writes left lent) ∷ call (handles right) ∷ sets left 3 on (8 ∷ 4 ∷ []) ∷ []

-- the right end's frame, which acknowledges SeqNo 1, is handled at the left one
unfoldable second : List Happening
second = call (writes right lent) ∷ call (handles left) ∷ []

abbrev written : List ℕ
written = 254 ∷ 24 ∷ 0 ∷ 27 ∷ 33 ∷ 2 ∷ 2 ∷ 10 ∷ 0 ∷ 0 ∷ 0 ∷ 0 ∷ 0 ∷ 1 ∷ 0 ∷ 0 ∷ 0 ∷ 0 ∷ 6 ∷ 6 ∷ 0 ∷ 0 ∷ 128 ∷ 0 ∷ 8 ∷ 8 ∷ []

abbrev present : List ℕ
present = 6 ∷ 6 ∷ 0 ∷ 0 ∷ 128 ∷ 0 ∷ 8 ∷ 4 ∷ []

frame_written : ((happened (call (writes left lent)) start).from_l ≡ some written) × Accepts start.l lent
unfolding start created desired versions switches on lent parameters.feature_number parameters.is_ours parameters.ours_of parameters.ours parameters.stored parameters.content machine.fresh_at machine.release_tlv writing.sub_tlvs writing.frame writing.written writing.output sending.unacknowledged sending.raises_seq_no sending.sent creation.started ends.after_write ends.exec happened
frame_written = (refl, (26, refl))

written_read : read_frame written ≡ Ok (walked written).contents
unfolding layout.head_at contents.found_again contents.counts contents.noted reading.onward reading.walk_from reading.walked layout.is_dcbx reading.judged_control reading.read_frame same
written_read = refl

last_octet : get_or (has_of written (walked written).contents Flow).value 5 0 ≡ 8
unfolding layout.head_at contents.found_again contents.counts contents.noted reading.onward reading.walk_from reading.walked
last_octet = refl

-- 8 classes are not 4
not_carried : (o : List ℕ) → some written ≡ some o → Carries Flow present o → ⊥
unfolding parameters.feature_number
not_carried o e k =
    let is : o ≡ written = cc in
    let read : read_frame written ≡ Ok k.contents = subst (λ z. read_frame z ≡ Ok k.contents) is k.read in
    let contents : k.contents ≡ (walked written).contents = accepted_same (sym read ∙ written_read) in
    let four : 4 ≡ get_or (has_of o k.contents Flow).value 5 0 = ap (λ z. get_or z 7 0) k.same in
    let eight : get_or (has_of o k.contents Flow).value 5 0 ≡ 8 = (λ i. get_or (has_of (is i) (contents i) Flow).value 5 0) ∙ last_octet in
    let z : ◌≡◌ {A = ℕ} 4 8 = four ∙ eight in
    omega arith
  where
    accepted_same : {a b : Contents} → ◌≡◌ {A = contents.Reading} (Ok a) (Ok b) → a ≡ b
    accepted_same e = cc

-- ---- what the left end has become

module _ (this : Ends → Ends) where
  abbrev restart : Ends
  restart = this (after first start)

  record Computed : Type 0 where
    pub accepts : Accepts restart.r lent
    pub advertised : (after second restart).l.flow.setting.advertise ≡ true
    pub syncd : (after second restart).l.flow.syncd ≡ true
    pub tlv : present_tlv left Flow (after second restart) ≡ present

  breaks : Computed → Breaks this
  unfolding first second other
  breaks h =
      record {
        ends = start;
        begun = begun;
        first = first;
        proper_first = (frame_written.1, (tt, tt));
        second = second;
        proper_second = (h.accepts, (tt, tt));
        feature = Flow;
        ticked = record { advertised = h.advertised; syncd = h.syncd };
        not_before = subst (λ t. Handled first start left Flow t → ⊥) (sym h.tlv) before;
        not_after = later (present_tlv left Flow (after second restart));
      }
    where
      before : Handled first start left Flow present → ⊥
      before =
          not_handled left Flow present _ _ start (λ e. absurd (false≢true cc))
          (not_handled left Flow present _ _ _ (λ e o w k. not_carried o (sym frame_written.0 ∙ w) k)
          (not_handled left Flow present _ _ _ (λ e. absurd (false≢true cc)) (none_handled left Flow present _)))

      later : (t : List ℕ) → Handled second restart left Flow t → ⊥
      later t =
          not_handled left Flow t _ _ restart (λ e. absurd (false≢true cc))
          (not_handled left Flow t _ _ _ (λ e. absurd (false≢true cc)) (none_handled left Flow t _))

restarted_computed : Computed restarted
unfolding first second restarted start created desired versions switches on lent layout.head_at contents.found_again contents.counts contents.noted reading.onward reading.walk_from reading.walked layout.is_dcbx reading.judged_control reading.read_frame revisions.has_applications revising.skipping revising.read_for parameters.feature_number parameters.good_halves parameters.sum parameters.valid_groups parameters.valid_flow parameters.same_name parameters.all_from parameters.new_name parameters.valid_applications parameters.valid parameters.ones parameters.local_values parameters.valid_local parameters.clash parameters.clear_of parameters.compatible parameters.is_ours parameters.ours_of parameters.ours parameters.few_and_new parameters.stored parameters.content parameters.same_parameters rules.judged rules.outcome machine.fresh_at machine.release_tlv turn.acknowledged turn.received machine.differing machine.marked machine.same_setting machine.judged_again machine.reset writing.sub_tlvs writing.frame writing.to_write writing.asks writing.written writing.output sending.unacknowledged sending.raises_seq_no sending.sent creation.started sending.fresh_port flags.restarts flags.flag_set flags.flagged changes.setting_changed changes.set_to changes.changed_feature changes.changed_applications changes.changed_setting handling.exchanged handling.once handling.steps1to4 admission.breaks admission.rejected handling.frame_event handling.accepted handling.given handling.handled ends.other ends.after_write ends.delivered ends.exec happened after same
restarted_computed = record { accepts = (26, refl); advertised = refl; syncd = refl; tlv = refl }

gone_computed : Computed gone
unfolding first second gone start created desired versions switches on lent layout.head_at contents.found_again contents.counts contents.noted reading.onward reading.walk_from reading.walked layout.is_dcbx reading.judged_control reading.read_frame revisions.has_applications revising.skipping revising.read_for parameters.feature_number parameters.good_halves parameters.sum parameters.valid_groups parameters.valid_flow parameters.same_name parameters.all_from parameters.new_name parameters.valid_applications parameters.valid parameters.ones parameters.local_values parameters.valid_local parameters.clash parameters.clear_of parameters.compatible parameters.is_ours parameters.ours_of parameters.ours parameters.few_and_new parameters.stored parameters.content parameters.same_parameters rules.judged rules.outcome machine.fresh_at machine.release_tlv turn.acknowledged turn.received machine.differing machine.marked machine.same_setting machine.judged_again machine.reset writing.sub_tlvs writing.frame writing.to_write writing.asks writing.written writing.output sending.unacknowledged sending.raises_seq_no sending.sent creation.started sending.fresh_port flags.peer_gone changes.setting_changed changes.set_to changes.changed_feature changes.changed_applications changes.changed_setting handling.exchanged handling.once handling.steps1to4 admission.breaks admission.rejected handling.frame_event handling.accepted handling.given handling.handled ends.other ends.after_write ends.delivered ends.exec happened after same
gone_computed = record { accepts = (26, refl); advertised = refl; syncd = refl; tlv = refl }

pub restart_breaks : Breaks restarted
restart_breaks = breaks restarted restarted_computed

pub gone_breaks : Breaks gone
gone_breaks = breaks gone gone_computed
