-- Six rounds are needed (02, E5): five leave an exchange with a SeqNo that is not acknowledged. Assumes nothing.
use Prim.Native.Nat.{ℕ, ◌<◌}
use native.Mathlib.Omega.{arith}
use mathlib.Core.Path.{◌≡◌, refl, sym, ◌∙◌}
use mathlib.Core.Bool.{true, false, false≢true}
use mathlib.Core.List.{List, [], ◌∷◌}
use mathlib.Core.Option.{none}
use lib.ListN.{length, replicate}
use lib.Dec.{lit<}
use Rattle.octets.specs.Octets.{same}
use Rattle.tlv.specs.Layout as layout
use Rattle.contents.specs.Contents as contents
use Rattle.reading.specs.Reading as reading
use Rattle.tlv.specs.Revisions as revisions
use Rattle.reading.specs.Revisions as revising
use Rattle.tlv.specs.declared.Revision.TheVariants.{Rev101}
use Rattle.parameters.specs.declared.Feature.{Feature}
use Rattle.parameters.specs.declared.Feature.TheVariants.{Groups, Flow, Applications}
use Rattle.parameters.specs.Parameters as parameters
use Rattle.feature.specs.declared.Switches.{Switches}
use Rattle.feature.specs.Outcome as rules
use Rattle.machine.specs.State as machine
use Rattle.turn.specs.Turn as turn
use Rattle.port.specs.declared.Port.{Port}
use Rattle.port.specs.declared.Versions.{Versions}
use Rattle.port.specs.Parts.{max_of}
use Rattle.port.specs.Writing as writing
use Rattle.creation.specs.Creation as creation
use Rattle.sending.specs.Sending as sending
use Rattle.events.specs.PortEvents as events
use Rattle.admission.specs.Admission as admission
use Rattle.handling.specs.Handling as handling
use Rattle.rounds.specs.Rounds as ends
use Rattle.rounds.specs.Rounds.{Ends, Round, rounds, exec_all, Proper}
use Rattle.exchange.specs.Demand3.{Begun}
use Rattle.exchange.proofs.NotEmpty.{lent, plain_round, plain_rounds}
use Rattle.exchange.proofs.Restarts.{created_starts}

-- W7 with flow control Max 0 and 1 in that order: W2's settings, control Max 0 and 1, masks 08 and 10
unfoldable versions : ℕ → ℕ → Versions
versions control flow = record { revision = Rev101; control = control; groups = 0; flow = flow; applications = 0 }

unfoldable unwilling : Feature → Switches
unwilling f = record { advertise = true; enable = true; willing = false }

unfoldable desired : ℕ → Feature → List ℕ
desired mask Groups = 0 ∷ 1 ∷ 0 ∷ 0 ∷ 50 ∷ 50 ∷ 0 ∷ 0 ∷ 0 ∷ 0 ∷ 0 ∷ 0 ∷ 2 ∷ []
desired mask Flow = mask ∷ 8 ∷ []
desired mask Applications = 137 ∷ 6 ∷ 0 ∷ 27 ∷ 33 ∷ 8 ∷ []

unfoldable created : ℕ → ℕ → ℕ → Port
created control flow mask = creation.created_port (versions control flow) unwilling (desired mask)

unfoldable late : Ends
late = record { l = created 0 0 8; r = created 1 1 16; from_l = none; from_r = none }

small : (flow : ℕ) → flow < 256 → (control : ℕ) (f : Feature) → max_of (versions control flow) f < 256
unfolding versions
small flow h control Groups = lit< tt
small flow h control Flow = h
small flow h control Applications = lit< tt

begun : Begun late
unfolding late created desired versions revisions.has_applications creation.settings_valid parameters.valid_local parameters.local_values parameters.valid parameters.valid_groups parameters.valid_flow parameters.valid_applications parameters.is_ours parameters.ours_of parameters.ours parameters.few_and_new parameters.good_halves parameters.sum parameters.all_from parameters.new_name parameters.same_name parameters.ones
begun =
    record {
      l = created_starts (versions 0 0) unwilling (desired 8) (lit< tt) (small 0 (lit< tt) 0) refl (λ e. absurd (false≢true (sym e)));
      r = created_starts (versions 1 1) unwilling (desired 16) (lit< tt) (small 1 (lit< tt) 1) refl (λ e. absurd (false≢true (sym e)));
      no_l = refl;
      no_r = refl;
    }

-- SeqNo 2, RcvdAckNo 1
numbers : ((exec_all (rounds (replicate 5 plain_round)) late).l.control.seq ≡ 2) × ((exec_all (rounds (replicate 5 plain_round)) late).l.control.rcvd ≡ 1)
unfolding late created desired versions unwilling lent plain_round layout.head_at contents.found_again contents.counts contents.noted reading.onward reading.walk_from reading.walked layout.is_dcbx reading.judged_control reading.read_frame revisions.has_applications revising.skipping revising.read_for parameters.feature_number parameters.good_halves parameters.sum parameters.valid_groups parameters.valid_flow parameters.same_name parameters.all_from parameters.new_name parameters.valid_applications parameters.valid parameters.ones parameters.local_values parameters.valid_local parameters.clash parameters.clear_of parameters.compatible parameters.is_ours parameters.ours_of parameters.ours parameters.few_and_new parameters.stored parameters.content rules.judged rules.outcome machine.fresh_at machine.release_tlv turn.acknowledged turn.received machine.differing machine.marked writing.sub_tlvs writing.frame writing.to_write writing.asks writing.written writing.output sending.unacknowledged sending.raises_seq_no sending.sent events.becomes creation.started handling.exchanged handling.once handling.steps1to4 admission.breaks admission.rejected handling.frame_event handling.accepted handling.given handling.handled ends.other ends.after_write ends.delivered ends.exec ends.exec_all ends.quiet ends.maybe ends.write_of ends.handle_of ends.calls ends.rounds same
numbers = (refl, refl)

pub six_are_needed : (c : Ends) × Begun c × (rs : List Round) × (length rs ≡ 5) × Proper (rounds rs) c
    × ((exec_all (rounds rs) c).l.control.rcvd ≡ (exec_all (rounds rs) c).l.control.seq → ⊥)
six_are_needed = (
  late,
  begun,
  replicate 5 plain_round,
  refl,
  plain_rounds late begun 5,
  λ e. let z : ◌≡◌ {A = ℕ} 1 2 = sym numbers.1 ∙ e ∙ numbers.0 in omega arith,
)
