-- 02, E7, What Syncd really says: "The desk shows a green tick when a feature is synchronised. .. show that a tick on an advertised feature at one
-- end means the other has handled a frame carrying that feature's present sub-TLV."
use Rattle.std.specs.Prelude.{ℕ, ◌≤◌, ◌≡◌, true, false, List, [], ◌∷◌, ◌++◌, map, length, Ok}
use Rattle.std.proofs.Math.Option.{Option, some}
use Rattle.octets.specs.Octets.{headed}
use Rattle.contents.specs.declared.Contents.{Contents}
use Rattle.reading.specs.Reading.{read_frame}
use Rattle.reading.specs.Revisions.{read_for}
use Rattle.parameters.specs.declared.Feature.{Feature}
use Rattle.parameters.specs.Parameters.{feature_number}
use Rattle.feature.specs.declared.Switches.{Switches}
use Rattle.feature.specs.Outcome.{lower}
use Rattle.machine.specs.State.{sub_tlv}
use Rattle.port.specs.declared.Port.{Port}
use Rattle.port.specs.Parts.{feature_of, running}
use Rattle.changes.specs.Changes.{changed_setting}
use Rattle.admission.specs.Admission.{has_of, message}
use Rattle.rounds.specs.Rounds.{End, left, right, other, Ends, Call, handles, exec, Answers, Round, rounds}
use Rattle.rounds.specs.Rounds as ports

-- ---- A run

abbrev pub port_of : End → Ends → Port
port_of left c = c.l
port_of right c = c.r

-- the frame that an end wrote last
abbrev pub frame_of : End → Ends → Option (List ℕ)
frame_of left c = c.from_l
frame_of right c = c.from_r

-- What happens in a run, "with any settings changes at either", at any time, "and no frames given but each other's, as written", any refused
-- calls between: the setting of the feature with a number is changed at an end (switches, and parameters as octets), accepted or refused; or a call
-- of an exchange (rounds/Rounds): an accepted write, the frame that the other end wrote last is given to this end, a refused write or frame.
--
-- Document 02 asks that each frame is given "at once or not at all, none twice": a run in which `handles` follows at once on the write, or does
-- not follow. The claim is of every list of such calls, which allows more: both ends may write before either is given a frame, as in a round
-- of document 01, and other things may happen while a frame is on its way. Why it is asked: SeqNo counts up to 4,294,967,295 and begins again. A frame
-- that is kept until the numbers have come round to it, or is given again then, acknowledges what the other end has not handled. It is enough
-- that no frame is given once its end has written another.
pub data Happening : Type 0 where
  sets : End → ℕ → Switches → List ℕ → Happening
  call : Call → Happening

unfoldable pub happened : Happening → Ends → Ends
happened (sets left number w o) c = record { l = (changed_setting number w o c.l).port; r = c.r; from_l = c.from_l; from_r = c.from_r }
happened (sets right number w o) c = record { l = c.l; r = (changed_setting number w o c.r).port; from_l = c.from_l; from_r = c.from_r }
happened (call x) c = exec x c

unfoldable pub after : List Happening → Ends → Ends
after [] c = c
after (x ∷ xs) c = after xs (happened x c)

-- each call answers as its name says, in the state that it meets
abbrev pub Proper : List Happening → Ends → Type 0
Proper [] c = Unit {0}
Proper (sets e number w o ∷ xs) c = Proper xs (happened (sets e number w o) c)
Proper (call x ∷ xs) c = Answers x c × Proper xs (happened (call x) c)

-- ---- A tick

-- "a tick on an advertised feature"
pub record Ticked (p : Port) (f : Feature) : Type 0 where
  pub advertised : (feature_of p f).setting.advertise ≡ true
  pub syncd : (feature_of p f).syncd ≡ true

-- "that feature's present sub-TLV", at an end
abbrev pub present_tlv : End → Feature → Ends → List ℕ
present_tlv e f c = sub_tlv f (feature_of (port_of e c) f)

-- ---- What it says

-- "Handled means past step 3 of document 01, even if the feature then waits for its version": the frame is accepted and has one control (1, 2), and
-- its Oper is the lower of own and received Max (2: "If received Oper differs from it, the features and numbers are not handled"). Such a frame
-- goes through 3, 4 and 5 (proofs/Given: `past_exchanges`).
pub record PastStep3 (p : Port) (octets : List ℕ) : Type 0 where
  pub runs : running p ≡ true
  pub single : p.several ≡ false
  pub contents : Contents
  pub accepted : read_for p.revision octets ≡ Ok contents
  pub control : contents.control.count ≡ 1
  pub version : (message octets contents).oper ≡ lower p.control.max (message octets contents).max

-- "a frame carrying" a sub-TLV of a feature: read, it has the feature once, and this is the sub-TLV. (A frame has it whatever its reader's revision; one
-- of Rev 1.0 passes applications over.)
pub record Carries (f : Feature) (tlv octets : List ℕ) : Type 0 where
  pub contents : Contents
  pub read : read_frame octets ≡ Ok contents
  pub once : (has_of octets contents f).count ≡ 1
  pub same : tlv ≡ headed (feature_number f) (has_of octets contents f).value

-- At some moment of a run the frame that end e wrote last was given to the other end, which handled it, and it carried the sub-TLV.
pub record Handled (xs : List Happening) (c : Ends) (e : End) (f : Feature) (tlv : List ℕ) : Type 0 where
  pub before : List Happening
  pub later : List Happening
  pub run : xs ≡ before ++ (call (handles (other e)) ∷ later)
  pub octets : List ℕ
  pub written : frame_of e (after before c) ≡ some octets
  pub handled : PastStep3 (port_of (other e) (after before c)) octets
  pub carries : Carries f tlv octets

-- a run goes through states of a kind alone, the first and the last among them
abbrev pub Throughout : (Ends → Type 0) → List Happening → Ends → Type 0
Throughout P [] c = P c
Throughout P (x ∷ xs) c = P c × Throughout P xs (happened x c)

-- "the other has handled a frame carrying that feature's present sub-TLV", and it has since that sub-TLV last changed: from this moment on it has
-- been what it is
pub record Told (xs : List Happening) (c : Ends) (e : End) (f : Feature) : Type 0 where
  pub moment : Handled xs c e f (present_tlv e f (after xs c))
  pub since : Throughout (λ d. present_tlv e f d ≡ present_tlv e f (after xs c)) moment.later (happened (call (handles (other e))) (after moment.before c))

-- Two ends "fresh together, never restarted, no peer gone, running, single neighbours" (`Begun`), and any run from there.
pub record Ticks (c : Ends) : Type 0 where
  pub told : (xs : List Happening) → Proper xs c → (e : End) (f : Feature) → Ticked (port_of e (after xs c)) f → Told xs c e f
  -- document 02's own form, which follows: at some moment of the run
  pub handled : (xs : List Happening) → Proper xs c → (e : End) (f : Feature) → Ticked (port_of e (after xs c)) f → Handled xs c e f (present_tlv e f (after xs c))
  -- Ticks do occur: the calls of six or more rounds, no setting changed, are a run, after which each advertised feature has one. By demand 3.
  pub run : (rs : List Round) → ports.Proper (rounds rs) c → Proper (map call (rounds rs)) c
  pub occur : (rs : List Round) → ports.Proper (rounds rs) c → 6 ≤ length rs → (e : End) (f : Feature) → (feature_of (port_of e c) f).setting.advertise ≡ true
      → Ticked (port_of e (after (map call (rounds rs)) c)) f
