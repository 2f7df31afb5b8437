-- 01, Refusal numbers: the words of the table, each for itself. Of an operation that a row does not speak of its words are false.
use Rattle.std.specs.Prelude.{ℕ, zero, suc, ◌+◌, Bool, true, false, not, ◌&&◌, ◌||◌, List, [], ◌∷◌, length, take, drop, if◌then◌else◌}
use Rattle.octets.specs.Words.{◌below◌, ◌is◌}
use Rattle.octets.specs.Octets.{at, same}
use Rattle.tlv.specs.Layout.{type_at, length_at}
use Rattle.tlv.specs.declared.Revision.{Revision}
use Rattle.tlv.specs.Revisions.{has_applications}
use Rattle.parameters.specs.declared.Feature.{Feature}
use Rattle.parameters.specs.declared.Feature.TheVariants.{Groups, Flow, Applications}
use Rattle.parameters.specs.Parameters.{valid_local}
use Rattle.port.specs.Parts.{some}
use Rattle.calls.specs.Calls.{Operation}
use Rattle.calls.specs.Calls as call

-- ---- the sub-TLVs of a frame, behind its first six octets

-- the one that stands at the start of some octets: its value is as long as its head says
abbrev pub value_at : List ℕ → List ℕ
value_at s = take (length_at s 0) (drop 2 s)

abbrev pub behind : List ℕ → List ℕ
behind s = drop (2 + length_at s 0) s

-- "a sub-TLV, or its head, runs past the end"
abbrev pub runs_past : List ℕ → Bool
runs_past s = length s below 2 || length s below 2 + length_at s 0

-- one after the other; each takes two octets or more, so that the frame's length is steps enough
unfoldable pub past_end : ℕ → List ℕ → Bool
past_end zero s = false
past_end (suc n) s = if length s is 0 then false else if runs_past s then true else past_end n (behind s)

-- the values of the control sub-TLVs, type 1, among them
unfoldable pub controls_in : ℕ → List ℕ → List (List ℕ)
controls_in zero s = []
controls_in (suc n) s =
    if length s is 0 then []
    else if runs_past s then []
    else if type_at s 0 is 1 then value_at s ∷ controls_in n (behind s)
    else controls_in n (behind s)

abbrev pub controls : List ℕ → List (List ℕ)
controls o = controls_in (length o) (drop 6 o)

-- 02, E2: places, "counted from 0 at the TLV's first octet", of sub-TLVs that stand from place i on: the head of the first that runs past
-- the end; and of the first control
unfoldable pub overrun_at : ℕ → ℕ → List ℕ → ℕ
overrun_at zero i s = i
overrun_at (suc n) i s = if length s is 0 then i else if runs_past s then i else overrun_at n (i + 2 + length_at s 0) (behind s)

unfoldable pub control_at : ℕ → ℕ → List ℕ → ℕ
control_at zero i s = i
control_at (suc n) i s = if type_at s 0 is 1 then i else control_at n (i + 2 + length_at s 0) (behind s)

-- a test of the control sub-TLV, where there is exactly one
unfoldable pub the_one : List (List ℕ) → (List ℕ → Bool) → Bool
the_one [] test = false
the_one (v ∷ []) test = test v
the_one (v ∷ u ∷ vs) test = false

-- ---- whom a row speaks of

-- 1: "a frame, peer gone, or a request to write"
abbrev pub wants_running : Operation → Bool
wants_running (call.create v w o) = false
wants_running (call.frame o) = true
wants_running call.gone = true
wants_running (call.flag x on) = false
wants_running (call.setting number w o) = false
wants_running (call.write out) = true
wants_running call.take = false

-- the operation is a frame, and a test holds of its octets; a change of setting, by its number and parameters; a request to write,
-- by the lent output; a taking
abbrev pub of_frame : Operation → (List ℕ → Bool) → Bool
of_frame (call.create v w o) test = false
of_frame (call.frame o) test = test o
of_frame call.gone test = false
of_frame (call.flag x on) test = false
of_frame (call.setting number w o) test = false
of_frame (call.write out) test = false
of_frame call.take test = false

-- the operation is a frame
abbrev pub is_frame : Operation → Bool
is_frame x = of_frame x (λ o. true)

-- a place in a frame, and 0 of any other operation
abbrev pub in_frame : Operation → (List ℕ → ℕ) → ℕ
in_frame (call.create v w o) place = 0
in_frame (call.frame o) place = place o
in_frame call.gone place = 0
in_frame (call.flag x on) place = 0
in_frame (call.setting number w o) place = 0
in_frame (call.write out) place = 0
in_frame call.take place = 0

abbrev pub of_setting : Operation → (ℕ → List ℕ → Bool) → Bool
of_setting (call.create v w o) test = false
of_setting (call.frame o) test = false
of_setting call.gone test = false
of_setting (call.flag x on) test = false
of_setting (call.setting number w o) test = test number o
of_setting (call.write out) test = false
of_setting call.take test = false

abbrev pub of_write : Operation → (List ℕ → Bool) → Bool
of_write (call.create v w o) test = false
of_write (call.frame o) test = false
of_write call.gone test = false
of_write (call.flag x on) test = false
of_write (call.setting number w o) test = false
of_write (call.write out) test = test out
of_write call.take test = false

abbrev pub of_taking : Operation → Bool → Bool
of_taking (call.create v w o) test = false
of_taking (call.frame o) test = false
of_taking call.gone test = false
of_taking (call.flag x on) test = false
of_taking (call.setting number w o) test = false
of_taking (call.write out) test = false
of_taking call.take test = test

-- ---- what two rows say

-- 3: "fewer than 6 octets, type not 127, or OUI or subtype differs"
unfoldable pub not_dcbx : List ℕ → Bool
not_dcbx o = length o below 6 || not (type_at o 0 is 127) || not (same (take 3 (drop 2 o)) (0 ∷ 27 ∷ 33 ∷ [])) || not (at o 5 is 2)

-- 9: the setting of the feature with a number is invalid; a number that names no feature has no valid one
unfoldable pub invalid : ℕ → List ℕ → Bool
invalid number o =
    if number is 2 then not (valid_local Groups o)
    else if number is 3 then not (valid_local Flow o)
    else if number is 4 then not (valid_local Applications o)
    else true

-- 02, E11: "for 1.0 creation takes no setting for type 4"
abbrev pub takes_setting : Revision → Feature → Bool
takes_setting r Groups = true
takes_setting r Flow = true
takes_setting r Applications = has_applications r

-- in a change of setting, or in one of those that a creation takes
abbrev pub sets_invalid : Operation → Bool
sets_invalid (call.create v w o) = some (λ f. takes_setting v.revision f && not (valid_local f (o f)))
sets_invalid (call.frame o) = false
sets_invalid call.gone = false
sets_invalid (call.flag x on) = false
sets_invalid (call.setting number w o) = invalid number o
sets_invalid (call.write out) = false
sets_invalid call.take = false
