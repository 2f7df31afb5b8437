-- 01, Refusal numbers, with 02, E10: the table, and the order in which its rows are taken. Rows presuppose what those before them
-- exclude: all others that the number names a port, 4 a head, 5 to 8 six octets before the sub-TLVs, 6 to 8 that all of these end within
-- the frame, 8 a control of length 10.
use Rattle.std.specs.Prelude.{ℕ, Bool, false, not, ◌&&◌, ◌||◌, List, [], ◌∷◌, length, drop, if◌then◌else◌}
use Rattle.octets.specs.Words.{◌below◌, ◌is◌}
use Rattle.octets.specs.Octets.{at}
use Rattle.tlv.specs.Layout.{length_at}
use Rattle.tlv.specs.Revisions.{has_applications}
use Rattle.notices.specs.Notices.{is_port, count_of}
use Rattle.port.specs.declared.Port.{Port}
use Rattle.port.specs.Parts.{running}
use Rattle.port.specs.Writing.{frame}
use Rattle.recorder.specs.declared.Recorder.{Recorder}
use Rattle.recorder.specs.Recorder.{port_at}
use Rattle.calls.specs.Calls.{Operation, Call}
use Rattle.calls.specs.Rows.{overrun_at, control_at, wants_running, of_frame, in_frame, of_setting, of_write, of_taking, not_dcbx, past_end, controls, the_one, sets_invalid}

-- the row with number k applies to operation x at port n, which is p and holds so many notices
unfoldable pub applies : ℕ → ℕ → Port → ℕ → Operation → Bool
applies k n p held x =
    -- E10: "ports are 1 to 4, and any other number gives refusal 16"
    if k is 16 then not (is_port n)
    -- "the port isn't running: a frame, peer gone, or a request to write"
    else if k is 1 then wants_running x && not (running p)
    -- "a frame while several neighbours are flagged"
    else if k is 2 then of_frame x (λ o. p.several)
    -- "fewer than 6 octets, type not 127, or OUI or subtype differs"
    else if k is 3 then of_frame x not_dcbx
    -- "length field is not the octets after the head"
    else if k is 4 then of_frame x (λ o. not (length_at o 0 is length (drop 2 o)))
    -- "a sub-TLV, or its head, runs past the end"
    else if k is 5 then of_frame x (λ o. past_end (length o) (drop 6 o))
    -- "no control sub-TLV"
    else if k is 6 then of_frame x (λ o. length (controls o) is 0)
    -- "exactly one control, length not 10"
    else if k is 7 then of_frame x (λ o. the_one (controls o) (λ v. not (length v is 10)))
    -- "its Oper is above its Max"
    else if k is 8 then of_frame x (λ o. the_one (controls o) (λ v. at v 1 below at v 0))
    -- "local setting invalid"
    else if k is 9 then sets_invalid x
    -- "lent output shorter than the frame"
    else if k is 10 then of_write x (λ out. length out below length (frame p))
    -- "feature number not 2, 3 or 4"; E11: under 1.0 "a setting for it is refused with 11"
    else if k is 11 then of_setting x (λ number o. not (number is 2 || number is 3 || (number is 4 && has_applications p.revision)))
    -- "taking a notice when none is held"; E10: "refusal 12 is judged per port"
    else if k is 12 then of_taking x (held is 0)
    else false

-- "Lowest number first, except 11 before 9." E10: 16 "before all others"
abbrev pub order : List ℕ
order = 16 ∷ 1 ∷ 2 ∷ 3 ∷ 4 ∷ 5 ∷ 6 ∷ 7 ∷ 8 ∷ 10 ∷ 11 ∷ 9 ∷ 12 ∷ []

unfoldable pub first_in : List ℕ → ℕ → Port → ℕ → Operation → ℕ
first_in [] n p held x = 0
first_in (k ∷ ks) n p held x = if applies k n p held x then k else first_in ks n p held x

-- the first that applies, or 0
abbrev pub first_at : Recorder → ℕ → Operation → ℕ
first_at r n x = first_in order n (port_at r n) (count_of n r.log) x

abbrev pub first_of : Recorder → Call → ℕ
first_of r x = first_at r x.port x.operation

-- 02, E2: the place beside the number of the row that applies, "counted from 0 at the TLV's first octet"
unfoldable pub place_beside : ℕ → Operation → ℕ
place_beside k x =
    -- "the head of the sub-TLV that runs over for 5"
    if k is 5 then in_frame x (λ o. overrun_at (length o) 6 (drop 6 o))
    -- "the end of the input for 6"
    else if k is 6 then in_frame x (λ o. length o)
    -- "the control's head for 7 and 8"
    else if k is 7 || k is 8 then in_frame x (λ o. control_at (length o) 6 (drop 6 o))
    -- "0 for 3 and 4"; and beside a number that is no frame's inside there is none
    else 0
