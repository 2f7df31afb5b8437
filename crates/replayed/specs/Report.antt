-- 02, E8: "writes a report of decimal numbers parted by one space". Its octets.
use Rattle.std.specs.Prelude.{ℕ, List, [], ◌∷◌, ◌++◌, map}
use Rattle.std.proofs.Math.Option.{Option, none, some}
use Rattle.octets.specs.Texts.{text}
use Rattle.numerals.specs.Numerals.{capped}
use Rattle.parameters.specs.declared.Feature.{Feature}
use Rattle.parameters.specs.declared.Feature.TheVariants.{Groups, Flow, Applications}
use Rattle.feature.specs.declared.Reason.{Reason}
use Rattle.feature.specs.declared.Reason.TheVariants.{Absent, Duplicate, Bad, Waiting, Disabled, Agreed, NotCompatible, ControlTwice}
use Rattle.tally.specs.Steps.{row}
use Rattle.replayed.specs.Replay.{End, A, B, Ends, Step, run, count, sent_by, of_other_form, refused_with, became, first_settled}

-- "Line 1: frames from A, from B, lines of any other form."
abbrev pub line_counts : List Step → List ℕ
line_counts ss = count (sent_by A) ss ∷ count (sent_by B) ss ∷ count of_other_form ss ∷ []

-- "Line 2: refusals 1 to 8, both ports'."
abbrev pub refusal_counts : List Step → List ℕ
refusal_counts ss = map (λ n. count (refused_with n) ss) (1 ∷ 2 ∷ 3 ∷ 4 ∷ 5 ∷ 6 ∷ 7 ∷ 8 ∷ [])

-- "Then six lines, A's features 2, 3, 4 and B's: how often the reason became absent, duplicate, bad, waiting, disabled, agreed, not
-- compatible, control twice."
abbrev pub reasons : List Reason
reasons = Absent ∷ Duplicate ∷ Bad ∷ Waiting ∷ Disabled ∷ Agreed ∷ NotCompatible ∷ ControlTwice ∷ []

abbrev pub reason_counts : End → Feature → List Step → List ℕ
reason_counts x f ss = map (λ r. count (became x f r) ss) reasons

-- "Last: `settled` and the number of frames ..; or `not settled`."
unfoldable pub settled_line : Option ℕ → List ℕ
settled_line (some n) = text "settled " ++ row (capped n ∷ [])
settled_line none = text "not settled" ++ (10 ∷ [])

abbrev pub capped_row : List ℕ → List ℕ
capped_row ns = row (map capped ns)

unfoldable pub report_of : Ends → List Step → List ℕ
report_of e ss =
    capped_row (line_counts ss)
    ++ (capped_row (refusal_counts ss)
    ++ (capped_row (reason_counts A Groups ss)
    ++ (capped_row (reason_counts A Flow ss)
    ++ (capped_row (reason_counts A Applications ss)
    ++ (capped_row (reason_counts B Groups ss)
    ++ (capped_row (reason_counts B Flow ss)
    ++ (capped_row (reason_counts B Applications ss) ++ settled_line (first_settled 0 e ss))))))))

-- the report on a capture's lines, replayed between two ports
abbrev pub report_on : Ends → List (List ℕ) → List ℕ
report_on e ls = report_of e (run e ls)
