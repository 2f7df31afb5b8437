-- The reasons of a feature's state, in document 01's words; and told apart by a number.
use Rattle.std.specs.Prelude.{ℕ, List, codes}
use Prim.Native.String.{String}
use Rattle.feature.specs.declared.Reason.{Reason}
use Rattle.feature.specs.declared.Reason.TheVariants.{NoPeerYet, NotAdvertised, Absent, Duplicate, Bad, Waiting, Disabled, Agreed, NotCompatible, ControlTwice}

abbrev pub reason_word : Reason → String
reason_word NoPeerYet = "no peer yet"
reason_word NotAdvertised = "not advertised"
reason_word Absent = "absent"
reason_word Duplicate = "duplicate"
reason_word Bad = "bad"
reason_word Waiting = "waiting"
reason_word Disabled = "disabled"
reason_word Agreed = "agreed"
reason_word NotCompatible = "not compatible"
reason_word ControlTwice = "control twice"

-- the name of each as it is printed, as docs/FORMATS.md gives it
abbrev pub reason_name : Reason → List ℕ
reason_name NoPeerYet = codes "no-peer-yet"
reason_name NotAdvertised = codes "not-advertised"
reason_name Absent = codes "absent"
reason_name Duplicate = codes "duplicate"
reason_name Bad = codes "bad"
reason_name Waiting = codes "waiting"
reason_name Disabled = codes "disabled"
reason_name Agreed = codes "agreed"
reason_name NotCompatible = codes "not-compatible"
reason_name ControlTwice = codes "control-twice"

-- Document 01 gives the reasons no numbers: these are ours, for the code that tells two reasons apart.
abbrev pub reason_number : Reason → ℕ
reason_number NoPeerYet = 0
reason_number NotAdvertised = 1
reason_number Absent = 2
reason_number Duplicate = 3
reason_number Bad = 4
reason_number Waiting = 5
reason_number Disabled = 6
reason_number Agreed = 7
reason_number NotCompatible = 8
reason_number ControlTwice = 9
