-- 01, Refusal numbers: the table, and 02, E10: "ports are 1 to 4, and any other number gives refusal 16". The order of its cases is the
-- order of the numbers.
use Rattle.std.specs.Prelude.{ℕ, List, [], codes}
use Rattle.tlv.specs.declared.Refusal.{Refusal}
use Rattle.tlv.specs.declared.Rejection.{Rejection}
use Rattle.tlv.specs.declared.Refusal.TheVariants.{NotRunning, SeveralNeighbours, NotDcbx, WrongLength, PastEnd, NoControl, ControlLength, ControlVersion, InvalidSetting, ShortOutput, UnknownFeature, NoNotice, NoPort}

unfoldable pub refusal_number : Refusal → ℕ
refusal_number NotRunning = 1
refusal_number SeveralNeighbours = 2
refusal_number NotDcbx = 3
refusal_number WrongLength = 4
refusal_number PastEnd = 5
refusal_number NoControl = 6
refusal_number ControlLength = 7
refusal_number ControlVersion = 8
refusal_number InvalidSetting = 9
refusal_number ShortOutput = 10
refusal_number UnknownFeature = 11
refusal_number NoNotice = 12
refusal_number NoPort = 16

-- the name of each, as docs/FORMATS.md gives it
abbrev pub refusal_name : Refusal → List ℕ
refusal_name NotRunning = codes "not-running"
refusal_name SeveralNeighbours = codes "several-neighbours"
refusal_name NotDcbx = codes "not-dcbx"
refusal_name WrongLength = codes "frame-length"
refusal_name PastEnd = codes "past-the-end"
refusal_name NoControl = codes "no-control"
refusal_name ControlLength = codes "control-length"
refusal_name ControlVersion = codes "control-version"
refusal_name InvalidSetting = codes "invalid-setting"
refusal_name ShortOutput = codes "no-room"
refusal_name UnknownFeature = codes "no-feature"
refusal_name NoNotice = codes "no-notice"
refusal_name NoPort = codes "no-port"

-- An answer in document 01's numbers: 0 and the values that stand beside it, or the number of a refusal: "A refusal returns its number
-- alone". 02, E2: "The reader's refusals 3 to 8 are to carry, beside the number, a place"; all else has place 0.
pub record Reply : Type 0 where
  pub number : ℕ
  pub place : ℕ
  pub values : List ℕ

abbrev pub done : List ℕ → Reply
done values = record { number = 0; place = 0; values = values }

abbrev pub refusal_at : Refusal → ℕ → Reply
refusal_at why place = record { number = refusal_number why; place = place; values = [] }

abbrev pub refusal : Refusal → Reply
refusal why = refusal_at why 0

-- a refusal of a frame, and the place where it went wrong
abbrev pub rejection : Refusal → ℕ → Rejection
rejection why place = record { why = why; place = place }
