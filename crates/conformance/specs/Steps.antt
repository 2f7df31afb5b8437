-- What the functions do, on the values that they hold: octets as they come, and the verdict. What this comes to over a whole capture is
-- Conformance: see Verdicts.
use Rattle.std.specs.Prelude.{ℕ, List, [], Option, Some, None}
use Rattle.port.specs.declared.Port.{Port}
use Rattle.capture.specs.declared.Feed.{Feed}
use Rattle.capture.specs.Steps.{Front, held_of}
use Rattle.capture.specs.Feeding as feeding
use Rattle.capture.specs.Feeding.{ended, feed_of}
use Rattle.numerals.specs.Numerals.{more}
use Rattle.judgement.specs.declared.Course.{Course}
use Rattle.judgement.specs.declared.Judged.{Judged}
use Rattle.judgement.specs.declared.Rejected.{Rejected}
use Rattle.judgement.specs.Steps.{with_line, unjudged}
use Rattle.ruling.specs.Ruling.{Verdict}
use Rattle.ruling.specs.Ruling as ruling

abbrev pub Judging : Type 0
Judging = Feed Judged

abbrev pub judging_of : Judged → Front → Judging
judging_of t h = feed_of t h

abbrev pub fed : Judging → List ℕ → Judging
fed r s = feeding.fed with_line r s

abbrev pub finished : Judging → Judged
finished r = ended with_line r.value r.held

unfoldable pub started : Port → Judging
started p = judging_of (unjudged p) (held_of [])

-- the line of a rejected frame is the one behind those that were counted
unfoldable pub verdict_by : Option Rejected → Course → Verdict
verdict_by None c = ruling.Accepted c.sent
verdict_by (Some r) c = ruling.Rejected (more c.lines) r.place

abbrev pub verdict_of : Judged → Verdict
verdict_of t = verdict_by t.rejected t.course
