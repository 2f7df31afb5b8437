-- What the functions do with a line, on the values that they hold: at a port, and what is counted. What this comes to over a whole capture is
-- Conformance: see Verdicts.
use Rattle.std.specs.Prelude.{ℕ, List, if◌then◌else◌, Some, None}
use Rattle.std.specs.Option.{is_some}
use Rattle.port.specs.declared.Port.{Port}
use Rattle.recorder.specs.declared.Change.TheVariants.{Frame}
use Rattle.recorder.specs.Recorder.{happens}
use Rattle.words.specs.Text.{held}
use Rattle.numerals.specs.Numerals.{more}
use Rattle.comparison.specs.Comparison.{is_due, place_in}
use Rattle.judgement.specs.declared.Course.{Course}
use Rattle.judgement.specs.declared.Judged.{Judged}
use Rattle.judgement.specs.Entries.{Entry, Sent, Given, Changed, Passed, entry_of}
use Rattle.judgement.specs.Courses.{sent_on, given_on, changed_on, passed_on, begun}

-- before the first line
unfoldable pub unjudged : Port → Judged
unjudged p = record { port = p; course = begun; rejected = None }

abbrev pub with_course : Judged → Course → Judged
with_course t c = record { port = t.port; course = c; rejected = t.rejected }

abbrev pub with_event : Judged → Port → Course → Judged
with_event t p c = record { port = p; course = c; rejected = t.rejected }

-- a frame that is not due is kept, and its line is not counted
unfoldable pub rejected_with : Judged → ℕ → List ℕ → Judged
rejected_with t place o = record { port = t.port; course = t.course; rejected = Some (record { place = place; frame = held 513 o }) }

unfoldable pub sent_at : Judged → List ℕ → Judged
sent_at t o = if is_due t.port o then with_course t (sent_on more t.course) else rejected_with t (place_in t.port o) o

unfoldable pub with_entry : Judged → Entry → Judged
with_entry t (Sent o) = sent_at t o
with_entry t (Given o) = with_event t (happens t.port Frame o).port (given_on more (happens t.port Frame o).answer t.course)
with_entry t (Changed x o) = with_event t (happens t.port x o).port (changed_on more (happens t.port x o).answer t.course)
with_entry t Passed = with_course t (passed_on more t.course)

-- behind a frame that is not due no line is looked at
unfoldable pub with_line : Judged → List ℕ → Judged
with_line t l = if is_some t.rejected then t else with_entry t (entry_of l)
