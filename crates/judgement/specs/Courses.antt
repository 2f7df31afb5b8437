-- 02, E12, and its issue: "what state our port was in, and which line led there". Lines by their kind, and two of them by number.
use Rattle.std.specs.Prelude.{ℕ, true, false, Ok, Err}
use Rattle.port.specs.Types.{Answer}
use Rattle.port.specs.declared.Port.{Port}
use Rattle.recorder.specs.declared.Change.TheVariants as change
use Rattle.recorder.specs.Recorder.{happens}
use Rattle.judgement.specs.declared.Course.{Course}
use Rattle.judgement.specs.Entries.{Entry, Sent, Given, Changed, Passed}

-- the last line whose event asked for a send, behind which the port writes otherwise than before
unfoldable pub since_by : Answer → ℕ → ℕ → ℕ
since_by (Ok true) line before = line
since_by (Ok false) line before = before
since_by (Err why) line before = before

-- the last line whose event the port took
unfoldable pub taken_by : Answer → ℕ → ℕ → ℕ
taken_by (Ok send) line before = line
taken_by (Err why) line before = before

-- numbers go up as a counter does, or as plain numbers do
unfoldable pub sent_on : (ℕ → ℕ) → Course → Course
sent_on up c =
    record { lines = up c.lines; sent = up c.sent; given = c.given; changes = c.changes; passed = c.passed; since = c.since; taken = c.taken }

unfoldable pub given_on : (ℕ → ℕ) → Answer → Course → Course
given_on up a c =
    record {
      lines = up c.lines;
      sent = c.sent;
      given = up c.given;
      changes = c.changes;
      passed = c.passed;
      since = since_by a (up c.lines) c.since;
      taken = taken_by a (up c.lines) c.taken;
    }

unfoldable pub changed_on : (ℕ → ℕ) → Answer → Course → Course
changed_on up a c =
    record {
      lines = up c.lines;
      sent = c.sent;
      given = c.given;
      changes = up c.changes;
      passed = c.passed;
      since = since_by a (up c.lines) c.since;
      taken = taken_by a (up c.lines) c.taken;
    }

unfoldable pub passed_on : (ℕ → ℕ) → Course → Course
passed_on up c =
    record { lines = up c.lines; sent = c.sent; given = c.given; changes = c.changes; passed = up c.passed; since = c.since; taken = c.taken }

unfoldable pub course_on : (ℕ → ℕ) → Port → Entry → Course → Course
course_on up p (Sent o) c = sent_on up c
course_on up p (Given o) c = given_on up (happens p change.Frame o).answer c
course_on up p (Changed x o) c = changed_on up (happens p x o).answer c
course_on up p Passed c = passed_on up c

abbrev pub begun : Course
begun = record { lines = 0; sent = 0; given = 0; changes = 0; passed = 0; since = 0; taken = 0 }
