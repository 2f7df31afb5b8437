-- 02, E12: what the verdict says, and that what our own engine writes is accepted; claims over a whole capture, of any port and of any input,
-- wherever it is cut into reads. The functions' contracts are `started`, `fed` and `finished` (Steps); Conformance has the verdict.
use Rattle.std.specs.Prelude.{ℕ, ◌+◌, ◌≤◌, ◌≡◌, ◌⊎◌, Bool, true, false, List, [], ◌∷◌, ◌++◌, length, take, drop, Some, Ok, Err}
use Rattle.octets.specs.Octets.{at}
use Rattle.tlv.specs.declared.Refusal.{Refusal}
use Rattle.tlv.specs.Refusals.{rejection}
use Rattle.parameters.specs.declared.Feature.{Feature}
use Rattle.feature.specs.declared.Switches.{Switches}
use Rattle.port.specs.Types.{Answer}
use Rattle.port.specs.declared.Event.{Event}
use Rattle.port.specs.declared.Port.{Port}
use Rattle.port.specs.declared.Versions.{Versions}
use Rattle.port.specs.Parts.{running}
use Rattle.port.specs.Replies.{bit}
use Rattle.port.specs.Writing.{frame, to_write, asks}
use Rattle.creation.specs.Creation.{created, blank_port}
use Rattle.recorder.specs.declared.Change.{Change}
use Rattle.recorder.specs.Recorder.{happens}
use Rattle.calls.specs.Demand1.{unmarked}
use Rattle.words.specs.declared.Held.{Held}
use Rattle.words.specs.Text.{pending}
use Rattle.capture.specs.Capture.{lines}
use Rattle.capture.specs.Feeding.{in_turn, joined}
use Rattle.numerals.specs.Numerals.{capped}
use Rattle.judgement.specs.declared.Course.{Course}
use Rattle.judgement.specs.declared.Judged.{Judged}
use Rattle.judgement.specs.Entries.{Sent, entry_of, is_sent}
use Rattle.judgement.specs.Courses.{begun}
use Rattle.ruling.specs.Ruling.{Verdict, Accepted, Rejected, verdict_text}
use Rattle.conformance.specs.Conformance.{port_behind, verdict, before_other, course_from}
use Rattle.conformance.specs.Text.{said_output}
use Rattle.conformance.specs.Steps.{started, fed, finished, verdict_of}
use Rattle.verdicts.specs.Transcripts.{SettingsInRange, Act, AllSayable, Own}

-- ---- "accepted exactly if every A line is what the rules write in the state that the lines before it lead to"

-- a frame is what the port writes
pub record Due (p : Port) (o : List ℕ) : Type 0 where
  pub runs : running p ≡ true
  pub octets : o ≡ frame p

-- each frame that was sent, behind whatever lines, is what the port writes to which these lead
abbrev pub AllDue : Port → List (List ℕ) → Type 0
AllDue p ls = (before : List (List ℕ)) (l : List ℕ) (after : List (List ℕ)) (o : List ℕ) → ls ≡ before ++ (l ∷ after) → entry_of l ≡ Sent o → Due (port_behind p before) o

-- how many frames were sent
unfoldable pub sent_in : List (List ℕ) → ℕ
sent_in [] = 0
sent_in (l ∷ ls) = bit (is_sent (entry_of l)) + sent_in ls

-- ---- "the named line is the first that is not, and the named place the first that differs"

-- "its first differing octet (or the shorter's end)"
pub record FirstDifference (xs ys : List ℕ) (place : ℕ) : Type 0 where
  pub sent : place ≤ length xs
  pub due : place ≤ length ys
  pub same : take place xs ≡ take place ys
  pub differs : (place ≡ length xs) ⊎ ((place ≡ length ys) ⊎ (at xs place ≡ at ys place → ⊥))

pub record FirstOther (p : Port) (ls : List (List ℕ)) (number place : ℕ) : Type 0 where
  pub before : List (List ℕ)
  pub line : List ℕ
  pub after : List (List ℕ)
  pub octets : List ℕ
  pub all : ls ≡ before ++ (line ∷ after)
  pub numbered : number ≡ length before + 1
  pub due : AllDue p before
  pub sent : entry_of line ≡ Sent octets
  pub other : Due (port_behind p before) octets → ⊥
  -- a stopped port writes no octets: "0 while stopped"
  pub placed : FirstDifference octets (to_write (port_behind p before)) place
  pub stopped : running (port_behind p before) ≡ false → place ≡ 0

pub record Exactly (p : Port) (ls : List (List ℕ)) : Type 0 where
  pub accepts : AllDue p ls → verdict p ls ≡ Accepted (sent_in ls)
  pub accepted : (k : ℕ) → verdict p ls ≡ Accepted k → AllDue p ls
  pub rejects : (n q : ℕ) → FirstOther p ls n q → verdict p ls ≡ Rejected n q
  pub rejected : (n q : ℕ) → verdict p ls ≡ Rejected n q → FirstOther p ls n q

-- ---- what led there: the last line whose event asked for a send (`since`), and the last that the port took (`taken`)

unfoldable pub asked : Answer → Bool
asked (Ok send) = send
asked (Err r) = false

-- what an event at a port answers tells what it did
pub record Answers (p : Port) (e : Event) : Type 0 where
  -- it asks for a send exactly if the port writes otherwise behind it than before
  pub send : asked e.answer ≡ asks p e.port
  -- and one that is refused leaves the port, but for the mark of a broken control
  pub refused : (why : Refusal) (place : ℕ) → e.answer ≡ Err (rejection why place) → unmarked e.port ≡ unmarked p

-- ---- over a whole capture

-- `start`, a `feed` for each read, `finish`
abbrev pub judged_on : Port → List (List ℕ) → Judged
judged_on p reads = finished (in_turn fed (started p) reads)

-- numbers of lines and frames stay at their highest
abbrev pub capped_course : Course → Course
capped_course c =
    record {
      lines = capped c.lines;
      sent = capped c.sent;
      given = capped c.given;
      changes = capped c.changes;
      passed = capped c.passed;
      since = capped c.since;
      taken = capped c.taken;
    }

unfoldable pub capped_verdict : Verdict → Verdict
capped_verdict (Accepted k) = Accepted (capped k)
capped_verdict (Rejected n q) = Rejected (capped n) q

-- the frame that is not due is kept, with the place of its first difference
pub record Keeps (t : Judged) (place : ℕ) (o : List ℕ) : Type 0 where
  pub frame : Held 513
  pub rejected : t.rejected ≡ Some (record { place = place; frame = frame })
  pub octets : pending frame ≡ o

pub record Judges : Type 0 where
  -- the verdict is that on the lines of the whole input
  pub says : (p : Port) (reads : List (List ℕ)) → verdict_of (judged_on p reads) ≡ capped_verdict (verdict p (lines (joined reads)))
  -- and its octets are put in front of an output of 64 octets or more, whatever that held before
  pub text : (p : Port) (reads : List (List ℕ)) (out : List ℕ) → 64 ≤ length out → let t : List ℕ = verdict_text (capped_verdict (verdict p (lines (joined reads)))) in
      said_output (judged_on p reads) out ≡ t ++ drop (length t) out
  -- what is told beside it is of the lines before the first frame that is not due, or of all: the port to which they lead, and their course
  pub port : (p : Port) (reads : List (List ℕ)) → (judged_on p reads).port ≡ port_behind p (before_other p (lines (joined reads)))
  pub course : (p : Port) (reads : List (List ℕ)) → (judged_on p reads).course ≡ capped_course (course_from p begun (before_other p (lines (joined reads))))
  -- of which `since` and `taken` go by what each frame and each change answers
  pub answers : (p : Port) (x : Change) (o : List ℕ) → Answers p (happens p x o)
  -- and the frame that is not due
  pub kept : (p : Port) (reads : List (List ℕ)) (n q : ℕ) (f : FirstOther p (lines (joined reads)) n q) → Keeps (judged_on p reads) q f.octets
  -- so where the input is cut into reads makes no difference
  pub cuts : (p : Port) (reads others : List (List ℕ)) → joined reads ≡ joined others → judged_on p reads ≡ judged_on p others
  -- accepted exactly if all that was sent is due, and otherwise the first that is not is named
  pub exactly : (p : Port) (ls : List (List ℕ)) → Exactly p ls
  -- and what our own engine writes is accepted, from creation on, whatever is called and whenever it writes
  pub own : (v : Versions) (w : Feature → Switches) (o : Feature → List ℕ) → SettingsInRange v o → (xs : List Act) → AllSayable xs → Own (created v w o blank_port).port xs
