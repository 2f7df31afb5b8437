-- 02, E12: "Given one end's settings and its capture from creation on, with every frame it sent or was given, decide whether all it sent is what
-- our rules write at that point." Document 01's port, folded over the lines, and the verdict.
use Rattle.std.specs.Prelude.{ℕ, suc, ◌+◌, Bool, false, not, List, [], ◌∷◌, if◌then◌else◌}
use Rattle.port.specs.declared.Port.{Port}
use Rattle.port.specs.Replies.{bit}
use Rattle.comparison.specs.Comparison.{is_due, place_in}
use Rattle.judgement.specs.declared.Course.{Course}
use Rattle.judgement.specs.Entries.{Entry, Sent, Given, Changed, Passed, octets_in, entry_of, is_sent, port_after}
use Rattle.judgement.specs.Courses.{course_on}
use Rattle.ruling.specs.Ruling.{Verdict, Accepted, Rejected}

-- the port to which all lines lead
unfoldable pub port_behind : Port → List (List ℕ) → Port
port_behind p [] = p
port_behind p (l ∷ ls) = port_behind (port_after p (entry_of l)) ls

-- ---- The verdict

-- a frame that is not due
unfoldable pub other : Entry → Port → Bool
other (Sent o) p = not (is_due p o)
other (Given o) p = false
other (Changed x o) p = false
other Passed p = false

-- line n at port p, and the verdict on the lines behind it, which stands unless this is a frame that is not due
unfoldable pub verdict_at : Entry → Port → ℕ → Verdict → Verdict
verdict_at e p n v = if other e p then Rejected n (place_in p (octets_in e)) else v

-- line n is the next, k frames were compared, and the port is p
unfoldable pub verdict_from : Port → ℕ → ℕ → List (List ℕ) → Verdict
verdict_from p n k [] = Accepted k
verdict_from p n k (l ∷ ls) = verdict_at (entry_of l) p n (verdict_from (port_after p (entry_of l)) (n + 1) (k + bit (is_sent (entry_of l))) ls)

-- "lines are numbered from 1"
abbrev pub verdict : Port → List (List ℕ) → Verdict
verdict p ls = verdict_from p 1 0 ls

-- ---- What led there

-- over all lines, in plain numbers
unfoldable pub course_from : Port → Course → List (List ℕ) → Course
course_from p c [] = c
course_from p c (l ∷ ls) = course_from (port_after p (entry_of l)) (course_on suc p (entry_of l) c) ls

-- the lines before the first frame that is not due, and behind which no line is looked at
unfoldable pub before_other : Port → List (List ℕ) → List (List ℕ)
before_other p [] = []
before_other p (l ∷ ls) = if other (entry_of l) p then [] else l ∷ before_other (port_after p (entry_of l)) ls
