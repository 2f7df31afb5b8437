-- A line at two ports and their counts, on the values that the functions hold. What this comes to over a whole capture is Replay and Report:
-- see Replayed.
use Rattle.std.specs.Prelude.{ℕ, List}
use Rattle.port.specs.declared.Event.{Event}
use Rattle.port.specs.Replies.{event_reply}
use Rattle.handling.specs.Handling.{handled}
use Rattle.capture.specs.declared.Form.{Form}
use Rattle.capture.specs.declared.Form.TheVariants.{FromA, FromB, Other}
use Rattle.capture.specs.Capture.{form_of, frame_of}
use Rattle.numerals.specs.Numerals.{more}
use Rattle.counters.specs.Counters.{refusal_counted, changed, further, rests}
use Rattle.counting.specs.declared.Tally.{Tally}

unfoldable pub at_a : Event → Tally → Tally
at_a e t =
    record {
      a = e.port;
      b = t.b;
      from_a = t.from_a;
      from_b = more t.from_b;
      others = t.others;
      refusals = refusal_counted t.refusals (event_reply e.answer).number;
      of_a = changed t.of_a t.a e.port;
      of_b = t.of_b;
      settled = rests t.settled e.port t.b;
      frames = further t.settled t.frames;
    }

unfoldable pub at_b : Event → Tally → Tally
at_b e t =
    record {
      a = t.a;
      b = e.port;
      from_a = more t.from_a;
      from_b = t.from_b;
      others = t.others;
      refusals = refusal_counted t.refusals (event_reply e.answer).number;
      of_a = t.of_a;
      of_b = changed t.of_b t.b e.port;
      settled = rests t.settled t.a e.port;
      frames = further t.settled t.frames;
    }

unfoldable pub passed_by : Tally → Tally
passed_by t =
    record {
      a = t.a;
      b = t.b;
      from_a = t.from_a;
      from_b = t.from_b;
      others = more t.others;
      refusals = t.refusals;
      of_a = t.of_a;
      of_b = t.of_b;
      settled = t.settled;
      frames = t.frames;
    }

unfoldable pub line_as : Form → List ℕ → Tally → Tally
line_as FromA frame t = at_b (handled t.b frame) t
line_as FromB frame t = at_a (handled t.a frame) t
line_as Other frame t = passed_by t

abbrev pub with_line : Tally → List ℕ → Tally
with_line t l = line_as (form_of l) (frame_of l) t
