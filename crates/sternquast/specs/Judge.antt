-- 02, E2: "The card's firmware is in C and calls the frame judge with plain numbers and octet buffers; it gets number and place, both 0 where
-- 3 to 8 don't apply."
use Rattle.std.specs.Prelude.{ℕ, List, Ok, Err}
use Rattle.contents.specs.Contents.{Reading}
use Rattle.tlv.specs.Refusals.{refusal_number}
use Rattle.reading.specs.Reading.{read_frame}
use Rattle.sternquast.specs.declared.Verdict.{Verdict}

abbrev pub verdict : Reading → Verdict
verdict (Err r) = record { refusal = refusal_number r.why; place = r.place }
verdict (Ok c) = record { refusal = 0; place = 0 }

abbrev pub judged : List ℕ → Verdict
judged o = verdict (read_frame o)
