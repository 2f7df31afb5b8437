-- The round trip: what is written reads back as what was released. Assumes nothing.
use Prim.Native.Nat.{ℕ}
use native.Mathlib.Omega.{arith}
use mathlib.Core.Path.{◌≡◌, refl, sym, ap, ◌∙◌, subst}
use mathlib.Core.Bool.{Bool, true, false}
use mathlib.Core.List.{List}
use lib.ListN.{take}
use Rattle.std.specs.Prelude.{if◌then◌else◌, Ok, Err}
use Rattle.octets.specs.Octets.{at, number4}
use Rattle.notices.specs.Notices.{is_port}
use Rattle.contents.specs.declared.Contents.{Contents}
use Rattle.contents.specs.declared.Found.{Found}
use Rattle.tlv.specs.declared.Revision.{Revision}
use Rattle.contents.specs.Contents.{value_of}
use Rattle.tlv.specs.Revisions.{has_applications}
use Rattle.tlv.specs.declared.Refusal.TheVariants.{NoPort}
use Rattle.parameters.specs.declared.Feature.{Feature}
use Rattle.feature.specs.declared.Release.{Release}
use Rattle.feature.specs.Outcome.{Received, oper_of, max_of, enable_of, willing_of, error_of, parameters_of}
use Rattle.port.specs.declared.Port.{Port}
use Rattle.port.specs.Parts.{feature_of, released_of}
use Rattle.port.specs.Writing.{frame, written, output}
use Rattle.port.specs.Sound.{SoundPort}
use Rattle.admission.specs.Admission.{has_of}
use Rattle.recorder.specs.Recorder as recorder
use Rattle.calls.proofs.Reachable.{reachable_sound}
use Rattle.exchange.specs.RoundTrip.{knows, FoundOnce, ReadsBack, RoundTrip, RoundTrips}
use Rattle.exchange.proofs.Core as core
use Rattle.exchange.proofs.Outcomes.{flag_enable, flag_willing, flag_error}
use Rattle.exchange.proofs.Frames as frames
use Rattle.exchange.proofs.Calls.{write_leaves, contents_for, read_as, control_as}

-- ---- what a reader of a revision has of a feature

module _ (o : List ℕ) (c : Contents) where
  has_known : (v : Revision) (f : Feature) → knows v f ≡ true → has_of o (contents_for v c) f ≡ has_of o c f
  unfolding contents_for has_applications
  has_known v f k = grind arith

  has_skipped : (v : Revision) (f : Feature) → knows v f ≡ false → (has_of o (contents_for v c) f).count ≡ 0
  unfolding contents_for has_applications
  has_skipped v f k = grind arith

  has_none : (v : Revision) (f : Feature) → (has_of o c f).count ≡ 0 → (has_of o (contents_for v c) f).count ≡ 0
  has_none v f e = by (knows v f) refl
    where
      by : (b : Bool) → knows v f ≡ b → (has_of o (contents_for v c) f).count ≡ 0
      by true k = ap (λ (r : Received). r.count) (has_known v f k) ∙ e
      by false k = has_skipped v f k

-- ---- one sub-TLV that was written

abbrev written_of : Bool → ℕ → Release → Received
written_of b highest x = core.written b (record { max = highest; setting = x.setting }) (record { oper = x.oper; error = x.error })

found_once : (highest : ℕ) (x : Release) (r : Received) → r ≡ written_of true highest x → FoundOnce highest x r
unfolding core.written
found_once highest x r e =
    record {
      once = ap (λ (y : Received). y.count) e;
      octets = ap (λ (y : Received). y.value) e;
      oper = ap (λ (y : Received). oper_of y.value) e;
      max = ap (λ (y : Received). max_of y.value) e;
      enable = ap (λ (y : Received). enable_of y.value) e ∙ flag_enable x.setting.enable x.setting.willing x.error;
      willing = ap (λ (y : Received). willing_of y.value) e ∙ flag_willing x.setting.enable x.setting.willing x.error;
      error = ap (λ (y : Received). error_of y.value) e ∙ flag_error x.setting.enable x.setting.willing x.error;
      parameters = ap (λ (y : Received). parameters_of y.value) e;
    }

none_of : (highest : ℕ) (x : Release) → (written_of false highest x).count ≡ 0
unfolding core.written
none_of highest x = refl

-- ---- the frame of a sound port

module _ (p : Port) (h : SoundPort p) where
  abbrev c : Contents
  c = frames.contents p h

  has_written_lem : (f : Feature) (b : Bool) → (released_of p f).setting.advertise ≡ b → has_of (frame p) c f ≡ written_of b (feature_of p f).max (released_of p f)
  has_written_lem f b a = frames.has_released p h f ∙ ap (λ b. written_of b (feature_of p f).max (released_of p f)) a

  frame_reads : (v : Revision) → ReadsBack v p (frame p)
  frame_reads v =
      record {
        contents = contents_for v c;
        accepted = read_as v (frame p) c (frames.accepted p h);
        control = ap (λ (x : Found). x.count) (control_as v c) ∙ frames.one_control p h;
        oper = ap (λ (x : Found). at (value_of (frame p) x) 0) (control_as v c) ∙ ap (λ o. at o 0) (frames.control_read p h);
        max = ap (λ (x : Found). at (value_of (frame p) x) 1) (control_as v c) ∙ ap (λ o. at o 1) (frames.control_read p h);
        seq = ap (λ (x : Found). number4 (value_of (frame p) x) 2) (control_as v c) ∙ frames.seq_read p h;
        ack = ap (λ (x : Found). number4 (value_of (frame p) x) 6) (control_as v c) ∙ frames.ack_read p h;
        released = λ f k a. found_once (feature_of p f).max (released_of p f) _ (has_known (frame p) c v f k ∙ has_written_lem f true a);
        withheld = λ f a. has_none (frame p) c v f (ap (λ (r : Received). r.count) (has_written_lem f false a) ∙ none_of (feature_of p f).max (released_of p f));
        skipped = has_skipped (frame p) c v;
      }

  round_trip : RoundTrip p
  round_trip = record { frames = frame_reads; writes = λ v out n e. subst (ReadsBack v p) (sym (write_leaves p out n e)) (frame_reads v) }

-- ---- a request to write at a port of a recorder

-- over the test: does the number name a port
operated_reads : (p : Port) → RoundTrip p → (v : Revision) (out : List ℕ) (k : ℕ) (b : Bool) → (if b then written p out else Err NoPort) ≡ Ok k
    → ReadsBack v p (take k (if b then output p out else out))
operated_reads p h v out k true e = h.writes v out k e
operated_reads p h v out k false e = let z : ◌≡◌ {A = ℕ} 0 1 = cc in absurd (omega arith)

pub round_trips : RoundTrips
unfolding recorder.written recorder.output
round_trips =
    record {
      of_ports = round_trip;
      of_recorders = λ r h n. round_trip (recorder.port_at r n) ((reachable_sound r h).ports n);
      operated = λ r h n v out k. let p = recorder.port_at r n in operated_reads p (round_trip p ((reachable_sound r h).ports n)) v out k (is_port n);
    }
