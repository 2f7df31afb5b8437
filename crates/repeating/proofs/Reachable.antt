-- At every port of a reachable recorder a frame that repeats what is held of the peer changes the control alone. Assumes nothing.
use Prim.Native.Nat.{ℕ}
use native.Mathlib.Omega.{arith}
use mathlib.Core.Path.{◌≡◌, refl, ◌∙◌}
use mathlib.Core.Bool.{Bool, true, false, not, ◌&&◌}
use mathlib.Core.List.{List, [], ◌∷◌}
use lib.ListN.{length}
use borrow.Author.Tests.{eqb-true, eqb-false}
use Rattle.std.specs.Prelude.{if◌then◌else◌, Option, None, Some}
use Rattle.octets.specs.Words.{◌is◌}
use Rattle.notices.specs.Notices.{is_port}
use Rattle.notices.specs.Notices as numbers
use Rattle.notices.proofs.PortLaws.{is_port_lem}
use Rattle.tlv.specs.declared.Refusal.TheVariants.{InvalidSetting, NoPort}
use Rattle.reading.specs.Revisions.{read_for}
use Rattle.port.specs.declared.Port.{Port}
use Rattle.port.specs.Parts.{running}
use Rattle.port.specs.Sound.{SoundPort}
use Rattle.events.specs.PortEvents.{refused}
use Rattle.creation.specs.Creation.{created_port, settings_valid, made, versions_for, switches_for, parameters_for}
use Rattle.creation.specs.Creation as creation
use Rattle.flags.specs.Flags as flags
use Rattle.changes.specs.Changes as changes
use Rattle.handling.specs.Handling as handling
use Rattle.invariants.proofs.Standing.{Standing, blank_stands}
use Rattle.recorder.specs.declared.Recorder.{Recorder}
use Rattle.recorder.specs.declared.Change.TheVariants.{Frame}
use Rattle.recorder.specs.Recorder.{port_at, blank, happens, changed, created}
use Rattle.calls.specs.Calls.{Operation, create, frame, gone, flag, setting, write, take, Call, event_of, after, after_all}
use Rattle.calls.specs.Sound.{AllInRange, Reachable}
use Rattle.calls.proofs.Independent.{four_after, blank_four, blank_port_lem, own_after, other_after}
use Rattle.calls.proofs.Reachable.{event_stands, nowhere, reachable_sound}
use Rattle.repeating.specs.declared.Repetition.{Repetition}
use Rattle.repeating.specs.Repeating.{none_waits, repeat_given, repeat_of, repetition, ControlAlone}
use Rattle.repeating.proofs.Judging.{Judged, handled_judged, flagged_judged, gone_judged, setting_judged, created_judged, blank_judged}
use Rattle.repeating.proofs.Repeated.{none_some, repeated}

-- ---- one call at one port

event_judged : (n : ℕ) (p : Port) (x : Operation) → SoundPort p → Judged p → Judged (event_of n p x).port
unfolding event_of changed happens created creation.created creation.created_with
event_judged n p (create v w o) s h = by (is_port n) (settings_valid (parameters_for v.revision o))
  where
    by : (b c : Bool)
        → Judged
        (if b then (if c then made p (created_port (versions_for v) (switches_for v.revision w) (parameters_for v.revision o)) else refused InvalidSetting p)
        else refused NoPort p).port
    by false c = h
    by true false = h
    by true true = created_judged (versions_for v) (switches_for v.revision w) (parameters_for v.revision o)
event_judged n p (frame o) s h = by (is_port n)
  where
    by : (b : Bool) → Judged (if b then handling.handled p o else refused NoPort p).port
    by true = handled_judged p h o
    by false = h
event_judged n p gone s h = by (is_port n)
  where
    by : (b : Bool) → Judged (if b then flags.peer_gone p else refused NoPort p).port
    by true = gone_judged p h
    by false = h
event_judged n p (flag x on) s h = by (is_port n)
  where
    by : (b : Bool) → Judged (if b then flags.flagged x on p else refused NoPort p).port
    by true = flagged_judged p h x on
    by false = h
event_judged n p (setting number w o) s h = by (is_port n)
  where
    by : (b : Bool) → Judged (if b then changes.changed_setting number w o p else refused NoPort p).port
    by true = setting_judged p h s number w o
    by false = h
event_judged n p (write out) s h = h
event_judged n p take s h = h

-- ---- any calls

record Steady (p : Port) : Type 0 where
  stands : Standing p
  judged : Judged p

steady_by : (n : ℕ) → numbers.PortNumber n → (xs : List Call) (r : Recorder) → length r.ports ≡ 4 → AllInRange xs → Steady (port_at r n) → Steady (port_at (after_all r xs) n)
unfolding after_all
steady_by n p [] r four k h = h
steady_by n p (x ∷ xs) r four k h = steady_by n p xs (after r x) (four_after r x.port x.operation ∙ four) k.1 (by (x.port is n) refl)
  where
    by : (b : Bool) → (x.port is n) ≡ b → Steady (port_at (after r x) n)
    by true t =
        let e : x.port ≡ n = eqb-true x.port n t in
        rw (e, own_after r four n x.operation)
        (record {
          stands = event_stands n (port_at r n) x.operation k.0 h.stands;
          judged = event_judged n (port_at r n) x.operation h.stands.sound h.judged;
        })
    by false t = rw (other_after r x.port n p (eqb-false x.port n t) x.operation) h

steady : (xs : List Call) → AllInRange xs → (n : ℕ) → Steady (port_at (after_all blank xs) n)
steady xs k n = by (is_port n) refl
  where
    at : (m : ℕ) → numbers.PortNumber m → Steady (port_at (after_all blank xs) m)
    at m p = steady_by m p xs blank blank_four k (rw (blank_port_lem m) (record { stands = blank_stands; judged = blank_judged }))

    by : (b : Bool) → is_port n ≡ b → Steady (port_at (after_all blank xs) n)
    by true e = at n (is_port_lem n e)
    by false e = rw (nowhere n e) (at 1 (record { low = omega arith; high = omega arith }))

pub reachable_judged : (r : Recorder) → Reachable r → (n : ℕ) → Judged (port_at r n)
reachable_judged r h n = rw h.is (steady h.calls h.octets n).judged

-- ---- a frame that repeats what is held

port_repeats : (n : ℕ) (p : Port) → SoundPort p → Judged p → (o : List ℕ) (r : Repetition) → repeat_of n p o ≡ Some r → changed n p Frame o ≡ repetition p r
unfolding changed happens repeat_of none_waits
port_repeats n p s j o r = by (is_port n) (running p) p.several p.groups.syncd p.flow.syncd p.applications.syncd refl refl refl refl refl
  where
    told : Option Repetition
    told = repeat_given o (read_for p.revision o) p

    by : (a b m c d e : Bool) → running p ≡ b → p.several ≡ m → p.groups.syncd ≡ c → p.flow.syncd ≡ d → p.applications.syncd ≡ e
        → (if not ((a && b && not m) && c && d && e) then None else told) ≡ Some r
        → (if a then handling.handled p o else refused NoPort p) ≡ repetition p r
    by false b m c d e rs sn sg sw sa t = absurd (none_some t)
    by true false m c d e rs sn sg sw sa t = absurd (none_some t)
    by true true true c d e rs sn sg sw sa t = absurd (none_some t)
    by true true false false d e rs sn sg sw sa t = absurd (none_some t)
    by true true false true false e rs sn sg sw sa t = absurd (none_some t)
    by true true false true true false rs sn sg sw sa t = absurd (none_some t)
    by true true false true true true rs sn sg sw sa t = repeated p s j o rs sn sg sw sa r t

pub reachable_repeats : ControlAlone
reachable_repeats r h n o x = port_repeats n (port_at r n) sound (reachable_judged r h n) o x
  where
    sound : SoundPort (port_at r n)
    sound = (reachable_sound r h).ports n
