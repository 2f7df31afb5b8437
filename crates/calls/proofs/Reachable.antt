-- Every reachable recorder is sound. Assumes nothing.
use Prim.Native.Nat.{ℕ, ◌<◌}
use native.Mathlib.Omega.{arith}
use mathlib.Core.Path.{◌≡◌, refl, ◌∙◌}
use mathlib.Core.Bool.{Bool, true, false}
use mathlib.Core.List.{List, [], ◌∷◌}
use lib.ListN.{length}
use lib.Dec.{lit<}
use borrow.Author.Tests.{eqb-true, eqb-false}
use Rattle.std.specs.Prelude.{if◌then◌else◌}
use Rattle.octets.specs.Words.{◌is◌}
use Rattle.notices.specs.Notices.{is_port}
use Rattle.notices.specs.Notices as numbers
use Rattle.notices.proofs.PortLaws.{is_port_lem}
use Rattle.tlv.specs.declared.Refusal.TheVariants.{InvalidSetting, NoPort}
use Rattle.tlv.specs.Revisions.{has_applications}
use Rattle.parameters.specs.declared.Feature.{Feature}
use Rattle.parameters.specs.declared.Feature.TheVariants.{Groups, Flow, Applications}
use Rattle.port.specs.declared.Port.{Port}
use Rattle.port.specs.declared.Versions.{Versions}
use Rattle.port.specs.Parts.{max_of}
use Rattle.events.specs.PortEvents.{refused}
use Rattle.creation.specs.Creation.{created_port, settings_valid, made, versions_for, switches_for, parameters_for}
use Rattle.creation.specs.Creation as creation
use Rattle.flags.specs.Flags as flags
use Rattle.changes.specs.Changes as changes
use Rattle.handling.specs.Handling as handling
use Rattle.invariants.proofs.Standing.{Standing, stopped_off, handled_stands, flagged_stands, gone_stands, setting_stands, created_stands, blank_stands}
use Rattle.recorder.specs.declared.Recorder.{Recorder}
use Rattle.recorder.specs.Recorder.{place_of, port_at, blank, happens, changed, created}
use Rattle.calls.specs.Calls.{Operation, create, frame, gone, flag, setting, write, take, Call, event_of, after, after_all}
use Rattle.calls.specs.Sound.{InRange, AllInRange, Reachable, SoundRecorder}
use Rattle.calls.proofs.Independent.{four_after, blank_four, blank_port_lem, own_after, other_after}
use Rattle.calls.proofs.Logged.{log_sound}

-- ---- one call at one port

-- the versions that a revision takes
pub versions_small : (v : Versions) → ((f : Feature) → max_of v f < 256) → (f : Feature) → max_of (versions_for v) f < 256
versions_small v k Groups = k Groups
versions_small v k Flow = k Flow
versions_small v k Applications = by (has_applications v.revision)
  where
    by : (b : Bool) → (if b then v.applications else 0) < 256
    by true = k Applications
    by false = lit< tt

pub event_stands : (n : ℕ) (p : Port) (x : Operation) → InRange x → Standing p → Standing (event_of n p x).port
unfolding event_of changed happens created creation.created creation.created_with
event_stands n p (create v w o) k h = by (is_port n) (settings_valid (parameters_for v.revision o)) refl
  where
    by : (b c : Bool) → settings_valid (parameters_for v.revision o) ≡ c
        → Standing
        (if b then (if c then made p (created_port (versions_for v) (switches_for v.revision w) (parameters_for v.revision o)) else refused InvalidSetting p)
        else refused NoPort p).port
    by false c e = h
    by true false e = h
    by true true e =
        created_stands (versions_for v) (switches_for v.revision w) (parameters_for v.revision o) k.0 (versions_small v k.1) e (λ t. (rw t refl, rw t refl, rw t refl))
event_stands n p (frame o) k h = by (is_port n)
  where
    by : (b : Bool) → Standing (if b then handling.handled p o else refused NoPort p).port
    by true = handled_stands p o k h
    by false = h
event_stands n p gone k h = by (is_port n)
  where
    by : (b : Bool) → Standing (if b then flags.peer_gone p else refused NoPort p).port
    by true = gone_stands p h
    by false = h
event_stands n p (flag x on) k h = by (is_port n)
  where
    by : (b : Bool) → Standing (if b then flags.flagged x on p else refused NoPort p).port
    by true = flagged_stands x on p h
    by false = h
event_stands n p (setting number w o) k h = by (is_port n)
  where
    by : (b : Bool) → Standing (if b then changes.changed_setting number w o p else refused NoPort p).port
    by true = setting_stands p h number w o
    by false = h
event_stands n p (write out) k h = h
event_stands n p take k h = h

-- ---- any calls: the port with a number stands

stands_by : (n : ℕ) → numbers.PortNumber n → (xs : List Call) (r : Recorder) → length r.ports ≡ 4 → AllInRange xs → Standing (port_at r n) → Standing (port_at (after_all r xs) n)
unfolding after_all
stands_by n p [] r four k h = h
stands_by n p (x ∷ xs) r four k h = stands_by n p xs (after r x) (four_after r x.port x.operation ∙ four) k.1 (by (x.port is n) refl)
  where
    by : (b : Bool) → (x.port is n) ≡ b → Standing (port_at (after r x) n)
    by true t =
        let e : x.port ≡ n = eqb-true x.port n t in
        rw (e, own_after r four n x.operation) (event_stands n (port_at r n) x.operation k.0 h)
    by false t = rw (other_after r x.port n p (eqb-false x.port n t) x.operation) h

pub nowhere : (n : ℕ) → is_port n ≡ false → place_of n ≡ place_of 1
unfolding place_of
nowhere n e = rw e refl

-- of a number that names no port the first port stands in its place
stands : (xs : List Call) → AllInRange xs → (n : ℕ) → Standing (port_at (after_all blank xs) n)
stands xs k n = by (is_port n) refl
  where
    at : (m : ℕ) → numbers.PortNumber m → Standing (port_at (after_all blank xs) m)
    at m p = stands_by m p xs blank blank_four k (rw (blank_port_lem m) blank_stands)

    by : (b : Bool) → is_port n ≡ b → Standing (port_at (after_all blank xs) n)
    by true e = at n (is_port_lem n e)
    by false e = rw (nowhere n e) (at 1 (record { low = omega arith; high = omega arith }))

four_all : (xs : List Call) (r : Recorder) → length (after_all r xs).ports ≡ length r.ports
unfolding after_all
four_all [] r = refl
four_all (x ∷ xs) r = four_all xs (after r x) ∙ four_after r x.port x.operation

pub calls_sound : (xs : List Call) → AllInRange xs → SoundRecorder (after_all blank xs)
calls_sound xs k =
    record {
      four = four_all xs blank ∙ blank_four;
      ports = λ n. (stands xs k n).sound;
      steps = λ n. (stands xs k n).steps;
      stopped = λ n. (stands xs k n).stopped;
      mark = λ n e. stopped_off (port_at (after_all blank xs) n) ((stands xs k n).stopped e) e;
      log = log_sound xs;
    }

pub reachable_sound : (r : Recorder) → Reachable r → SoundRecorder r
reachable_sound r h = rw h.is (calls_sound h.calls h.octets)
