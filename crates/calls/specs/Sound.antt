-- What every recorder has that users can come by: four ports, each sound, its releases in step with its numbers and, while stopped, in the fresh
-- stopped state; and a sound log.
use Rattle.std.specs.Prelude.{ℕ, ◌<◌, ◌≡◌, false, List, [], ◌∷◌, length}
use Rattle.octets.specs.Octets.{at}
use Rattle.parameters.specs.declared.Feature.{Feature}
use Rattle.notices.specs.LogModel.{Sound}
use Rattle.port.specs.Parts.{max_of, running}
use Rattle.sending.specs.Sending.{fresh_port}
use Rattle.port.specs.Sound.{SoundPort, InStep}
use Rattle.recorder.specs.declared.Recorder.{Recorder}
use Rattle.recorder.specs.Recorder.{blank, port_at}
use Rattle.calls.specs.Calls.{Operation, create, frame, gone, flag, setting, write, take, Call, after_all}

-- the octets of a frame are below 256; "Settings also fix the highest versions, 0 to 255, at creation."
abbrev pub InRange : Operation → Type 0
InRange (create v w o) = (v.control < 256) × ((f : Feature) → max_of v f < 256)
InRange (frame o) = (i : ℕ) → at o i < 256
InRange gone = Unit {0}
InRange (flag x on) = Unit {0}
InRange (setting number w o) = Unit {0}
InRange (write out) = Unit {0}
InRange take = Unit {0}

abbrev pub AllInRange : List Call → Type 0
AllInRange [] = Unit {0}
AllInRange (x ∷ xs) = InRange x.operation × AllInRange xs

-- by any calls from the blank recorder on, creations among them
pub record Reachable (r : Recorder) : Type 0 where
  pub calls : List Call
  pub octets : AllInRange calls
  pub is : r ≡ after_all blank calls

pub record SoundRecorder (r : Recorder) : Type 0 where
  pub four : length r.ports ≡ 4
  pub ports : (n : ℕ) → SoundPort (port_at r n)
  -- 02, E5: what is released is the present, but for changes that wait
  pub steps : (n : ℕ) → InStep (port_at r n)
  pub stopped : (n : ℕ) → running (port_at r n) ≡ false → fresh_port (port_at r n) ≡ port_at r n
  -- so the mark of a broken control is off while stopped (02, E1: "a fresh state, clears it")
  pub mark : (n : ℕ) → running (port_at r n) ≡ false → (port_at r n).control.broken ≡ false
  pub log : Sound r.log
