-- Which ports have just started, by the operations that lead there. 01, Port events: "Start and stop of running, peer gone .., and the
-- several-neighbours flag going on, each go to the fresh state of the present settings. Clearing that flag changes only the flag."
use Rattle.std.specs.Prelude.{ℕ, ◌≡◌, Bool, true, false, List}
use Rattle.parameters.specs.declared.Feature.{Feature}
use Rattle.feature.specs.declared.Switches.{Switches}
use Rattle.notices.specs.Notices.{PortNumber}
use Rattle.port.specs.declared.Flag.{Flag}
use Rattle.port.specs.declared.Flag.TheVariants.{Several}
use Rattle.port.specs.declared.Versions.{Versions}
use Rattle.port.specs.Parts.{running}
use Rattle.sending.specs.Sending.{fresh_port}
use Rattle.recorder.specs.declared.Recorder.{Recorder}
use Rattle.recorder.specs.Recorder.{port_at}
use Rattle.calls.specs.Calls.{create, after_at, reply_at}
use Rattle.calls.specs.Calls as recorder
use Rattle.calls.specs.Sound.{InRange, Reachable}
use Rattle.exchange.specs.Demand3.{JustStarted}

-- port n of a recorder, with one neighbour, starts anew
pub record Restarts (r : Recorder) (n : ℕ) : Type 0 where
  -- by an accepted peer gone
  pub gone : (reply_at r n recorder.gone).number ≡ 0 → JustStarted (port_at (after_at r n recorder.gone) n)
  -- by a flag with which it comes to run
  pub flag : (x : Flag) (on : Bool) → running (port_at r n) ≡ false → running (port_at (after_at r n (recorder.flag x on)) n) ≡ true
      → JustStarted (port_at (after_at r n (recorder.flag x on)) n)
  -- by several neighbours that come and go while it runs
  pub several : running (port_at r n) ≡ true → JustStarted (port_at (after_at (after_at r n (recorder.flag Several true)) n (recorder.flag Several false)) n)
  -- and whatever calls led there, it has if it runs in the fresh state
  pub fresh : running (port_at r n) ≡ true → fresh_port (port_at r n) ≡ port_at r n → JustStarted (port_at r n)

pub record Starting : Type 0 where
  -- a creation that is not refused
  pub created : (r : Recorder) → Reachable r → (n : ℕ) (v : Versions) (w : Feature → Switches) (o : Feature → List ℕ) → InRange (create v w o)
      → (reply_at r n (create v w o)).number ≡ 0 → JustStarted (port_at (after_at r n (create v w o)) n)
  pub again : (r : Recorder) → Reachable r → (n : ℕ) → PortNumber n → (port_at r n).several ≡ false → Restarts r n
