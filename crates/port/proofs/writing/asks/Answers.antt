-- `port::writing::asks` meets its contract. Assumes nothing.
use Rattle.port.proofs.WritingLaws.{asks_turned, asks_stopped, asks_running}
use Rattle.port.proofs.writing.asks.Goals as goal

pub returns-then-runs-running : goal.returns-then-runs-running
returns-then-runs-running c = search asks_turned

pub returns-then-not-runs : goal.returns-then-not-runs
returns-then-not-runs c = search asks_stopped

pub returns : goal.returns
returns c = search asks_running
