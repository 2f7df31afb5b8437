-- 02, E10, as one claim over any list of calls at any ports from the blank recorder on.
use Rattle.std.specs.Prelude.{ℕ, ◌≡◌, true, List}
use Rattle.notices.specs.Notices.{PortNumber}
use Rattle.calls.specs.Calls.{Call}
use Rattle.calls.specs.Independent.{untaken_at, Independent, SameNews}
use Rattle.calls.specs.Logged.{Logged}

pub record FourPorts : Type 0 where
  pub independent : (xs : List Call) (n : ℕ) → PortNumber n → Independent xs n
  pub news : (xs : List Call) (n : ℕ) → PortNumber n → untaken_at n xs ≡ true → SameNews xs n
  pub logged : (xs : List Call) → Logged xs
