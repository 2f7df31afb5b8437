-- E10, of every list of calls. Assumes nothing.
use Rattle.calls.specs.FourPorts.{FourPorts}
use Rattle.calls.proofs.Independent.{independent}
use Rattle.calls.proofs.News.{news}
use Rattle.calls.proofs.Logged.{logged}

pub four_ports : FourPorts
four_ports = record { independent = independent; news = news; logged = logged }
