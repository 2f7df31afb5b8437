-- When an exchange has come to rest at an end. Document 01's worked exchanges count their rounds up to the moment when both ends are
-- settled; its words are 02's, E8: "a peer is seen, RcvdAckNo = SeqNo and every advertised feature is Syncd".
use Rattle.std.specs.Prelude.{Bool, not, ◌&&◌}
use Rattle.octets.specs.Words.{◌is◌}
use Rattle.port.specs.declared.Port.{Port}
use Rattle.port.specs.Parts.{feature_of, each}
use Rattle.feature.specs.declared.State.{State}

-- an advertised feature has Syncd false
unfoldable pub unsynced : State → Bool
unsynced x = x.setting.advertise && not x.syncd

unfoldable pub settled : Port → Bool
settled p = p.control.seen && p.control.rcvd is p.control.seq && each (λ f. not (unsynced (feature_of p f)))
