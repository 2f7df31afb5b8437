-- 01, Port events: flags and peer gone.
use Rattle.std.specs.Prelude.{Bool, not, if◌then◌else◌, None, Some}
use Rattle.std.specs.Bool.{beq}
use Rattle.tlv.specs.declared.Refusal.TheVariants.{NotRunning}
use Rattle.notices.specs.declared.Kind.TheVariants as kind
use Rattle.port.specs.declared.Flag.{Flag}
use Rattle.port.specs.declared.Flag.TheVariants.{Admin, Receive, Transmit, Several}
use Rattle.port.specs.declared.Port.{Port}
use Rattle.port.specs.Types.{Raised}
use Rattle.port.specs.declared.Event.{Event}
use Rattle.port.specs.Parts.{flag_of, with_flag, running}
use Rattle.sending.specs.Sending.{fresh_port}
use Rattle.events.specs.PortEvents.{refused, unchanged, event}

-- "Start and stop of running, .. and the several-neighbours flag going on, each go to the fresh state of the present settings.
-- Clearing that flag changes only the flag."
unfoldable pub restarts : Flag → Bool → Port → Port → Bool
restarts Admin on before after = not (beq (running before) (running after))
restarts Receive on before after = not (beq (running before) (running after))
restarts Transmit on before after = not (beq (running before) (running after))
restarts Several on before after = on

-- "3 several neighbours, 4 transmit off, 5 receive off (each when the flag changes so)"
unfoldable pub flag_notice : Flag → Bool → Raised
flag_notice Admin on = None
flag_notice Receive on = if on then None else Some kind.ReceiveOff
flag_notice Transmit on = if on then None else Some kind.TransmitOff
flag_notice Several on = if on then Some kind.SeveralNeighbours else None

unfoldable pub flag_set : Flag → Bool → Port → Port
flag_set flag on p = if restarts flag on p (with_flag p flag on) then fresh_port (with_flag p flag on) else with_flag p flag on

-- "Setting a flag to what it is changes nothing."
unfoldable pub flagged : Flag → Bool → Port → Event
flagged flag on p =
    if beq (flag_of p flag) on then unchanged p
    else event (flag_notice flag on) p (flag_set flag on p)

-- "peer gone (timer expired, shutdown, or an LLDPDU with no DCBX TLV)"; notice "9 peer gone though seen"
unfoldable pub peer_gone : Port → Event
peer_gone p =
    if not (running p) then refused NotRunning p
    else event (if p.control.seen then Some kind.PeerGone else None) p (fresh_port p)
