-- 02, E7: "never restarted, no peer gone" are needed.
use Rattle.std.specs.Prelude.{true, false, List}
use Rattle.parameters.specs.declared.Feature.{Feature}
use Rattle.port.specs.declared.Flag.TheVariants.{Admin}
use Rattle.flags.specs.Flags.{flagged, peer_gone}
use Rattle.rounds.specs.Rounds.{left, Ends}
use Rattle.exchange.specs.Demand3.{Begun}
use Rattle.ticks.specs.Ticks.{Happening, after, Proper, Ticked, present_tlv, Handled}

-- the left end is switched off and on again
unfoldable pub restarted : Ends → Ends
restarted c = record { l = (flagged Admin true (flagged Admin false c.l).port).port; r = c.r; from_l = c.from_l; from_r = c.from_r }

-- its peer is said to be gone
unfoldable pub gone : Ends → Ends
gone c = record { l = (peer_gone c.l).port; r = c.r; from_l = c.from_l; from_r = c.from_r }

-- Two ends fresh together, a run, then this at the left end, and a run again: there is a tick at the left end, and the right end has handled no
-- frame that carries the sub-TLV, neither before nor after.
pub record Breaks (this : Ends → Ends) : Type 0 where
  pub ends : Ends
  pub begun : Begun ends
  pub first : List Happening
  pub proper_first : Proper first ends
  pub second : List Happening
  pub proper_second : Proper second (this (after first ends))
  pub feature : Feature
  pub ticked : Ticked (after second (this (after first ends))).l feature
  pub not_before : Handled first ends left feature (present_tlv left feature (after second (this (after first ends)))) → ⊥
  pub not_after : Handled second (this (after first ends)) left feature (present_tlv left feature (after second (this (after first ends)))) → ⊥
