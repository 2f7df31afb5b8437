-- Demand 3: two running ends, just started. Each claim is one about a whole list of rounds.
use Rattle.std.specs.Prelude.{◌≤◌, ◌≡◌, true, false, Some, List, length}
use Rattle.std.proofs.Math.Option.{none}
use Rattle.parameters.specs.declared.Feature.{Feature}
use Rattle.feature.specs.declared.Peer.{Peer}
use Rattle.feature.specs.Outcome.{lower}
use Rattle.feature.specs.Outcome as rules
use Rattle.port.specs.declared.Port.{Port}
use Rattle.port.specs.Parts.{feature_of, running}
use Rattle.sending.specs.Sending.{fresh_port}
use Rattle.port.specs.Settled.{settled}
use Rattle.port.specs.Sound.{SoundPort}
use Rattle.rounds.specs.Rounds.{Ends, Round, Lossy, rounds, lossy_rounds, exec_all, Proper}
use Rattle.exchange.specs.Expected.{side_of, expected}

-- "Just started means running, several-neighbours flag off, and the fresh state with its send rule done, whatever the log holds.": the log
-- is no part of a port
pub record JustStarted (p : Port) : Type 0 where
  pub sound : SoundPort p
  pub runs : running p ≡ true
  pub single : p.several ≡ false
  pub fresh : fresh_port p ≡ p

-- two such ends, with no frame on its way
pub record Begun (c : Ends) : Type 0 where
  pub l : JustStarted c.l
  pub r : JustStarted c.r
  pub no_l : c.from_l ≡ none
  pub no_r : c.from_r ≡ none

-- First half, at an end whose port is now p, where it started as `own` and its peer as `peer`: "Acknowledged means RcvdAckNo =
-- SeqNo; the version run at is Oper". The outcome has the version, mode and error of each feature; `configuration` is OperCfg.
-- The exchange has come to rest as well: a peer is seen, and every advertised feature is Syncd.
pub record Agreed (own peer p : Port) : Type 0 where
  pub seen : p.control.seen ≡ true
  pub acknowledged : p.control.rcvd ≡ p.control.seq
  pub synced : (f : Feature) → (feature_of own f).setting.advertise ≡ true → (feature_of p f).syncd ≡ true
  pub version : p.control.oper ≡ lower own.control.max peer.control.max
  pub versions : (f : Feature) → (feature_of own f).setting.advertise ≡ true → (feature_of peer f).setting.advertise ≡ true
      → (feature_of p f).outcome.oper ≡ lower (feature_of own f).max (feature_of peer f).max
  pub outcome : (f : Feature) → (feature_of p f).outcome ≡ expected f (side_of own f) (side_of peer f)
  pub configuration : (f : Feature) → rules.configuration (feature_of p f).setting (feature_of p f).outcome
      ≡ rules.configuration (feature_of own f).setting (expected f (side_of own f) (side_of peer f))

-- Second half: what an end holds of its peer is none or exactly the peer's own, of a feature that the peer advertises
pub record Truthful (peer p : Port) : Type 0 where
  pub own : (f : Feature) (q : Peer) → (feature_of p f).outcome.peer ≡ Some q
      → ((feature_of peer f).setting.advertise ≡ true)
      × (q.enable ≡ (feature_of peer f).setting.enable)
      × (q.willing ≡ (feature_of peer f).setting.willing)
      × (q.parameters ≡ (feature_of peer f).setting.desired)

-- both halves of both ends, as they were and as they are now
abbrev pub BothAgreed : Ends → Ends → Type 0
BothAgreed before now = Agreed before.l before.r now.l × Agreed before.r before.l now.r

abbrev pub BothTruthful : Ends → Ends → Type 0
BothTruthful before now = Truthful before.r now.l × Truthful before.l now.r

-- settled means agreed: two ends at which the exchange has come to rest (a peer is seen, RcvdAckNo = SeqNo, every advertised feature is
-- Syncd) have agreed. Of one settled end alone that is false: what its peer has become may wait, and is not written yet (02, E5)
abbrev pub SettledAgreed : Ends → Ends → Type 0
SettledAgreed before now = settled now.l ≡ true → settled now.r ≡ true → BothAgreed before now

-- Six or more rounds agree: demand 3 says five or more, and 02, E5: "The five in demand 3 becomes the smallest number that holds for all
-- settings". Rounds of any number and with any losses leave both ends truthful, and agreed where both are settled.
pub record Demand3 (c : Ends) : Type 0 where
  pub settles : (rs : List Round) → Proper (rounds rs) c → 6 ≤ length rs → BothAgreed c (exec_all (rounds rs) c)
  pub truthful : (rs : List Lossy) → Proper (lossy_rounds rs) c → BothTruthful c (exec_all (lossy_rounds rs) c)
  pub agrees : (rs : List Lossy) → Proper (lossy_rounds rs) c → SettledAgreed c (exec_all (lossy_rounds rs) c)
