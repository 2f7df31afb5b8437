-- 02, E11: "Demand 3 is shown once with the revision of each end as an input": `Demand3` and `JoinedDemand3` are of ports of any revision, which a
-- port has from its creation on. Here is what they come to "between unlike ends", and what a 1.0 port writes.
use Rattle.std.specs.Prelude.{ℕ, ◌≤◌, ◌≡◌, true, List, [], length, Ok}
use Rattle.contents.specs.declared.Contents.{Contents}
use Rattle.tlv.specs.declared.Revision.TheVariants.{Rev101, Rev10}
use Rattle.reading.specs.Reading.{read_frame}
use Rattle.parameters.specs.declared.Feature.TheVariants.{Applications}
use Rattle.feature.specs.declared.Reason.TheVariants.{Absent}
use Rattle.port.specs.declared.Port.{Port}
use Rattle.port.specs.Settled.{settled}
use Rattle.port.specs.Writing.{released_tlv, frame}
use Rattle.recorder.specs.declared.Recorder.{Recorder}
use Rattle.recorder.specs.Recorder.{port_at}
use Rattle.calls.specs.Sound.{Reachable}
use Rattle.rounds.specs.Rounds.{Ends, Round, Lossy, rounds, lossy_rounds, exec_all, Proper}
use Rattle.exchange.specs.Demand3.{Agreed}

-- an end that started as `own`, 1.01, beside one that started as `peer`, 1.0, and whose port is now p: "the 1.01 end reads "absent" for applications if
-- it advertises them and everything else is as before": all that demand 3 says of the two settings
pub record BesideOlder (own peer p : Port) : Type 0 where
  pub absent : own.applications.setting.advertise ≡ true → p.applications.outcome.reason ≡ Absent
  pub agreed : Agreed own peer p

-- between a 1.01 end and a 1.0 end, on either side: after six or more rounds; and after any rounds with any losses, if both ends are settled
pub record UnlikeEnds (c : Ends) : Type 0 where
  pub left : c.l.revision ≡ Rev101 → c.r.revision ≡ Rev10 → (rs : List Round) → Proper (rounds rs) c → 6 ≤ length rs
      → BesideOlder c.l c.r (exec_all (rounds rs) c).l
  pub right : c.r.revision ≡ Rev101 → c.l.revision ≡ Rev10 → (rs : List Round) → Proper (rounds rs) c → 6 ≤ length rs
      → BesideOlder c.r c.l (exec_all (rounds rs) c).r
  pub settled_left : c.l.revision ≡ Rev101 → c.r.revision ≡ Rev10 → (rs : List Lossy) → Proper (lossy_rounds rs) c
      → settled (exec_all (lossy_rounds rs) c).l ≡ true → settled (exec_all (lossy_rounds rs) c).r ≡ true → BesideOlder c.l c.r (exec_all (lossy_rounds rs) c).l
  pub settled_right : c.r.revision ≡ Rev101 → c.l.revision ≡ Rev10 → (rs : List Lossy) → Proper (lossy_rounds rs) c
      → settled (exec_all (lossy_rounds rs) c).l ≡ true → settled (exec_all (lossy_rounds rs) c).r ≡ true → BesideOlder c.r c.l (exec_all (lossy_rounds rs) c).r

-- what a port writes has no sub-TLV of type 4; and a reader, who accepts it, finds none
pub record WritesNone (p : Port) : Type 0 where
  pub none : released_tlv p Applications ≡ []
  pub contents : Contents
  pub accepted : read_frame (frame p) ≡ Ok contents
  pub count : contents.applications.count ≡ 0

-- a 1.0 port, after any list of calls
abbrev pub WritesNoApplications : Type 0
WritesNoApplications = (r : Recorder) → Reachable r → (n : ℕ) → (port_at r n).revision ≡ Rev10 → WritesNone (port_at r n)
