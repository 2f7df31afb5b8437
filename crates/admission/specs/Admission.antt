-- 01, Handling a frame: what a frame's control does, steps 1 to 3, and what a frame that is refused does.
use Rattle.std.specs.Prelude.{ℕ, Bool, true, false, not, ◌&&◌, ◌||◌, List, if◌then◌else◌, None, Some, Err}
use Rattle.octets.specs.Words.{◌is◌}
use Rattle.octets.specs.Octets.{at, number4}
use Rattle.tlv.specs.declared.Refusal.{Refusal}
use Rattle.tlv.specs.Refusals.{refusal_number, rejection}
use Rattle.contents.specs.declared.Contents.{Contents}
use Rattle.contents.specs.Contents.{value_of}
use Rattle.parameters.specs.declared.Feature.{Feature}
use Rattle.parameters.specs.declared.Feature.TheVariants.{Groups, Flow, Applications}
use Rattle.feature.specs.Outcome.{Received}
use Rattle.notices.specs.declared.Kind.{Kind}
use Rattle.notices.specs.declared.Kind.TheVariants as kind
use Rattle.port.specs.declared.Control.{Control}
use Rattle.port.specs.declared.Port.{Port}
use Rattle.port.specs.declared.Event.{Event}
use Rattle.port.specs.declared.Notices.{Notices}
use Rattle.port.specs.Types.{Raised}
use Rattle.port.specs.Parts.{with_control}

-- What a frame with one readable control has: its versions, its numbers, and the three features.
pub record Message : Type 0 where
  pub oper : ℕ
  pub max : ℕ
  pub seq : ℕ
  pub ack : ℕ
  pub has : Feature → Received

abbrev pub has_of : List ℕ → Contents → Feature → Received
has_of o c Groups = record { count = c.groups.count; value = value_of o c.groups }
has_of o c Flow = record { count = c.flow.count; value = value_of o c.flow }
has_of o c Applications = record { count = c.applications.count; value = value_of o c.applications }

abbrev pub message : List ℕ → Contents → Message
message o c =
    let v : List ℕ = value_of o c.control in
    record { oper = at v 0; max = at v 1; seq = number4 v 2; ack = number4 v 6; has = has_of o c }

-- 1. "Two or more controls: peer seen; each advertised feature gets reason "control twice", .. numbers and versions stay."
-- Duplicate control is marked (Notices). 02, E1: an accepted frame clears the mark of a broken control, here and in 2 and 3.
abbrev pub seen_twice : Control → Control
seen_twice c = record { max = c.max; oper = c.oper; seq = c.seq; ack = c.ack; rcvd = c.rcvd; seen = true; duplicate = true; broken = false }

-- 2. "Peer seen. Oper = lower of own and received Max." One readable control unmarks duplicate control (Notices).
abbrev pub met : ℕ → Control → Control
met oper c = record { max = c.max; oper = oper; seq = c.seq; ack = c.ack; rcvd = c.rcvd; seen = true; duplicate = false; broken = false }

-- 3. "RcvdAckNo = received AckNo. .. AckNo = received SeqNo."
abbrev pub numbered : ℕ → Message → Control → Control
numbered oper m c = record { max = c.max; oper = oper; seq = c.seq; ack = m.seq; rcvd = m.ack; seen = true; duplicate = false; broken = false }

-- a notice of the port when a mark goes from off to on
abbrev pub newly_marked : Kind → Bool → Bool → Raised
newly_marked k before after = if not before && after then Some k else None

-- 01: "A refusal returns its number alone and changes nothing". 02, E1: "refusals 7 and 8 write notice 1 (port) if the port's new mark is off,
-- and set it; any other outcome of a frame .. clears it. .. a refusal changes nothing but this mark and notice". The mark says that the
-- last frame since the fresh state had a broken control.
unfoldable pub breaks : Refusal → Bool
breaks why = refusal_number why is 7 || refusal_number why is 8

abbrev pub with_broken : Port → Bool → Port
with_broken p b =
    let c : Control = p.control in
    with_control p (record { max = c.max; oper = c.oper; seq = c.seq; ack = c.ack; rcvd = c.rcvd; seen = c.seen; duplicate = c.duplicate; broken = b })

abbrev pub alone : Raised → Notices
alone x = record { port = x; groups = None; flow = None; applications = None }

-- a frame that is refused. 02, E2: "Everything above the reader passes it on", the place beside the number
unfoldable pub rejected : Refusal → ℕ → Port → Event
rejected why place p =
    record {
      answer = Err (rejection why place);
      port = with_broken p (breaks why);
      notices = alone (newly_marked kind.ControlError p.control.broken (breaks why));
    }
