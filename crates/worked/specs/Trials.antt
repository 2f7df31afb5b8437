-- What the rows of the worked table are computed from: the settings of document 01's W2 and their variants, frames made of its sub-TLVs,
-- calls at a recorder, at its port 1 where any will do, and rounds between two.
use Rattle.std.specs.Prelude.{ℕ, zero, suc, ◌/◌, ◌%◌, true, false, ◌&&◌, List, [], ◌∷◌, ◌++◌, map, length, drop, replicate, get_or, set, if◌then◌else◌, Ok, Err}
use Prim.Native.String.{String}
use Rattle.std.proofs.Math.Option.{none}
use Rattle.std.proofs.Math.ListN as list
use Rattle.octets.specs.Words.{◌is◌}
use Rattle.octets.specs.Octets.{octets4}
use Rattle.octets.specs.Texts.{text}
use Rattle.contents.specs.Contents.{Reading}
use Rattle.tlv.specs.Refusals.{Reply, refusal_number}
use Rattle.tlv.specs.Layout as layout
use Rattle.reading.specs.Reading as reading
use Rattle.tlv.specs.declared.Revision.TheVariants.{Rev101, Rev10}
use Rattle.parameters.specs.declared.Feature.{Feature}
use Rattle.parameters.specs.declared.Feature.TheVariants.{Groups, Flow, Applications}
use Rattle.parameters.specs.Parameters as parameters
use Rattle.feature.specs.declared.Switches.{Switches}
use Rattle.feature.specs.Reasons.{reason_word}
use Rattle.feature.specs.Outcome as rules
use Rattle.notices.specs.declared.Kind.{Kind}
use Rattle.notices.specs.declared.Kind.TheVariants.{Bad, SeveralNeighbours, TransmitOff, ReceiveOff, DuplicateControl, Duplicate, Absent, PeerGone, NotCompatible}
use Rattle.notices.specs.declared.Log.{Log}
use Rattle.notices.specs.declared.Notice.{Notice}
use Rattle.notices.specs.Notices as notices
use Rattle.port.specs.declared.Flag.TheVariants.{Admin, Transmit, Several}
use Rattle.port.specs.declared.Port.{Port}
use Rattle.port.specs.Parts.{feature_of, three, with_control}
use Rattle.port.specs.Replies.{bit}
use Rattle.port.specs.Settled.{settled}
use Rattle.admission.specs.Admission as admission
use Rattle.recorder.specs.declared.Recorder.{Recorder}
use Rattle.recorder.specs.Recorder.{port_at, blank}
use Rattle.calls.specs.Calls.{Operation, create, frame, flag, setting, write, take, Call, raised, after, after_all, lent_after, reply_of}
use Rattle.rounds.specs.Rounds as ends
use Rattle.exchange.specs.Recorders as cable

-- a row: what it says, what the rules give, and what documents 01 and 02 state
pub record Row : Type 0 where
  pub name : String
  pub given : List ℕ
  pub stated : List ℕ

unfoldable pub row : String → List ℕ → List ℕ → Row
row name given stated = record { name = name; given = given; stated = stated }

-- ---- octets

-- "004's 51 octets behind fe 37 00 1b 21 02"
unfoldable pub w1 : List ℕ
w1 =
    (0xfe ∷ 0x37 ∷ 0x00 ∷ 0x1b ∷ 0x21 ∷ 0x02 ∷ []) ++ (0x02 ∷ 0x0a ∷ 0x00 ∷ 0x00 ∷ 0x00 ∷ 0x00 ∷ 0x00 ∷ 0x01 ∷ 0x00 ∷ 0x00 ∷ 0x00 ∷ 0x00 ∷ []) ++ (0x06 ∷ 0x06 ∷ 0x00 ∷ 0x00 ∷ 0x80 ∷ 0x00 ∷ 0x08 ∷ 0x08 ∷ []) ++ (0x08 ∷ 0x0a ∷ 0x00 ∷ 0x00 ∷ 0x80 ∷ 0x00 ∷ 0x89 ∷ 0x06 ∷ 0x00 ∷ 0x1b ∷ 0x21 ∷ 0x08 ∷ [])
    ++ (0x04 ∷ 0x11 ∷ 0x00 ∷ 0x00 ∷ 0x80 ∷ 0x00 ∷ 0x00 ∷ 0x01 ∷ 0x00 ∷ 0x00 ∷ 0x32 ∷ 0x32 ∷ 0x00 ∷ 0x00 ∷ 0x00 ∷ 0x00 ∷ 0x00 ∷ 0x00 ∷ 0x02 ∷ [])

unfoldable pub w2 : List ℕ
w2 =
    0xfe ∷ 0x37 ∷ 0x00 ∷ 0x1b ∷ 0x21 ∷ 0x02 ∷ 0x02 ∷ 0x0a ∷ 0x00 ∷ 0x00 ∷ 0x00 ∷ 0x00 ∷ 0x00 ∷ 0x01 ∷ 0x00 ∷ 0x00 ∷ 0x00 ∷ 0x00 ∷ 0x04 ∷ 0x11 ∷ 0x00 ∷ 0x00 ∷ 0x80 ∷ 0x00 ∷ 0x00 ∷ 0x01 ∷ 0x00 ∷ 0x00 ∷ 0x32 ∷ 0x32 ∷ 0x00 ∷ 0x00 ∷ 0x00 ∷ 0x00 ∷ 0x00 ∷ 0x00 ∷ 0x02 ∷ 0x06 ∷ 0x06 ∷ 0x00 ∷ 0x00 ∷ 0x80 ∷ 0x00 ∷ 0x08 ∷ 0x08 ∷ 0x08 ∷ 0x0a ∷ 0x00 ∷ 0x00 ∷ 0x80 ∷ 0x00 ∷ 0x89 ∷ 0x06 ∷ 0x00 ∷ 0x1b ∷ 0x21 ∷ 0x08 ∷ []

-- its sub-TLVs, and a frame of sub-TLVs
unfoldable pub control : List ℕ
control = 0x02 ∷ 0x0a ∷ 0x00 ∷ 0x00 ∷ 0x00 ∷ 0x00 ∷ 0x00 ∷ 0x01 ∷ 0x00 ∷ 0x00 ∷ 0x00 ∷ 0x00 ∷ []

unfoldable pub groups : List ℕ
groups = 0x04 ∷ 0x11 ∷ 0x00 ∷ 0x00 ∷ 0x80 ∷ 0x00 ∷ 0x00 ∷ 0x01 ∷ 0x00 ∷ 0x00 ∷ 0x32 ∷ 0x32 ∷ 0x00 ∷ 0x00 ∷ 0x00 ∷ 0x00 ∷ 0x00 ∷ 0x00 ∷ 0x02 ∷ []

unfoldable pub flow : List ℕ
flow = 0x06 ∷ 0x06 ∷ 0x00 ∷ 0x00 ∷ 0x80 ∷ 0x00 ∷ 0x08 ∷ 0x08 ∷ []

unfoldable pub applications : List ℕ
applications = 0x08 ∷ 0x0a ∷ 0x00 ∷ 0x00 ∷ 0x80 ∷ 0x00 ∷ 0x89 ∷ 0x06 ∷ 0x00 ∷ 0x1b ∷ 0x21 ∷ 0x08 ∷ []

unfoldable pub frame_of : List ℕ → List ℕ
frame_of sub_tlvs = layout.frame_head (length sub_tlvs) ++ sub_tlvs

-- ---- reading: a frame's refusal number and its place, or what is asked of the message that it is

unfoldable pub message_in : (admission.Message → List ℕ) → List ℕ → Reading → List ℕ
message_in ask o (Err r) = refusal_number r.why ∷ r.place ∷ []
message_in ask o (Ok c) = ask (admission.message o c)

unfoldable pub reads : (admission.Message → List ℕ) → List ℕ → List ℕ
reads ask o = message_in ask o (reading.read_frame o)

unfoldable pub sequence : admission.Message → List ℕ
sequence m = m.seq ∷ m.ack ∷ []

unfoldable pub parameters_in : admission.Message → Feature → List ℕ
parameters_in m f = rules.parameters_of (m.has f).value

unfoldable pub flow_in : admission.Message → List ℕ
flow_in m = parameters.mask (parameters_in m Flow) ∷ parameters.flow_number (parameters_in m Flow) ∷ []

-- how many entries; id, selector and map of the first
unfoldable pub entries_in : admission.Message → List ℕ
entries_in m =
    let a : List ℕ = parameters_in m Applications in
    parameters.entry_count a ∷ parameters.id_of a 0 ∷ parameters.selector_of a 0 ∷ parameters.map_of a 0 ∷ []

unfoldable pub groups_in : admission.Message → List ℕ
groups_in m = map (parameters.group_of (parameters_in m Groups)) (0 ∷ 1 ∷ 2 ∷ 3 ∷ 4 ∷ 5 ∷ 6 ∷ 7 ∷ [])

unfoldable pub percentages_in : admission.Message → List ℕ
percentages_in m = parameters.percentages (parameters_in m Groups)

unfoldable pub classes_in : admission.Message → List ℕ
classes_in m = parameters.groups_number (parameters_in m Groups) ∷ []

-- ---- settings

-- advertised and enabled, not willing; willing; not advertised
unfoldable pub on : Switches
on = record { advertise = true; enable = true; willing = false }

unfoldable pub willing : Switches
willing = record { advertise = true; enable = true; willing = true }

unfoldable pub off : Switches
off = record { advertise = false; enable = true; willing = false }

-- W2's parameters, but for the mask of flow control
unfoldable pub desired : ℕ → Feature → List ℕ
desired mask = three (0x00 ∷ 0x01 ∷ 0x00 ∷ 0x00 ∷ 0x32 ∷ 0x32 ∷ 0x00 ∷ 0x00 ∷ 0x00 ∷ 0x00 ∷ 0x00 ∷ 0x00 ∷ 0x02 ∷ []) (mask ∷ 8 ∷ []) (0x89 ∷ 0x06 ∷ 0x00 ∷ 0x1b ∷ 0x21 ∷ 0x08 ∷ [])

-- entries that differ in their ids
unfoldable pub entries : ℕ → List ℕ
entries zero = []
entries (suc n) = (137 ∷ n ∷ []) ++ (0x00 ∷ 0x1b ∷ 0x21 ∷ 0x08 ∷ []) ++ entries n

-- one entry of an id's low octet, the octet above the selector, the two octets behind it, and a map
unfoldable pub entry : ℕ → ℕ → ℕ → ℕ → ℕ → List ℕ
entry low third fourth fifth map = 137 ∷ low ∷ third ∷ fourth ∷ fifth ∷ map ∷ []

-- FCoE's id 8906 under OUI 00 1b 21, on a map; and under a partner's
unfoldable pub own : ℕ → List ℕ
own map = entry 6 0x00 0x1b 0x21 map

unfoldable pub foreign : ℕ → List ℕ
foreign map = entry 6 0x00 0x0e 0x87 map

-- n foreign entries
unfoldable pub foreigners : ℕ → List ℕ
foreigners zero = []
foreigners (suc n) = foreign 0x10 ++ foreigners n

unfoldable pub percentages : ℕ → List ℕ
percentages last = (0x00 ∷ 0x00 ∷ 0x00 ∷ 0x00 ∷ 0x32 ∷ 0x00 ∷ 0x00 ∷ 0x00 ∷ 0x00 ∷ 0x00 ∷ 0x00 ∷ []) ++ last ∷ 8 ∷ []

-- creation with switches for groups and applications and for flow control, the highest versions of control and of flow control, and the
-- parameters
unfoldable pub creation : Switches → Switches → ℕ → ℕ → (Feature → List ℕ) → Operation
creation w x control_max flow_max p = create (record { revision = Rev101; control = control_max; groups = 0; flow = flow_max; applications = 0 }) (three w x w) p

-- 02, E11: W2's settings for Rev 1.0, beside which something is given for applications
unfoldable pub older : List ℕ → Operation
older p = create (record { revision = Rev10; control = 0; groups = 0; flow = 0; applications = 1 }) (three on on on) (three (desired 8 Groups) (desired 8 Flow) p)

-- with percentages of 101
unfoldable pub invalid : Operation
invalid = creation on on 0 0 (three (percentages 51) (desired 8 Flow) (desired 8 Applications))

-- ---- calls at a recorder

unfoldable pub at : ℕ → Operation → Call
at n x = record { port = n; operation = x }

-- a recorder whose port 1 is created so
unfoldable pub started : Switches → Switches → ℕ → ℕ → ℕ → Recorder
started w x control_max flow_max mask = after blank (at 1 (creation w x control_max flow_max (desired mask)))

-- with W2's own
unfoldable pub w2_recorder : Recorder
w2_recorder = started on on 0 0 8

-- a recorder whose port 1 is of Rev 1.0, with W2's own
unfoldable pub older_recorder : Recorder
older_recorder = after blank (at 1 (older (desired 8 Applications)))

-- how often a reader of a revision finds each type, 1 to 4
unfoldable pub counts_in : Reading → List ℕ
counts_in (Err r) = refusal_number r.why ∷ r.place ∷ []
counts_in (Ok c) = c.control.count ∷ c.groups.count ∷ c.flow.count ∷ c.applications.count ∷ []

-- 0 and the values, or a refusal's number and its place
unfoldable pub spoken : Reply → List ℕ
spoken r = r.number ∷ (if r.number is 0 then [] else r.place ∷ []) ++ r.values

-- the answer in document 01's numbers, after some calls
unfoldable pub answers : Recorder → List Call → Call → List ℕ
answers r before x = spoken (reply_of (after_all r before) x)

-- a write into n octets ff: the answer, and the output afterwards
unfoldable pub ffs : ℕ → List ℕ
ffs n = replicate n 255

unfoldable pub wrote : Recorder → ℕ → List ℕ
wrote r n = answers r [] (at 1 (write (ffs n)))

unfoldable pub output : Recorder → ℕ → List ℕ
output r n = get_or (lent_after r (at 1 (write (ffs n)))) 0 []

-- number and feature of each notice
unfoldable pub numbered : List Notice → List ℕ
numbered [] = []
numbered (x ∷ xs) = notices.notice_number x.kind ∷ x.feature ∷ numbered xs

-- those that a call raises, after some calls
unfoldable pub raises : Recorder → List Call → Call → List ℕ
raises r before x = numbered (raised (after_all r before) x)

-- the reason of a feature, in document 01's words; and of all three
unfoldable pub reason_of : Port → Feature → List ℕ
reason_of p f = text (reason_word (feature_of p f).outcome.reason)

unfoldable pub reasons : Port → List ℕ
reasons p = reason_of p Groups ++ text ", " ++ reason_of p Flow ++ text ", " ++ reason_of p Applications

-- the reason of flow control after a frame of these sub-TLVs
unfoldable pub flow_reason : List ℕ → List ℕ
flow_reason sub_tlvs = reason_of (port_at (after w2_recorder (at 1 (frame (frame_of sub_tlvs)))) 1) Flow

unfoldable pub configuration_of : Port → Feature → List ℕ
configuration_of p f = parameters.content (rules.configuration (feature_of p f).setting (feature_of p f).outcome)

-- parameters of a feature: the reason when they come to W2's port, and the answer when they are set there
unfoldable pub came : Feature → List ℕ → List ℕ
came f p =
    text
    (reason_word (rules.outcome f 0 (feature_of (port_at w2_recorder 1) f).setting 0 (record { count = 1; value = (0x00 ∷ 0x00 ∷ 0x80 ∷ 0x00 ∷ []) ++ p })).reason)

-- what W2's port holds of entries that come
unfoldable pub holds : List ℕ → List ℕ
holds p =
    parameters.content
    (rules.parameters_held
    (rules.outcome Applications 0 (feature_of (port_at w2_recorder 1) Applications).setting 0 (record { count = 1; value = (0x00 ∷ 0x00 ∷ 0x80 ∷ 0x00 ∷ []) ++ p })).peer)

unfoldable pub sets : Feature → List ℕ → List ℕ
sets f p = answers w2_recorder [] (at 1 (setting (parameters.feature_number f) on p))

-- ---- rounds

unfoldable pub plain_round : ends.Round
plain_round =
    record {
      lent_l = replicate 147 0;
      lent_r = replicate 147 0;
      writer = ends.left;
      handler = ends.left;
      calls_0 = [];
      calls_1 = [];
      calls_2 = [];
      calls_3 = [];
      calls_4 = [];
    }

-- the two ports that a cable joins, after what happens
unfoldable pub joined : cable.Cable → Recorder → Recorder → List cable.Happening → ends.Ends
joined k a b xs = cable.ends k (cable.exec_all k xs (record { l = a; r = b; from_l = none; from_r = none }))

-- port 1 of one recorder and port 1 of another, after n rounds
unfoldable pub rounds : Recorder → Recorder → ℕ → ends.Ends
rounds a b n = joined (record { left = 1; right = 1 }) a b (map cable.exchange (ends.rounds (replicate n plain_round)))

-- before each call of an exchange between port 3 and port 2, port 1 of the left recorder raises a notice and port 3 takes one; behind it,
-- port 1 of the right recorder is created anew and a flag of port 4 is set
unfoldable pub busy : List ends.Call → List cable.Happening
busy [] = []
busy (x ∷ xs) =
    cable.beside ends.left (at 1 (flag Several true)) ∷ cable.beside ends.left (at 1 (flag Several false)) ∷ cable.beside ends.left (at 3 take)
    ∷ cable.exchange x ∷ cable.beside ends.right (at 1 (creation on on 3 3 (desired 1))) ∷ cable.beside ends.right (at 4 (flag Admin true))
    ∷ busy xs

-- port 3 of one and port 2 of another, created so, after n rounds among what happens at the others
unfoldable pub busy_rounds : Operation → Operation → ℕ → ends.Ends
busy_rounds x y n =
    joined (record { left = 3; right = 2 }) (after blank (at 3 x)) (after blank (at 2 y)) (busy (ends.rounds (replicate n plain_round)))

-- 1 if both ends are settled
unfoldable pub both_settled : ends.Ends → ℕ
both_settled e = bit (settled e.l && settled e.r)

-- SeqNo, AckNo and RcvdAckNo
unfoldable pub numbers : Port → List ℕ
numbers p = p.control.seq ∷ p.control.ack ∷ p.control.rcvd ∷ []

-- the versions run at: control's, then the features'
unfoldable pub versions : Port → List ℕ
versions p = p.control.oper ∷ p.groups.outcome.oper ∷ p.flow.outcome.oper ∷ p.applications.outcome.oper ∷ []

-- The rows of an exchange. Both ends are settled after n rounds and a last one, and not before the last; SeqNo, AckNo and RcvdAckNo, the
-- versions and the reasons are as stated at both ends.
unfoldable pub exchange : String → (ℕ → ends.Ends) → ℕ → List ℕ → List ℕ → String → List Row
exchange name rounds_of n stated_numbers stated_versions stated_reasons =
    let before : ends.Ends = rounds_of n in
    let now : ends.Ends = rounds_of (suc n) in
    row name (both_settled before ∷ both_settled now ∷ []) (0 ∷ 1 ∷ [])
    ∷ row name (numbers now.l) stated_numbers
    ∷ row name (numbers now.r) stated_numbers
    ∷ row name (versions now.l) stated_versions
    ∷ row name (versions now.r) stated_versions
    ∷ row name (reasons now.l) (text stated_reasons)
    ∷ row name (reasons now.r) (text stated_reasons)
    ∷ []

-- ---- notices that differ: the kinds in turn, of the port and then of each feature

unfoldable pub kinds : List Kind
kinds = Bad ∷ SeveralNeighbours ∷ TransmitOff ∷ ReceiveOff ∷ DuplicateControl ∷ Duplicate ∷ Absent ∷ PeerGone ∷ NotCompatible ∷ []

unfoldable pub differing : ℕ → ℕ → List Notice
differing zero i = []
differing (suc n) i = record { port = 1; kind = get_or kinds (i % 9) Bad; feature = i / 9 } ∷ differing n (suc i)

unfoldable pub sixty_five : Log
sixty_five = notices.logged_all notices.empty_log (differing 65 0)

-- ---- the log by calls. Port n raises k notices: 4 first, then 3 and 3 again.

unfoldable pub again : ℕ → ℕ → List Call
again n zero = []
again n (suc k) = at n (flag Several true) ∷ at n (flag Several false) ∷ again n k

unfoldable pub raising : ℕ → ℕ → List Call
raising n zero = []
raising n (suc k) = at n (flag Transmit true) ∷ at n (flag Transmit false) ∷ again n k

-- ports 1 to 4 raise so many each, one port after the other
unfoldable pub filled : ℕ → ℕ → ℕ → ℕ → Recorder
filled a b c d = after_all blank (raising 1 a ++ raising 2 b ++ raising 3 c ++ raising 4 d)

unfoldable pub uneven : Recorder
uneven = filled 30 16 15 3

-- how many notices ports 1 to 4 hold, and how many they have lost
unfoldable pub held_and_lost : Recorder → List ℕ
held_and_lost r = map (λ n. notices.count_of n r.log) (1 ∷ 2 ∷ 3 ∷ 4 ∷ []) ++ r.log.dropped

-- after port n raises one more
unfoldable pub one_more : Recorder → ℕ → Recorder
one_more r n = after r (at n (flag Several true))

-- the number and the feature of the oldest of each port
unfoldable pub oldest : Recorder → List ℕ
oldest r = answers r [] (at 1 take) ++ answers r [] (at 2 take) ++ answers r [] (at 3 take) ++ answers r [] (at 4 take)

-- ---- W10: a settled end whose SeqNo 4,294,967,295 is outstanding, and whose flow control mask is changed meanwhile

unfoldable pub outstanding : Recorder
outstanding =
    let p : Port = (rounds w2_recorder w2_recorder 3).l in
    record {
      ports = set w2_recorder.ports 0 (with_control p (record { max = 0; oper = 0; seq = 4294967295; ack = 1; rcvd = 4294967294; seen = true; duplicate = false; broken = false }));
      log = w2_recorder.log;
    }

unfoldable pub pending : Recorder
pending = after outstanding (at 1 (setting 3 on (0x10 ∷ 0x08 ∷ [])))

unfoldable pub acknowledging : Call
acknowledging = at 1 (frame (list.take 14 w2 ++ octets4 4294967295 ++ drop 18 w2))
