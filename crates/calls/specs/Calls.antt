-- The calls that users make of a recorder, one after the other: what each answers and leaves behind.
use Rattle.tlv.specs.declared.Refusal.{Refusal}
use Rattle.std.specs.Prelude.{ℕ, Bool, List, [], ◌∷◌, if◌then◌else◌, Ok, Err, Result}
use Rattle.octets.specs.Words.{◌is◌}
use Rattle.tlv.specs.Refusals.{Reply, done, refusal}
use Rattle.parameters.specs.declared.Feature.{Feature}
use Rattle.parameters.specs.declared.Feature.TheVariants.{Groups, Flow, Applications}
use Rattle.feature.specs.declared.Switches.{Switches}
use Rattle.notices.specs.declared.Notice.{Notice}
use Rattle.notices.specs.Notices.{notice_number}
use Rattle.port.specs.declared.Flag.{Flag}
use Rattle.port.specs.declared.Port.{Port}
use Rattle.port.specs.declared.Versions.{Versions}
use Rattle.port.specs.declared.Event.{Event}
use Rattle.events.specs.PortEvents.{unchanged, in_order}
use Rattle.port.specs.Replies.{event_reply, written_reply}
use Rattle.recorder.specs.declared.Recorder.{Recorder}
use Rattle.recorder.specs.declared.Change.TheVariants as change
use Rattle.logging.specs.Logging.{taken}
use Rattle.recorder.specs.Recorder.{port_at, changed, created, stored, written, output}

-- one case for each operation at a port, with its arguments
pub data Operation : Type 0 where
  create : Versions → (Feature → Switches) → (Feature → List ℕ) → Operation  -- a port is made: versions, switches, parameters as octets
  frame : List ℕ → Operation  -- a frame arrived
  gone : Operation  -- the peer is gone
  flag : Flag → Bool → Operation  -- a flag is set
  setting : ℕ → Switches → List ℕ → Operation  -- the setting of the feature with a number: switches, and parameters as octets
  write : List ℕ → Operation  -- a frame is to be written into a lent output with these octets
  take : Operation  -- a notice is taken

-- an operation at the port with a number
pub record Call : Type 0 where
  pub port : ℕ
  pub operation : Operation

-- ---- the port afterwards

-- what happens at port n, which is p; writing and taking leave it
unfoldable pub event_of : ℕ → Port → Operation → Event
event_of n p (create v w o) = created n p v w o
event_of n p (frame o) = changed n p change.Frame o
event_of n p gone = changed n p change.PeerGone []
event_of n p (flag x on) = changed n p (change.Flag x on) []
event_of n p (setting number w o) = changed n p (change.Setting number w) o
event_of n p (write out) = unchanged p
event_of n p take = unchanged p

-- the notices that it raises, in their order
abbrev pub raised_at : Recorder → ℕ → Operation → List Notice
raised_at r n x = in_order n (event_of n (port_at r n) x).notices

-- ---- the recorder afterwards

unfoldable pub after_at : Recorder → ℕ → Operation → Recorder
after_at r n (create v w o) = stored r n (event_of n (port_at r n) (create v w o))
after_at r n (frame o) = stored r n (event_of n (port_at r n) (frame o))
after_at r n gone = stored r n (event_of n (port_at r n) gone)
after_at r n (flag x on) = stored r n (event_of n (port_at r n) (flag x on))
after_at r n (setting number w o) = stored r n (event_of n (port_at r n) (setting number w o))
after_at r n (write out) = r
after_at r n take = record { ports = r.ports; log = (taken n r.log).log }

abbrev pub raised : Recorder → Call → List Notice
raised r x = raised_at r x.port x.operation

abbrev pub after : Recorder → Call → Recorder
after r x = after_at r x.port x.operation

unfoldable pub after_all : Recorder → List Call → Recorder
after_all r [] = r
after_all r (x ∷ xs) = after_all (after r x) xs

-- ---- the buffers that are lent for a call, each with its octets; and afterwards: frames and parameters are lent to be read alone

abbrev pub lent_to : Operation → List (List ℕ)
lent_to (create v w o) = o Groups ∷ o Flow ∷ o Applications ∷ []
lent_to (frame o) = o ∷ []
lent_to gone = []
lent_to (flag x on) = []
lent_to (setting number w o) = o ∷ []
lent_to (write out) = out ∷ []
lent_to take = []

abbrev pub lent : Call → List (List ℕ)
lent x = lent_to x.operation

unfoldable pub lent_at : Recorder → ℕ → Operation → List (List ℕ)
lent_at r n (create v w o) = lent_to (create v w o)
lent_at r n (frame o) = lent_to (frame o)
lent_at r n gone = []
lent_at r n (flag x on) = []
lent_at r n (setting number w o) = lent_to (setting number w o)
lent_at r n (write out) = output n (port_at r n) out ∷ []
lent_at r n take = []

abbrev pub lent_after : Recorder → Call → List (List ℕ)
lent_after r x = lent_at r x.port x.operation

-- ---- what a call answers, in document 01's numbers

-- "Taking removes the oldest and gives its number and its feature, 0 for a port notice." Its port is the one that was asked.
abbrev pub took_reply : Result Notice Refusal → Reply
took_reply (Ok x) = done (notice_number x.kind ∷ x.feature ∷ [])
took_reply (Err why) = refusal why

unfoldable pub reply_at : Recorder → ℕ → Operation → Reply
reply_at r n (create v w o) = event_reply (event_of n (port_at r n) (create v w o)).answer
reply_at r n (frame o) = event_reply (event_of n (port_at r n) (frame o)).answer
reply_at r n gone = event_reply (event_of n (port_at r n) gone).answer
reply_at r n (flag x on) = event_reply (event_of n (port_at r n) (flag x on)).answer
reply_at r n (setting number w o) = event_reply (event_of n (port_at r n) (setting number w o)).answer
reply_at r n (write out) = written_reply (written n (port_at r n) out)
reply_at r n take = took_reply (taken n r.log).answer

abbrev pub reply_of : Recorder → Call → Reply
reply_of r x = reply_at r x.port x.operation

-- the calls of a list that are not refused, each in the state that it meets
unfoldable pub accepted : Recorder → List Call → List Call
accepted r [] = []
accepted r (x ∷ xs) = if (reply_of r x).number is 0 then x ∷ accepted (after r x) xs else accepted (after r x) xs
