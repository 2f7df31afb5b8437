-- What a port answers, in document 01's numbers.
use Rattle.std.specs.Prelude.{ℕ, Bool, [], ◌∷◌, if◌then◌else◌, None, Some, Ok, Err}
use Rattle.tlv.specs.Refusals.{Reply, done, refusal, refusal_at}
use Rattle.notices.specs.Notices.{notice_number}
use Rattle.port.specs.Types.{Answer, Written, Raised}

abbrev pub bit : Bool → ℕ
bit b = if b then 1 else 0

-- an event: whether it asks for a send, or its refusal with its place
abbrev pub event_reply : Answer → Reply
event_reply (Ok wish) = done (bit wish ∷ [])
event_reply (Err r) = refusal_at r.why r.place

-- a request to write: how many octets were written, or its refusal
abbrev pub written_reply : Written → Reply
written_reply (Ok n) = done (n ∷ [])
written_reply (Err why) = refusal why

-- the number of a notice that was raised, 0 for none
abbrev pub raised_number : Raised → ℕ
raised_number None = 0
raised_number (Some k) = notice_number k
