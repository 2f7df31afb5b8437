-- What reading answers, in document 01's numbers.
use Rattle.std.specs.Prelude.{Ok, Err, ℕ, List, [], ◌∷◌, ◌++◌}
use Rattle.tlv.specs.declared.Refusal.TheVariants.{PastEnd}
use Rattle.tlv.specs.declared.Head.{Head}
use Rattle.tlv.specs.declared.Head.TheVariants.{End, Past, SubTlv}
use Rattle.contents.specs.declared.Found.{Found}
use Rattle.contents.specs.Contents.{Reading}
use Rattle.tlv.specs.Refusals.{Reply, done, refusal_at}

-- how often a type came, and the place and the length of the last one's value
abbrev pub found_values : Found → List ℕ
found_values x = x.count ∷ x.start ∷ x.length ∷ []

-- what stands at a place of the TLV: nothing at its end; "a sub-TLV, or its head, runs past the end"; or a sub-TLV's type and the place and
-- the length of its value
abbrev pub head_reply : ℕ → Head → Reply
head_reply place End = done []
head_reply place Past = refusal_at PastEnd place
head_reply place (SubTlv type start n) = done (type ∷ start ∷ n ∷ [])

-- refusals 3 to 8, each with its place; or what was found of control, priority groups, flow control and applications
abbrev pub reading_reply : Reading → Reply
reading_reply (Err r) = refusal_at r.why r.place
reading_reply (Ok c) = done (found_values c.control ++ found_values c.groups ++ found_values c.flow ++ found_values c.applications)
