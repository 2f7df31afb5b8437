-- What `read` promises of its result: which it is, and that a caller may cut the values out of the octets.
use Rattle.std.specs.Prelude.{Ok, ℕ, ◌+◌, ◌≤◌, ◌≡◌, List, length}
use Rattle.contents.specs.declared.Contents.{Contents}
use Rattle.contents.specs.Contents.{Reading}
use Rattle.tlv.specs.declared.Revision.{Revision}
use Rattle.reading.specs.Reading.{read_frame}
use Rattle.reading.specs.Revisions.{read_for}

-- each value that was found lies within the octets
pub record Inside (o : List ℕ) (c : Contents) : Type 0 where
  pub control : c.control.start + c.control.length ≤ length o
  pub groups : c.groups.start + c.groups.length ≤ length o
  pub flow : c.flow.start + c.flow.length ≤ length o
  pub applications : c.applications.start + c.applications.length ≤ length o

pub record ReadPromise (o : List ℕ) (r : Reading) : Type 0 where
  pub is : r ≡ read_frame o
  pub inside : (c : Contents) → r ≡ Ok c → Inside o c

-- and of `read_for`
pub record ReadsFor (v : Revision) (o : List ℕ) (r : Reading) : Type 0 where
  pub is : r ≡ read_for v o
  pub inside : (c : Contents) → r ≡ Ok c → Inside o c
