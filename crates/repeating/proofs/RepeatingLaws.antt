-- What a frame that is read has inside. Assumes nothing.
use Rattle.std.specs.Prelude.{ℕ, ◌≡◌, List, Ok}
use Rattle.contents.specs.declared.Contents.{Contents}
use Rattle.tlv.specs.declared.Revision.{Revision}
use Rattle.reading.specs.Promises.{Inside, ReadsFor}
use Rattle.contents.specs.Contents.{Reading}

-- what the call on the way needs of a frame that is accepted
pub reads_inside : {v : Revision} {o : List ℕ} {r : Reading} {c : Contents} → ReadsFor v o r → r ≡ Ok c → Inside o c
reads_inside {c = c} a e = a.inside c e
