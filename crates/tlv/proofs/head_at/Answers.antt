-- `tlv::head_at` meets its contract, at any place: behind the last octet is the end; a head or a value that does not fit is past it. Assumes nothing.
use borrow.Author.Rules.{rules}
use native.Mathlib.Omega.{arith}
use Rattle.tlv.specs.Laws.{head_end, head_past, head_whole}
use Rattle.tlv.proofs.head_at.Goals as goal

pub returns-then-s-at : goal.returns-then-s-at
returns-then-s-at c = search head_end

pub returns-then-left-lt2 : goal.returns-then-left-lt2
returns-then-left-lt2 c = head_past _ _ (omega arith) (omega arith)

pub returns-then-left-length : goal.returns-then-left-length
returns-then-left-length c = head_past _ _ (omega arith) (omega arith)

pub returns : goal.returns
returns c = head_whole _ _ (search rules) (omega arith)
