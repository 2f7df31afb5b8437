-- `walk::pass_sub_tlv` meets its contract: a law for the end, for one that runs over, and for one that is whole. Assumes nothing.
use borrow.Author.Rules.{rules}
use Rattle.tlv.specs.Laws.{head_ends, head_fits}
use Rattle.walk.proofs.HaltingLaws.{head_room, head_place, pass_end, pass_past, pass_whole}
use Rattle.walk.proofs.pass_sub_tlv.Goals as goal

pub returns-in-End : goal.returns-in-End
returns-in-End c = search pass_end

pub returns-in-Past : goal.returns-in-Past
returns-in-Past c = search pass_past

pub overflow_add-result : goal.overflow_add-result
overflow_add-result c = record { fits = search (head_fits, rules) }

pub overflow_add-result-in-SubTlv : goal.overflow_add-result-in-SubTlv
overflow_add-result-in-SubTlv c = record { fits = search (head_place, rules) }

pub note-requires : goal.note-requires
note-requires c = search head_room

pub keep-requires : goal.keep-requires
keep-requires c = search head_ends

pub returns-in-SubTlv : goal.returns-in-SubTlv
returns-in-SubTlv c = search pass_whole
