-- `contents::note` meets its contract: a law for each type, and for what is skipped. Assumes nothing.
use Rattle.contents.specs.ContentsLaws.{noted_control, noted_skipped, noted_groups, noted_flow, noted_applications, noted_other}
use Rattle.contents.proofs.note.Goals as goal

pub returns-then-kind-eq-CONTROL : goal.returns-then-kind-eq-CONTROL
returns-then-kind-eq-CONTROL c = search noted_control

pub returns-then-not-counts : goal.returns-then-not-counts
returns-then-not-counts c = search noted_skipped

pub returns-in-2 : goal.returns-in-2
returns-in-2 c = search noted_groups

pub returns-in-3 : goal.returns-in-3
returns-in-3 c = search noted_flow

pub returns-in-4 : goal.returns-in-4
returns-in-4 c = search noted_applications

pub returns : goal.returns
returns c = search noted_other
