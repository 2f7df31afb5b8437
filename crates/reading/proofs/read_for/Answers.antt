-- `reading::read_for` meets its contract. Assumes nothing.
use Rattle.reading.proofs.RevisionLaws.{reads_whole, reads_skipping}
use Rattle.reading.proofs.read_for.Goals as goal

pub returns-then-has_applications : goal.returns-then-has_applications
returns-then-has_applications c = search reads_whole

pub returns : goal.returns
returns c = search reads_skipping
