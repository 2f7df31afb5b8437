-- `contents::found_again` meets its contract: the count goes to 1, then to 2 and stays there. Assumes nothing.
use Rattle.contents.specs.ContentsLaws.{found_first, found_more}
use Rattle.contents.proofs.found_again.Goals as goal

pub returns-then-x-lt1 : goal.returns-then-x-lt1
returns-then-x-lt1 c = search found_first

pub returns-else-x-lt1 : goal.returns-else-x-lt1
returns-else-x-lt1 c = search found_more
