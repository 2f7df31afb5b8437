-- `port::writing::put_features` meets its contract. Assumes nothing.
use Rattle.port.proofs.WritingLaws.{features_put}
use Rattle.port.proofs.writing.put_features.Goals as goal

pub returns : goal.returns
returns c = search features_put
