-- `handling::apply` meets its contract. Assumes nothing.
use Rattle.handling.proofs.HandlingLaws.{apply_is}
use Rattle.handling.proofs.apply.Goals as goal

pub returns : goal.returns
returns c = apply_is _ _ _ c.requires.1 c.peer_parameters-x.ensures c.peer_parameters-y.ensures c.peer_parameters-z.ensures
    c.renew.ensures c.renew-2.ensures c.renew-3.ensures
