-- `creation::create_with` meets its contract. Assumes nothing.
use Rattle.std.specs.Prelude.{not}
use Rattle.std.proofs.Common.{ap}
use Rattle.creation.proofs.CreationLaws.{created_groups, created_flow, created_applications, created_made}
use Rattle.creation.proofs.create_with.Goals as goal

pub returns-then-not-valid_local : goal.returns-then-not-valid_local
returns-then-not-valid_local c = search created_groups

pub returns-then-not-valid_local-2 : goal.returns-then-not-valid_local-2
returns-then-not-valid_local-2 c = search created_flow

pub returns-then-not-valid_local-3 : goal.returns-then-not-valid_local-3
returns-then-not-valid_local-3 c = search created_applications

pub returns : goal.returns
returns c = created_made _ _ _ _ _ _ _ _
    c.valid_local.ensures (ap not c.if-not-valid_local.false)
    c.valid_local-2.ensures (ap not c.if-not-valid_local-2.false)
    c.valid_local-3.ensures (ap not c.if-not-valid_local-3.false)
    c.setting_of-x.ensures c.setting_of-y.ensures c.setting_of-z.ensures
    c.make.ensures
