-- `form_of` meets its contract. Assumes nothing.
use Rattle.std.proofs.Common.{◌≡◌, arith}
use Rattle.capture.specs.LineLaws.{form_unspaced, form_no_octets, form_a, form_b, form_neither}
use Rattle.capture.proofs.form_of.Goals as goal
use Rattle.capture.proofs.form_of.Goals.{then-octet-ne-SPACE-via-then-octet-ne-SPACE, then-octet-ne-SPACE-via-else-octet-ne-SPACE+then-not-is_octets}

pub returns-then-octet-ne-SPACE : goal.returns-then-octet-ne-SPACE
returns-then-octet-ne-SPACE c = elim c.then-octet-ne-SPACE.branch [
  | then-octet-ne-SPACE-via-then-octet-ne-SPACE w ↦ search form_unspaced
  | then-octet-ne-SPACE-via-else-octet-ne-SPACE+then-not-is_octets w ↦ search form_no_octets
]

pub returns-in-65 : goal.returns-in-65
returns-in-65 c = search form_a

pub returns-in-66 : goal.returns-in-66
returns-in-66 c = let n : c.octet-2.result ≡ 65 → ⊥ = omega arith in search form_b

pub returns-in_default : goal.returns-in_default
returns-in_default c = search form_neither
