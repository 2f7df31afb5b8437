-- What the functions look at one at a time on their way, named: an octet.
use Rattle.std.specs.Prelude.{ℕ, ◌/◌, ◌%◌, Bool, ◌&&◌}
use Rattle.parameters.specs.Parameters.{good_group}

-- the two group numbers in an octet are good
abbrev pub two_groups : ℕ → Bool
two_groups x = good_group (x / 16) && good_group (x % 16)
