-- The whole entries of parameters, one by one: each is a run of six octets, and entry 0 of it.
use Rattle.std.specs.Prelude.{ℕ, ◌/◌, Bool, not, ◌&&◌, List, length}
use Rattle.std.specs.Simd.{first_chunks}
use Rattle.octets.specs.Words.{◌below◌}
use Rattle.parameters.specs.Parameters.{selector_of, same_name, is_ours, clash}

unfoldable pub entries : List ℕ → List (List ℕ)
entries p = first_chunks 6 (length p / 6) p

-- an entry has not the name of another
unfoldable pub other_name : List ℕ → List ℕ → Bool
other_name e o = not (same_name e 0 o 0)

unfoldable pub no_clash : List ℕ → List ℕ → Bool
no_clash e o = not (clash e 0 o 0)

-- an entry may stand in a local setting
unfoldable pub local_entry : List ℕ → Bool
local_entry e = is_ours e 0 && selector_of e 0 below 2
