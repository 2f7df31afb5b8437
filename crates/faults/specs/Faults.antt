-- 01, Refusal numbers, 9: "local setting invalid". Why it is: the first rule that fails, with the numbers that say so. The order is that of document
-- 01's rules; a foreign entry comes before entries are counted, since 02, E3, skips such entries "before duplicates are sought, the limit of 16
-- counted".
use Rattle.std.specs.Prelude.{ℕ, zero, suc, ◌+◌, ◌%◌, Bool, not, List, length, if◌then◌else◌, Option, Some, None, option_map}
use Rattle.std.specs.Option.{option_or, unwrap_or}
use Rattle.octets.specs.Words.{◌below◌, ◌atmost◌, ◌is◌}
use Rattle.parameters.specs.declared.Feature.{Feature}
use Rattle.parameters.specs.declared.Feature.TheVariants.{Groups, Flow, Applications}
use Rattle.parameters.specs.Parameters.{group_of, percentages, groups_number, good_group, sum, mask, flow_number, ones, entry_count, selector_of, same_name, new_name, is_ours}
use Rattle.faults.specs.declared.Fault.{Fault}

-- the first of the n numbers from i on that fails a test
unfoldable pub first_not : ℕ → ℕ → (ℕ → Bool) → Option ℕ
first_not zero i test = None
first_not (suc n) i test = if test i then first_not n (i + 1) test else Some i

-- ---- groups: the length, "group 0 to 7 or 15", "percentages sum to 100", "number 0 to 8"

unfoldable pub good_priority : List ℕ → ℕ → Bool
good_priority p priority = good_group (group_of p priority)

unfoldable pub bad_priority : List ℕ → Option ℕ
bad_priority p = first_not 8 0 (good_priority p)

unfoldable pub groups_fault : List ℕ → Option Fault
groups_fault p =
    if not (length p is 13) then Some (Fault.Length (length p) 13)
    else option_or (option_map (λ k. Fault.Group k (group_of p k)) (bad_priority p))
    (if not (sum (percentages p) is 100) then Some (Fault.Sum (sum (percentages p)))
    else if not (groups_number p atmost 8) then Some (Fault.Classes (groups_number p))
    else None)

-- ---- flow control: the length, "number 0 to 8", "no more ones in the flow control mask than its number of classes"

unfoldable pub flow_fault : List ℕ → Option Fault
flow_fault p =
    if not (length p is 2) then Some (Fault.Length (length p) 2)
    else if not (flow_number p atmost 8) then Some (Fault.Classes (flow_number p))
    else if not (ones 8 (mask p) atmost flow_number p) then Some (Fault.Ones (ones 8 (mask p)) (flow_number p))
    else None

-- ---- applications: whole entries, none that is not ours, "n 0 to 16", "no two entries with the same selector and id", "selector 0 or 1 only"

unfoldable pub foreign_entry : List ℕ → Option ℕ
foreign_entry p = first_not (entry_count p) 0 (is_ours p)

-- "the first entry that repeats one, and the one it repeats"
unfoldable pub second_entry : List ℕ → Option ℕ
second_entry p = first_not (entry_count p) 0 (new_name p)

unfoldable pub other_entry : List ℕ → ℕ → ℕ → Bool
other_entry p i j = not (same_name p i p j)

-- which may be i itself
unfoldable pub first_entry : List ℕ → ℕ → ℕ
first_entry p i = unwrap_or (first_not i 0 (other_entry p i)) i

-- "Entries count from 1."
unfoldable pub again : List ℕ → Option Fault
again p = option_map (λ i. Fault.Again (first_entry p i + 1) (i + 1)) (second_entry p)

unfoldable pub low_selector : List ℕ → ℕ → Bool
low_selector p i = selector_of p i below 2

unfoldable pub high_selector : List ℕ → Option ℕ
high_selector p = first_not (entry_count p) 0 (low_selector p)

unfoldable pub applications_fault : List ℕ → Option Fault
applications_fault p =
    if not (length p % 6 is 0) then Some (Fault.Ragged (length p))
    else option_or (option_map (λ i. Fault.Foreign (i + 1)) (foreign_entry p))
    (if 16 below entry_count p then Some (Fault.Entries (entry_count p))
    else option_or (again p) (option_map (λ i. Fault.Selector (i + 1) (selector_of p i)) (high_selector p)))

unfoldable pub fault_of : Feature → List ℕ → Option Fault
fault_of Groups p = groups_fault p
fault_of Flow p = flow_fault p
fault_of Applications p = applications_fault p
