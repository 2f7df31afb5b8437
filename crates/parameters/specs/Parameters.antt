-- 01, TLV layout: the parameters of the three features. They are the octets behind a sub-TLV's first four.
use Rattle.std.specs.Prelude.{ℕ, zero, suc, ◌+◌, ◌-◌, ◌*◌, ◌/◌, ◌%◌, Bool, true, not, ◌&&◌, ◌||◌, List, [], ◌∷◌, ◌++◌, length, take, drop, replicate, codes, if◌then◌else◌}
use Rattle.octets.specs.Words.{◌below◌, ◌atmost◌, ◌is◌}
use Rattle.octets.specs.Octets.{at, same, number2}
use Rattle.parameters.specs.declared.Feature.{Feature}
use Rattle.parameters.specs.declared.Feature.TheVariants.{Groups, Flow, Applications}
use Rattle.parameters.specs.declared.Parameters.{Parameters}

-- "Types 2 to 4, features"
unfoldable pub feature_number : Feature → ℕ
feature_number Groups = 2
feature_number Flow = 3
feature_number Applications = 4

-- the name of each, as docs/FORMATS.md gives it
abbrev pub feature_name : Feature → List ℕ
feature_name Groups = codes "groups"
feature_name Flow = codes "flow"
feature_name Applications = codes "applications"

-- ---- priority groups: "eight 4-bit group numbers, priority 0 in the high half of the first octet; eight percentages; number of classes"

abbrev pub group_of : List ℕ → ℕ → ℕ
group_of p priority = if priority % 2 is 0 then at p (priority / 2) / 16 else at p (priority / 2) % 16

abbrev pub percentages : List ℕ → List ℕ
percentages p = take 8 (drop 4 p)

abbrev pub groups_number : List ℕ → ℕ
groups_number p = at p 12

-- "group 0 to 7 or 15"
abbrev pub good_group : ℕ → Bool
good_group g = g atmost 7 || g is 15

unfoldable pub good_halves : List ℕ → Bool
good_halves [] = true
good_halves (x ∷ xs) = good_group (x / 16) && good_group (x % 16) && good_halves xs

unfoldable pub sum : List ℕ → ℕ
sum [] = 0
sum (x ∷ xs) = x + sum xs

-- "Valid (H): group 0 to 7 or 15; percentages sum to 100; number 0 to 8."
unfoldable pub valid_groups : List ℕ → Bool
valid_groups p = length p is 13 && good_halves (take 4 p) && sum (percentages p) is 100 && groups_number p atmost 8

-- ---- flow control: "mask (bit p for priority p), number of classes. Valid: number 0 to 8."

abbrev pub mask : List ℕ → ℕ
mask p = at p 0

abbrev pub flow_number : List ℕ → ℕ
flow_number p = at p 1

unfoldable pub valid_flow : List ℕ → Bool
valid_flow p = length p is 2 && flow_number p atmost 8

-- ---- applications: "n 0 to 16 (H): protocol id (2), an octet with OUI bits 23-18 above a 2-bit selector, OUI 1b 21, priority map"

abbrev pub entry_count : List ℕ → ℕ
entry_count p = length p / 6

abbrev pub id_of : List ℕ → ℕ → ℕ
id_of p i = number2 p (6 * i)

abbrev pub selector_of : List ℕ → ℕ → ℕ
selector_of p i = at p (6 * i + 2) % 4

abbrev pub map_of : List ℕ → ℕ → ℕ
map_of p i = at p (6 * i + 5)

-- entry i of p and entry j of q name the same selector and id
unfoldable pub same_name : List ℕ → ℕ → List ℕ → ℕ → Bool
same_name p i q j = id_of p i is id_of q j && selector_of p i is selector_of q j

-- a test holds of each of the n numbers from i on
unfoldable pub all_from : ℕ → ℕ → (ℕ → Bool) → Bool
all_from zero i test = true
all_from (suc n) i test = test i && all_from n (i + 1) test

-- "no two entries with the same selector and id"
unfoldable pub new_name : List ℕ → ℕ → Bool
new_name p i = all_from i 0 (λ j. not (same_name p i p j))

-- 02, E3: "Document 01 is wrong that the OUI octets are not looked at. An entry is ours exactly if the upper six bits of its third octet are 0
-- and the next two octets are 1b 21."
unfoldable pub is_ours : List ℕ → ℕ → Bool
is_ours p i = at p (6 * i + 2) below 4 && at p (6 * i + 3) is 27 && at p (6 * i + 4) is 33

-- those of the first n entries that are ours, in their order
unfoldable pub ours_of : ℕ → List ℕ → List ℕ
ours_of zero p = []
ours_of (suc n) p = ours_of n p ++ (if is_ours p n then take 6 (drop (6 * n) p) else [])

-- "Others are skipped before duplicates are sought, the limit of 16 counted, or the configuration held or compared." What is held of
-- parameters that were read; of groups and flow control it is all of them.
unfoldable pub ours : Feature → List ℕ → List ℕ
ours Groups p = p
ours Flow p = p
ours Applications p = ours_of (entry_count p) p

-- 01: "n 0 to 16 (H)" "Valid: no two entries with the same selector and id."
unfoldable pub few_and_new : List ℕ → Bool
few_and_new p = length p atmost 96 && all_from (entry_count p) 0 (new_name p)

-- 01: "length 4 + 6n"; what is counted and sought is ours (02, E3)
unfoldable pub valid_applications : List ℕ → Bool
valid_applications p = length p % 6 is 0 && few_and_new (ours Applications p)

-- ---- all three

unfoldable pub valid : Feature → List ℕ → Bool
valid Groups p = valid_groups p
valid Flow p = valid_flow p
valid Applications p = valid_applications p

-- 01, Refusal numbers: "A local setting is valid under the layout rules, with selector 0 or 1 only, and no more ones in the
-- flow control mask than its number of classes (H)." An application entry that is not ours makes it invalid (docs/DECISIONS.md): who gives
-- one is told, and nothing is left out in silence.
unfoldable pub ones : ℕ → ℕ → ℕ
ones zero x = 0
ones (suc bits) x = x % 2 + ones bits (x / 2)

unfoldable pub local_values : Feature → List ℕ → Bool
local_values Groups p = true
local_values Flow p = ones 8 (mask p) atmost flow_number p
local_values Applications p = all_from (entry_count p) 0 (λ i. is_ours p i && selector_of p i below 2)

unfoldable pub valid_local : Feature → List ℕ → Bool
valid_local f p = valid f p && local_values f p

-- 01, Outcome rules: "Compatible (H): groups, equal group numbers and percentages; flow control, equal masks; applications, no
-- selector and id named by both with different maps." The group numbers and percentages are the first twelve octets. 02, E3: others "are
-- skipped before .. the configuration held or compared", so two entries clash only if both are ours.
unfoldable pub clash : List ℕ → ℕ → List ℕ → ℕ → Bool
clash p i q j = same_name p i q j && is_ours p i && is_ours q j && not (map_of p i is map_of q j)

unfoldable pub clear_of : List ℕ → List ℕ → ℕ → Bool
clear_of p q i = all_from (entry_count q) 0 (λ j. not (clash p i q j))

unfoldable pub compatible : Feature → List ℕ → List ℕ → Bool
compatible Groups p q = same (take 12 p) (take 12 q)
compatible Flow p q = mask p is mask q
compatible Applications p q = all_from (entry_count p) 0 (clear_of p q)

-- as a state holds octets: 96 places, zero past the length
unfoldable pub stored : List ℕ → Parameters
stored p = record { length = length (take 96 p); octets = take 96 p ++ replicate (96 - length p) 0 }

-- and the octets that it holds
unfoldable pub content : Parameters → List ℕ
content p = take p.length p.octets

-- "A configuration is a feature's whole parameters, number of classes and order of application entries included"
unfoldable pub same_parameters : Parameters → Parameters → Bool
same_parameters p q = p.length is q.length && same p.octets q.octets

abbrev pub no_parameters : Parameters
no_parameters = record { length = 0; octets = replicate 96 0 }
