-- Numbers as programs count and write them: 64 bits, in decimal.
use Rattle.std.specs.Prelude.{ℕ, zero, suc, ◌+◌, ◌/◌, ◌%◌, min, List, [], ◌∷◌, ◌++◌, if◌then◌else◌}
use Rattle.octets.specs.Words.{◌below◌}

-- a count goes up to 18,446,744,073,709,551,615 and stays there
abbrev pub capped : ℕ → ℕ
capped n = min n 18446744073709551615

abbrev pub more : ℕ → ℕ
more n = capped (n + 1)

-- the digits of n, without a zero in front, where so many are enough
unfoldable pub digits_of : ℕ → ℕ → List ℕ
digits_of zero n = []
digits_of (suc k) n = if n below 10 then (48 + n) ∷ [] else digits_of k (n / 10) ++ ((48 + n % 10) ∷ [])

-- 20 are enough for a number of 64 bits
abbrev pub decimal : ℕ → List ℕ
decimal n = digits_of 20 n
