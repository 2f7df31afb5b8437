-- Words for tests, so that a rule reads as the paper states it.
use Rattle.std.specs.Prelude.{ℕ, Bool, ltb, leb, eqb}

infix 50 ◌below◌
abbrev pub ◌below◌ : ℕ → ℕ → Bool
a below b = ltb a b

infix 50 ◌atmost◌
abbrev pub ◌atmost◌ : ℕ → ℕ → Bool
a atmost b = leb a b

infix 50 ◌is◌
abbrev pub ◌is◌ : ℕ → ℕ → Bool
a is b = eqb a b
