-- The start: what the functions promise. Assumes nothing.
use Rattle.std.specs.Prelude.{◌≡◌, refl, Bool, ◌&&◌, replicate}
use Rattle.port.specs.declared.Port.{Port}
use Rattle.port.specs.Settled.{settled}
use Rattle.counters.specs.Counters.{Changes}
use Rattle.counters.specs.Counters.{unchanged}
use Rattle.tally.specs.Steps.{begun}

pub begun_is : (a b : Port) {x y : Changes} {p q : Bool} → x ≡ unchanged → y ≡ unchanged → p ≡ settled a → q ≡ settled b
    → record { a = a; b = b; from_a = 0; from_b = 0; others = 0; refusals = replicate 8 0; of_a = x; of_b = y; settled = p && q; frames = 0 } ≡ begun a b
unfolding begun
begun_is a b e f g h = rw (e, f, g, h) refl
