-- 02, E12: "decide whether all it sent is what our rules write at that point", of one frame: whether it is what a port writes, and the place
-- of its first differing octet.
use Rattle.std.specs.Prelude.{ℕ, suc, Bool, ◌&&◌, List, [], ◌∷◌, if◌then◌else◌, Option, Some, None}
use Rattle.octets.specs.Words.{◌is◌}
use Rattle.octets.specs.Octets.{same}
use Rattle.port.specs.declared.Port.{Port}
use Rattle.port.specs.Parts.{running}
use Rattle.port.specs.Writing.{frame, to_write}

-- "what our rules write at that point"; nothing that is sent while stopped is
unfoldable pub is_due : Port → List ℕ → Bool
is_due p o = running p && same o (frame p)

-- "the place, from 0, of its first differing octet (or the shorter's end ..)"
unfoldable pub differing : List ℕ → List ℕ → ℕ
differing [] ys = 0
differing (x ∷ xs) [] = 0
differing (x ∷ xs) (y ∷ ys) = if x is y then suc (differing xs ys) else 0

-- "0 while stopped": a stopped port writes no octets
abbrev pub place_in : Port → List ℕ → ℕ
place_in p o = differing o (to_write p)

-- a frame beside what the port writes: none where it is due, and else the place (of one that is due, all octets are the same)
unfoldable pub compared_with : Port → List ℕ → Option ℕ
compared_with p o = if is_due p o then None else Some (place_in p o)
