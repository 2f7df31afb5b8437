-- 02, E8: "A capture holds one frame a line: `A` or `B` for the sender, a space, 0 to 513 pairs of lower-case hex digits, a line feed
-- (the last line may lack it)."
use Rattle.std.specs.Prelude.{ℕ, ◌&&◌, List, [], ◌∷◌, ◌++◌, take, drop, if◌then◌else◌}
use Rattle.octets.specs.Words.{◌is◌}
use Rattle.octets.specs.Octets.{same}
use Rattle.octets.specs.Texts.{text}
use Rattle.words.specs.Text.{is_octets, octets_of}
use Rattle.capture.specs.declared.Form.{Form}
use Rattle.capture.specs.declared.Form.TheVariants.{FromA, FromB, Other}

-- ---- The lines of an input: the pieces between its line feeds.

-- "the last line may lack it": behind the last line feed a piece that is not empty is a line too
unfoldable pub last_line : List ℕ → List (List ℕ)
last_line [] = []
last_line (c ∷ w) = (c ∷ w) ∷ []

-- the lines of an input, of whose first w was read already
unfoldable pub lines_from : List ℕ → List ℕ → List (List ℕ)
lines_from w [] = last_line w
lines_from w (c ∷ s) = if c is 10 then w ∷ lines_from [] s else lines_from (w ++ (c ∷ [])) s

abbrev pub lines : List ℕ → List (List ℕ)
lines s = lines_from [] s

-- ---- The form of a line, without its line feed: what is no frame to the letter is a line of another form.

unfoldable pub form_of : List ℕ → Form
form_of l =
    if same (take 2 l) (text "A ") && is_octets 513 (drop 2 l) then FromA
    else if same (take 2 l) (text "B ") && is_octets 513 (drop 2 l) then FromB
    else Other

-- the octets of a line's frame
abbrev pub frame_of : List ℕ → List ℕ
frame_of l = octets_of (drop 2 l)
