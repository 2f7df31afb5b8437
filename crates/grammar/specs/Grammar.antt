-- docs/FORMATS.md: the words that a setting has behind `max N`, or behind `set` and its feature.
use Rattle.std.specs.Prelude.{ℕ, zero, suc, Bool, true, false, List, [], ◌∷◌, ◌++◌, get_or, replicate}
use Rattle.grammar.specs.declared.Name.TheVariants as Name
use Rattle.grammar.specs.declared.Field.{Field}
use Rattle.grammar.specs.declared.Field.TheVariants.{Word, Bit, Decimal, Hex2, Hex4, Selector, Parameters, Octets, End}
use Rattle.grammar.specs.declared.Form.{Form}
use Rattle.grammar.specs.declared.Form.TheVariants.{Groups, Flow, Applications, Plain}

-- "advertise B enable B willing B"
unfoldable pub switches : List Field
switches = Word Name.Advertise ∷ Bit ∷ Word Name.Enable ∷ Bit ∷ Word Name.Willing ∷ Bit ∷ []

unfoldable pub repeated : ℕ → List Field → List Field
repeated zero l = []
repeated (suc n) l = l ++ repeated n l

-- "SELECTOR HHHH HH for each entry"
abbrev pub entry_fields : List Field
entry_fields = Selector ∷ Hex4 ∷ Hex2 ∷ []

-- "priorities G0 .. G7 percentages P0 .. P7 classes N", "mask HH classes N", "at most 17 entries", "parameters HEX"
unfoldable pub fields : Form → List Field
fields Groups = switches ++ (Word Name.Priorities ∷ replicate 8 (Decimal 15)) ++ (Word Name.Percentages ∷ replicate 8 (Decimal 255)) ++ (Word Name.Classes ∷ Decimal 255 ∷ [])
fields Flow = switches ++ (Word Name.Mask ∷ Hex2 ∷ Word Name.Classes ∷ Decimal 255 ∷ [])
fields Applications = switches ++ repeated 17 entry_fields
fields Plain = switches ++ (Parameters ∷ Octets ∷ [])

-- what is due at place i
unfoldable pub due : Form → ℕ → Field
due f i = get_or (fields f) i End

-- where a line may end: behind its last word, "then SELECTOR HHHH HH for each entry", "then nothing or parameters HEX"
unfoldable pub may_end : Field → Bool
may_end (Word n) = false
may_end Bit = false
may_end (Decimal limit) = false
may_end Hex2 = false
may_end Hex4 = false
may_end Selector = true
may_end Parameters = true
may_end Octets = false
may_end End = true
