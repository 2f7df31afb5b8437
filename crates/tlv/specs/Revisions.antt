-- 02, E11: "Older cabinets run Rev 1.0 (source document 000), which has no application feature."
use Rattle.std.specs.Prelude.{Bool, true, false}
use Rattle.tlv.specs.declared.Revision.{Revision}
use Rattle.tlv.specs.declared.Revision.TheVariants.{Rev101, Rev10}

unfoldable pub has_applications : Revision → Bool
has_applications Rev101 = true
has_applications Rev10 = false
