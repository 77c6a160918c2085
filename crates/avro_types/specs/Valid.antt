-- What holds of the nodes of every schema.
use Rattle.std.specs.Prelude.{List}
use Rattle.spec_avro.specs.declared.limits.TheConstants.{MOST_TEXT}
use Rattle.spec_avro.specs.Conforming.{DefaultsConform}
use Rattle.spec_avro.specs.Node.{Node}
use Rattle.spec_avro.specs.WellFormed.{IsWellFormed}
use Rattle.spec_avro.specs.Sizes.{DefaultsHaveSizesWithin}

-- They are well formed. Each default is of its field's type, and no text in it is longer, no array or map in it of
-- more items, than a schema's text may have bytes.
pub record AreValid (nodes : List Node) : Type 0 where
  pub well_formed : IsWellFormed nodes
  pub defaults_conform : DefaultsConform nodes
  pub defaults_are_short : DefaultsHaveSizesWithin MOST_TEXT MOST_TEXT nodes
