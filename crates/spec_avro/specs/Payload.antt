-- What a whole payload is (Avro 1.11, "Binary Encoding").
use Rattle.std.specs.Prelude.{ℕ, List}
use Rattle.spec_avro.specs.Node.{Node}
use Rattle.spec_avro.specs.Datum.{Datum}
use Rattle.spec_avro.specs.Spelling.{Spells, Fits}

-- the payload spells a datum of the root, within the limits
pub record IsPayload (nodes : List Node) (d : Datum) (payload : List ℕ) : Type 0 where
  pub spelled : Spells nodes 0 d payload
  pub fits : Fits d
