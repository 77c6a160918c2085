-- Any other datum has a number, a length or a count.
use Rattle.std.proofs.Common.{refl}
use Rattle.avro_types.specs.Laws.DatumOf.{datum_of-Array, datum_of-Map}
use Rattle.program_compiler.proofs.NoBytes.{number_there}
use Rattle.program_compiler.proofs.blank.+blank.Goals as goal

pub is_blank-returns-in-Int : goal.is_blank-returns-in-Int
is_blank-returns-in-Int t c = number_there _ _ _ c.in-Int.is refl refl

pub is_blank-returns-in-Long : goal.is_blank-returns-in-Long
is_blank-returns-in-Long t c = number_there _ _ _ c.in-Long.is refl refl

pub is_blank-returns-in-Enum : goal.is_blank-returns-in-Enum
is_blank-returns-in-Enum t c = number_there _ _ _ c.in-Enum.is refl refl

pub is_blank-returns-in-Bytes : goal.is_blank-returns-in-Bytes
is_blank-returns-in-Bytes t c = number_there _ _ _ c.in-Bytes.is refl refl

pub is_blank-returns-in-Text : goal.is_blank-returns-in-Text
is_blank-returns-in-Text t c = number_there _ _ _ c.in-Text.is refl refl

pub is_blank-returns-in-Array : goal.is_blank-returns-in-Array
is_blank-returns-in-Array t c = number_there _ _ _ c.in-Array.is (datum_of-Array _) refl

pub is_blank-returns-in-Map : goal.is_blank-returns-in-Map
is_blank-returns-in-Map t c = number_there _ _ _ c.in-Map.is (datum_of-Map _) refl

pub is_blank-returns-in-Union : goal.is_blank-returns-in-Union
is_blank-returns-in-Union t c = number_there _ _ _ c.in-Union.is refl refl
