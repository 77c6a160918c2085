-- What the attributes of enums and fixed give (Avro 1.11, "Enums" and "Fixed").
use Rattle.std.specs.Prelude.{ℕ, ◌&&◌, List, [], ◌∷◌, length, nat_le, Option, Some, None, option_and_then, Result, Ok, Err}
use Rattle.std.specs.Option.{ok_or}
use Rattle.std.specs.List.{list_all}
use Rattle.serde_json.specs.Data.{Data, array, Items, no_items, item}
use Rattle.serde_json.specs.Find.{as_number, as_u64}
use Rattle.spec_avro.specs.declared.limits.TheConstants.{MOST_FIXED, MOST_SYMBOLS}
use Rattle.spec_schema.specs.declared.schema_error.SchemaError.{SchemaError}
use Rattle.spec_schema.specs.declared.schema_error.SchemaError.TheVariants.{Unknown, BadSymbols, BadNumber, TooLarge}
use Rattle.spec_schema.specs.Steps.{◌>>=◌, require}
use Rattle.spec_avro.specs.FullNames.{is_name}
use Rattle.spec_schema.specs.Names.{text_of}
use Rattle.spec_avro.specs.Symbols.{are_distinct, place_of}

-- the texts that a value lists
abbrev pub texts_in : Items → Result (List (List ℕ)) SchemaError
texts_in no_items = Ok []
texts_in (item d ds) = text_of (Some d) >>= λ s. texts_in ds >>= λ ss. Ok (s ∷ ss)

abbrev pub texts_of : Option Data → Result (List (List ℕ)) SchemaError
texts_of (Some (array ds)) = texts_in ds
texts_of _ = Err Unknown

-- the symbols that `symbols` gives
unfoldable pub symbols_of : Option Data → Result (List (List ℕ)) SchemaError
symbols_of symbols = do
  ss ← texts_of symbols
  _ ← require (list_all is_name ss && are_distinct ss) BadSymbols
  _ ← require (nat_le (length ss) MOST_SYMBOLS) TooLarge
  Ok ss

-- the position of the symbol that `default` names
abbrev pub default_symbol : List (List ℕ) → Option Data → Result (Option ℕ) SchemaError
default_symbol ss None = Ok None
default_symbol ss (Some d) = text_of (Some d) >>= λ s. ok_or (place_of s ss) BadSymbols >>= λ n. Ok (Some n)

-- the number of bytes that `size` gives
abbrev pub size_of : Option Data → Result ℕ SchemaError
size_of None = Err Unknown
size_of (Some d) = do
  n ← ok_or (option_and_then as_u64 (as_number d)) BadNumber
  _ ← require (nat_le n MOST_FIXED) TooLarge
  Ok n
