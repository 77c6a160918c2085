-- Where a number lies that is a fraction or out of range (Avro 1.11 Specification, "Schema Declaration").
use Rattle.std.specs.Prelude.{◌≡◌, [], ◌∷◌, ◌++◌, Bool, true, false, Option, Some, None}
use Rattle.serde_json.specs.Data.{Data}
use Rattle.serde_json.specs.Written.{has_float}
use Rattle.avro_schema_paths.specs.Following.{step_in}
use Rattle.avro_schema_paths.specs.Places.{Path}
use Rattle.avro_schema_paths.specs.declared.step.Step.{Step}

-- whether there is a value, and such a number in it
abbrev pub has_float_at : Option Data → Bool
has_float_at None = false
has_float_at (Some d) = has_float d

-- no value one step away has one
abbrev pub HasNoFloatNear : Data → Type 0
HasNoFloatNear d = (s : Step) → has_float_at (step_in s d) ≡ false

-- The path leads to the smallest value that has one, of those to which steps lead.
pub data IsFractionAt : Data → Path → Type 0 where
  here : {d : Data} → has_float d ≡ true → HasNoFloatNear d → IsFractionAt d []
  within : {d c : Data} {s : Step} {q : Path} → step_in s d ≡ Some c → IsFractionAt c q → IsFractionAt d (s ∷ q)

-- the steps to it, after those that were there
pub record EndsAtFraction (d : Data) (before after : Path) : Type 0 where
  pub path : Path
  pub is : after ≡ before ++ path
  pub fraction : IsFractionAt d path

-- a step to a value that has one; `None` where no step leads to one
abbrev pub LeadsToFloat : Option Step → Data → Type 0
LeadsToFloat (Some s) d = has_float_at (step_in s d) ≡ true
LeadsToFloat None d = HasNoFloatNear d
