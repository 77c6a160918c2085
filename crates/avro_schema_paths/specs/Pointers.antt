-- The text of a path, as a JSON Pointer (RFC 6901). No word of a step has a character that is escaped there.
use Rattle.std.specs.Prelude.{◌≡◌, ◌<◌, ◌^◌, ⊤, ℕ, List, ◌++◌, Some, codes}
use Rattle.std.specs.Fmt.{decimal}
use Rattle.std.specs.List.{AllByRecursion, flat_map}
use Rattle.serde_json.specs.Data.{Data}
use Rattle.serde_json.specs.Find.{pointer}
use Rattle.avro_schema_paths.specs.Following.{follow}
use Rattle.avro_schema_paths.specs.Places.{Path}
use Rattle.avro_schema_paths.specs.declared.step.Step.{Step}
use Rattle.avro_schema_paths.specs.declared.step.Step.TheVariants as steps

-- a key, or a position in decimal digits without leading zeros
abbrev pub word : Step → List ℕ
word steps.Type = codes "type"
word steps.Items = codes "items"
word steps.Values = codes "values"
word steps.Fields = codes "fields"
word (steps.At i) = decimal i

-- a slash before it
abbrev pub segment : Step → List ℕ
segment s = codes "/" ++ word s

-- the text of a path, which is empty for that of the root
abbrev pub pointer_of : Path → List ℕ
pointer_of path = flat_map segment path

-- a position, where the step is one, fits in 64 bits
abbrev pub HasShortPosition : Step → Type 0
HasShortPosition (steps.At i) = i < 2 ^ 64
HasShortPosition _ = ⊤

-- read as a JSON Pointer, the text leads in each value where the path does
abbrev pub LeadsAsPath : List ℕ → Path → Type 0
LeadsAsPath text path = (root found : Data) → follow path root ≡ Some found → pointer text root ≡ Some found

-- the pointer of a path does
abbrev pub PointersLeadThere : Type 0
PointersLeadThere = (path : Path) → AllByRecursion HasShortPosition path → LeadsAsPath (pointer_of path) path
