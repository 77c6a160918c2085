-- The lines of a schema's nodes. They are this project's own.
use Rattle.std.specs.Prelude.{ℕ, suc, List, [], ◌∷◌, ◌++◌, Vec, codes}
use Rattle.std.specs.Fmt.{decimal}
use Rattle.std.specs.declared.alloc.Global.{Global}
use Rattle.spec_avro.specs.Node.{Node}
use Rattle.avro_schema_paths.specs.Places.{Path}
use Rattle.avro_schema_paths.specs.Pointers.{pointer_of}
use Rattle.avro_schema_paths.specs.declared.step.Step.{Step}
use Rattle.schema_report.specs.Types.{type_at}

-- the JSON Pointer of a path, and for the root, whose pointer is empty, a slash
abbrev pub path_text : Path → List ℕ
path_text [] = codes "/"
path_text (step ∷ path) = pointer_of (step ∷ path)

-- its number, what it is, and its path
abbrev pub node_line : List Node → ℕ → Path → List ℕ
node_line nodes node path = decimal node ++ codes " " ++ type_at nodes node ++ codes " " ++ path_text path ++ codes "\n"

-- the lines of the nodes from this number on, with these paths
abbrev pub node_lines : List Node → ℕ → List (Vec Step Global) → List ℕ
node_lines nodes node [] = []
node_lines nodes node (path ∷ paths) = node_line nodes node path.items ++ node_lines nodes (suc node) paths
