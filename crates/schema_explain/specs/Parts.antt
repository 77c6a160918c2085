-- The parts of a pair of nodes, in their order (Avro 1.11, "Schema Resolution").
use Rattle.std.specs.Prelude.{ℕ, suc, List, [], ◌∷◌, ◌++◌, Option, Some, None, is_none, if◌then◌else◌}
use Rattle.spec_avro.specs.Node.{Node, FieldNode, EnumNode, ArrayNode, MapNode, UnionNode, RecordNode}
use Rattle.spec_avro.specs.Symbols.{place_of}
use Rattle.spec_avro.specs.declared.mismatch.MismatchKind.TheVariants.{NoDefault, NoSymbol}
use Rattle.spec_avro.specs.Options.{given}
use Rattle.spec_avro.specs.Partners.{goes_to, routes}
use Rattle.spec_avro.specs.declared.place.Route.{Route}
use Rattle.schema_explain.specs.declared.entries.Entry.{Entry}
use Rattle.schema_explain.specs.declared.entries.Entry.TheVariants.{Ready, Due}
use Rattle.schema_explain.specs.declared.entries.Whole.{Whole}
use Rattle.schema_explain.specs.declared.line.Fate.{Fate}
use Rattle.schema_explain.specs.declared.line.Fate.TheVariants.{Copied, Default, Dropped, Mismatch}
use Rattle.schema_explain.specs.declared.line.Line.{Line}
use Rattle.schema_explain.specs.declared.line.Part.{Part}
use Rattle.schema_explain.specs.declared.line.Part.TheVariants.{Field, Item, Value, Branch, Symbol}

-- a pair of nodes that is a part of a whole
abbrev pub due : Whole → Part → ℕ → ℕ → Entry
due whole part w r = Due (record { depth = whole.depth; part = part; writer = w; reader = r })

-- ---- unions

-- each branch of a writer's union goes where the union goes
abbrev pub branch_entries : Whole → ℕ → List ℕ → List Entry
branch_entries whole i [] = []
branch_entries whole i (m ∷ ms) = due whole (Branch i) m whole.reader ∷ branch_entries whole (suc i) ms

-- ---- enums: "if the writer's symbol is not present in the reader's enum and the reader has a default value, then
-- that value is used, otherwise an error is signalled"

abbrev pub symbol_fate : List (List ℕ) → Option ℕ → List ℕ → Fate
symbol_fate theirs default symbol =
    given (place_of symbol theirs) (given default (Mismatch NoSymbol) (λ n. Default)) (λ n. Copied)

abbrev pub symbol_line : Whole → ℕ → Fate → Line
symbol_line whole i fate =
    record {
      depth = whole.depth;
      part = Symbol i;
      writer = Some whole.writer;
      reader = Some whole.reader;
      branch = None;
      fate = fate;
    }

-- a line for each of the writer's symbols
abbrev pub symbol_entries : Whole → List (List ℕ) → Option ℕ → ℕ → List (List ℕ) → List Entry
symbol_entries whole theirs default i [] = []
symbol_entries whole theirs default i (symbol ∷ symbols) =
    Ready (symbol_line whole i (symbol_fate theirs default symbol))
    ∷ symbol_entries whole theirs default (suc i) symbols

-- ---- records

-- the position and the node of the writer's field that goes to the reader's field j, among those from i on
abbrev pub source : ℕ → ℕ → List Route → Option (ℕ × ℕ)
source j i [] = None
source j i (route ∷ routes) = if goes_to j route then Some (i, route.node) else source j (suc i) routes

-- A reader's field without a partner: "the reader should use the default value from its field", and without one "an
-- error is signalled".
abbrev pub absent_line : Whole → ℕ → FieldNode → Line
absent_line whole j g =
    record {
      depth = whole.depth;
      part = Field None (Some j);
      writer = if is_none g.default then Some whole.writer else None;
      reader = Some g.node;
      branch = None;
      fate = if is_none g.default then Mismatch NoDefault else Default;
    }

-- the reader's field j: the pair with its partner, where it has one
abbrev pub field_entry : Whole → List Route → ℕ → FieldNode → Entry
field_entry whole routes j g =
    given (source j 0 routes) (Ready (absent_line whole j g))
    (λ s. due whole (Field (Some s.0) (Some j)) s.1 g.node)

-- the reader's fields, in the reader's order
abbrev pub field_entries : Whole → List Route → ℕ → List FieldNode → List Entry
field_entries whole routes j [] = []
field_entries whole routes j (g ∷ rs) = field_entry whole routes j g ∷ field_entries whole routes (suc j) rs

-- "if the writer's record contains a field with a name not present in the reader's record, the writer's value for that
-- field is ignored"
abbrev pub dropped_line : Whole → ℕ → ℕ → Line
dropped_line whole i node =
    record {
      depth = whole.depth;
      part = Field (Some i) None;
      writer = Some node;
      reader = None;
      branch = None;
      fate = Dropped;
    }

-- the writer's fields without a partner, in the writer's order
abbrev pub dropped : Whole → ℕ → List Route → List Entry
dropped whole i [] = []
dropped whole i (route ∷ routes) =
    if is_none route.partner then Ready (dropped_line whole i route.node) ∷ dropped whole (suc i) routes
    else dropped whole (suc i) routes

abbrev pub record_entries : Whole → List Route → List FieldNode → List Entry
record_entries whole routes rs = field_entries whole routes 0 rs ++ dropped whole 0 routes

-- ---- the parts of two nodes

abbrev pub parts_of : Whole → Option Node → Option Node → List Entry
parts_of whole (Some (UnionNode members)) r = branch_entries whole 0 members
parts_of whole (Some (ArrayNode i)) (Some (ArrayNode j)) = due whole Item i j ∷ []
parts_of whole (Some (MapNode i)) (Some (MapNode j)) = due whole Value i j ∷ []
parts_of whole (Some (EnumNode names symbols default)) (Some (EnumNode others theirs fallback)) =
    symbol_entries whole theirs fallback 0 symbols
parts_of whole (Some (RecordNode names fs)) (Some (RecordNode others gs)) = record_entries whole (routes fs gs) gs
parts_of whole _ _ = []
