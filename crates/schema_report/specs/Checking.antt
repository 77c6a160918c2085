-- The lines of bad pairs. Their words are this project's own.
use Rattle.std.specs.Prelude.{◌≡◌, ◌↔◌, ◌<◌, ℕ, Bool, length, IsTrue, List, [], ◌++◌, Option, Some, None, Vec, codes, slice_get}
use Rattle.std.specs.Fmt.{decimal}
use Rattle.std.specs.List.{AllByRecursion, flat_map}
use Rattle.std.specs.declared.alloc.Global.{Global}
use Rattle.spec_avro.specs.Node.{Node, FieldNode, EnumNode, RecordNode}
use Rattle.spec_avro.specs.declared.mismatch.MismatchKind.{MismatchKind}
use Rattle.spec_avro.specs.declared.mismatch.MismatchKind.TheVariants.{NoMatch, NoBranch, NoSymbol, NoDefault, BytesNotText}
use Rattle.spec_avro.specs.MismatchKind.{name_of}
use Rattle.avro_schema_paths.specs.declared.step.Step.{Step}
use Rattle.schema_check.specs.Details.{all_lacking, all_missing}
use Rattle.spec_avro.specs.Safety.{IsSafe}
use Rattle.schema_check.specs.BadPairs.{IsCheck}
use Rattle.schema_check.specs.declared.checking.BadPair.{BadPair}
use Rattle.schema_check.specs.declared.checking.Check.{Check}
use Rattle.schema_report.specs.declared.checking.Pair.{Pair}
use Rattle.schema_report.specs.declared.checking.Side.{Side}
use Rattle.schema_report.specs.Listing.{path_text}
use Rattle.schema_report.specs.Types.{type_at, type_beside}

abbrev pub Paths : Type 0
Paths = List (Vec Step Global)

-- the path of a node, and a space
abbrev pub path_at : Paths → ℕ → List ℕ
path_at paths node = path_in (slice_get paths node)
  where
    path_in : Option (Vec Step Global) → List ℕ
    path_in None = []
    path_in (Some path) = path_text path.items ++ codes " "

-- ---- what a bad pair is about

-- a word, after a space; nothing where there is none
abbrev pub word_after : Option (List ℕ) → List ℕ
word_after None = []
word_after (Some word) = codes " " ++ word

-- the name of the field at a position of a record
abbrev pub name_in : Option FieldNode → List ℕ
name_in None = []
name_in (Some f) = codes " " ++ f.name

abbrev pub field_words : Option Node → ℕ → List ℕ
field_words (Some (RecordNode names fields)) position = name_in (slice_get fields position)
field_words _ position = []

-- the symbol at a position of an enum
abbrev pub symbol_words : Option Node → ℕ → List ℕ
symbol_words (Some (EnumNode names symbols default)) position = word_after (slice_get symbols position)
symbol_words _ position = []

-- the names of the fields of the reader's record that have neither a partner nor a default
abbrev pub lacking_words : Pair → List ℕ
lacking_words p =
    flat_map (field_words (slice_get p.reader.now p.r)) (all_lacking (slice_get p.writer.now p.w) (slice_get p.reader.now p.r))

-- the symbols of the writer's enum that the reader's lacks
abbrev pub missing_words : Pair → List ℕ
missing_words p =
    flat_map (symbol_words (slice_get p.writer.now p.w)) (all_missing (slice_get p.writer.now p.w) (slice_get p.reader.now p.r))

-- the two types beside one another, the type that has no branch, the fields without a default, or the symbols that are
-- lacking
abbrev pub about : MismatchKind → Pair → List ℕ
about NoMatch p =
    type_beside (length p.writer.now) p.writer.now p.w p.reader.now p.r ++ codes " is not read as "
    ++ type_beside (length p.writer.now) p.reader.now p.r p.writer.now p.w
about NoBranch p = type_at p.writer.now p.w ++ codes " goes into no branch of the union"
about NoDefault p = codes "fields without a default:" ++ lacking_words p
about NoSymbol p = codes "symbols that the reader lacks:" ++ missing_words p
about BytesNotText p = codes "bytes that are no UTF-8"

-- ---- lines

-- both nodes are there
abbrev pub IsInside : Pair → Type 0
IsInside p = (p.w < length p.writer.now) × (p.r < length p.reader.now)

abbrev pub AreInside : Side → Side → List BadPair → Type 0
AreInside writer reader bad =
    AllByRecursion (λ b. (b.writer_node < length writer.nodes.now) × (b.reader_node < length reader.nodes.now)) bad

-- the kind and the nodes
abbrev pub numbers : BadPair → List ℕ
numbers b = name_of b.kind ++ codes " " ++ decimal b.writer_node ++ codes " " ++ decimal b.reader_node ++ codes " "

abbrev pub pair_at : Side → Side → BadPair → Pair
pair_at writer reader b =
    record { writer = writer.nodes; w = b.writer_node; reader = reader.nodes; r = b.reader_node }

-- the kind, the nodes, their paths, and what it is about
abbrev pub bad_line : Side → Side → BadPair → List ℕ
bad_line writer reader b =
    numbers b ++ path_at writer.paths.now b.writer_node ++ path_at reader.paths.now b.reader_node
    ++ about b.kind (pair_at writer reader b) ++ codes "\n"

-- a line for each, in their order, with this text before it
abbrev pub bad_lines : List ℕ → Side → Side → List BadPair → List ℕ
bad_lines before writer reader bad = flat_map (λ b. before ++ bad_line writer reader b) bad

-- The lines of the bad pairs of the two schemas were added to a text. There is none just where no bad pair is reached.
pub record IsChecked (before : List ℕ) (writer reader : Side) (old new : List ℕ) (is_safe : Bool) : Type 0 where
  pub check : Check
  pub is : IsCheck writer.nodes.now reader.nodes.now check
  pub lines : new ≡ old ++ bad_lines before writer reader check.bad.items
  pub safe : IsTrue is_safe ↔ IsSafe writer.nodes.now reader.nodes.now
