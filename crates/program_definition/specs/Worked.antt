-- Worked pairs, and their programs as the compiler's table gives them. All of this is this project's own.
use Rattle.std.specs.Prelude.{◌≡◌, ℕ, pos, List, [], ◌∷◌, Some, None}
use Rattle.spec_avro.specs.Datum.{LongDatum}
use Rattle.spec_avro.specs.Node.{Node, Names, FieldNode, NullNode, LongNode, TextNode, BytesNode, UnionNode, ArrayNode, RecordNode, EnumNode}
use Rattle.spec_avro.specs.declared.mismatch.MismatchKind.TheVariants as kinds
use Rattle.spec_machine.specs.declared.entry.Entry.TheVariants as entries
use Rattle.spec_machine.specs.declared.instr.Instr.TheVariants as op
use Rattle.spec_machine.specs.Program.{Program}
use Rattle.spec_machine.specs.Code.{code_of}
use Rattle.spec_machine.specs.Statements.{miss}

-- names and fields of one letter
abbrev pub names : ℕ → List (List ℕ) → Names
names letter aliases = record { full = letter ∷ []; aliases = aliases }

abbrev pub field : ℕ → ℕ → FieldNode
field letter node = record { name = letter ∷ []; aliases = []; node = node; default = None }

-- ---- a list of longs: {"a": long, "b": union of null and the list}

abbrev pub long_list : List Node
long_list =
    RecordNode (names 76 []) (field 97 1 ∷ field 98 2 ∷ []) ∷ LongNode ∷ UnionNode (3 ∷ 0 ∷ []) ∷ NullNode ∷ []

-- to itself
abbrev pub long_list_program : Program
long_list_program = record {
  code = op.Call 2 ∷ op.Halt
      ∷ op.Record 2 ∷ op.Slot 0 ∷ op.Long ∷ op.Slot 1 ∷ op.Branch 0
      ∷ op.Put 0 ∷ op.Jump 11
      ∷ op.Put 1 ∷ op.Call 2
      ∷ op.EndRecord ∷ op.Return ∷ [];
  constants = (0 ∷ []) ∷ (2 ∷ []) ∷ [];
  maps = [];
  jumps = (7 ∷ 9 ∷ []) ∷ [];
  misses = [];
}

abbrev pub LongListHasItsProgram : Type 0
LongListHasItsProgram = code_of long_list long_list ≡ Some long_list_program

-- ---- {"a": long, "b": string}

abbrev pub pair : List Node
pair = RecordNode (names 84 []) (field 97 1 ∷ field 98 2 ∷ []) ∷ LongNode ∷ TextNode ∷ []

abbrev pub program_with_slots : ℕ → ℕ → Program
program_with_slots first second = record {
  code = op.Call 2 ∷ op.Halt
      ∷ op.Record 2 ∷ op.Slot first ∷ op.Long ∷ op.Slot second ∷ op.Text ∷ op.EndRecord ∷ op.Return ∷ [];
  constants = [];
  maps = [];
  jumps = [];
  misses = [];
}

-- to itself
abbrev pub PairHasItsProgram : Type 0
PairHasItsProgram = code_of pair pair ≡ Some (program_with_slots 0 1)

-- to {"b": string, "c": long} of another name, whose aliases are the writer's names: its fields are the other way round
abbrev pub renamed : List Node
renamed =
    RecordNode (names 83 ((84 ∷ []) ∷ []))
    (field 98 1 ∷ record { name = 99 ∷ []; aliases = (97 ∷ []) ∷ []; node = 2; default = None } ∷ [])
    ∷ TextNode ∷ LongNode ∷ []

abbrev pub RenamedHasItsProgram : Type 0
RenamedHasItsProgram = code_of pair renamed ≡ Some (program_with_slots 1 0)

-- ---- {"a": union of null and array of long, "e": enum of A and B, "g": bytes}

abbrev pub writer : List Node
writer =
    RecordNode (names 84 []) (field 97 1 ∷ field 101 5 ∷ field 103 6 ∷ [])
    ∷ UnionNode (2 ∷ 3 ∷ []) ∷ NullNode ∷ ArrayNode 4 ∷ LongNode
    ∷ EnumNode (names 69 []) ((65 ∷ []) ∷ (66 ∷ []) ∷ []) None ∷ BytesNode ∷ []

-- to {"e": enum of A, "a": long, "d": long, by default 7}
abbrev pub reader : List Node
reader =
    RecordNode (names 84 [])
    (field 101 1 ∷ field 97 2
    ∷ record { name = 100 ∷ []; aliases = []; node = 3; default = Some (LongDatum (pos 7)) } ∷ [])
    ∷ EnumNode (names 69 []) ((65 ∷ []) ∷ []) None ∷ LongNode ∷ LongNode ∷ []

-- No branch matches the long, and B has no symbol: three misses. The bytes are skipped, and 7 is put.
abbrev pub ReaderHasItsProgram : Type 0
ReaderHasItsProgram = code_of writer reader ≡ Some (record {
  code = op.Call 2 ∷ op.Halt
      ∷ op.Record 3 ∷ op.Slot 1 ∷ op.Branch 0
      ∷ op.Miss 0 ∷ op.Jump 12
      ∷ op.Miss 1 ∷ op.SkipBlocks ∷ op.SkipNext 12 ∷ op.SkipLong ∷ op.Jump 9
      ∷ op.Slot 0 ∷ op.Enum 0 ∷ op.SkipBytes ∷ op.Slot 2 ∷ op.Put 0 ∷ op.EndRecord ∷ op.Return ∷ [];
  constants = (14 ∷ []) ∷ [];
  maps = (entries.Position 0 ∷ entries.Miss 2 ∷ []) ∷ [];
  jumps = (5 ∷ 7 ∷ []) ∷ [];
  misses = miss kinds.NoMatch 2 2 ∷ miss kinds.NoMatch 3 2 ∷ miss kinds.NoSymbol 5 1 ∷ [];
})
