-- Statements as the program's definition has them. This project's own.
use Rattle.std.specs.Prelude.{ℕ, zero, suc, ◌<◌, ◌++◌, ◌∷◌, pos, List, [], map, Option, Some, None, IfSome, slice_get}
use Rattle.std.specs.Global.{Vec}
use Rattle.spec_avro.specs.Shortest.{shortest}
use Rattle.spec_avro.specs.Node.{Node, FieldNode, EnumNode, RecordNode}
use Rattle.spec_avro.specs.declared.limits.TheConstants.{MOST_FIELDS}
use Rattle.spec_avro.specs.Writing.{written}
use Rattle.spec_machine.specs.declared.instr.Instr.{Instr}
use Rattle.spec_machine.specs.declared.instr.Instr.TheVariants as op
use Rattle.spec_avro.specs.declared.place.Route.{Route}
use Rattle.spec_avro.specs.Options.{given}
use Rattle.spec_avro.specs.declared.mismatch.MismatchKind.TheVariants as kinds
use Rattle.program_ir.specs.declared.statements.Constant.{Constant}
use Rattle.program_ir.specs.declared.statements.Constant.TheVariants as constants
use Rattle.program_ir.specs.declared.statements.Go.{Go}
use Rattle.program_ir.specs.declared.statements.Go.TheVariants as goes
use Rattle.program_ir.specs.declared.statements.Statement as rust
use Rattle.program_ir.specs.declared.statements.Statement.TheVariants as statements
use Rattle.program_ir.specs.declared.statements.Section as sections
use Rattle.program_ir.specs.declared.statements.Section.TheVariants as parts
use Rattle.spec_machine.specs.Statements.{Statement, Op, Put, Miss, BytesText, Enum, Call, Ahead, Back, Branch, Lost, Section, Main, Write, Skip, Target, miss}
use Rattle.spec_machine.specs.Writing.{target}

abbrev pub go_of : Go → ℕ → Instr
go_of goes.Next a = op.Next a
go_of goes.SkipNext a = op.SkipNext a
go_of goes.Jump a = op.Jump a

abbrev pub section_of : sections.Section → Section
section_of parts.Main = Main
section_of (parts.Write w r) = Write w r
section_of (parts.Skip w) = Skip w

abbrev pub symbols_of : Option Node → List (List ℕ)
symbols_of (Some (EnumNode names symbols default)) = symbols
symbols_of _ = []

-- what the symbols of a writer's enum become
abbrev pub targets_of : List Node → List Node → ℕ → ℕ → List Target
targets_of W R w r = map (target w r (slice_get R r)) (symbols_of (slice_get W w))

-- the written default of a field, and nothing where there is none
abbrev pub default_of : Option FieldNode → List ℕ
default_of field = given field [] (λ g. given g.default [] written)

abbrev pub fields_of_record : Option Node → List FieldNode
fields_of_record (Some (RecordNode names fields)) = fields
fields_of_record _ = []

abbrev pub bytes_of : List Node → Constant → List ℕ
bytes_of R (constants.Position n) = shortest (pos n)
bytes_of R (constants.Default reader field) = default_of (slice_get (fields_of_record (slice_get R reader)) field)

abbrev pub statement_of : List Node → List Node → rust.Statement → Statement
statement_of W R (statements.Op i) = Op i
statement_of W R (statements.Put constant) = Put (bytes_of R constant)
statement_of W R (statements.Miss m) = Miss m
statement_of W R (statements.BytesText m) = BytesText m
statement_of W R (statements.Enum w r) = Enum (targets_of W R w r)
statement_of W R (statements.Call s) = Call (section_of s)
statement_of W R (statements.Ahead go far) = Ahead (go_of go) far
statement_of W R (statements.Back far) = Back far
statement_of W R (statements.Branch fars) = Branch fars.items
statement_of W R statements.Lost = Lost

abbrev pub statements_in : List Node → List Node → List rust.Statement → List Statement
statements_in W R ls = map (statement_of W R) ls

abbrev pub parts_in : List Node → List Node → List (Vec rust.Statement) → List (List Statement)
parts_in W R parts = map (λ part. statements_in W R part.items) parts

-- a jump so far ahead, unless that is 0
abbrev pub jump_statements : ℕ → List Statement
jump_statements zero = []
jump_statements (suc far) = Ahead op.Jump (suc far) ∷ []

-- ---- records

-- what a record begins with, where that is the node of the first of the reader's fields that lacks
abbrev pub record_statement : ℕ → ℕ → Option ℕ → Statement
record_statement w r (Some node) = Miss (miss kinds.NoDefault w node)
record_statement w r None = Call (Write w r)

-- the slot of a field is the position of its partner
abbrev pub HasSlot : Route → Type 0
HasSlot route = IfSome route.partner (λ p. p.position < MOST_FIELDS)

abbrev pub slot_statements : Option Route → List Statement
slot_statements None = []
slot_statements (Some route) = given route.partner [] (λ p. Op (op.Slot p.position) ∷ [])

-- a routine, with the statements of the writer's fields and of the defaults
abbrev pub routine_statements : ℕ → List Statement → List Statement → List Statement
routine_statements slots fields defaults =
    Op (op.Record slots) ∷ (fields ++ (defaults ++ Op op.EndRecord ∷ Op op.Return ∷ []))
