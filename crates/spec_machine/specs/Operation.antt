-- The code and the name of each instruction, and which operand it has. All of this is this project's own.
use Rattle.std.specs.Prelude.{ℕ, zero, suc, List, Option, None, codes, slice_get}
use Rattle.spec_machine.specs.declared.instr.Instr.{Instr}
use Rattle.spec_machine.specs.declared.instr.Instr.TheVariants as instrs
use Rattle.spec_machine.specs.declared.operation.Operation.{Operation}
use Rattle.spec_machine.specs.declared.operation.Operation.TheVariants as op
use Rattle.spec_machine.specs.declared.operation.Shape.{Shape}
use Rattle.spec_machine.specs.declared.operation.Shape.TheVariants.{Nothing, Short, Long, Address}
use Rattle.spec_machine.specs.declared.operation.TheConstants.{OPERATIONS}

abbrev pub code_of : Operation → ℕ
code_of op.Bool = 0x01
code_of op.Int = 0x02
code_of op.Long = 0x03
code_of op.Bytes = 0x04
code_of op.Text = 0x05
code_of op.BytesText = 0x06
code_of op.Fixed = 0x07
code_of op.Enum = 0x08
code_of op.SkipBool = 0x09
code_of op.SkipInt = 0x0a
code_of op.SkipLong = 0x0b
code_of op.SkipBytes = 0x0c
code_of op.SkipText = 0x0d
code_of op.SkipFixed = 0x0e
code_of op.SkipEnum = 0x0f
code_of op.Put = 0x10
code_of op.Record = 0x11
code_of op.Slot = 0x12
code_of op.EndRecord = 0x13
code_of op.Enter = 0x14
code_of op.Leave = 0x15
code_of op.Blocks = 0x16
code_of op.Next = 0x17
code_of op.SkipBlocks = 0x18
code_of op.SkipNext = 0x19
code_of op.Branch = 0x1a
code_of op.Miss = 0x1b
code_of op.Call = 0x1c
code_of op.Return = 0x1d
code_of op.Jump = 0x1e
code_of op.Halt = 0x1f

abbrev pub name_of : Operation → List ℕ
name_of op.Bool = codes "BOOL"
name_of op.Int = codes "INT"
name_of op.Long = codes "LONG"
name_of op.Bytes = codes "BYTES"
name_of op.Text = codes "TEXT"
name_of op.BytesText = codes "BYTESTEXT"
name_of op.Fixed = codes "FIXED"
name_of op.Enum = codes "ENUM"
name_of op.SkipBool = codes "SBOOL"
name_of op.SkipInt = codes "SINT"
name_of op.SkipLong = codes "SLONG"
name_of op.SkipBytes = codes "SBYTES"
name_of op.SkipText = codes "STEXT"
name_of op.SkipFixed = codes "SFIXED"
name_of op.SkipEnum = codes "SENUM"
name_of op.Put = codes "PUT"
name_of op.Record = codes "RECORD"
name_of op.Slot = codes "SLOT"
name_of op.EndRecord = codes "ENDREC"
name_of op.Enter = codes "ENTER"
name_of op.Leave = codes "LEAVE"
name_of op.Blocks = codes "BLOCKS"
name_of op.Next = codes "NEXT"
name_of op.SkipBlocks = codes "SBLOCKS"
name_of op.SkipNext = codes "SNEXT"
name_of op.Branch = codes "BRANCH"
name_of op.Miss = codes "MISS"
name_of op.Call = codes "CALL"
name_of op.Return = codes "RET"
name_of op.Jump = codes "JUMP"
name_of op.Halt = codes "HALT"

-- which operand it has: the index of a constant, a table or a miss; the count of a record's slots, or the index of
-- one; a count of bytes or of symbols; or an address
abbrev pub shape_of : Operation → Shape
shape_of op.BytesText = Short
shape_of op.Fixed = Long
shape_of op.Enum = Short
shape_of op.SkipFixed = Long
shape_of op.SkipEnum = Long
shape_of op.Put = Short
shape_of op.Record = Short
shape_of op.Slot = Short
shape_of op.Next = Address
shape_of op.SkipNext = Address
shape_of op.Branch = Short
shape_of op.Miss = Short
shape_of op.Call = Address
shape_of op.Jump = Address
shape_of _ = Nothing

-- an instruction of an operation and an operand, which those that have none ignore
abbrev pub instr_of : Operation → ℕ → Instr
instr_of op.Bool n = instrs.Bool
instr_of op.Int n = instrs.Int
instr_of op.Long n = instrs.Long
instr_of op.Bytes n = instrs.Bytes
instr_of op.Text n = instrs.Text
instr_of op.BytesText n = instrs.BytesText n
instr_of op.Fixed n = instrs.Fixed n
instr_of op.Enum n = instrs.Enum n
instr_of op.SkipBool n = instrs.SkipBool
instr_of op.SkipInt n = instrs.SkipInt
instr_of op.SkipLong n = instrs.SkipLong
instr_of op.SkipBytes n = instrs.SkipBytes
instr_of op.SkipText n = instrs.SkipText
instr_of op.SkipFixed n = instrs.SkipFixed n
instr_of op.SkipEnum n = instrs.SkipEnum n
instr_of op.Put n = instrs.Put n
instr_of op.Record n = instrs.Record n
instr_of op.Slot n = instrs.Slot n
instr_of op.EndRecord n = instrs.EndRecord
instr_of op.Enter n = instrs.Enter
instr_of op.Leave n = instrs.Leave
instr_of op.Blocks n = instrs.Blocks
instr_of op.Next n = instrs.Next n
instr_of op.SkipBlocks n = instrs.SkipBlocks
instr_of op.SkipNext n = instrs.SkipNext n
instr_of op.Branch n = instrs.Branch n
instr_of op.Miss n = instrs.Miss n
instr_of op.Call n = instrs.Call n
instr_of op.Return n = instrs.Return
instr_of op.Jump n = instrs.Jump n
instr_of op.Halt n = instrs.Halt

abbrev pub operation_of : Instr → Operation
operation_of instrs.Bool = op.Bool
operation_of instrs.Int = op.Int
operation_of instrs.Long = op.Long
operation_of instrs.Bytes = op.Bytes
operation_of instrs.Text = op.Text
operation_of (instrs.BytesText n) = op.BytesText
operation_of (instrs.Fixed n) = op.Fixed
operation_of (instrs.Enum n) = op.Enum
operation_of instrs.SkipBool = op.SkipBool
operation_of instrs.SkipInt = op.SkipInt
operation_of instrs.SkipLong = op.SkipLong
operation_of instrs.SkipBytes = op.SkipBytes
operation_of instrs.SkipText = op.SkipText
operation_of (instrs.SkipFixed n) = op.SkipFixed
operation_of (instrs.SkipEnum n) = op.SkipEnum
operation_of (instrs.Put n) = op.Put
operation_of (instrs.Record n) = op.Record
operation_of (instrs.Slot n) = op.Slot
operation_of instrs.EndRecord = op.EndRecord
operation_of instrs.Enter = op.Enter
operation_of instrs.Leave = op.Leave
operation_of instrs.Blocks = op.Blocks
operation_of (instrs.Next n) = op.Next
operation_of instrs.SkipBlocks = op.SkipBlocks
operation_of (instrs.SkipNext n) = op.SkipNext
operation_of (instrs.Branch n) = op.Branch
operation_of (instrs.Miss n) = op.Miss
operation_of (instrs.Call n) = op.Call
operation_of instrs.Return = op.Return
operation_of (instrs.Jump n) = op.Jump
operation_of instrs.Halt = op.Halt

-- the operand, or else 0
abbrev pub operand_of : Instr → ℕ
operand_of (instrs.BytesText n) = n
operand_of (instrs.Fixed n) = n
operand_of (instrs.Enum n) = n
operand_of (instrs.SkipFixed n) = n
operand_of (instrs.SkipEnum n) = n
operand_of (instrs.Put n) = n
operand_of (instrs.Record n) = n
operand_of (instrs.Slot n) = n
operand_of (instrs.Next n) = n
operand_of (instrs.SkipNext n) = n
operand_of (instrs.Branch n) = n
operand_of (instrs.Miss n) = n
operand_of (instrs.Call n) = n
operand_of (instrs.Jump n) = n
operand_of _ = 0

-- the operation of a code
abbrev pub at_code : ℕ → Option Operation
at_code zero = None
at_code (suc place) = slice_get OPERATIONS place
