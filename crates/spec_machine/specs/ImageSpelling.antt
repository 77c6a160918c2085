-- How numbers, operands and versions are written in images. All of this is this project's own.
use Rattle.std.specs.Prelude.{ℕ, List, []}
use Rattle.std.specs.Int.{Width, w16, w32, to_be_bytes}
use Rattle.spec_machine.specs.declared.operation.Shape.{Shape}
use Rattle.spec_machine.specs.declared.operation.Shape.TheVariants as shapes
use Rattle.spec_machine.specs.declared.version.Version.{Version}
use Rattle.spec_machine.specs.declared.version.Version.TheVariants.{One, Two}
use Rattle.spec_machine.specs.declared.limits.TheConstants.{MOST_INSTRS, MOST_INSTRS_OF_ONE}

-- ---- numbers, with their highest byte first

-- in 2 bytes
abbrev pub short : ℕ → List ℕ
short n = to_be_bytes w16 n

-- in 4 bytes
abbrev pub long : ℕ → List ℕ
long n = to_be_bytes w32 n

-- an address has 2 bytes in version 1, and 4 in version 2
abbrev pub address_width : Version → Width
address_width One = w16
address_width Two = w32

-- an address, as the version has it
abbrev pub address : Version → ℕ → List ℕ
address v a = to_be_bytes (address_width v) a

-- ---- operands

-- an operand has the bytes that its shape says
abbrev pub operand : Version → Shape → ℕ → List ℕ
operand v shapes.Nothing n = []
operand v shapes.Short n = short n
operand v shapes.Long n = long n
operand v shapes.Address n = address v n

-- ---- the head

-- the byte after the letters AVRP
abbrev pub version_byte : Version → ℕ
version_byte One = 1
version_byte Two = 2

-- how many instructions an image may have
abbrev pub most_instrs : Version → ℕ
most_instrs One = MOST_INSTRS_OF_ONE
most_instrs Two = MOST_INSTRS
