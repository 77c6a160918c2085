-- The images of a program: its bytes in a file, in version 1 and version 2. All of this is this project's own.
use Rattle.std.specs.Prelude.{ℕ, ◌≤◌, List, ◌∷◌, ◌++◌, length, codes}
use Rattle.std.specs.List.{flat_map}
use Rattle.spec_avro.specs.declared.mismatch.Mismatch.{Mismatch}
use Rattle.spec_avro.specs.MismatchKind.{code_of as code_of_kind}
use Rattle.spec_machine.specs.declared.entry.Entry.{Entry}
use Rattle.spec_machine.specs.declared.entry.Entry.TheVariants as entries
use Rattle.spec_machine.specs.declared.instr.Instr.{Instr}
use Rattle.spec_machine.specs.Program.{Program}
use Rattle.spec_machine.specs.Operation.{code_of, operand_of, operation_of, shape_of}
use Rattle.spec_machine.specs.ImageSpelling.{short, long, address, operand, version_byte}
use Rattle.spec_machine.specs.declared.limits.TheConstants.{MOST_INSTRS_OF_ONE}
use Rattle.spec_machine.specs.declared.version.Version.{Version}
use Rattle.spec_machine.specs.declared.version.Version.TheVariants.{One, Two}

-- ---- things

-- its length, and its bytes
abbrev pub constant : List ℕ → List ℕ
constant bytes = long (length bytes) ++ bytes

-- a tag, and the position or the number of the miss
abbrev pub entry : Entry → List ℕ
entry (entries.Position i) = 0 ∷ short i
entry (entries.Miss m) = 1 ∷ short m

-- its kind, the writer's node, the reader's node
abbrev pub miss : Mismatch → List ℕ
miss m = code_of_kind m.kind ∷ (short m.writer_node ++ short m.reader_node)

-- its code, and its operand
abbrev pub instr : Version → Instr → List ℕ
instr v i = code_of (operation_of i) ∷ operand v (shape_of (operation_of i)) (operand_of i)

-- ---- the image

-- a count, and that many things
abbrev pub section : {A : Type 0} → (A → List ℕ) → List A → List ℕ
section spell things = long (length things) ++ flat_map spell things

-- the sections: constants, maps, jump tables, misses, code
abbrev pub sections : Version → Program → List ℕ
sections v P =
    section constant P.constants
    ++ (section (section entry) P.maps
    ++ (section (section (address v)) P.jumps
    ++ (section miss P.misses
    ++ section (instr v) P.code)))

abbrev pub image : Version → Program → List ℕ
image v P = codes "AVRP" ++ (version_byte v ∷ sections v P)

-- the image of a program is that of version 2
abbrev pub image_of : Program → List ℕ
image_of P = image Two P

-- the image of version 1
abbrev pub image1_of : Program → List ℕ
image1_of P = image One P

-- The bytes are an image of the program: that of version 2, or that of version 1 where it has few instructions.
pub data IsImage (P : Program) : List ℕ → Type 0 where
  Second : IsImage P (image_of P)
  First : length P.code ≤ MOST_INSTRS_OF_ONE → IsImage P (image1_of P)
