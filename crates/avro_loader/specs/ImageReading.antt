-- What is at the front of an image's bytes, with the first fault that is met. All of this is this project's own.
use Rattle.std.specs.Prelude.{◌≡◌, ℕ, zero, suc, ◌-◌, List, [], ◌∷◌, length, take, drop, Result, Ok, Err, ⊤, nat_lt, ◌==◌, if◌then◌else◌}
use Rattle.std.specs.Int.{Width, w16, w32, byte_len, from_be_bytes}
use Rattle.spec_machine.specs.declared.operation.Shape.{Shape}
use Rattle.spec_machine.specs.declared.operation.Shape.TheVariants as shapes
use Rattle.avro_loader.specs.declared.image_fault.ImageFault.{ImageFault}
use Rattle.avro_loader.specs.declared.image_fault.ImageFault.TheVariants.{BadMagic, BadVersion, Trailing, Truncated}
use Rattle.avro_loader.specs.declared.head.TheConstants.{MAGIC}
use Rattle.avro_loader.specs.declared.version.Format.{Format}
use Rattle.spec_machine.specs.declared.version.Version.{Version}
use Rattle.spec_machine.specs.declared.version.Version.TheVariants.{One, Two}
use Rattle.spec_machine.specs.ImageSpelling.{address_width}

-- ---- results

infixl 10 ◌>>=◌
-- the next step, where the first did not fail
abbrev pub ◌>>=◌ : {A B : Type 0} → Result A ImageFault → (A → Result B ImageFault) → Result B ImageFault
(Ok x) >>= f = f x
(Err e) >>= f = Err e

-- what is at the front of bytes, and the bytes after it
abbrev pub Read : Type 0 → Type 0
Read A = Result (A × List ℕ) ImageFault

-- What a function returned, seen by a view, is what reading gives.
abbrev pub Tells : {X Y : Type 0} → (X → Y) → Result X ImageFault → Result Y ImageFault → Type 0
Tells view (Ok x) read = read ≡ Ok (view x)
Tells view (Err e) read = read ≡ Err e

-- the place of the first of the bytes that are left
abbrev pub place : Format → List ℕ → ℕ
place f left = f.len - length left

-- ---- numbers

-- a number with as many bytes as its width, the highest first
abbrev pub number_at : Width → List ℕ → Read ℕ
number_at w bytes =
    if nat_lt (length bytes) (byte_len w) then Err Truncated
    else Ok (from_be_bytes w (take (byte_len w) bytes), drop (byte_len w) bytes)

-- an address, as the version has it
abbrev pub address_at : Format → List ℕ → Read ℕ
address_at f bytes = number_at (address_width f.version) bytes

-- an operand, as its shape says
abbrev pub operand_at : Format → Shape → List ℕ → Read ℕ
operand_at f shapes.Nothing rest = Ok (0, rest)
operand_at f shapes.Short rest = number_at w16 rest
operand_at f shapes.Long rest = number_at w32 rest
operand_at f shapes.Address rest = address_at f rest

-- ---- the head

-- the version that a byte names
abbrev pub version_at : List ℕ → Read Version
version_at [] = Err Truncated
version_at (suc zero ∷ rest) = Ok (One, rest)
version_at (suc (suc zero) ∷ rest) = Ok (Two, rest)
version_at (b ∷ rest) = Err BadVersion

-- the version, after the number that every image begins with
unfoldable pub opened : List ℕ → Read Version
opened bytes = do
  magic ← number_at w32 bytes
  if magic.0 == MAGIC then version_at magic.1 else Err BadMagic

-- ---- the end

-- nothing is left after an image
abbrev pub ended : Format → List ℕ → Result ⊤ ImageFault
ended f [] = Ok tt
ended f (b ∷ left) = Err (Trailing (place f (b ∷ left)))
