-- Numbers, addresses and operands: what is read from the front is the spelling that was there, and what is spelled is
-- read again.
use Rattle.std.proofs.Common.{◌≡◌, ℕ, ◌^◌, ◌<◌, ◌≤◌, false, ltb, List, [], ◌++◌, length, take, drop, Ok, refl, sym, ap, subst, arith}
use Rattle.std.proofs.lemmas.Bool.{ltb-false, le-ltb}
use Rattle.std.proofs.lemmas.List.{take_at, drop_at, take-append-drop, length-append, length-take}
use Rattle.std.proofs.lemmas.Nat.{be_bytes_2, be_bytes_4, from_be_bytes-to_be_bytes_2, from_be_bytes-to_be_bytes_4}
use Rattle.std.specs.Int.{Width, w16, w32, byte_len, from_be_bytes, to_be_bytes}
use Rattle.spec_machine.specs.declared.operation.Shape.{Shape}
use Rattle.spec_machine.specs.declared.operation.Shape.TheVariants as shapes
use Rattle.avro_loader.specs.ImageReading.{number_at, operand_at}
use Rattle.spec_machine.specs.ImageSpelling.{address_width, operand}
use Rattle.avro_loader.specs.declared.image_fault.ImageFault.TheVariants.{Truncated}
use Rattle.avro_loader.specs.declared.version.Format.{Format}
use Rattle.spec_machine.specs.declared.version.Version.{Version}
use Rattle.spec_machine.specs.declared.version.Version.TheVariants.{One, Two}
use Rattle.avro_loader.proofs.Steps.{unless, ok_is}
use Rattle.avro_loader.proofs.Taking.{IsBytes, IsBytes-take, IsBytes-drop, Takes, Reads}

-- ---- numbers

pub record IsWide (w : Width) (limit : ℕ) : Type 0 where
  pub len : (n : ℕ) → length (to_be_bytes w n) ≡ byte_len w
  pub back : (bytes : List ℕ) → length bytes ≡ byte_len w → IsBytes bytes → to_be_bytes w (from_be_bytes w bytes) ≡ bytes
  pub forth : (n : ℕ) → n < limit → from_be_bytes w (to_be_bytes w n) ≡ n

pub wide16 : IsWide w16 (2 ^ 16)
wide16 = record {
  len = λ n. refl;
  back = λ bytes len fits. be_bytes_2 bytes _ len fits refl;
  forth = λ n lt. from_be_bytes-to_be_bytes_2 n lt;
}

pub wide32 : IsWide w32 (2 ^ 32)
wide32 = record {
  len = λ n. refl;
  back = λ bytes len fits. be_bytes_4 bytes _ len fits refl;
  forth = λ n lt. from_be_bytes-to_be_bytes_4 n lt;
}

number_takes : (w : Width) (limit : ℕ) (wide : IsWide w limit) (bytes : List ℕ) (x : ℕ × List ℕ) → IsBytes bytes → number_at w bytes ≡ Ok x → Takes bytes (to_be_bytes w x.0) x.1
number_takes w limit wide bytes x fits e =
    let g = unless (ltb (length bytes) (byte_len w)) Truncated (Ok (from_be_bytes w (take (byte_len w) bytes), drop (byte_len w) bytes)) x e in
    let same = ok_is (from_be_bytes w (take (byte_len w) bytes), drop (byte_len w) bytes) x g.1 in
    let long : byte_len w ≤ length bytes = ltb-false _ _ g.0 in
    let front : to_be_bytes w (from_be_bytes w (take (byte_len w) bytes)) ≡ take (byte_len w) bytes = wide.back (take (byte_len w) bytes) (omega (arith, length-take (byte_len w) bytes)) (IsBytes-take (byte_len w) bytes fits) in
    subst (λ (y : ℕ × List ℕ). Takes bytes (to_be_bytes w y.0) y.1) same
    (record { parts = rw front (sym (take-append-drop (byte_len w) bytes)); rest_fits = IsBytes-drop (byte_len w) bytes fits })

number_again : (w : Width) (limit : ℕ) (wide : IsWide w limit) (n : ℕ) (rest : List ℕ) → n < limit → number_at w (to_be_bytes w n ++ rest) ≡ Ok (n, rest)
number_again w limit wide n rest lt =
    let len = wide.len n in
    let long : ltb (length (to_be_bytes w n ++ rest)) (byte_len w) ≡ false = le-ltb _ _ (omega (arith, length-append (to_be_bytes w n) rest)) in
    rw (long, take_at (to_be_bytes w n) rest (byte_len w) len, drop_at (to_be_bytes w n) rest (byte_len w) len, wide.forth n lt) refl

pub number_reads : (w : Width) (limit : ℕ) → IsWide w limit → Reads (number_at w) (to_be_bytes w) (λ n. n < limit)
number_reads w limit wide = record { takes = number_takes w limit wide; again = number_again w limit wide }

pub shorts : Reads (number_at w16) (to_be_bytes w16) (λ n. n < 2 ^ 16)
shorts = number_reads w16 (2 ^ 16) wide16

pub longs : Reads (number_at w32) (to_be_bytes w32) (λ n. n < 2 ^ 32)
longs = number_reads w32 (2 ^ 32) wide32

-- ---- addresses

abbrev pub address_limit : Version → ℕ
address_limit One = 2 ^ 16
address_limit Two = 2 ^ 32

pub addresses : (v : Version) → Reads (number_at (address_width v)) (to_be_bytes (address_width v)) (λ a. a < address_limit v)
addresses One = shorts
addresses Two = longs

-- ---- operands

abbrev pub OperandFits : Version → Shape → ℕ → Type 0
OperandFits v shapes.Nothing n = n ≡ 0
OperandFits v shapes.Short n = n < 2 ^ 16
OperandFits v shapes.Long n = n < 2 ^ 32
OperandFits v shapes.Address n = n < address_limit v

module _ (f : Format) where
  pub operand_takes : (shape : Shape) (bytes : List ℕ) (x : ℕ × List ℕ) → IsBytes bytes → operand_at f shape bytes ≡ Ok x → Takes bytes (operand f.version shape x.0) x.1
  operand_takes shapes.Nothing bytes x fits e = subst (λ (y : ℕ × List ℕ). Takes bytes [] y.1) (ok_is (0, bytes) x e) (record { parts = refl; rest_fits = fits })
  operand_takes shapes.Short bytes x fits e = shorts.takes bytes x fits e
  operand_takes shapes.Long bytes x fits e = longs.takes bytes x fits e
  operand_takes shapes.Address bytes x fits e = let reads = addresses f.version in reads.takes bytes x fits e

  pub operand_again : (shape : Shape) (n : ℕ) (rest : List ℕ) → OperandFits f.version shape n → operand_at f shape (operand f.version shape n ++ rest) ≡ Ok (n, rest)
  operand_again shapes.Nothing n rest fits = ap (λ (m : ℕ). Ok (m, rest)) (sym fits)
  operand_again shapes.Short n rest fits = shorts.again n rest fits
  operand_again shapes.Long n rest fits = longs.again n rest fits
  operand_again shapes.Address n rest fits = let reads = addresses f.version in reads.again n rest fits
