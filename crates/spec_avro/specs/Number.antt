-- Numbers (Avro 1.11, "Binary Encoding", int and long): zig-zag, then seven bits a byte, the least first.
use Rattle.spec_avro.specs.declared.limits.TheConstants.{INT_BYTES, INT_LAST, LONG_BYTES, LONG_LAST}
use Rattle.std.specs.Prelude.{◌≡◌, ◌≤◌, ◌<◌, ℕ, ◌+◌, ◌-◌, ◌*◌, ◌%◌, List, [], ◌∷◌, length, slice_index, ℤ, pos, negsuc}

-- the low seven bits of each byte, times 1, 128, 128 * 128 ..
abbrev pub groups_sum : List ℕ → ℕ
groups_sum [] = 0
groups_sum (b ∷ bs) = b % 128 + 128 * groups_sum bs

-- all bytes but the last have the high bit
abbrev pub IsChained : List ℕ → Type 0
IsChained [] = ⊥
IsChained (b ∷ []) = b < 128
IsChained (b ∷ c ∷ bs) = (128 ≤ b) × IsChained (c ∷ bs)

-- 0, -1, 1, -2, 2 .. as 0, 1, 2, 3, 4 ..
abbrev pub zigzag : ℤ → ℕ
zigzag (pos n) = 2 * n
zigzag (negsuc n) = 2 * n + 1

-- how many bytes a number has at most, and how great the last byte is at most, where it has that many
pub record Limit : Type 0 where
  pub most : ℕ
  pub top : ℕ

abbrev pub long_limit : Limit
long_limit = record { most = LONG_BYTES; top = LONG_LAST }

abbrev pub int_limit : Limit
int_limit = record { most = INT_BYTES; top = INT_LAST }

-- the bytes spell the number, not always as shortly as they could
-- This project's own rule: no spelling has more bytes than the number's width needs.
pub record IsNumber (limit : Limit) (n : ℤ) (bytes : List ℕ) : Type 0 where
  pub chained : IsChained bytes
  pub short : length bytes ≤ limit.most
  pub last : slice_index bytes (limit.most - 1) ≤ limit.top
  pub value : groups_sum bytes ≡ zigzag n

abbrev pub IsNumber64 : ℤ → List ℕ → Type 0
IsNumber64 = IsNumber long_limit

abbrev pub IsNumber32 : ℤ → List ℕ → Type 0
IsNumber32 = IsNumber int_limit
