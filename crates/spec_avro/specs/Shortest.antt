-- The shortest encoding of an int or a long (Avro 1.11, "Binary Encoding", int and long).
use Rattle.spec_avro.specs.declared.limits.TheConstants.{LONG_BYTES}
use Rattle.std.specs.Prelude.{ℕ, zero, suc, ◌+◌, ◌/◌, ◌%◌, List, [], ◌∷◌, nat_lt, if◌then◌else◌, ℤ}
use Rattle.spec_avro.specs.Number.{zigzag}

-- seven bits a byte, the least first, in as few bytes as hold them, up to a limit
unfoldable pub shortest_groups : ℕ → ℕ → List ℕ
shortest_groups zero n = []
shortest_groups (suc left) n = if nat_lt n 128 then n ∷ [] else (n % 128 + 128) ∷ shortest_groups left (n / 128)

unfoldable pub shortest : ℤ → List ℕ
shortest n = shortest_groups LONG_BYTES (zigzag n)
