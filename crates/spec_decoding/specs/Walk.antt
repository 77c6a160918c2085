-- A walk over the blocks of an array or a map, as its callers see it (Avro 1.11, "Binary Encoding", arrays and maps).
use Rattle.std.specs.Prelude.{ℕ, ℤ, Option, None}

-- where a walk is in the block that it came to last
pub record Walk : Type 0 where
  -- how many items of the block are still to come
  pub left : ℕ
  -- where the block's count begins
  pub count_at : ℕ
  -- where its items begin
  pub items_at : ℕ
  -- how many bytes the block says that its items have, where it says so
  pub size : Option ℤ

-- before the first block, which begins at an offset
abbrev pub first_walk : ℕ → Walk
first_walk at = record { left = 0; count_at = at; items_at = at; size = None }
