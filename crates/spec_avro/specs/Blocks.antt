-- Blocks (Avro 1.11, "Binary Encoding", arrays and maps): items, each spelled in bytes, in blocks after their counts.
use Rattle.std.specs.Prelude.{◌≡◌, ◌<◌, ℕ, List, [], ◌∷◌, ◌++◌, length, Option, Some, None, ℤ, pos, neg_ℤ}
use Rattle.spec_avro.specs.Number.{IsNumber64}

-- one list after another
abbrev pub joined : {A : Type 0} → List (List A) → List A
joined [] = []
joined (xs ∷ lists) = xs ++ joined lists

-- "If a block's count is negative, its absolute value is used, and the count is followed immediately by a long block
-- size indicating the number of bytes in the block."
pub record IsSizedHead (count : ℕ) (size : ℤ) (head : List ℕ) : Type 0 where
  pub count_bytes : List ℕ
  pub size_bytes : List ℕ
  pub parts : head ≡ count_bytes ++ size_bytes
  pub number : IsNumber64 (neg_ℤ (pos count)) count_bytes
  pub said : IsNumber64 size size_bytes

-- the head of a block of `count` items, with a size or without one
abbrev pub IsHead : ℕ → Option ℤ → List ℕ → Type 0
IsHead count None head = IsNumber64 (pos count) head
IsHead count (Some size) head = IsSizedHead count size head

-- items of `len` bytes have the size that is said, or none is said
abbrev pub SizeIs : Option ℤ → ℕ → Type 0
SizeIs None len = Unit {0}
SizeIs (Some size) len = size ≡ pos len

-- blocks of at least one item, one after another, and then bytes that satisfy `Then`
abbrev pub BlocksThen : (List ℕ → Type 0) → List (List (List ℕ)) → List ℕ → Type 0
BlocksThen Then [] bytes = Then bytes
BlocksThen Then (items ∷ blocks) bytes =
    (head : List ℕ) × (rest : List ℕ) × (bytes ≡ head ++ (joined items ++ rest)) × (0 < length items)
    × ((said : Option ℤ) × IsHead (length items) said head × SizeIs said (length (joined items)))
    × BlocksThen Then blocks rest

-- "A block with count zero indicates the end of the array": blocks, and their end
abbrev pub IsBlocks : List (List (List ℕ)) → List ℕ → Type 0
IsBlocks = BlocksThen (IsNumber64 (pos 0))

-- blocks, and no end yet
abbrev pub AreBlocks : List (List (List ℕ)) → List ℕ → Type 0
AreBlocks = BlocksThen (λ bytes. bytes ≡ [])

-- the items in blocks, however many there are in each
pub record IsItems (items : List (List ℕ)) (bytes : List ℕ) : Type 0 where
  pub blocks : List (List (List ℕ))
  pub all : joined blocks ≡ items
  pub spelled : IsBlocks blocks bytes
