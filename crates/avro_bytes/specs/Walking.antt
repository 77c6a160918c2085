-- From inside the blocks of an array or a map: what remains to a walk, and what leads it to the next item (Avro 1.11,
-- "Binary Encoding", arrays and maps).
use Rattle.std.specs.Prelude.{◌≡◌, ℕ, ◌+◌, ◌-◌, List, ◌∷◌, ◌++◌, length}
use Rattle.spec_avro.specs.declared.meter.Meter.{Meter}
use Rattle.spec_decoding.specs.BlockDecoding.{item_at, next_item}
use Rattle.spec_avro.specs.Blocks.{IsItems, SizeIs, joined}
use Rattle.spec_decoding.specs.Walk.{Walk}

-- the items that end at an offset have their block's size
abbrev pub IsMet : Walk → ℕ → Type 0
IsMet walk at = SizeIs walk.size (at - walk.items_at)

-- the items that a walk still comes to, and the bytes from its place up to the end of the blocks
pub record Remains (walk : Walk) (at : ℕ) (items : List (List ℕ)) (bytes : List ℕ) : Type 0 where
  pub now : List (List ℕ)
  pub later : List (List ℕ)
  pub rest : List ℕ
  pub all : items ≡ now ++ later
  pub many : length now ≡ walk.left
  pub parts : bytes ≡ joined now ++ rest
  pub met : IsMet walk (at + length (joined now))
  pub blocks : IsItems later rest

-- what is passed between two items: whatever the second is, and whatever remains after it, both remained before
abbrev pub Leads : Walk → ℕ → Walk → ℕ → List ℕ → Type 0
Leads walk at next to head =
    (item : List ℕ) (items : List (List ℕ)) (rest : List ℕ) → Remains next (to + length item) items rest
    → Remains walk at (item ∷ items) (head ++ (item ++ rest))

-- the next item: what comes before it, and what the walk does there, whatever bytes are around
pub record Comes (walk : Walk) (at : ℕ) (item : List ℕ) (items : List (List ℕ)) (bytes : List ℕ) : Type 0 where
  pub next : Walk
  pub head : List ℕ
  pub rest : List ℕ
  pub parts : bytes ≡ head ++ (item ++ rest)
  pub still : Remains next ((at + length head) + length item) items rest
  pub goes : (before more : List ℕ) (m : Meter) → length before ≡ at
      → next_item walk (before ++ (head ++ more)) at m ≡ item_at next (at + length head) m
