-- The first fault of the items of an array or the pairs of a map (Avro 1.11, "Binary Encoding", arrays and maps).
-- Offsets count from the first byte of the array or the map.
-- This project's own rule: which of several faults is reported.
use Rattle.std.specs.Prelude.{◌≡◌, ◌<◌, ◌⊎◌, ℕ, suc, ◌+◌, max, List, [], ◌∷◌, ◌++◌, length, Option, ℤ, pos}
use Rattle.spec_avro.specs.declared.malformed.MalformedKind.TheVariants.{BadBlock}
use Rattle.spec_avro.specs.declared.meter.Meter.{Meter}
use Rattle.spec_avro.specs.BlockFault.{FaultyHead}
use Rattle.spec_avro.specs.Blocks.{AreBlocks, IsHead, IsSizedHead, joined}
use Rattle.spec_avro.specs.Meter.{Counts, OpensItem, RefusesItem}
use Rattle.spec_avro.specs.Defect.{Defect, Malformed}
use Rattle.spec_avro.specs.Fault.{shifted}

-- each list of bytes spells one of the values
abbrev pub SpellEach : {A : Type 0} → (A → List ℕ → Type 0) → List A → List (List ℕ) → Type 0
SpellEach Spelled [] [] = Unit {0}
SpellEach Spelled (v ∷ vs) (bytes ∷ items) = Spelled v bytes × SpellEach Spelled vs items
SpellEach Spelled [] (bytes ∷ items) = ⊥
SpellEach Spelled (v ∷ vs) [] = ⊥

-- how deep the values go, and how many units they are, one of each for the item itself
abbrev pub deepest : {A : Type 0} → (A → ℕ) → List A → ℕ
deepest deep [] = 0
deepest deep (v ∷ vs) = max (deep v) (deepest deep vs)

abbrev pub units_all : {A : Type 0} → (A → ℕ) → List A → ℕ
units_all units [] = 0
units_all units (v ∷ vs) = (units v + 1) + units_all units vs

module _ {A : Type 0} (Spelled : A → List ℕ → Type 0) (deep units : A → ℕ) where
  -- some items are spelled, and stay within the limits after a meter
  pub record AreSpelled (items : List (List ℕ)) (m after : Meter) : Type 0 where
    pub values : List A
    pub each : SpellEach Spelled values items
    pub counts : Counts (deepest deep values) (units_all units values) m after

  -- a place after whole blocks, where another or the end should begin
  pub record AfterBlocks (bytes : List ℕ) (m : Meter) (front rest : List ℕ) (after : Meter) : Type 0 where
    pub blocks : List (List (List ℕ))
    pub parts : bytes ≡ front ++ rest
    pub whole : AreBlocks blocks front
    pub spelled : AreSpelled (joined blocks) m after

  -- a place within a block, of which the items `now` are spelled and others are still to come
  pub record AtItem (bytes : List ℕ) (m : Meter) (front rest : List ℕ) (after : Meter) : Type 0 where
    pub blocks : List (List (List ℕ))
    pub now : List (List ℕ)
    pub left : ℕ
    pub said : Option ℤ
    pub before : List ℕ
    pub head : List ℕ
    pub parts : bytes ≡ front ++ rest
    pub place : front ≡ before ++ (head ++ joined now)
    pub whole : AreBlocks blocks before
    pub begins : IsHead (length now + suc left) said head
    pub spelled : AreSpelled (joined blocks ++ now) m after

  -- after whole blocks, no other begins and they do not end
  pub record IsFaultyHead (bytes : List ℕ) (m : Meter) (d : Defect) : Type 0 where
    pub front : List ℕ
    pub rest : List ℕ
    pub after : Meter
    pub inner : Defect
    pub stands : AfterBlocks bytes m front rest after
    pub faulty : FaultyHead rest after inner
    pub where_it_is : d ≡ shifted (length front) inner

  -- an item is one too many
  pub record IsRefusedItem (bytes : List ℕ) (m : Meter) (d : Defect) : Type 0 where
    pub front : List ℕ
    pub rest : List ℕ
    pub after : Meter
    pub inner : Defect
    pub here : AtItem bytes m front rest after
    pub refused : RefusesItem after inner
    pub where_it_is : d ≡ shifted (length front) inner

  -- all items of a block are spelled, and its size is not that of their bytes: reported at its count
  pub record IsBadBlock (bytes : List ℕ) (m : Meter) (d : Defect) : Type 0 where
    pub blocks : List (List (List ℕ))
    pub now : List (List ℕ)
    pub size : ℤ
    pub before : List ℕ
    pub head : List ℕ
    pub rest : List ℕ
    pub after : Meter
    pub parts : bytes ≡ before ++ (head ++ (joined now ++ rest))
    pub whole : AreBlocks blocks before
    pub begins : IsSizedHead (length now) size head
    pub some : 0 < length now
    pub spelled : AreSpelled (joined blocks ++ now) m after
    pub wrong : ¬ (size ≡ pos (length (joined now)))
    pub where_it_is : d ≡ Malformed BadBlock (length before)

  -- no item is at fault, but what is around them
  abbrev pub FaultyBlocks : List ℕ → Meter → Defect → Type 0
  FaultyBlocks bytes m d = IsFaultyHead bytes m d ⊎ (IsRefusedItem bytes m d ⊎ IsBadBlock bytes m d)

  -- a place at which an item may begin, and the meter inside it
  pub record Begins (bytes : List ℕ) (m : Meter) (front rest : List ℕ) (opened : Meter) : Type 0 where
    pub after : Meter
    pub here : AtItem bytes m front rest after
    pub opens : OpensItem after opened
