-- Slots, each with a buffer: how buffers are found by a number for each slot. All of this is this project's own.
use Rattle.std.specs.Prelude.{◌≡◌, ◌<◌, ◌≤◌, ℕ, zero, suc, ◌+◌, List, [], ◌∷◌, ◌++◌, length, get_or, map, set}
use Rattle.std.specs.List.{range_with_len}
use Rattle.machine_store.specs.declared.buffers.Buffer.{Buffer}
use Rattle.machine_store.specs.declared.buffers.Buffer.TheVariants as buffers
use Rattle.machine_store.specs.declared.slots.HeldBuffer.{HeldBuffer}

-- a buffer that is empty
abbrev pub nothing : HeldBuffer
nothing = record { slot = 0; buffer = buffers.Empty }

-- the buffer that a number refers to, which is empty for 0
abbrev pub held_at : List HeldBuffer → ℕ → Buffer
held_at held zero = buffers.Empty
held_at held (suc at) = (get_or held at nothing).buffer

-- the slot that this buffer belongs to
abbrev pub owner_at : List HeldBuffer → ℕ → ℕ
owner_at held zero = 0
owner_at held (suc at) = (get_or held at nothing).slot

-- the buffers of `len` slots
abbrev pub buffers_of : ℕ → List ℕ → List HeldBuffer → List Buffer
buffers_of len index held = map (λ i. held_at held (get_or index i 0)) (range_with_len 0 len)

-- the buffer at an index belongs to slot `first` or one after it
abbrev pub IsAbove : ℕ → ℕ → List HeldBuffer → Type 0
IsAbove first at held = first ≤ (get_or held at nothing).slot

-- a number that refers to a buffer of this slot
pub record Stands (held : List HeldBuffer) (slot number : ℕ) : Type 0 where
  pub within : number ≤ length held
  pub belongs : owner_at held number ≡ slot

-- no slot past the last has a number, and each number but 0 is that of a buffer which belongs to its slot
pub record AreIndexed (len : ℕ) (index : List ℕ) (held : List HeldBuffer) : Type 0 where
  pub short : length index ≤ len
  pub stand : (i : ℕ) → 0 < get_or index i 0 → Stands held i (get_or index i 0)

-- a buffer is put for a slot: in its place, or after the others where its number is 0
abbrev pub index_after : ℕ → ℕ → ℕ → List ℕ → List ℕ
index_after slot zero held index = set index slot (held + 1)
index_after slot (suc at) held index = index

abbrev pub held_after : HeldBuffer → ℕ → List HeldBuffer → List HeldBuffer
held_after entry zero held = held ++ entry ∷ []
held_after entry (suc at) held = set held at entry
