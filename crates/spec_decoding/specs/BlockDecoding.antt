-- Decoding the blocks of an array or a map, from one item to the next (Avro 1.11, "Binary Encoding", arrays and maps).
use Rattle.std.specs.Prelude.{ℕ, zero, suc, ◌-◌, List, Option, Some, None, if◌then◌else◌, ◌==◌, ℤ, pos, negsuc, Bool, true, false}
use Rattle.spec_avro.specs.declared.meter.Meter.{Meter}
use Rattle.spec_avro.specs.declared.malformed.MalformedKind.TheVariants.{BadBlock}
use Rattle.spec_decoding.specs.Decoding.{Complete, Decoding, Failed, inside, ◌>>=◌}
use Rattle.spec_avro.specs.Defect.{Malformed}
use Rattle.spec_decoding.specs.Opening.{closed_blocks, opened_item}
use Rattle.spec_avro.specs.Number.{long_limit}
use Rattle.spec_decoding.specs.NumberDecoding.{number_at}
use Rattle.spec_decoding.specs.Walk.{Walk}

-- an item begins, and the walk that is there
abbrev pub item_at : Walk → ℕ → Meter → Decoding (Option Walk)
item_at walk at m = inside (opened_item at m) (λ within. Complete (Some walk) at within)

-- whether items of `len` bytes have the size that is said, or none is said
abbrev pub has_size : Option ℤ → ℕ → Bool
has_size None len = true
has_size (Some (pos n)) len = n == len
has_size (Some (negsuc n)) len = false

-- whether the items that end at an offset have their block's size
abbrev pub is_met : Walk → ℕ → Bool
is_met walk at = has_size walk.size (at - walk.items_at)

-- a block whose size is at the offset, after its count
unfoldable pub sized_block : List ℕ → ℕ → ℕ → ℕ → Meter → Decoding (Option Walk)
sized_block bytes count_at left at m = number_at long_limit bytes at m >>= λ size items after.
    item_at (record { left = left; count_at = count_at; items_at = items; size = Some size }) items after

-- after a count: the end, or the first item of a block
abbrev pub after_count : List ℕ → ℕ → ℤ → ℕ → Meter → Decoding (Option Walk)
after_count bytes count_at (pos zero) to m = Complete None to (closed_blocks m)
after_count bytes count_at (pos (suc n)) to m =
    item_at (record { left = n; count_at = count_at; items_at = to; size = None }) to m
after_count bytes count_at (negsuc n) to m = sized_block bytes count_at n to m

unfoldable pub next_block : List ℕ → ℕ → Meter → Decoding (Option Walk)
next_block bytes at m = number_at long_limit bytes at m >>= after_count bytes at

-- the walk at the next item, or none after the blocks
unfoldable pub next_item : Walk → List ℕ → ℕ → Meter → Decoding (Option Walk)
next_item walk bytes at m = next_left walk.left
  where
    next_left : ℕ → Decoding (Option Walk)
    next_left (suc left) = item_at (record walk { left = left }) at m
    next_left zero = if is_met walk at then next_block bytes at m else Failed (Malformed BadBlock walk.count_at)
