-- What adding to the current buffer and emptying all buffers make of the frames.
use Rattle.std.proofs.Common.{replicate, ◌≡◌, ℕ, zero, suc, ◌+◌, ◌<◌, true, List, [], ◌∷◌, ◌++◌, length, map, Some, None, refl, ap, ◌∙◌, arith, append_assoc, length-append, append-nil}
use Rattle.std.specs.Prelude.{nat_lt}
use Rattle.std.proofs.lemmas.List.{length-map}
use Rattle.spec_avro.specs.Blocks.{joined}
use Rattle.spec_machine.specs.Lengths.{total_length}
use Rattle.spec_machine.specs.State.{Blocks, Frame, Rec, Skip, SkipBlocks, add_to_slot, empty_buffers, frames_size, frames_with, has_current, out_with}

-- ---- slots

abbrev pub no_bytes : List (List ℕ) → List (List ℕ)
no_bytes slots = map (λ (slot : List ℕ). []) slots

pub no_bytes_twice : (slots : List (List ℕ)) → no_bytes (no_bytes slots) ≡ no_bytes slots
no_bytes_twice [] = refl
no_bytes_twice (slot ∷ slots) = ap (λ (l : List (List ℕ)). [] ∷ l) (no_bytes_twice slots)

pub no_bytes_length : (slots : List (List ℕ)) → length (no_bytes slots) ≡ length slots
no_bytes_length slots = length-map slots (λ (slot : List ℕ). [])

pub no_bytes_added : (j : ℕ) (x : List ℕ) (slots : List (List ℕ)) → no_bytes (add_to_slot j x slots) ≡ no_bytes slots
no_bytes_added j x [] = refl
no_bytes_added zero x (slot ∷ slots) = refl
no_bytes_added (suc j) x (slot ∷ slots) = ap (λ (l : List (List ℕ)). [] ∷ l) (no_bytes_added j x slots)

pub added_length : (j : ℕ) (x : List ℕ) (slots : List (List ℕ)) → length (add_to_slot j x slots) ≡ length slots
added_length j x [] = refl
added_length zero x (slot ∷ slots) = refl
added_length (suc j) x (slot ∷ slots) = ap suc (added_length j x slots)

added_size : (j : ℕ) (x : List ℕ) (slots : List (List ℕ)) → j < length slots → total_length (add_to_slot j x slots) ≡ total_length slots + length x
added_size j x [] h = absurd (omega arith)
added_size zero x (slot ∷ slots) h = omega (arith, length-append slot x)
added_size (suc j) x (slot ∷ slots) h = omega (arith, added_size j x slots (omega arith))

added_twice : (j : ℕ) (x y : List ℕ) (slots : List (List ℕ)) → add_to_slot j x (add_to_slot j y slots) ≡ add_to_slot j (y ++ x) slots
added_twice j x y [] = refl
added_twice zero x y (slot ∷ slots) = ap (λ (l : List ℕ). l ∷ slots) (append_assoc slot y x)
added_twice (suc j) x y (slot ∷ slots) = ap (λ (l : List (List ℕ)). slot ∷ l) (added_twice j x y slots)

added_nothing : (j : ℕ) (slots : List (List ℕ)) → add_to_slot j [] slots ≡ slots
added_nothing j [] = refl
added_nothing zero (slot ∷ slots) = ap (λ (l : List ℕ). l ∷ slots) (append-nil slot)
added_nothing (suc j) (slot ∷ slots) = ap (λ (l : List (List ℕ)). slot ∷ l) (added_nothing j slots)

pub joined_length : (slots : List (List ℕ)) → length (joined slots) ≡ total_length slots
joined_length [] = refl
joined_length (slot ∷ slots) = omega (arith, length-append slot (joined slots), joined_length slots)

-- the slots of a record that is opened
abbrev pub new_slots : ℕ → List (List ℕ)
new_slots k = replicate k []

pub new_slots_length : (k : ℕ) → length (new_slots k) ≡ k
new_slots_length zero = refl
new_slots_length (suc k) = ap suc (new_slots_length k)

pub new_slots_size : (k : ℕ) → total_length {A = ℕ} (new_slots k) ≡ 0
new_slots_size zero = refl
new_slots_size (suc k) = omega (arith, new_slots_size k)

pub new_slots_empty : (k : ℕ) → no_bytes (new_slots k) ≡ new_slots k
new_slots_empty zero = refl
new_slots_empty (suc k) = ap (λ (l : List (List ℕ)). [] ∷ l) (new_slots_empty k)

-- ---- frames

abbrev pub emptied_frames : List Frame → List Frame
emptied_frames frames = map empty_buffers frames

frame_twice : (frame : Frame) → empty_buffers (empty_buffers frame) ≡ empty_buffers frame
frame_twice (Rec cur slots) = ap (Rec cur) (no_bytes_twice slots)
frame_twice Skip = refl
frame_twice (Blocks walk items buffer) = refl
frame_twice (SkipBlocks walk) = refl

pub emptied_twice : (frames : List Frame) → emptied_frames (emptied_frames frames) ≡ emptied_frames frames
emptied_twice [] = refl
emptied_twice (frame ∷ frames) = ap (λ (f : Frame). f ∷ emptied_frames (emptied_frames frames)) (frame_twice frame) ∙ ap (λ (l : List Frame). empty_buffers frame ∷ l) (emptied_twice frames)

pub emptied_length : (frames : List Frame) → length (emptied_frames frames) ≡ length frames
emptied_length frames = length-map frames empty_buffers

pub emptied_added : (x : List ℕ) (frames : List Frame) → emptied_frames (frames_with x frames) ≡ emptied_frames frames
emptied_added x [] = refl
emptied_added x (Rec (Some j) slots ∷ frames) = ap (λ (l : List (List ℕ)). Rec (Some j) l ∷ emptied_frames frames) (no_bytes_added j x slots)
emptied_added x (Rec None slots ∷ frames) = refl
emptied_added x (Skip ∷ frames) = refl
emptied_added x (Blocks walk items buffer ∷ frames) = refl
emptied_added x (SkipBlocks walk ∷ frames) = refl

pub with_size : (x : List ℕ) (frames : List Frame) (out : List ℕ) → has_current frames ≡ true → frames_size (frames_with x frames) + length (out_with x frames out) ≡ frames_size frames + length out + length x
with_size x [] out h = omega (arith, length-append out x)
with_size x (Rec (Some j) slots ∷ frames) out h = let lt : j < length slots = grind (arith) in omega (arith, added_size j x slots lt)
with_size x (Rec None slots ∷ frames) out h = cc
with_size x (Skip ∷ frames) out h = cc
with_size x (Blocks walk items buffer ∷ frames) out h = omega (arith, length-append buffer x)
with_size x (SkipBlocks walk ∷ frames) out h = cc

pub with_twice : (x y : List ℕ) (frames : List Frame) → frames_with x (frames_with y frames) ≡ frames_with (y ++ x) frames
with_twice x y [] = refl
with_twice x y (Rec (Some j) slots ∷ frames) = ap (λ (l : List (List ℕ)). Rec (Some j) l ∷ frames) (added_twice j x y slots)
with_twice x y (Rec None slots ∷ frames) = refl
with_twice x y (Skip ∷ frames) = refl
with_twice x y (Blocks walk items buffer ∷ frames) = ap (λ (l : List ℕ). Blocks walk items l ∷ frames) (append_assoc buffer y x)
with_twice x y (SkipBlocks walk ∷ frames) = refl

pub out_twice : (x y : List ℕ) (frames : List Frame) (out : List ℕ) → out_with x (frames_with y frames) (out_with y frames out) ≡ out_with (y ++ x) frames out
out_twice x y [] out = append_assoc out y x
out_twice x y (Rec (Some j) slots ∷ frames) out = refl
out_twice x y (Rec None slots ∷ frames) out = refl
out_twice x y (Skip ∷ frames) out = refl
out_twice x y (Blocks walk items buffer ∷ frames) out = refl
out_twice x y (SkipBlocks walk ∷ frames) out = refl

pub with_nothing : (frames : List Frame) → frames_with [] frames ≡ frames
with_nothing [] = refl
with_nothing (Rec (Some j) slots ∷ frames) = ap (λ (l : List (List ℕ)). Rec (Some j) l ∷ frames) (added_nothing j slots)
with_nothing (Rec None slots ∷ frames) = refl
with_nothing (Skip ∷ frames) = refl
with_nothing (Blocks walk items buffer ∷ frames) = ap (λ (l : List ℕ). Blocks walk items l ∷ frames) (append-nil buffer)
with_nothing (SkipBlocks walk ∷ frames) = refl

pub out_nothing : (frames : List Frame) (out : List ℕ) → out_with [] frames out ≡ out
out_nothing [] out = append-nil out
out_nothing (frame ∷ frames) out = refl

-- ---- the current buffer is there as before

pub current_with : (x : List ℕ) (frames : List Frame) → has_current (frames_with x frames) ≡ has_current frames
current_with x [] = refl
current_with x (Rec (Some j) slots ∷ frames) = ap (nat_lt j) (added_length j x slots)
current_with x (Rec None slots ∷ frames) = refl
current_with x (Skip ∷ frames) = refl
current_with x (Blocks walk items buffer ∷ frames) = refl
current_with x (SkipBlocks walk ∷ frames) = refl

pub current_emptied : (frames : List Frame) → has_current (emptied_frames frames) ≡ has_current frames
current_emptied [] = refl
current_emptied (frame ∷ frames) = by_top frame (emptied_frames frames) frames
  where
    by_top : (frame : Frame) (frames others : List Frame) → has_current (empty_buffers frame ∷ frames) ≡ has_current (frame ∷ others)
    by_top (Rec (Some j) slots) frames others = ap (nat_lt j) (no_bytes_length slots)
    by_top (Rec None slots) frames others = refl
    by_top Skip frames others = refl
    by_top (Blocks walk items buffer) frames others = refl
    by_top (SkipBlocks walk) frames others = refl
