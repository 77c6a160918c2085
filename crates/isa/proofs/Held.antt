-- What adding, marking and closing make of the bytes that are held.
use Rattle.std.proofs.Common.{replicate, ◌≡◌, ℕ, zero, suc, ◌+◌, ◌≤◌, Bool, true, false, cond, List, [], ◌∷◌, length, map, Option, Some, None, refl, ◌∙◌, arith, length-append}
use Rattle.std.specs.Prelude.{nat_lt}
use Rattle.std.proofs.lemmas.List.{length-map}
use Rattle.spec_avro.specs.declared.limits.TheConstants.{MOST_OUTPUT}
use Rattle.spec_machine.specs.Lengths.{total_length}
use Rattle.spec_machine.specs.State.{Blocks, Frame, Rec, Skip, SkipBlocks, Store, add, add_to_slot, append, empty_buffers, emptied, frames_size, frames_with, is_done, marked, miss, out_with, size_of, total}

-- as many frames, and no more bytes than the limit
pub record Holds (old new : Store) : Type 0 where
  pub frames : length new.frames ≡ length old.frames
  pub bytes : total old ≤ MOST_OUTPUT → total new ≤ MOST_OUTPUT

slot_size : (j : ℕ) (x : List ℕ) (slots : List (List ℕ)) → total_length (add_to_slot j x slots) ≤ total_length slots + length x
slot_size j x [] = omega arith
slot_size zero x (slot ∷ slots) = omega (arith, length-append slot x)
slot_size (suc j) x (slot ∷ slots) = omega (arith, slot_size j x slots)

empty_slots : (slots : List (List ℕ)) → total_length {A = ℕ} (map (λ (slot : List ℕ). []) slots) ≡ 0
empty_slots [] = refl
empty_slots (slot ∷ slots) = omega (arith, empty_slots slots)

pub new_slots : (k : ℕ) → total_length {A = ℕ} (replicate k []) ≡ 0
new_slots zero = refl
new_slots (suc k) = omega (arith, new_slots k)

empty_frame : (frame : Frame) → size_of (empty_buffers frame) ≡ 0
empty_frame (Rec cur slots) = empty_slots slots
empty_frame Skip = refl
empty_frame (Blocks walk items buffer) = refl
empty_frame (SkipBlocks walk) = refl

empty_frames : (frames : List Frame) → frames_size (map empty_buffers frames) ≡ 0
empty_frames [] = refl
empty_frames (frame ∷ frames) = omega (arith, empty_frame frame, empty_frames frames)

emptied_holds : (s : Store) (old : Store) → length s.frames ≡ length old.frames → Holds old (emptied s)
emptied_holds s old e = record { frames = length-map s.frames empty_buffers ∙ e; bytes = λ few. omega (arith, empty_frames s.frames) }

appended_frames : (x : List ℕ) (frames : List Frame) → length (frames_with x frames) ≡ length frames
appended_frames x [] = refl
appended_frames x (Rec (Some j) slots ∷ frames) = refl
appended_frames x (Rec None slots ∷ frames) = refl
appended_frames x (Skip ∷ frames) = refl
appended_frames x (Blocks walk items buffer ∷ frames) = refl
appended_frames x (SkipBlocks walk ∷ frames) = refl

appended_bytes : (x : List ℕ) (frames : List Frame) (out : List ℕ) → frames_size (frames_with x frames) + length (out_with x frames out) ≤ frames_size frames + length out + length x
appended_bytes x [] out = omega (arith, length-append out x)
appended_bytes x (Rec (Some j) slots ∷ frames) out = omega (arith, slot_size j x slots)
appended_bytes x (Rec None slots ∷ frames) out = omega arith
appended_bytes x (Skip ∷ frames) out = omega arith
appended_bytes x (Blocks walk items buffer ∷ frames) out = omega (arith, length-append buffer x)
appended_bytes x (SkipBlocks walk ∷ frames) out = omega arith

fits : (a b : ℕ) → nat_lt a b ≡ false → b ≤ a
fits a b h = grind arith

within_limit : (x : List ℕ) (s : Store) (b : Bool) → nat_lt MOST_OUTPUT (total s + length x) ≡ b → Holds s (cond b (emptied (record s { over = true })) (append x s))
within_limit x s true h = emptied_holds (record s { over = true }) s refl
within_limit x s false h = record { frames = appended_frames x s.frames; bytes = λ few. omega (arith, fits _ _ h, appended_bytes x s.frames s.out) }

unless_done : (x : List ℕ) (s : Store) (b : Bool) → Holds s (cond b s (cond (nat_lt MOST_OUTPUT (total s + length x)) (emptied (record s { over = true })) (append x s)))
unless_done x s true = record { frames = refl; bytes = λ few. few }
unless_done x s false = within_limit x s (nat_lt MOST_OUTPUT (total s + length x)) refl

pub add_holds : (x : List ℕ) (s : Store) → Holds s (add x s)
unfolding add
add_holds x s = unless_done x s (is_done s.mark s.over)

marked_holds : (m : ℕ) (mark : Option ℕ) (s : Store) → Holds s (marked m mark s)
marked_holds m (Some first) s = record { frames = refl; bytes = λ few. few }
marked_holds m None s = emptied_holds (record s { mark = Some m }) s refl

pub miss_holds : (m : ℕ) (s : Store) → Holds s (miss m s)
unfolding miss
miss_holds m s = marked_holds m s.mark s
