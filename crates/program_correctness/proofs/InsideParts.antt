-- The parts of rows stay inside the payload.
use Rattle.std.proofs.Common.{◌≡◌, ℕ, zero, suc, ◌+◌, ◌-◌, ◌≤◌, Bool, true, false, cond, List, [], ◌∷◌, length, take, drop, Option, Some, None, Result, refl, sym, subst, arith, lit<, min}
use Rattle.std.specs.Prelude.{nat_lt}
use Rattle.std.specs.Str.{is_utf8}
use Rattle.spec_decoding.specs.declared.fault.Fault.{Fault}
use Rattle.spec_avro.specs.declared.meter.Meter.{Meter}
use Rattle.spec_decoding.specs.BlockDecoding.{next_item}
use Rattle.spec_decoding.specs.BooleanDecoding.{boolean_at}
use Rattle.spec_decoding.specs.Decoding.{Decoding, Complete, Failed, inside}
use Rattle.spec_avro.specs.Defect.{Malformed, Need}
use Rattle.spec_decoding.specs.LengthDecoding.{length_at}
use Rattle.spec_avro.specs.Number.{int_limit, long_limit}
use Rattle.spec_decoding.specs.NumberDecoding.{number_at}
use Rattle.spec_decoding.specs.PositionDecoding.{position_at}
use Rattle.spec_decoding.specs.Walk.{Walk}
use Rattle.avro_bytes.specs.Laws.Binds.{stands_within}
use Rattle.avro_bytes.specs.Laws.BlockEnds.{end_sound}
use Rattle.avro_bytes.specs.Laws.BlockSteps.{step_sound}
use Rattle.avro_bytes.specs.Laws.Booleans.{boolean_sound}
use Rattle.avro_bytes.specs.Laws.Lengths.{length_sound}
use Rattle.avro_bytes.specs.Laws.Numbers.{number_sound}
use Rattle.avro_bytes.specs.Laws.Positions.{position_sound}
use Rattle.spec_machine.specs.declared.entry.Entry.{Entry}
use Rattle.spec_machine.specs.declared.entry.Entry.TheVariants as entries
use Rattle.spec_machine.specs.declared.limits.TheConstants.{MOST_CHUNK}
use Rattle.spec_machine.specs.Program.{Program}
use Rattle.spec_machine.specs.Row.{kept, skipped}
use Rattle.spec_machine.specs.State.{Blocks, Frame, Content, Rec, Skip, SkipBlocks, State, has_current, meter_of}
use Rattle.spec_machine.specs.Table.{Move, anything, begun, close_record, prefixed, ends_content, entered, finished, fixed, gathered, halt, if_current, leave, moved, moves, next, next_of, only_text, opens, or_miss, passed, pushed, reads, return, select, skip_next_of, wait, with_frames}
use Rattle.program_correctness.proofs.Numbers.{least_is_first, least_is_second}
use Rattle.isa.specs.Laws.Plain.{lt_false}
use Rattle.program_correctness.proofs.Opening.{opening_is}

module _ (P : Program) (p : List ℕ) where
  abbrev pub In : State → Type 0
  In s = s.pos ≤ length p

  -- what a row may give
  abbrev pub AllIn : Option State → Type 0
  AllIn None = Unit {0}
  AllIn (Some d) = In d

  pub cond_in : (b : Bool) (x y : Option State) → AllIn x → AllIn y → AllIn (cond b x y)
  cond_in true x y h k = h
  cond_in false x y h k = k

  pub current_in : (frames : List Frame) (s : State) (x : Option State) → In s → AllIn x → AllIn (if_current frames s x)
  current_in frames s x i h = cond_in (has_current frames) x _ h i

  pub reads_in : {A : Type 0} (s : State) (g : Decoding A) (go : A → ℕ → Meter → Option State) → In s → ((a : A) (to : ℕ) (m : Meter) → g ≡ Complete a to m → AllIn (go a to m)) → AllIn (reads P p true s g go)
  reads_in s (Complete a to m) go i h = h a to m refl
  reads_in s (Failed (Malformed kind at)) go i h = i
  reads_in s (Failed Need) go i h = i

  pub opens_in : (s : State) (r : Result Meter Fault) (frame : Frame) → In s → AllIn (opens P p true s r frame)
  opens_in s r frame i = reads_in s (inside r (λ m. Complete s.pos s.pos m)) (λ a to m. Some (next to (pushed frame m s))) i (λ a to m e. subst (λ (k : ℕ). k ≤ length p) (sym (opening_is r s.pos a to m e).1) i)

  pub boolean_in : (s : State) (b : Bool) (to : ℕ) (m : Meter) → In s → boolean_at p s.pos (meter_of s) ≡ Complete b to m → to ≤ length p
  boolean_in s b to m i e = stands_within _ p s.pos to i (boolean_sound p s.pos (meter_of s) b to m e).0

  pub int_in : (s : State) (n : _) (to : ℕ) (m : Meter) → In s → number_at int_limit p s.pos (meter_of s) ≡ Complete n to m → to ≤ length p
  int_in s n to m i e = stands_within _ p s.pos to i (number_sound int_limit p s.pos (meter_of s) n to m (lit< tt) e).0

  pub long_in : (s : State) (n : _) (to : ℕ) (m : Meter) → In s → number_at long_limit p s.pos (meter_of s) ≡ Complete n to m → to ≤ length p
  long_in s n to m i e = stands_within _ p s.pos to i (number_sound long_limit p s.pos (meter_of s) n to m (lit< tt) e).0

  pub position_in : (bad : _) (many : ℕ) (s : State) (n to : ℕ) (m : Meter) → In s → position_at bad many p s.pos (meter_of s) ≡ Complete n to m → to ≤ length p
  position_in bad many s n to m i e = stands_within _ p s.pos to i (position_sound bad many p s.pos (meter_of s) n to m e).0

  item_in : (walk : Walk) (s : State) (o : Option Walk) (to : ℕ) (m : Meter) → In s → next_item walk p s.pos (meter_of s) ≡ Complete o to m → to ≤ length p
  item_in walk s None to m i e = stands_within _ p s.pos to i (end_sound walk p s.pos (meter_of s) to m e)
  item_in walk s (Some other) to m i e = stands_within _ p s.pos to i (step_sound walk p s.pos (meter_of s) other to m e)

  -- ---- contents

  -- bytes that move change no place
  pub record IsStill (move : Move) : Type 0 where
    pub unless : (from : ℕ) (old new : State) → In old → In new → AllIn (move.unless_text from old new)

  module _ (move : Move) (still : IsStill move) where
    ends_in : (content : Content) (s : State) → In s → s.pos + content.left ≤ length p → AllIn (ends_content P p true move content s)
    ends_in content s i h = cond_in (is_utf8 (take (s.pos + content.left - content.from) (drop content.from p))) _ _ h (still.unless content.from s _ i h)

    moves_in : (content : Content) (s : State) → In s → AllIn (moves P p true move content s)
    moves_in content s i = by_length (nat_lt (length p) (s.pos + min MOST_CHUNK content.left)) refl
      where
        by_chunk : s.pos + min MOST_CHUNK content.left ≤ length p → (b : Bool) → nat_lt MOST_CHUNK content.left ≡ b → AllIn (cond b (Some (moved P p true move content MOST_CHUNK s)) (ends_content P p true move content s))
        by_chunk le true e = omega (arith, le, least_is_first MOST_CHUNK content.left e)
        by_chunk le false e = ends_in content s i (omega (arith, le, least_is_second MOST_CHUNK content.left e))

        by_length : (b : Bool) → nat_lt (length p) (s.pos + min MOST_CHUNK content.left) ≡ b → AllIn (cond b (wait P p true s) (cond (nat_lt MOST_CHUNK content.left) (Some (moved P p true move content MOST_CHUNK s)) (ends_content P p true move content s)))
        by_length true e = i
        by_length false e = by_chunk (lt_false _ _ e) (nat_lt MOST_CHUNK content.left) refl

    begun_in : (n to : ℕ) (s : State) → to ≤ length p → In (begun move n to s)
    begun_in zero to s h = h
    begun_in (suc n) to s h = h

    pub content_in : (s : State) (content : Option Content) → In s → AllIn (prefixed P p true move s content)
    content_in s None i = reads_in s (length_at p s.pos (meter_of s)) (λ n to m. Some (begun move n to s)) i (λ n to m e. begun_in n to s (stands_within _ p s.pos to i (length_sound p s.pos (meter_of s) n to m e).0))
    content_in s (Some content) i = moves_in content s i

    pub fixed_in : (n : ℕ) (s : State) (content : Option Content) → In s → AllIn (fixed P p true move n s content)
    fixed_in zero s None i = i
    fixed_in (suc n) s None i = moves_in (record { left = suc n; from = s.pos }) s i
    fixed_in zero s (Some content) i = moves_in content s i
    fixed_in (suc n) s (Some content) i = moves_in content s i

  pub any_still : IsStill (kept anything)
  any_still = record { unless = λ from old new i h. h }

  pub text_still : IsStill (kept only_text)
  text_still = record { unless = λ from old new i h. i }

  pub miss_still : (m : ℕ) → IsStill (kept (or_miss m))
  miss_still m = record { unless = λ from old new i h. h }

  pub any_skip_still : IsStill (skipped anything)
  any_skip_still = record { unless = λ from old new i h. h }

  pub text_skip_still : IsStill (skipped only_text)
  text_skip_still = record { unless = λ from old new i h. i }

  -- ---- frames

  pub select_in : (j : ℕ) (s : State) (frames : List Frame) → In s → AllIn (select j s frames)
  select_in j s [] i = i
  select_in j s (Rec cur slots ∷ frames) i = cond_in (nat_lt j (length slots)) (Some (next s.pos (with_frames (Rec (Some j) slots ∷ frames) s))) _ i i
  select_in j s (Skip ∷ frames) i = i
  select_in j s (Blocks walk items buffer ∷ frames) i = i
  select_in j s (SkipBlocks walk ∷ frames) i = i

  pub close_in : (s : State) (frames : List Frame) → In s → AllIn (close_record s frames)
  close_in s [] i = i
  close_in s (Rec cur slots ∷ frames) i = current_in frames s _ i i
  close_in s (Skip ∷ frames) i = i
  close_in s (Blocks walk items buffer ∷ frames) i = i
  close_in s (SkipBlocks walk ∷ frames) i = i

  pub leave_in : (s : State) (frames : List Frame) → In s → AllIn (leave s frames)
  leave_in s [] i = i
  leave_in s (Rec cur slots ∷ frames) i = i
  leave_in s (Skip ∷ frames) i = i
  leave_in s (Blocks walk items buffer ∷ frames) i = i
  leave_in s (SkipBlocks walk ∷ frames) i = i

  gathered_in : (a : ℕ) (s : State) (items : ℕ) (buffer : List ℕ) (frames : List Frame) (o : Option Walk) (to : ℕ) (m : Meter) → In s → to ≤ length p → AllIn (gathered a s items buffer frames o to m)
  gathered_in a s items buffer frames (Some walk) to m i h = h
  gathered_in a s items buffer frames None to m i h = current_in frames s _ i h

  pub next_in : (a : ℕ) (s : State) (frames : List Frame) → In s → AllIn (next_of P p true a s frames)
  next_in a s [] i = i
  next_in a s (Rec cur slots ∷ frames) i = i
  next_in a s (Skip ∷ frames) i = i
  next_in a s (Blocks walk items buffer ∷ frames) i = reads_in s (next_item walk p s.pos (meter_of s)) (gathered a s items buffer frames) i (λ o to m e. gathered_in a s items buffer frames o to m i (item_in walk s o to m i e))
  next_in a s (SkipBlocks walk ∷ frames) i = i

  passed_in : (a : ℕ) (s : State) (frames : List Frame) (o : Option Walk) (to : ℕ) (m : Meter) → to ≤ length p → AllIn (passed a s frames o to m)
  passed_in a s frames (Some walk) to m h = h
  passed_in a s frames None to m h = h

  pub skip_next_in : (a : ℕ) (s : State) (frames : List Frame) → In s → AllIn (skip_next_of P p true a s frames)
  skip_next_in a s [] i = i
  skip_next_in a s (Rec cur slots ∷ frames) i = i
  skip_next_in a s (Skip ∷ frames) i = i
  skip_next_in a s (Blocks walk items buffer ∷ frames) i = i
  skip_next_in a s (SkipBlocks walk ∷ frames) i = reads_in s (next_item walk p s.pos (meter_of s)) (passed a s frames) i (λ o to m e. passed_in a s frames o to m (item_in walk s o to m i e))

  pub entered_in : (e : Entry) (to : ℕ) (s : State) → to ≤ length p → In (next to (entered e s))
  entered_in (entries.Position n) to s h = h
  entered_in (entries.Miss m) to s h = h

  pub return_in : (s : State) (calls : List ℕ) → In s → AllIn (return s calls)
  return_in s [] i = i
  return_in s (a ∷ calls) i = i

  finished_in : (s : State) (mark : Option ℕ) (over : Bool) → In s → AllIn (finished P s mark over)
  finished_in s (Some m) over i = i
  finished_in s None true i = i
  finished_in s None false i = i

  pub halt_in : (s : State) (frames : List Frame) (calls : List ℕ) → In s → AllIn (halt P p true s frames calls)
  halt_in s [] [] i = cond_in (nat_lt s.pos (length p)) _ _ i (finished_in s s.store.mark s.store.over i)
  halt_in s [] (a ∷ calls) i = i
  halt_in s (f ∷ frames) [] i = i
  halt_in s (f ∷ frames) (a ∷ calls) i = i
