-- A run stays inside its payload.
use Rattle.std.proofs.Common.{replicate, ◌≡◌, ℕ, ◌+◌, ◌≤◌, true, List, [], ◌∷◌, length, Option, Some, None, subst, slice_get}
use Rattle.std.specs.Prelude.{nat_lt, slice_index_or}
use Rattle.spec_avro.specs.declared.malformed.MalformedKind.TheVariants.{BadBranch, BadEnum}
use Rattle.spec_decoding.specs.BooleanDecoding.{boolean_at}
use Rattle.spec_avro.specs.Boolean.{boolean_byte}
use Rattle.spec_decoding.specs.Opening.{opened_blocks, opened_record}
use Rattle.spec_avro.specs.Number.{int_limit, long_limit}
use Rattle.spec_decoding.specs.NumberDecoding.{number_at}
use Rattle.spec_decoding.specs.PositionDecoding.{position_at}
use Rattle.spec_avro.specs.Shortest.{shortest}
use Rattle.spec_decoding.specs.Walk.{first_walk}
use Rattle.spec_machine.specs.declared.entry.Entry.TheVariants as entries
use Rattle.spec_machine.specs.declared.instr.Instr.{Instr}
use Rattle.spec_machine.specs.declared.instr.Instr.TheVariants as op
use Rattle.spec_machine.specs.declared.limits.TheConstants.{MOST_CALLS}
use Rattle.spec_machine.specs.Program.{Program, jumps_of, map_of}
use Rattle.spec_machine.specs.Row.{kept, row, row_at, skipped}
use Rattle.spec_machine.specs.State.{Blocks, End, Rec, Skip, SkipBlocks, State, meter_of}
use Rattle.spec_machine.specs.Table.{added, anything, entered, next, only_text, or_miss}
use Rattle.program_correctness.proofs.Follow.{Takes, a_row, no_row}
use Rattle.program_correctness.proofs.InsideParts.{AllIn, In, cond_in, current_in, reads_in, opens_in, boolean_in, int_in, long_in, position_in, content_in, fixed_in, any_still, text_still, miss_still, any_skip_still, text_skip_still, select_in, close_in, leave_in, next_in, skip_next_in, entered_in, return_in, halt_in}
use Rattle.program_correctness.proofs.Plain.{plain_row, unless_ended}

module _ (P : Program) (p : List ℕ) where
  row_in : (i : Instr) (s : State) → In P p s → AllIn P p (row P p true i s)
  row_in op.Bool s i = current_in P p s.store.frames s _ i (reads_in P p s (boolean_at p s.pos (meter_of s)) (λ b to m. Some (next to (added (boolean_byte b ∷ []) s))) i (λ b to m e. boolean_in P p s b to m i e))
  row_in op.Int s i = current_in P p s.store.frames s _ i (reads_in P p s (number_at int_limit p s.pos (meter_of s)) (λ n to m. Some (next to (added (shortest n) s))) i (λ n to m e. int_in P p s n to m i e))
  row_in op.Long s i = current_in P p s.store.frames s _ i (reads_in P p s (number_at long_limit p s.pos (meter_of s)) (λ n to m. Some (next to (added (shortest n) s))) i (λ n to m e. long_in P p s n to m i e))
  row_in op.Bytes s i = current_in P p s.store.frames s _ i (content_in P p (kept anything) (any_still P p) s s.content i)
  row_in op.Text s i = current_in P p s.store.frames s _ i (content_in P p (kept only_text) (text_still P p) s s.content i)
  row_in (op.BytesText m) s i = current_in P p s.store.frames s _ i (content_in P p (kept (or_miss m)) (miss_still P p m) s s.content i)
  row_in (op.Fixed n) s i = current_in P p s.store.frames s _ i (fixed_in P p (kept anything) (any_still P p) n s s.content i)
  row_in (op.Enum t) s i = current_in P p s.store.frames s _ i (reads_in P p s (position_at BadEnum (length (map_of P t)) p s.pos (meter_of s)) (λ n to m. Some (next to (entered (slice_index_or (map_of P t) n (entries.Position 0)) s))) i (λ n to m e. entered_in P p (slice_index_or (map_of P t) n (entries.Position 0)) to s (position_in P p BadEnum (length (map_of P t)) s n to m i e)))
  row_in op.SkipBool s i = reads_in P p s (boolean_at p s.pos (meter_of s)) (λ b to m. Some (next to s)) i (λ b to m e. boolean_in P p s b to m i e)
  row_in op.SkipInt s i = reads_in P p s (number_at int_limit p s.pos (meter_of s)) (λ b to m. Some (next to s)) i (λ n to m e. int_in P p s n to m i e)
  row_in op.SkipLong s i = reads_in P p s (number_at long_limit p s.pos (meter_of s)) (λ b to m. Some (next to s)) i (λ n to m e. long_in P p s n to m i e)
  row_in op.SkipBytes s i = content_in P p (skipped anything) (any_skip_still P p) s s.content i
  row_in op.SkipText s i = content_in P p (skipped only_text) (text_skip_still P p) s s.content i
  row_in (op.SkipFixed n) s i = fixed_in P p (skipped anything) (any_skip_still P p) n s s.content i
  row_in (op.SkipEnum n) s i = reads_in P p s (position_at BadEnum n p s.pos (meter_of s)) (λ b to m. Some (next to s)) i (λ k to m e. position_in P p BadEnum n s k to m i e)
  row_in (op.Put x) s i = current_in P p s.store.frames s _ i i
  row_in (op.Record k) s i = opens_in P p s (opened_record s.pos (meter_of s)) (Rec None (replicate k [])) i
  row_in (op.Slot j) s i = select_in P p j s s.store.frames i
  row_in op.EndRecord s i = close_in P p s s.store.frames i
  row_in op.Enter s i = opens_in P p s (opened_record s.pos (meter_of s)) Skip i
  row_in op.Leave s i = leave_in P p s s.store.frames i
  row_in op.Blocks s i = opens_in P p s (opened_blocks s.pos (meter_of s)) (Blocks (first_walk s.pos) 0 []) i
  row_in (op.Next a) s i = next_in P p a s s.store.frames i
  row_in op.SkipBlocks s i = opens_in P p s (opened_blocks s.pos (meter_of s)) (SkipBlocks (first_walk s.pos)) i
  row_in (op.SkipNext a) s i = skip_next_in P p a s s.store.frames i
  row_in (op.Branch t) s i = reads_in P p s (position_at BadBranch (length (jumps_of P t)) p s.pos (meter_of s)) (λ n to m. Some (record s { pc = slice_index_or (jumps_of P t) n 0; pos = to })) i (λ n to m e. position_in P p BadBranch (length (jumps_of P t)) s n to m i e)
  row_in (op.Miss m) s i = i
  row_in (op.Call a) s i = cond_in P p (nat_lt (length s.calls) MOST_CALLS) (Some (record s { pc = a; calls = (s.pc + 1) ∷ s.calls })) _ i i
  row_in op.Return s i = return_in P p s s.calls i
  row_in (op.Jump a) s i = i
  row_in op.Halt s i = halt_in P p s s.store.frames s.calls i

  at_in : (o : Option Instr) (s : State) → In P p s → AllIn P p (row_at P p true o s)
  at_in (Some instr) s i = row_in instr s i
  at_in None s i = i

  plain_in : (s : State) → In P p s → AllIn P p (plain_row P p s)
  unfolding plain_row
  plain_in s i = by_end s.end
    where
      by_end : (e : Option End) → AllIn P p (unless_ended P p e s)
      by_end (Some e) = tt
      by_end None = at_in (slice_get P.code s.pc) s i

  pub row_inside : (s d : State) → plain_row P p s ≡ Some d → s.pos ≤ length p → d.pos ≤ length p
  row_inside s d e i = subst (AllIn P p) e (plain_in s i)

  pub takes_inside : (L n : ℕ) (s d : State) → Takes P p L n s d → s.pos ≤ length p → d.pos ≤ length p
  takes_inside L n s d no_row i = i
  takes_inside L n s d (a_row e r others) i = takes_inside L _ e d others (row_inside s e r i)
