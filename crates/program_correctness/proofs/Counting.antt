-- What a row does does not depend on the count, and each row adds 1 to it.
use Rattle.std.proofs.Common.{replicate, ◌≡◌, ℕ, ◌+◌, Bool, true, List, [], ◌∷◌, length, Option, Some, None, refl, ap, ◌∙◌, arith, slice_get}
use Rattle.std.specs.Prelude.{nat_lt, option_map, slice_index_or}
use Rattle.spec_avro.specs.declared.malformed.MalformedKind.TheVariants.{BadBranch, BadEnum}
use Rattle.spec_decoding.specs.BooleanDecoding.{boolean_at}
use Rattle.spec_avro.specs.Boolean.{boolean_byte}
use Rattle.spec_decoding.specs.Opening.{opened_blocks, opened_record}
use Rattle.spec_avro.specs.Number.{int_limit, long_limit}
use Rattle.spec_decoding.specs.NumberDecoding.{number_at}
use Rattle.spec_decoding.specs.PositionDecoding.{position_at}
use Rattle.spec_avro.specs.Shortest.{shortest}
use Rattle.spec_decoding.specs.Walk.{first_walk}
use Rattle.spec_machine.specs.declared.entry.Entry.TheVariants as entries
use Rattle.spec_machine.specs.declared.instr.Instr.{Instr}
use Rattle.spec_machine.specs.declared.instr.Instr.TheVariants as op
use Rattle.spec_machine.specs.declared.trap.Trap.TheVariants.{TooManyCalls}
use Rattle.spec_machine.specs.declared.limits.TheConstants.{MOST_CALLS}
use Rattle.spec_machine.specs.Program.{Program, constant_of, jumps_of, map_of}
use Rattle.spec_machine.specs.Row.{counted, kept, row, row_at, row_of, skipped}
use Rattle.spec_machine.specs.State.{Blocks, End, Rec, Skip, SkipBlocks, State, meter_of}
use Rattle.spec_machine.specs.Table.{added, anything, prefixed, entered, fixed, next, only_text, or_miss, trap}
use Rattle.program_correctness.proofs.Plain.{plain_row, unless_ended}
use Rattle.program_correctness.proofs.SameParts.{counted_as, same_reads, same_cond, same_current, same_adding, same_content, same_fixed, kept_same, skipped_same, same_select, same_close, same_leave, same_next, same_skip_next, same_return, same_halt, same_opens, same_entered}

abbrev one_more : State → State
one_more s = record s { count = s.count + 1 }

module _ (P : Program) (p : List ℕ) (ended : Bool) (n : ℕ) where
  abbrev c : State → State
  c s = counted_as n s

  abbrev all : Option State → Option State
  all x = option_map (counted_as n) x

  same_row : (i : Instr) (s : State) → row P p ended i (c s) ≡ all (row P p ended i s)
  same_row op.Bool s = same_adding P p ended n s (boolean_at p s.pos (meter_of s)) (λ s a to m. Some (next to (added (boolean_byte a ∷ []) s))) (λ a to m. refl)
  same_row op.Int s = same_adding P p ended n s (number_at int_limit p s.pos (meter_of s)) (λ s a to m. Some (next to (added (shortest a) s))) (λ a to m. refl)
  same_row op.Long s = same_adding P p ended n s (number_at long_limit p s.pos (meter_of s)) (λ s a to m. Some (next to (added (shortest a) s))) (λ a to m. refl)
  same_row op.Bytes s = same_current P p ended n s.store.frames s (λ s. prefixed P p ended (kept anything) s s.content) (same_content P p ended n (kept anything) (kept_same P p ended n 0).0 s s.content)
  same_row op.Text s = same_current P p ended n s.store.frames s (λ s. prefixed P p ended (kept only_text) s s.content) (same_content P p ended n (kept only_text) (kept_same P p ended n 0).1 s s.content)
  same_row (op.BytesText m) s = same_current P p ended n s.store.frames s (λ s. prefixed P p ended (kept (or_miss m)) s s.content) (same_content P p ended n (kept (or_miss m)) (kept_same P p ended n m).2 s s.content)
  same_row (op.Fixed k) s = same_current P p ended n s.store.frames s (λ s. fixed P p ended (kept anything) k s s.content) (same_fixed P p ended n (kept anything) (kept_same P p ended n 0).0 k s s.content)
  same_row (op.Enum t) s = same_adding P p ended n s (position_at BadEnum (length (map_of P t)) p s.pos (meter_of s)) (λ s a to m. Some (next to (entered (slice_index_or (map_of P t) a (entries.Position 0)) s))) (λ a to m. ap Some (same_entered P p ended n (slice_index_or (map_of P t) a (entries.Position 0)) to s))
  same_row op.SkipBool s = same_reads P p ended n s (boolean_at p s.pos (meter_of s)) (λ s a to m. Some (next to s)) (λ a to m. refl)
  same_row op.SkipInt s = same_reads P p ended n s (number_at int_limit p s.pos (meter_of s)) (λ s a to m. Some (next to s)) (λ a to m. refl)
  same_row op.SkipLong s = same_reads P p ended n s (number_at long_limit p s.pos (meter_of s)) (λ s a to m. Some (next to s)) (λ a to m. refl)
  same_row op.SkipBytes s = same_content P p ended n (skipped anything) (skipped_same P p ended n).0 s s.content
  same_row op.SkipText s = same_content P p ended n (skipped only_text) (skipped_same P p ended n).1 s s.content
  same_row (op.SkipFixed k) s = same_fixed P p ended n (skipped anything) (skipped_same P p ended n).0 k s s.content
  same_row (op.SkipEnum k) s = same_reads P p ended n s (position_at BadEnum k p s.pos (meter_of s)) (λ s a to m. Some (next to s)) (λ a to m. refl)
  same_row (op.Put x) s = same_current P p ended n s.store.frames s (λ s. Some (next s.pos (added (constant_of P x) s))) refl
  same_row (op.Record k) s = same_opens P p ended n s (opened_record s.pos (meter_of s)) (Rec None (replicate k []))
  same_row (op.Slot j) s = same_select P p ended n j s s.store.frames
  same_row op.EndRecord s = same_close P p ended n s s.store.frames
  same_row op.Enter s = same_opens P p ended n s (opened_record s.pos (meter_of s)) Skip
  same_row op.Leave s = same_leave P p ended n s s.store.frames
  same_row op.Blocks s = same_opens P p ended n s (opened_blocks s.pos (meter_of s)) (Blocks (first_walk s.pos) 0 [])
  same_row (op.Next a) s = same_next P p ended n a s s.store.frames
  same_row op.SkipBlocks s = same_opens P p ended n s (opened_blocks s.pos (meter_of s)) (SkipBlocks (first_walk s.pos))
  same_row (op.SkipNext a) s = same_skip_next P p ended n a s s.store.frames
  same_row (op.Branch t) s = same_reads P p ended n s (position_at BadBranch (length (jumps_of P t)) p s.pos (meter_of s)) (λ s i to m. Some (record s { pc = slice_index_or (jumps_of P t) i 0; pos = to })) (λ a to m. refl)
  same_row (op.Miss m) s = refl
  same_row (op.Call a) s = same_cond P p ended n (nat_lt (length s.calls) MOST_CALLS) s (λ s. Some (record s { pc = a; calls = (s.pc + 1) ∷ s.calls })) (trap TooManyCalls) refl refl
  same_row op.Return s = same_return P p ended n s s.calls
  same_row (op.Jump a) s = refl
  same_row op.Halt s = same_halt P p ended n s s.store.frames s.calls

  same_at : (o : Option Instr) (s : State) → row_at P p ended o (c s) ≡ all (row_at P p ended o s)
  same_at (Some i) s = same_row i s
  same_at None s = refl

-- ---- with the count

module _ (P : Program) (p : List ℕ) where
  one_counted : (n : ℕ) (x : Option State) → option_map one_more (option_map (counted_as n) x) ≡ option_map (counted_as (n + 1)) x
  one_counted n None = refl
  one_counted n (Some d) = refl

  -- a row is the row before it is counted, and 1 more
  pub row_counted : (n : ℕ) (s : State) → row_of P p true (counted_as n s) ≡ option_map (counted_as (n + 1)) (plain_row P p s)
  unfolding row_of plain_row
  row_counted n s = by_end s.end
    where
      by_end : (e : Option End) → counted P p true e (counted_as n s) ≡ option_map (counted_as (n + 1)) (unless_ended P p e s)
      by_end (Some e) = refl
      by_end None = ap (option_map one_more) (same_at P p true n (slice_get P.code s.pc) s) ∙ one_counted n (row_at P p true (slice_get P.code s.pc) s)

  count_in : Option State → ℕ
  count_in None = 0
  count_in (Some y) = y.count

  own_count : (s d : State) (x : Option State) → x ≡ option_map (counted_as s.count) x → option_map one_more x ≡ Some d → d.count ≡ s.count + 1
  unfolding count_in
  own_count s d None h e = absurd cc
  own_count s d (Some y) h e =
      let count : y.count ≡ s.count = ap count_in h in
      let last : y.count + 1 ≡ d.count = ap count_in e in
      omega (arith, count, last)

  pub row_adds_one : (ended : Bool) (s d : State) → row_of P p ended s ≡ Some d → d.count ≡ s.count + 1
  unfolding row_of
  row_adds_one ended s d e = by_end s.end e
    where
      by_end : (o : Option End) → counted P p ended o s ≡ Some d → d.count ≡ s.count + 1
      by_end (Some o) e = absurd cc
      by_end None e = own_count s d (row_at P p ended (slice_get P.code s.pc) s) (same_at P p ended s.count (slice_get P.code s.pc) s) e
