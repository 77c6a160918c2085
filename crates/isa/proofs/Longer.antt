-- A row that is defined on an input that may go on is the same on every longer input, ended or not.
use Rattle.std.proofs.Common.{replicate, ◌≡◌, ◌≢◌, ℕ, zero, suc, ◌+◌, ◌-◌, ◌≤◌, Bool, true, false, cond, List, [], ◌∷◌, ◌++◌, length, take, drop, Option, Some, None, refl, ap, ◌∙◌, subst, arith, slice_get, min, length-append, length-drop}
use Rattle.std.specs.Prelude.{nat_lt, slice_index_or, option_map}
use Rattle.std.proofs.lemmas.List.{drop-append-le, take-append-le}
use Rattle.spec_avro.specs.declared.meter.Meter.{Meter}
use Rattle.spec_avro.specs.declared.malformed.MalformedKind.TheVariants.{BadBranch, BadEnum, Trailing}
use Rattle.spec_decoding.specs.BlockDecoding.{next_item}
use Rattle.spec_decoding.specs.BooleanDecoding.{boolean_at}
use Rattle.spec_avro.specs.Boolean.{boolean_byte}
use Rattle.spec_decoding.specs.Decoding.{Decoding, Complete, Failed}
use Rattle.spec_avro.specs.Defect.{Malformed, Need}
use Rattle.spec_decoding.specs.LengthDecoding.{length_at}
use Rattle.spec_avro.specs.Number.{int_limit, long_limit}
use Rattle.spec_decoding.specs.NumberDecoding.{number_at}
use Rattle.spec_decoding.specs.PositionDecoding.{position_at}
use Rattle.spec_avro.specs.Shortest.{shortest}
use Rattle.spec_decoding.specs.Walk.{first_walk}
use Rattle.avro_bytes.specs.Laws.BlocksSame.{walk_steady}
use Rattle.avro_bytes.specs.Laws.Booleans.{boolean_steady}
use Rattle.avro_bytes.specs.Laws.Lengths.{length_steady}
use Rattle.avro_bytes.specs.Laws.Numbers.{number_steady}
use Rattle.avro_bytes.specs.Laws.Positions.{position_steady}
use Rattle.spec_avro.specs.Outcome as outcomes
use Rattle.spec_machine.specs.declared.entry.Entry.TheVariants as entries
use Rattle.spec_machine.specs.declared.instr.Instr.{Instr}
use Rattle.spec_machine.specs.declared.instr.Instr.TheVariants as op
use Rattle.spec_machine.specs.declared.trap.Trap.TheVariants.{NoBuffer}
use Rattle.spec_machine.specs.declared.limits.TheConstants.{MOST_CHUNK}
use Rattle.spec_machine.specs.Program.{Program, jumps_of, map_of}
use Rattle.spec_machine.specs.State.{Blocks, End, Frame, Out, Content, Rec, Skip, SkipBlocks, State, has_current, meter_of}
use Rattle.spec_machine.specs.Table.{Move, added, anything, begun, prefixed, ends_content, entered, finished, fixed, gathered, halt, if_current, moved, moves, next, next_of, only_text, or_miss, passed, pushed, reads, skip_next_of, stop, trap, wait}
use Rattle.spec_machine.specs.Row.{counted, kept, row, row_at, row_of, skipped}
use Rattle.isa.specs.Laws.Plain.{lt_false, lt_no}

lt_more : (a b c : ℕ) → nat_lt a b ≡ true → b ≤ c → nat_lt a c ≡ true
lt_more a b c h le = grind arith

a_chunk : (k l : ℕ) → nat_lt k l ≡ true → min k l ≡ k
a_chunk k l h = grind arith

the_rest : (k l : ℕ) → nat_lt k l ≡ false → min k l ≡ l
the_rest k l h = grind arith

-- what was defined stays
abbrev Kept : Option State → Option State → Type 0
Kept None y = Unit {0}
Kept (Some d) y = y ≡ Some d

same : (x : Option State) → Kept x x
same None = tt
same (Some d) = refl

kept_as : (x y z : Option State) → Kept x y → z ≡ y → Kept x z
kept_as None y z k e = tt
kept_as (Some d) y z k e = e ∙ k

kept_cond : (b : Bool) (x x' y : Option State) → Kept x x' → Kept (cond b x y) (cond b x' y)
kept_cond true x x' y h = h
kept_cond false x x' y h = same y

module _ (P : Program) (p q : List ℕ) (ended : Bool) where
  abbrev r : List ℕ
  r = p ++ q

  reads_kept : {A : Type 0} (s : State) (g g' : Decoding A) (go go' : A → ℕ → Meter → Option State) → (g ≢ Failed Need → g' ≡ g) → ((a : A) (to : ℕ) (m : Meter) → Kept (go a to m) (go' a to m)) → Kept (reads P p false s g go) (reads P r ended s g' go')
  reads_kept s (Complete a to m) g' go go' h k = kept_as (go a to m) (go' a to m) _ (k a to m) (ap (λ (x : Decoding _). reads P r ended s x go') (h (λ x. absurd cc)))
  reads_kept s (Failed (Malformed kind at)) g' go go' h k = ap (λ (x : Decoding _). reads P r ended s x go') (h (λ x. absurd cc))
  reads_kept s (Failed Need) g' go go' h k = tt

  -- the same row after what is read
  read_kept : {A : Type 0} (s : State) (g g' : Decoding A) (go : A → ℕ → Meter → Option State) → (g ≢ Failed Need → g' ≡ g) → Kept (reads P p false s g go) (reads P r ended s g' go)
  read_kept s g g' go h = reads_kept s g g' go go h (λ a to m. same (go a to m))

  -- bytes within the shorter input
  part_same : (from to k : ℕ) → k ≡ to - from → to ≤ length p → take k (drop from r) ≡ take k (drop from p)
  part_same from to zero e le = refl
  part_same from to (suc k) e le = ap (take (suc k)) (drop-append-le from p q (omega arith)) ∙ take-append-le (suc k) (drop from p) q (omega (arith, length-drop from p))

  moved_kept : (move : Move) (content : Content) (k : ℕ) (s : State) → s.pos + k ≤ length p → moved P r ended move content k s ≡ moved P p false move content k s
  moved_kept move content k s le = rw (part_same s.pos (s.pos + k) k (omega arith) le) refl

  ends_kept : (move : Move) (content : Content) (s : State) → s.pos + content.left ≤ length p → ends_content P r ended move content s ≡ ends_content P p false move content s
  ends_kept move content s le =
      let bytes = part_same s.pos (s.pos + content.left) content.left (omega arith) le in
      let whole = part_same content.from (s.pos + content.left) (s.pos + content.left - content.from) refl le in
      rw (bytes, whole) refl

  moves_kept : (move : Move) (content : Content) (s : State) → Kept (moves P p false move content s) (moves P r ended move content s)
  moves_kept move content s = by_test (nat_lt (length p) (s.pos + min MOST_CHUNK content.left)) refl
    where
      to_p : Bool → Option State
      to_p b = cond b (Some (moved P p false move content MOST_CHUNK s)) (ends_content P p false move content s)

      by_size : (b : Bool) → nat_lt MOST_CHUNK content.left ≡ b → s.pos + min MOST_CHUNK content.left ≤ length p
          → cond b (Some (moved P r ended move content MOST_CHUNK s)) (ends_content P r ended move content s) ≡ cond b (Some (moved P p false move content MOST_CHUNK s)) (ends_content P p false move content s)
      by_size true e le = ap Some (moved_kept move content MOST_CHUNK s (omega (arith, le, a_chunk MOST_CHUNK content.left e)))
      by_size false e le = ends_kept move content s (omega (arith, le, the_rest MOST_CHUNK content.left e))

      by_test : (b : Bool) → nat_lt (length p) (s.pos + min MOST_CHUNK content.left) ≡ b → Kept (cond b (wait P p false s) (cond (nat_lt MOST_CHUNK content.left) (Some (moved P p false move content MOST_CHUNK s)) (ends_content P p false move content s))) (moves P r ended move content s)
      by_test true h = tt
      by_test false h =
          let le : s.pos + min MOST_CHUNK content.left ≤ length p = lt_false _ _ h in
          let fits : nat_lt (length r) (s.pos + min MOST_CHUNK content.left) ≡ false = lt_no _ _ (omega (arith, le, length-append p q)) in
          let x = cond (nat_lt MOST_CHUNK content.left) (Some (moved P p false move content MOST_CHUNK s)) (ends_content P p false move content s) in
          kept_as x x _ (same x) (rw fits (by_size (nat_lt MOST_CHUNK content.left) refl le))

  content_kept : (move : Move) (s : State) (content : Option Content) → s.pos ≤ length p → Kept (prefixed P p false move s content) (prefixed P r ended move s content)
  content_kept move s None i = read_kept s (length_at p s.pos (meter_of s)) (length_at r s.pos (meter_of s)) (λ n to m. Some (begun move n to s)) (length_steady p q s.pos (meter_of s) i)
  content_kept move s (Some content) i = moves_kept move content s

  fixed_kept : (move : Move) (n : ℕ) (s : State) (content : Option Content) → Kept (fixed P p false move n s content) (fixed P r ended move n s content)
  fixed_kept move zero s None = refl
  fixed_kept move (suc n) s None = moves_kept move (record { left = suc n; from = s.pos }) s
  fixed_kept move zero s (Some content) = moves_kept move content s
  fixed_kept move (suc n) s (Some content) = moves_kept move content s

  next_kept : (a : ℕ) (s : State) (frames : List Frame) → s.pos ≤ length p → Kept (next_of P p false a s frames) (next_of P r ended a s frames)
  next_kept a s [] i = refl
  next_kept a s (Rec cur slots ∷ frames) i = refl
  next_kept a s (Skip ∷ frames) i = refl
  next_kept a s (SkipBlocks walk ∷ frames) i = refl
  next_kept a s (Blocks walk items buffer ∷ frames) i = read_kept s (next_item walk p s.pos (meter_of s)) (next_item walk r s.pos (meter_of s)) (gathered a s items buffer frames) (walk_steady walk p q s.pos (meter_of s) i)

  skip_next_kept : (a : ℕ) (s : State) (frames : List Frame) → s.pos ≤ length p → Kept (skip_next_of P p false a s frames) (skip_next_of P r ended a s frames)
  skip_next_kept a s [] i = refl
  skip_next_kept a s (Rec cur slots ∷ frames) i = refl
  skip_next_kept a s (Skip ∷ frames) i = refl
  skip_next_kept a s (Blocks walk items buffer ∷ frames) i = refl
  skip_next_kept a s (SkipBlocks walk ∷ frames) i = read_kept s (next_item walk p s.pos (meter_of s)) (next_item walk r s.pos (meter_of s)) (passed a s frames) (walk_steady walk p q s.pos (meter_of s) i)

  halt_kept : (s : State) (frames : List Frame) (calls : List ℕ) → Kept (halt P p false s frames calls) (halt P r ended s frames calls)
  halt_kept s [] [] = by_test (nat_lt s.pos (length p)) refl
    where
      by_test : (b : Bool) → nat_lt s.pos (length p) ≡ b → Kept (cond b (stop (Out (outcomes.Malformed Trailing s.pos)) s) None) (cond (nat_lt s.pos (length r)) (stop (Out (outcomes.Malformed Trailing s.pos)) s) (cond ended (finished P s s.store.mark s.store.over) None))
      by_test true h = let longer : nat_lt s.pos (length r) ≡ true = lt_more s.pos (length p) (length r) h (omega (arith, length-append p q)) in rw longer refl
      by_test false h = tt
  halt_kept s [] (c ∷ calls) = refl
  halt_kept s (f ∷ frames) [] = refl
  halt_kept s (f ∷ frames) (c ∷ calls) = refl

  -- with a buffer, or the same trap
  with_kept : (s : State) (x x' : Option State) → Kept x x' → Kept (if_current s.store.frames s x) (if_current s.store.frames s x')
  with_kept s x x' h = kept_cond (has_current s.store.frames) x x' (trap NoBuffer s) h

  abbrev at : State → Meter
  at s = meter_of s

  row_kept : (i : Instr) (s : State) → s.pos ≤ length p → Kept (row P p false i s) (row P r ended i s)
  row_kept op.Bool s i = with_kept s _ _ (read_kept s (boolean_at p s.pos (at s)) (boolean_at r s.pos (at s)) (λ b to m. Some (next to (added (boolean_byte b ∷ []) s))) (boolean_steady p q s.pos (at s) i))
  row_kept op.Int s i = with_kept s _ _ (read_kept s (number_at int_limit p s.pos (at s)) (number_at int_limit r s.pos (at s)) (λ n to m. Some (next to (added (shortest n) s))) (number_steady int_limit p q s.pos (at s) i))
  row_kept op.Long s i = with_kept s _ _ (read_kept s (number_at long_limit p s.pos (at s)) (number_at long_limit r s.pos (at s)) (λ n to m. Some (next to (added (shortest n) s))) (number_steady long_limit p q s.pos (at s) i))
  row_kept op.Bytes s i = with_kept s _ _ (content_kept (kept anything) s s.content i)
  row_kept op.Text s i = with_kept s _ _ (content_kept (kept only_text) s s.content i)
  row_kept (op.BytesText m) s i = with_kept s _ _ (content_kept (kept (or_miss m)) s s.content i)
  row_kept (op.Fixed n) s i = with_kept s _ _ (fixed_kept (kept anything) n s s.content)
  row_kept (op.Enum t) s i = with_kept s _ _ (read_kept s (position_at BadEnum (length (map_of P t)) p s.pos (at s)) (position_at BadEnum (length (map_of P t)) r s.pos (at s)) (λ k to m. Some (next to (entered (slice_index_or (map_of P t) k (entries.Position 0)) s))) (position_steady BadEnum (length (map_of P t)) p q s.pos (at s) i))
  row_kept op.SkipBool s i = read_kept s (boolean_at p s.pos (at s)) (boolean_at r s.pos (at s)) (λ b to m. Some (next to s)) (boolean_steady p q s.pos (at s) i)
  row_kept op.SkipInt s i = read_kept s (number_at int_limit p s.pos (at s)) (number_at int_limit r s.pos (at s)) (λ b to m. Some (next to s)) (number_steady int_limit p q s.pos (at s) i)
  row_kept op.SkipLong s i = read_kept s (number_at long_limit p s.pos (at s)) (number_at long_limit r s.pos (at s)) (λ b to m. Some (next to s)) (number_steady long_limit p q s.pos (at s) i)
  row_kept op.SkipBytes s i = content_kept (skipped anything) s s.content i
  row_kept op.SkipText s i = content_kept (skipped only_text) s s.content i
  row_kept (op.SkipFixed n) s i = fixed_kept (skipped anything) n s s.content
  row_kept (op.SkipEnum n) s i = read_kept s (position_at BadEnum n p s.pos (at s)) (position_at BadEnum n r s.pos (at s)) (λ b to m. Some (next to s)) (position_steady BadEnum n p q s.pos (at s) i)
  row_kept (op.Put c) s i = same (row P p false (op.Put c) s)
  row_kept (op.Record k) s i = read_kept s _ _ (λ u to m. Some (next to (pushed (Rec None (replicate k [])) m s))) (λ c. refl)
  row_kept (op.Slot j) s i = same (row P p false (op.Slot j) s)
  row_kept op.EndRecord s i = same (row P p false op.EndRecord s)
  row_kept op.Enter s i = read_kept s _ _ (λ u to m. Some (next to (pushed Skip m s))) (λ c. refl)
  row_kept op.Leave s i = same (row P p false op.Leave s)
  row_kept op.Blocks s i = read_kept s _ _ (λ u to m. Some (next to (pushed (Blocks (first_walk s.pos) 0 []) m s))) (λ c. refl)
  row_kept (op.Next a) s i = next_kept a s s.store.frames i
  row_kept op.SkipBlocks s i = read_kept s _ _ (λ u to m. Some (next to (pushed (SkipBlocks (first_walk s.pos)) m s))) (λ c. refl)
  row_kept (op.SkipNext a) s i = skip_next_kept a s s.store.frames i
  row_kept (op.Branch t) s i = read_kept s (position_at BadBranch (length (jumps_of P t)) p s.pos (at s)) (position_at BadBranch (length (jumps_of P t)) r s.pos (at s)) (λ k to m. Some (record s { pc = slice_index_or (jumps_of P t) k 0; pos = to })) (position_steady BadBranch (length (jumps_of P t)) p q s.pos (at s) i)
  row_kept (op.Miss m) s i = same (row P p false (op.Miss m) s)
  row_kept (op.Call a) s i = same (row P p false (op.Call a) s)
  row_kept op.Return s i = same (row P p false op.Return s)
  row_kept (op.Jump a) s i = same (row P p false (op.Jump a) s)
  row_kept op.Halt s i = halt_kept s s.store.frames s.calls

  at_kept : (o : Option Instr) (s : State) → s.pos ≤ length p → Kept (row_at P p false o s) (row_at P r ended o s)
  at_kept (Some instr) s i = row_kept instr s i
  at_kept None s i = refl

  counted_kept : (x y : Option State) → Kept x y → Kept (option_map (λ (new : State). record new { count = new.count + 1 }) x) (option_map (λ (new : State). record new { count = new.count + 1 }) y)
  counted_kept None y h = tt
  counted_kept (Some d) y h = ap (option_map (λ (new : State). record new { count = new.count + 1 })) h

  end_kept : (e : Option End) (s : State) → s.pos ≤ length p → Kept (counted P p false e s) (counted P r ended e s)
  end_kept (Some e) s i = tt
  end_kept None s i = counted_kept (row_at P p false (slice_get P.code s.pc) s) (row_at P r ended (slice_get P.code s.pc) s) (at_kept (slice_get P.code s.pc) s i)

  -- the law
  pub row_longer : (s d : State) → s.pos ≤ length p → row_of P p false s ≡ Some d → row_of P (p ++ q) ended s ≡ Some d
  unfolding row_of
  row_longer s d i e = subst (λ (x : Option State). Kept x (row_of P (p ++ q) ended s)) e (end_kept s.end s i)
