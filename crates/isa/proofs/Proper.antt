-- Each row goes on within the bounds, or sets the end and changes nothing else; there is none only where more bytes
-- may come.
use Rattle.std.proofs.Common.{replicate, ◌≡◌, ◌⊎◌, inl, inr, ℕ, zero, suc, ◌+◌, ◌-◌, ◌≤◌, ◌<◌, Bool, true, false, cond, List, [], ◌∷◌, length, take, drop, Option, Some, None, Ok, Err, Result, refl, sym, ap, ◌∙◌, arith, pos, min}
use Rattle.std.specs.Prelude.{nat_lt, nat_le, slice_index_or}
use Rattle.std.specs.Str.{is_utf8}
use Rattle.spec_decoding.specs.declared.fault.Fault.{Fault}
use Rattle.spec_decoding.specs.declared.fault.Fault.TheVariants as fault
use Rattle.spec_avro.specs.declared.meter.Meter.{Meter}
use Rattle.spec_avro.specs.declared.limits.TheConstants.{MOST_DEPTH, MOST_UNITS}
use Rattle.spec_avro.specs.declared.malformed.MalformedKind.TheVariants.{BadBranch, BadEnum, TooDeep, Trailing}
use Rattle.spec_avro.specs.Blocks.{joined}
use Rattle.spec_decoding.specs.BlockDecoding.{next_item}
use Rattle.spec_decoding.specs.BooleanDecoding.{boolean_at}
use Rattle.spec_avro.specs.Boolean.{boolean_byte}
use Rattle.spec_decoding.specs.Decoding.{Decoding, Complete, Failed}
use Rattle.spec_avro.specs.Defect.{Malformed, Need}
use Rattle.spec_decoding.specs.LengthDecoding.{length_at}
use Rattle.spec_decoding.specs.Opening.{opened_blocks, opened_record}
use Rattle.spec_avro.specs.Number.{int_limit, long_limit}
use Rattle.spec_decoding.specs.NumberDecoding.{number_at}
use Rattle.spec_decoding.specs.PositionDecoding.{position_at}
use Rattle.spec_avro.specs.Shortest.{shortest}
use Rattle.spec_decoding.specs.Walk.{Walk, first_walk}
use Rattle.avro_bytes.specs.Laws.Meters.{was_opened}
use Rattle.avro_bytes.specs.Laws.Walks.{item_meter, end_meter}
use Rattle.spec_avro.specs.Outcome as outcomes
use Rattle.spec_machine.specs.declared.trap.Trap.TheVariants.{BadSlot, NoBuffer, TooManyCalls}
use Rattle.spec_machine.specs.declared.entry.Entry.{Entry}
use Rattle.spec_machine.specs.declared.entry.Entry.TheVariants as entries
use Rattle.spec_machine.specs.declared.instr.Instr.{Instr}
use Rattle.spec_machine.specs.declared.instr.Instr.TheVariants as op
use Rattle.spec_machine.specs.declared.limits.TheConstants.{MOST_CALLS, MOST_CHUNK}
use Rattle.spec_machine.specs.Program.{Program, constant_of, jumps_of, map_of}
use Rattle.spec_machine.specs.State.{Blocks, End, Frame, Content, Rec, Skip, SkipBlocks, State, Store, has_current, meter_of, add, frames_size, size_of, miss, total, Out}
use Rattle.isa.specs.Bounds.{AreBounded, IsBounded}
use Rattle.spec_machine.specs.Table.{Move, added, anything, begun, close_record, prefixed, dropped, ends_content, entered, finished, fixed, gathered, halt, if_current, items_closed, leave, missed, moved, moves, next, next_of, only_text, opens, or_miss, passed, pushed, reads, return, select, skip_next_of, stop, trap, wait, with_frames}
use Rattle.spec_machine.specs.Row.{kept, row, row_at, skipped}
use Rattle.isa.proofs.Held.{Holds, add_holds, miss_holds, new_slots}
use Rattle.isa.specs.Laws.Plain.{is_lt}

not_le : (a b : ℕ) → nat_le a b ≡ false → b < a
not_le a b h = grind arith

-- it goes on within the bounds, or only the end is set
abbrev pub Steps : State → State → Type 0
Steps s d = ((d.end ≡ None) × (IsBounded s → IsBounded d)) ⊎ (d ≡ record s { end = d.end })

abbrev pub Proper : Bool → State → Option State → Type 0
Proper ended s None = ended ≡ false
Proper ended s (Some d) = Steps s d

-- ---- what is held stays bounded

held : (s : State) (new : Store) → Holds s.store new → IsBounded s → AreBounded (length new.frames) (length s.calls) s.units (total new)
held s new h b = record { frames_few = omega (arith, h.frames, b.frames_few); calls_few = b.calls_few; units_few = b.units_few; bytes_few = h.bytes b.bytes_few }

added_bounded : (x : List ℕ) (s : State) → IsBounded s → IsBounded (added x s)
added_bounded x s b = held s (add x s.store) (add_holds x s.store) b

missed_bounded : (m : ℕ) (s : State) → IsBounded s → IsBounded (missed m s)
missed_bounded m s b = held s (miss m s.store) (miss_holds m s.store) b

-- with frames that are no more, and hold no more
framed : (s : State) (frames : List Frame) → length frames ≤ length s.store.frames → frames_size frames ≤ frames_size s.store.frames → IsBounded s → IsBounded (with_frames frames s)
framed s frames few small b = record { frames_few = omega (arith, few, b.frames_few); calls_few = b.calls_few; units_few = b.units_few; bytes_few = omega (arith, small, b.bytes_few) }

counted_units : (s : State) (units : ℕ) → units ≤ MOST_UNITS → IsBounded s → IsBounded (record s { units = units })
counted_units s units few b = record { frames_few = b.frames_few; calls_few = b.calls_few; units_few = few; bytes_few = b.bytes_few }

module _ (P : Program) (p : List ℕ) (ended : Bool) (s : State) (running : s.end ≡ None) where
  goes : (d : State) → d.end ≡ s.end → (IsBounded s → IsBounded d) → Proper ended s (Some d)
  goes d e b = inl (e ∙ running, b)

  stops : (e : End) → Proper ended s (stop e s)
  stops e = inr refl

  waits : (b : Bool) → b ≡ ended → Proper ended s (wait P p b s)
  waits true e = inr refl
  waits false e = sym e

  -- what is read, or the first fault
  reads_proper : {A : Type 0} (g : Decoding A) (go : A → ℕ → Meter → Option State) → ((a : A) (to : ℕ) (m : Meter) → g ≡ Complete a to m → Proper ended s (go a to m)) → Proper ended s (reads P p ended s g go)
  reads_proper (Complete a to m) go h = h a to m refl
  reads_proper (Failed (Malformed kind at)) go h = inr refl
  reads_proper (Failed Need) go h = waits ended refl

  current_proper : (b : Bool) (x : Option State) → Proper ended s x → Proper ended s (cond b x (trap NoBuffer s))
  current_proper true x h = h
  current_proper false x h = inr refl

  -- ---- what is opened

  pushed_bounded : (frame : Frame) (m : Meter) → size_of frame ≡ 0 → length s.store.frames < MOST_DEPTH → m.units ≤ MOST_UNITS → IsBounded s → IsBounded (next s.pos (pushed frame m s))
  pushed_bounded frame m none shallow few b = record { frames_few = omega (arith, shallow); calls_few = b.calls_few; units_few = few; bytes_few = omega (arith, none, b.bytes_few) }

  opens_proper : (o : Result Meter Fault) (frame : Frame) → size_of frame ≡ 0 → ((m : Meter) → o ≡ Ok m → (length s.store.frames < MOST_DEPTH) × (IsBounded s → m.units ≤ MOST_UNITS)) → Proper ended s (opens P p ended s o frame)
  opens_proper (Ok m) frame none h = goes (next s.pos (pushed frame m s)) refl (λ b. pushed_bounded frame m none (h m refl).0 ((h m refl).1 b) b)
  opens_proper (Err (fault.Malformed kind at)) frame none h = inr refl
  opens_proper (Err fault.Need) frame none h = waits ended refl
  opens_proper (Err fault.NoMemory) frame none h = waits ended refl

  record_proper : (frame : Frame) → size_of frame ≡ 0 → Proper ended s (opens P p ended s (opened_record s.pos (meter_of s)) frame)
  record_proper frame none = opens_proper (opened_record s.pos (meter_of s)) frame none (λ m e. let o = was_opened s.pos (meter_of s) m e in (o.shallow, λ b. omega (arith, o.few, o.counted)))

  opened_when : (b : Bool) (m : Meter) → nat_le MOST_DEPTH (length s.store.frames) ≡ b → cond b (Err (fault.Malformed TooDeep s.pos)) (Ok (record { depth = length s.store.frames + 1; units = s.units })) ≡ Ok m
      → (length s.store.frames < MOST_DEPTH) × (m.units ≡ s.units)
  opened_when true m e h = absurd cc
  opened_when false m e h = let same : record { depth = length s.store.frames + 1; units = s.units } ≡ m = cc in (not_le _ _ e, sym (ap (λ (x : Meter). x.units) same))

  blocks_proper : (frame : Frame) → size_of frame ≡ 0 → Proper ended s (opens P p ended s (opened_blocks s.pos (meter_of s)) frame)
  blocks_proper frame none = opens_proper (opened_blocks s.pos (meter_of s)) frame none (λ m e. let o = opened_when (nat_le MOST_DEPTH (length s.store.frames)) m refl e in (o.0, λ b. omega (arith, o.1, b.units_few)))

  -- ---- what reads nothing

  select_proper : (j : ℕ) (frames : List Frame) → s.store.frames ≡ frames → Proper ended s (select j s frames)
  select_proper j [] e = inr refl
  select_proper j (Rec cur slots ∷ frames) e = by_test (nat_lt j (length slots))
    where
      by_test : (b : Bool) → Proper ended s (cond b (Some (next s.pos (with_frames (Rec (Some j) slots ∷ frames) s))) (trap BadSlot s))
      by_test true = goes (next s.pos (with_frames (Rec (Some j) slots ∷ frames) s)) refl (framed s (Rec (Some j) slots ∷ frames) (omega (arith, ap length e)) (omega (arith, ap frames_size e)))
      by_test false = inr refl
  select_proper j (Skip ∷ frames) e = inr refl
  select_proper j (Blocks walk items buffer ∷ frames) e = inr refl
  select_proper j (SkipBlocks walk ∷ frames) e = inr refl

  close_proper : (frames : List Frame) → s.store.frames ≡ frames → Proper ended s (close_record s frames)
  close_proper [] e = inr refl
  close_proper (Rec cur slots ∷ frames) e = current_proper (has_current frames) _ (goes (next s.pos (added (joined slots) (with_frames frames s))) refl
      (λ b. added_bounded (joined slots) (with_frames frames s) (framed s frames (omega (arith, ap length e)) (omega (arith, ap frames_size e)) b)))
  close_proper (Skip ∷ frames) e = inr refl
  close_proper (Blocks walk items buffer ∷ frames) e = inr refl
  close_proper (SkipBlocks walk ∷ frames) e = inr refl

  leave_proper : (frames : List Frame) → s.store.frames ≡ frames → Proper ended s (leave s frames)
  leave_proper [] e = inr refl
  leave_proper (Skip ∷ frames) e = goes (next s.pos (with_frames frames s)) refl (framed s frames (omega (arith, ap length e)) (omega (arith, ap frames_size e)))
  leave_proper (Rec cur slots ∷ frames) e = inr refl
  leave_proper (Blocks walk items buffer ∷ frames) e = inr refl
  leave_proper (SkipBlocks walk ∷ frames) e = inr refl

  call_proper : (a : ℕ) (b : Bool) → nat_lt (length s.calls) MOST_CALLS ≡ b → Proper ended s (cond b (Some (record s { pc = a; calls = (s.pc + 1) ∷ s.calls })) (trap TooManyCalls s))
  call_proper a true e = goes (record s { pc = a; calls = (s.pc + 1) ∷ s.calls }) refl (λ b. record { frames_few = b.frames_few; calls_few = omega (arith, is_lt _ _ e); units_few = b.units_few; bytes_few = b.bytes_few })
  call_proper a false e = inr refl

  return_proper : (calls : List ℕ) → s.calls ≡ calls → Proper ended s (return s calls)
  return_proper [] e = inr refl
  return_proper (a ∷ calls) e = goes (record s { pc = a; calls = calls }) refl (λ b. record { frames_few = b.frames_few; calls_few = omega (arith, ap length e, b.calls_few); units_few = b.units_few; bytes_few = b.bytes_few })

  -- ---- contents

  -- putting keeps the bounds, and a content that is no text goes on within them or ends the run
  record Fine (move : Move) : Type 0 where
    put_runs : (x : List ℕ) → (move.put x s).end ≡ s.end
    put_bounded : (x : List ℕ) → IsBounded s → IsBounded (move.put x s)
    told : (from : ℕ) (new : State) → new.end ≡ s.end → (IsBounded s → IsBounded new) → Proper ended s (move.unless_text from s new)

  begun_steps : (move : Move) → Fine move → (n to : ℕ) → Proper ended s (Some (begun move n to s))
  begun_steps move f zero to = goes (begun move zero to s) (f.put_runs (shortest (pos 0))) (f.put_bounded (shortest (pos 0)))
  begun_steps move f (suc n) to = goes (begun move (suc n) to s) (f.put_runs (shortest (pos (suc n)))) (f.put_bounded (shortest (pos (suc n))))

  moves_proper : (move : Move) → Fine move → (content : Content) → Proper ended s (moves P p ended move content s)
  moves_proper move f content = by_need (nat_lt (length p) (s.pos + min MOST_CHUNK content.left))
    where
      all : List ℕ
      all = take content.left (drop s.pos p)

      by_text : (b : Bool) → Proper ended s (cond b (Some (record (next (s.pos + content.left) (move.put (take content.left (drop s.pos p)) s)) { content = None })) (move.unless_text content.from s (record (next (s.pos + content.left) (move.put (take content.left (drop s.pos p)) s)) { content = None })))
      by_text true = goes (record (next (s.pos + content.left) (move.put (take content.left (drop s.pos p)) s)) { content = None }) (f.put_runs (take content.left (drop s.pos p))) (f.put_bounded (take content.left (drop s.pos p)))
      by_text false = f.told content.from (record (next (s.pos + content.left) (move.put (take content.left (drop s.pos p)) s)) { content = None }) (f.put_runs (take content.left (drop s.pos p))) (f.put_bounded (take content.left (drop s.pos p)))

      by_chunk : (b : Bool) → Proper ended s (cond b (Some (moved P p ended move content MOST_CHUNK s)) (ends_content P p ended move content s))
      by_chunk true = goes (moved P p ended move content MOST_CHUNK s) (f.put_runs (take MOST_CHUNK (drop s.pos p))) (f.put_bounded (take MOST_CHUNK (drop s.pos p)))
      by_chunk false = by_text (is_utf8 (take (s.pos + content.left - content.from) (drop content.from p)))

      by_need : (b : Bool) → Proper ended s (cond b (wait P p ended s) (cond (nat_lt MOST_CHUNK content.left) (Some (moved P p ended move content MOST_CHUNK s)) (ends_content P p ended move content s)))
      by_need true = waits ended refl
      by_need false = by_chunk (nat_lt MOST_CHUNK content.left)

  content_proper : (move : Move) → Fine move → (content : Option Content) → Proper ended s (prefixed P p ended move s content)
  content_proper move f None = reads_proper (length_at p s.pos (meter_of s)) (λ n to m. Some (begun move n to s)) (λ n to m e. begun_steps move f n to)
  content_proper move f (Some content) = moves_proper move f content

  fixed_proper : (move : Move) → Fine move → (n : ℕ) (content : Option Content) → Proper ended s (fixed P p ended move n s content)
  fixed_proper move f zero None = goes (next s.pos s) refl (λ b. b)
  fixed_proper move f (suc n) None = moves_proper move f (record { left = suc n; from = s.pos })
  fixed_proper move f zero (Some content) = moves_proper move f content
  fixed_proper move f (suc n) (Some content) = moves_proper move f content

  fine : (put : List ℕ → State → State) (text : ℕ → State → State → Option State) → ((x : List ℕ) → (put x s).end ≡ s.end) → ((x : List ℕ) → IsBounded s → IsBounded (put x s))
      → ((from : ℕ) (new : State) → new.end ≡ s.end → (IsBounded s → IsBounded new) → Proper ended s (text from s new)) → Fine (record { put = put; unless_text = text })
  fine put text r b t = record { put_runs = r; put_bounded = b; told = t }

  fine_kept : (text : ℕ → State → State → Option State) → ((from : ℕ) (new : State) → new.end ≡ s.end → (IsBounded s → IsBounded new) → Proper ended s (text from s new)) → Fine (kept text)
  fine_kept text t = fine added text (λ x. refl) (λ x b. added_bounded x s b) t

  fine_skipped : (text : ℕ → State → State → Option State) → ((from : ℕ) (new : State) → new.end ≡ s.end → (IsBounded s → IsBounded new) → Proper ended s (text from s new)) → Fine (skipped text)
  fine_skipped text t = fine dropped text (λ x. refl) (λ x b. b) t

  told_anything : (from : ℕ) (new : State) → new.end ≡ s.end → (IsBounded s → IsBounded new) → Proper ended s (anything from s new)
  told_anything from new e b = goes new e b

  told_text : (from : ℕ) (new : State) → new.end ≡ s.end → (IsBounded s → IsBounded new) → Proper ended s (only_text from s new)
  told_text from new e b = inr refl

  told_miss : (m from : ℕ) (new : State) → new.end ≡ s.end → (IsBounded s → IsBounded new) → Proper ended s (or_miss m from s new)
  told_miss m from new e b = goes (missed m new) e (λ k. missed_bounded m new (b k))

  -- ---- blocks

  gathered_proper : (a : ℕ) (walk : Walk) (items : ℕ) (buffer : List ℕ) (frames : List Frame) → s.store.frames ≡ Blocks walk items buffer ∷ frames → (o : Option Walk) (to : ℕ) (m : Meter)
      → next_item walk p s.pos (meter_of s) ≡ Complete o to m → Proper ended s (gathered a s items buffer frames o to m)
  gathered_proper a walk items buffer frames e (Some new) to m n =
      let u = item_meter walk new p s.pos to (meter_of s) m n in
      goes (record (next to (with_frames (Blocks new (items + 1) buffer ∷ frames) s)) { units = m.units }) refl
      (λ b. counted_units (next to (with_frames (Blocks new (items + 1) buffer ∷ frames) s)) m.units (omega (arith, u.1, u.2)) (framed s (Blocks new (items + 1) buffer ∷ frames) (omega (arith, ap length e)) (omega (arith, ap frames_size e)) b))
  gathered_proper a walk items buffer frames e None to m n =
      let u = end_meter walk p s.pos to (meter_of s) m (omega (arith, ap length e)) n in
      current_proper (has_current frames) _ (goes (record (added (items_closed items buffer) (with_frames frames s)) { pc = a; pos = to; units = m.units }) refl
      (λ b. counted_units (added (items_closed items buffer) (with_frames frames s)) m.units (omega (arith, u.1, b.units_few)) (added_bounded (items_closed items buffer) (with_frames frames s) (framed s frames (omega (arith, ap length e)) (omega (arith, ap frames_size e)) b))))

  next_proper : (a : ℕ) (frames : List Frame) → s.store.frames ≡ frames → Proper ended s (next_of P p ended a s frames)
  next_proper a [] e = inr refl
  next_proper a (Blocks walk items buffer ∷ frames) e = reads_proper (next_item walk p s.pos (meter_of s)) (gathered a s items buffer frames) (gathered_proper a walk items buffer frames e)
  next_proper a (Rec cur slots ∷ frames) e = inr refl
  next_proper a (Skip ∷ frames) e = inr refl
  next_proper a (SkipBlocks walk ∷ frames) e = inr refl

  passed_proper : (a : ℕ) (walk : Walk) (frames : List Frame) → s.store.frames ≡ SkipBlocks walk ∷ frames → (o : Option Walk) (to : ℕ) (m : Meter) → next_item walk p s.pos (meter_of s) ≡ Complete o to m → Proper ended s (passed a s frames o to m)
  passed_proper a walk frames e (Some new) to m n =
      let u = item_meter walk new p s.pos to (meter_of s) m n in
      goes (record (next to (with_frames (SkipBlocks new ∷ frames) s)) { units = m.units }) refl
      (λ b. counted_units (next to (with_frames (SkipBlocks new ∷ frames) s)) m.units (omega (arith, u.1, u.2)) (framed s (SkipBlocks new ∷ frames) (omega (arith, ap length e)) (omega (arith, ap frames_size e)) b))
  passed_proper a walk frames e None to m n =
      let u = end_meter walk p s.pos to (meter_of s) m (omega (arith, ap length e)) n in
      goes (record (with_frames frames s) { pc = a; pos = to; units = m.units }) refl
      (λ b. counted_units (with_frames frames s) m.units (omega (arith, u.1, b.units_few)) (framed s frames (omega (arith, ap length e)) (omega (arith, ap frames_size e)) b))

  skip_next_proper : (a : ℕ) (frames : List Frame) → s.store.frames ≡ frames → Proper ended s (skip_next_of P p ended a s frames)
  skip_next_proper a [] e = inr refl
  skip_next_proper a (SkipBlocks walk ∷ frames) e = reads_proper (next_item walk p s.pos (meter_of s)) (passed a s frames) (passed_proper a walk frames e)
  skip_next_proper a (Rec cur slots ∷ frames) e = inr refl
  skip_next_proper a (Skip ∷ frames) e = inr refl
  skip_next_proper a (Blocks walk items buffer ∷ frames) e = inr refl

  -- ---- the end

  finished_proper : (mark : Option ℕ) (over : Bool) → Proper ended s (finished P s mark over)
  finished_proper (Some m) over = inr refl
  finished_proper None true = inr refl
  finished_proper None false = inr refl

  halt_proper : (frames : List Frame) (calls : List ℕ) → Proper ended s (halt P p ended s frames calls)
  halt_proper [] [] = by_left (nat_lt s.pos (length p))
    where
      by_end : (b : Bool) → b ≡ ended → Proper ended s (cond b (finished P s s.store.mark s.store.over) None)
      by_end true e = finished_proper s.store.mark s.store.over
      by_end false e = sym e

      by_left : (b : Bool) → Proper ended s (cond b (stop (Out (outcomes.Malformed Trailing s.pos)) s) (cond ended (finished P s s.store.mark s.store.over) None))
      by_left true = inr refl
      by_left false = by_end ended refl
  halt_proper [] (c ∷ calls) = inr refl
  halt_proper (f ∷ frames) [] = inr refl
  halt_proper (f ∷ frames) (c ∷ calls) = inr refl

  -- ---- every instruction

  with_proper : (x : Option State) → Proper ended s x → Proper ended s (if_current s.store.frames s x)
  with_proper x h = current_proper (has_current s.store.frames) x h

  entered_bounded : (e : Entry) → IsBounded s → IsBounded (entered e s)
  entered_bounded (entries.Position n) b = added_bounded (shortest (pos n)) s b
  entered_bounded (entries.Miss m) b = missed_bounded m s b

  entered_runs : (e : Entry) → (entered e s).end ≡ s.end
  entered_runs (entries.Position n) = refl
  entered_runs (entries.Miss m) = refl

  row_proper : (i : Instr) → Proper ended s (row P p ended i s)
  row_proper op.Bool = with_proper _ (reads_proper (boolean_at p s.pos (meter_of s)) (λ b to m. Some (next to (added (boolean_byte b ∷ []) s))) (λ b to m e. goes (next to (added (boolean_byte b ∷ []) s)) refl (added_bounded (boolean_byte b ∷ []) s)))
  row_proper op.Int = with_proper _ (reads_proper (number_at int_limit p s.pos (meter_of s)) (λ n to m. Some (next to (added (shortest n) s))) (λ n to m e. goes (next to (added (shortest n) s)) refl (added_bounded (shortest n) s)))
  row_proper op.Long = with_proper _ (reads_proper (number_at long_limit p s.pos (meter_of s)) (λ n to m. Some (next to (added (shortest n) s))) (λ n to m e. goes (next to (added (shortest n) s)) refl (added_bounded (shortest n) s)))
  row_proper op.Bytes = with_proper _ (content_proper (kept anything) (fine_kept anything told_anything) s.content)
  row_proper op.Text = with_proper _ (content_proper (kept only_text) (fine_kept only_text told_text) s.content)
  row_proper (op.BytesText m) = with_proper _ (content_proper (kept (or_miss m)) (fine_kept (or_miss m) (told_miss m)) s.content)
  row_proper (op.Fixed n) = with_proper _ (fixed_proper (kept anything) (fine_kept anything told_anything) n s.content)
  row_proper (op.Enum t) = with_proper _ (reads_proper (position_at BadEnum (length (map_of P t)) p s.pos (meter_of s)) (λ i to m. Some (next to (entered (slice_index_or (map_of P t) i (entries.Position 0)) s)))
      (λ i to m e. goes (next to (entered (slice_index_or (map_of P t) i (entries.Position 0)) s)) (entered_runs (slice_index_or (map_of P t) i (entries.Position 0))) (entered_bounded (slice_index_or (map_of P t) i (entries.Position 0)))))
  row_proper op.SkipBool = reads_proper (boolean_at p s.pos (meter_of s)) (λ b to m. Some (next to s)) (λ b to m e. goes (next to s) refl (λ k. k))
  row_proper op.SkipInt = reads_proper (number_at int_limit p s.pos (meter_of s)) (λ b to m. Some (next to s)) (λ b to m e. goes (next to s) refl (λ k. k))
  row_proper op.SkipLong = reads_proper (number_at long_limit p s.pos (meter_of s)) (λ b to m. Some (next to s)) (λ b to m e. goes (next to s) refl (λ k. k))
  row_proper op.SkipBytes = content_proper (skipped anything) (fine_skipped anything told_anything) s.content
  row_proper op.SkipText = content_proper (skipped only_text) (fine_skipped only_text told_text) s.content
  row_proper (op.SkipFixed n) = fixed_proper (skipped anything) (fine_skipped anything told_anything) n s.content
  row_proper (op.SkipEnum n) = reads_proper (position_at BadEnum n p s.pos (meter_of s)) (λ b to m. Some (next to s)) (λ b to m e. goes (next to s) refl (λ k. k))
  row_proper (op.Put c) = with_proper _ (goes (next s.pos (added (constant_of P c) s)) refl (added_bounded (constant_of P c) s))
  row_proper (op.Record k) = record_proper (Rec None (replicate k [])) (new_slots k)
  row_proper (op.Slot j) = select_proper j s.store.frames refl
  row_proper op.EndRecord = close_proper s.store.frames refl
  row_proper op.Enter = record_proper Skip refl
  row_proper op.Leave = leave_proper s.store.frames refl
  row_proper op.Blocks = blocks_proper (Blocks (first_walk s.pos) 0 []) refl
  row_proper (op.Next a) = next_proper a s.store.frames refl
  row_proper op.SkipBlocks = blocks_proper (SkipBlocks (first_walk s.pos)) refl
  row_proper (op.SkipNext a) = skip_next_proper a s.store.frames refl
  row_proper (op.Branch t) = reads_proper (position_at BadBranch (length (jumps_of P t)) p s.pos (meter_of s)) (λ i to m. Some (record s { pc = slice_index_or (jumps_of P t) i 0; pos = to }))
      (λ i to m e. goes (record s { pc = slice_index_or (jumps_of P t) i 0; pos = to }) refl (λ k. k))
  row_proper (op.Miss m) = goes (next s.pos (missed m s)) refl (missed_bounded m s)
  row_proper (op.Call a) = call_proper a (nat_lt (length s.calls) MOST_CALLS) refl
  row_proper op.Return = return_proper s.calls refl
  row_proper (op.Jump a) = goes (record s { pc = a }) refl (λ k. k)
  row_proper op.Halt = halt_proper s.store.frames s.calls

  pub at_proper : (o : Option Instr) → Proper ended s (row_at P p ended o s)
  at_proper (Some instr) = row_proper instr
  at_proper None = inr refl
