-- The parts of rows do the same whatever the count is.
use Rattle.std.proofs.Common.{◌≡◌, ℕ, zero, suc, ◌+◌, ◌-◌, Bool, true, false, cond, List, [], ◌∷◌, length, take, drop, Option, Some, None, Result, refl, ap, ◌∙◌, min}
use Rattle.std.specs.Prelude.{nat_lt, option_map}
use Rattle.std.specs.Str.{is_utf8}
use Rattle.spec_avro.specs.declared.meter.Meter.{Meter}
use Rattle.spec_decoding.specs.declared.fault.Fault.{Fault}
use Rattle.spec_avro.specs.declared.malformed.MalformedKind.TheVariants.{Trailing}
use Rattle.spec_avro.specs.Blocks.{joined}
use Rattle.spec_decoding.specs.BlockDecoding.{next_item}
use Rattle.spec_decoding.specs.Decoding.{Decoding, Complete, Failed, inside}
use Rattle.spec_avro.specs.Defect.{Malformed, Need}
use Rattle.spec_decoding.specs.LengthDecoding.{length_at}
use Rattle.spec_decoding.specs.Walk.{Walk}
use Rattle.spec_avro.specs.Outcome as outcomes
use Rattle.spec_machine.specs.declared.entry.Entry.{Entry}
use Rattle.spec_machine.specs.declared.entry.Entry.TheVariants as entries
use Rattle.spec_machine.specs.declared.trap.Trap.TheVariants.{BadSlot, NoBuffer}
use Rattle.spec_machine.specs.declared.limits.TheConstants.{MOST_CHUNK}
use Rattle.spec_machine.specs.Program.{Program}
use Rattle.spec_machine.specs.Row.{kept, skipped}
use Rattle.spec_machine.specs.State.{Blocks, Frame, Out, Content, Rec, Skip, SkipBlocks, State, has_current, meter_of}
use Rattle.spec_machine.specs.Table.{Move, added, anything, begun, close_record, prefixed, ends_content, entered, finished, fixed, gathered, halt, if_current, items_closed, leave, moved, moves, next, next_of, only_text, opens, or_miss, passed, pushed, reads, return, select, skip_next_of, stop, trap, wait, with_frames}

-- with another count
abbrev pub counted_as : ℕ → State → State
counted_as n s = record s { count = n }

module _ (P : Program) (p : List ℕ) (ended : Bool) (n : ℕ) where
  abbrev c : State → State
  c s = counted_as n s

  abbrev all : Option State → Option State
  all x = option_map (counted_as n) x

  same_wait : (b : Bool) (s : State) → wait P p b (c s) ≡ all (wait P p b s)
  same_wait true s = refl
  same_wait false s = refl

  pub same_reads : {A : Type 0} (s : State) (g : Decoding A) (go : State → A → ℕ → Meter → Option State) → ((a : A) (to : ℕ) (m : Meter) → go (c s) a to m ≡ all (go s a to m)) → reads P p ended (c s) g (go (c s)) ≡ all (reads P p ended s g (go s))
  same_reads s (Complete a to m) go h = h a to m
  same_reads s (Failed (Malformed kind at)) go h = refl
  same_reads s (Failed Need) go h = same_wait ended s

  pub same_cond : (b : Bool) (s : State) (f g : State → Option State) → f (c s) ≡ all (f s) → g (c s) ≡ all (g s) → cond b (f (c s)) (g (c s)) ≡ all (cond b (f s) (g s))
  same_cond true s f g h k = h
  same_cond false s f g h k = k

  pub same_current : (frames : List Frame) (s : State) (f : State → Option State) → f (c s) ≡ all (f s) → if_current frames (c s) (f (c s)) ≡ all (if_current frames s (f s))
  same_current frames s f h = same_cond (has_current frames) s f (trap NoBuffer) h refl

  pub same_adding : {A : Type 0} (s : State) (g : Decoding A) (go : State → A → ℕ → Meter → Option State) → ((a : A) (to : ℕ) (m : Meter) → go (c s) a to m ≡ all (go s a to m)) → if_current s.store.frames (c s) (reads P p ended (c s) g (go (c s))) ≡ all (if_current s.store.frames s (reads P p ended s g (go s)))
  same_adding s g go h = same_current s.store.frames s (λ s. reads P p ended s g (go s)) (same_reads s g go h)

  -- ---- contents

  pub record IsSame (move : Move) : Type 0 where
    pub put : (x : List ℕ) (s : State) → move.put x (c s) ≡ c (move.put x s)
    pub unless : (from : ℕ) (old new : State) → move.unless_text from (c old) (c new) ≡ all (move.unless_text from old new)

  module _ (move : Move) (same : IsSame move) where
    same_begun : (k to : ℕ) (s : State) → begun move k to (c s) ≡ c (begun move k to s)
    same_begun zero to s = ap (λ (y : State). next to y) (same.put _ s)
    same_begun (suc k) to s = ap (λ (y : State). record y { pos = to; content = Some (record { left = suc k; from = to }) }) (same.put _ s)

    same_ends : (content : Content) (s : State) → ends_content P p ended move content (c s) ≡ all (ends_content P p ended move content s)
    same_ends content s = by_text (is_utf8 (take (s.pos + content.left - content.from) (drop content.from p)))
      where
        to : ℕ
        to = s.pos + content.left

        put_is : move.put (take content.left (drop s.pos p)) (c s) ≡ c (move.put (take content.left (drop s.pos p)) s)
        put_is = same.put _ s

        by_text : (b : Bool) → cond b (Some (record (next (s.pos + content.left) (move.put (take content.left (drop s.pos p)) (c s))) { content = None })) (move.unless_text content.from (c s) (record (next (s.pos + content.left) (move.put (take content.left (drop s.pos p)) (c s))) { content = None }))
            ≡ all (cond b (Some (record (next (s.pos + content.left) (move.put (take content.left (drop s.pos p)) s)) { content = None })) (move.unless_text content.from s (record (next (s.pos + content.left) (move.put (take content.left (drop s.pos p)) s)) { content = None })))
        by_text true = ap (λ (y : State). Some (record (next (s.pos + content.left) y) { content = None })) put_is
        by_text false = ap (λ (y : State). move.unless_text content.from (c s) (record (next (s.pos + content.left) y) { content = None })) put_is ∙ same.unless content.from s _

    same_moves : (content : Content) (s : State) → moves P p ended move content (c s) ≡ all (moves P p ended move content s)
    same_moves content s =
        same_cond (nat_lt (length p) (s.pos + min MOST_CHUNK content.left)) s (wait P p ended) (λ s. cond (nat_lt MOST_CHUNK content.left) (Some (moved P p ended move content MOST_CHUNK s)) (ends_content P p ended move content s)) (same_wait ended s)
        (same_cond (nat_lt MOST_CHUNK content.left) s (λ s. Some (moved P p ended move content MOST_CHUNK s)) (ends_content P p ended move content) (ap (λ (y : State). Some (record y { pos = s.pos + MOST_CHUNK; content = Some (record { left = content.left - MOST_CHUNK; from = content.from }) })) (same.put _ s)) (same_ends content s))

    pub same_content : (s : State) (content : Option Content) → prefixed P p ended move (c s) content ≡ all (prefixed P p ended move s content)
    same_content s None = same_reads s (length_at p s.pos (meter_of s)) (λ s k to m. Some (begun move k to s)) (λ k to m. ap Some (same_begun k to s))
    same_content s (Some content) = same_moves content s

    pub same_fixed : (k : ℕ) (s : State) (content : Option Content) → fixed P p ended move k (c s) content ≡ all (fixed P p ended move k s content)
    same_fixed zero s None = refl
    same_fixed (suc k) s None = same_moves (record { left = suc k; from = s.pos }) s
    same_fixed zero s (Some content) = same_moves content s
    same_fixed (suc k) s (Some content) = same_moves content s

  pub kept_same : (m : ℕ) → IsSame (kept anything) × IsSame (kept only_text) × IsSame (kept (or_miss m))
  kept_same m = (record { put = λ x s. refl; unless = λ from old new. refl }, record { put = λ x s. refl; unless = λ from old new. refl }, record { put = λ x s. refl; unless = λ from old new. refl })

  pub skipped_same : IsSame (skipped anything) × IsSame (skipped only_text)
  skipped_same = (record { put = λ x s. refl; unless = λ from old new. refl }, record { put = λ x s. refl; unless = λ from old new. refl })

  -- ---- frames

  pub same_select : (j : ℕ) (s : State) (frames : List Frame) → select j (c s) frames ≡ all (select j s frames)
  same_select j s [] = refl
  same_select j s (Rec cur slots ∷ frames) = same_cond (nat_lt j (length slots)) s (λ s. Some (next s.pos (with_frames (Rec (Some j) slots ∷ frames) s))) (trap BadSlot) refl refl
  same_select j s (Skip ∷ frames) = refl
  same_select j s (Blocks walk items buffer ∷ frames) = refl
  same_select j s (SkipBlocks walk ∷ frames) = refl

  pub same_close : (s : State) (frames : List Frame) → close_record (c s) frames ≡ all (close_record s frames)
  same_close s [] = refl
  same_close s (Rec cur slots ∷ frames) = same_current frames s (λ s. Some (next s.pos (added (joined slots) (with_frames frames s)))) refl
  same_close s (Skip ∷ frames) = refl
  same_close s (Blocks walk items buffer ∷ frames) = refl
  same_close s (SkipBlocks walk ∷ frames) = refl

  pub same_leave : (s : State) (frames : List Frame) → leave (c s) frames ≡ all (leave s frames)
  same_leave s [] = refl
  same_leave s (Rec cur slots ∷ frames) = refl
  same_leave s (Skip ∷ frames) = refl
  same_leave s (Blocks walk items buffer ∷ frames) = refl
  same_leave s (SkipBlocks walk ∷ frames) = refl

  same_gathered : (a : ℕ) (s : State) (items : ℕ) (buffer : List ℕ) (frames : List Frame) (o : Option Walk) (to : ℕ) (m : Meter) → gathered a (c s) items buffer frames o to m ≡ all (gathered a s items buffer frames o to m)
  same_gathered a s items buffer frames (Some walk) to m = refl
  same_gathered a s items buffer frames None to m = same_current frames s (λ s. Some (record (added (items_closed items buffer) (with_frames frames s)) { pc = a; pos = to; units = m.units })) refl

  pub same_next : (a : ℕ) (s : State) (frames : List Frame) → next_of P p ended a (c s) frames ≡ all (next_of P p ended a s frames)
  same_next a s [] = refl
  same_next a s (Rec cur slots ∷ frames) = refl
  same_next a s (Skip ∷ frames) = refl
  same_next a s (Blocks walk items buffer ∷ frames) = same_reads s (next_item walk p s.pos (meter_of s)) (λ s. gathered a s items buffer frames) (same_gathered a s items buffer frames)
  same_next a s (SkipBlocks walk ∷ frames) = refl

  same_passed : (a : ℕ) (s : State) (frames : List Frame) (o : Option Walk) (to : ℕ) (m : Meter) → passed a (c s) frames o to m ≡ all (passed a s frames o to m)
  same_passed a s frames (Some walk) to m = refl
  same_passed a s frames None to m = refl

  pub same_skip_next : (a : ℕ) (s : State) (frames : List Frame) → skip_next_of P p ended a (c s) frames ≡ all (skip_next_of P p ended a s frames)
  same_skip_next a s [] = refl
  same_skip_next a s (Rec cur slots ∷ frames) = refl
  same_skip_next a s (Skip ∷ frames) = refl
  same_skip_next a s (Blocks walk items buffer ∷ frames) = refl
  same_skip_next a s (SkipBlocks walk ∷ frames) = same_reads s (next_item walk p s.pos (meter_of s)) (λ s. passed a s frames) (same_passed a s frames)

  pub same_return : (s : State) (calls : List ℕ) → return (c s) calls ≡ all (return s calls)
  same_return s [] = refl
  same_return s (a ∷ calls) = refl

  same_finished : (s : State) (mark : Option ℕ) (over : Bool) → finished P (c s) mark over ≡ all (finished P s mark over)
  same_finished s (Some m) over = refl
  same_finished s None true = refl
  same_finished s None false = refl

  pub same_halt : (s : State) (frames : List Frame) (calls : List ℕ) → halt P p ended (c s) frames calls ≡ all (halt P p ended s frames calls)
  same_halt s [] [] =
      same_cond (nat_lt s.pos (length p)) s (λ s. stop (Out (outcomes.Malformed Trailing s.pos)) s) (λ s. cond ended (finished P s s.store.mark s.store.over) None) refl
      (same_cond ended s (λ s. finished P s s.store.mark s.store.over) (λ s. None) (same_finished s s.store.mark s.store.over) refl)
  same_halt s [] (a ∷ calls) = refl
  same_halt s (f ∷ frames) [] = refl
  same_halt s (f ∷ frames) (a ∷ calls) = refl

  pub same_opens : (s : State) (r : Result Meter Fault) (frame : Frame) → opens P p ended (c s) r frame ≡ all (opens P p ended s r frame)
  same_opens s r frame = same_reads s (inside r (λ m. Complete s.pos s.pos m)) (λ s a to m. Some (next to (pushed frame m s))) (λ a to m. refl)

  pub same_entered : (e : Entry) (to : ℕ) (s : State) → next to (entered e (c s)) ≡ c (next to (entered e s))
  same_entered (entries.Position k) to s = refl
  same_entered (entries.Miss m) to s = refl
