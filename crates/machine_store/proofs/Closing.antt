-- What a store keeps, and what it shows, when its newest frame is closed.
use Rattle.std.proofs.Common.{◌≡◌, ◌≢◌, ◌≤◌, ◌<◌, ℕ, zero, suc, ◌+◌, ◌-◌, Bool, true, false, List, [], ◌∷◌, ◌++◌, length, map, take, drop, get_or, Option, Some, refl, sym, ap, ◌∙◌, subst, arith, length-append, pos}
use Rattle.std.specs.Prelude.{is_some}
use Rattle.std.proofs.lemmas.List.{append-nil, drop_at, length-drop, length-map, length-set, length-take, take-map, take_at}
use Rattle.spec_avro.specs.Blocks.{joined}
use Rattle.spec_avro.specs.Shortest.{shortest, shortest_groups}
use Rattle.spec_avro.specs.Written.{block_count}
use Rattle.spec_avro.specs.declared.limits.TheConstants.{MOST_OUTPUT}
use Rattle.spec_machine.specs.Lengths.{total_length}
use Rattle.spec_machine.specs.State as state
use Rattle.spec_machine.specs.State.{Store, add, append, empty_buffers, emptied, frames_size, is_done, total}
use Rattle.spec_machine.specs.Table.{items_closed}
use Rattle.machine_store.specs.declared.buffers.TargetBuffer.{TargetBuffer}
use Rattle.machine_store.specs.declared.buffers.TargetBuffer.TheVariants as places
use Rattle.machine_store.specs.declared.store.Frame.{Frame}
use Rattle.machine_store.specs.declared.store.Frame.TheVariants as frames
use Rattle.machine_store.specs.Buffers.{AreLaid, IsPlace, Laid, with_closed, with_fewer}
use Rattle.machine_store.specs.Frames.{AreFrames, HoldsBuffers, first_of, frames_in, items_of, newest_place, walk_of}
use Rattle.machine_store.specs.Segments.{bytes_of}
use Rattle.machine_store.specs.Store.{Held, IsKept, close_blocks, closed_between, held_of, leave, out_of, texts_of, with_frames}
use Rattle.machine_store.proofs.Framing.{add-done, add-fits, add-over, appended, placed, sizes}
use Rattle.machine_store.proofs.Keeping.{store_of, total-fits, total-is}
use Rattle.machine_store.proofs.Texts.{length-joined, out-closed, out_with, texts-closed, texts_with, total-split, total-with, whole}

-- ---- the frames that are left, and what they get

pub closes-rest : (top : Frame) (rest : List Frame) (n first : ℕ) → AreFrames (top ∷ rest) n → first_of top ≡ Some first → AreFrames rest first × (first ≤ n)
closes-rest frames.Bottom rest n first f e = absurd cc
closes-rest (frames.Record a selected) rest n first f e = let z : a ≡ first = cc in subst (λ (i : ℕ). AreFrames rest i × (i ≤ n)) z (f.2, f.0)
closes-rest frames.Skip rest n first f e = absurd cc
closes-rest (frames.Blocks a walk items) rest n first f e = let z : a ≡ first = cc in subst (λ (i : ℕ). AreFrames rest i × (i ≤ n)) z (f.1, omega (arith, f.0))
closes-rest (frames.SkipBlocks walk) rest n first f e = absurd cc

one-joined : (first : ℕ) (texts : List (List ℕ)) → length texts ≡ first + 1 → joined (drop first texts) ≡ get_or texts first []
one-joined zero [] e = absurd (omega (arith, e))
one-joined zero (x ∷ []) e = append-nil x
one-joined zero (x ∷ y ∷ ys) e = absurd (omega (arith, e))
one-joined (suc first) [] e = absurd (omega (arith, e))
one-joined (suc first) (x ∷ texts) e = one-joined first texts (omega (arith, e))

abbrev pub between : List ℕ → ℕ → List (List ℕ) → List ℕ
between around before slots = take before around ++ (joined slots ++ drop before around)

pub closes-shown : (top : Frame) (rest : List Frame) (texts : List (List ℕ)) (first : ℕ) (around : List ℕ) (before : ℕ) (s : Store) → AreFrames (top ∷ rest) (length texts) → first_of top ≡ Some first →
    closed_between around before (frames_in (top ∷ rest) texts) s ≡ add (between around before (drop first texts)) (with_frames (frames_in rest (take first texts)) s)
closes-shown frames.Bottom rest texts first around before s f e = absurd cc
closes-shown (frames.Record a selected) rest texts first around before s f e =
    let z : a ≡ first = cc in ap (λ (i : ℕ). add (between around before (drop i texts)) (with_frames (frames_in rest (take i texts)) s)) z
closes-shown frames.Skip rest texts first around before s f e = absurd cc
closes-shown (frames.Blocks a walk items) rest texts first around before s f e =
    let z : a ≡ first = cc in
    ap (λ (x : List ℕ). add (take before around ++ (x ++ drop before around)) (with_frames (frames_in rest (take a texts)) s)) (sym (one-joined a texts f.0))
    ∙ ap (λ (i : ℕ). add (between around before (drop i texts)) (with_frames (frames_in rest (take i texts)) s)) z
closes-shown (frames.SkipBlocks walk) rest texts first around before s f e = absurd cc

length-between : (around : List ℕ) (before : ℕ) (slots : List (List ℕ)) → before ≤ length around → length (between around before slots) ≡ length around + total_length slots
length-between around before slots le =
    omega (arith, length-append (take before around) (joined slots ++ drop before around), length-append (joined slots) (drop before around), length-joined slots, length-take before around, length-drop before around, le)

pub fewer-texts : (laid : Laid) (first : ℕ) → texts_of (with_fewer first laid) ≡ take first (texts_of laid)
fewer-texts laid first = sym (take-map (bytes_of laid.arena) first laid.slots)

-- ---- what is said of a store alone

-- what the newest frame gives, between bytes of which the first `before` come before it
abbrev pub given : List ℕ → ℕ → List state.Frame → List ℕ
given around before (state.Rec cur slots ∷ below) = between around before slots
given around before (state.Blocks walk items buffer ∷ below) = take before around ++ (buffer ++ drop before around)
given around before below = []

pub closed-adds : (around : List ℕ) (before : ℕ) (fs : List state.Frame) (s : Store) → HoldsBuffers fs → closed_between around before fs s ≡ add (given around before fs) (with_frames (leave fs) s)
closed-adds around before [] s f = absurd f
closed-adds around before (state.Rec cur slots ∷ below) s f = refl
closed-adds around before (state.Skip ∷ below) s f = absurd f
closed-adds around before (state.Blocks walk items buffer ∷ below) s f = refl
closed-adds around before (state.SkipBlocks walk ∷ below) s f = absurd f

given-total : (around : List ℕ) (before : ℕ) (fs : List state.Frame) (s : Store) → HoldsBuffers fs → before ≤ length around → frames_size s.frames ≡ frames_size fs → total (with_frames (leave fs) s) + length (given around before fs) ≡ total s + length around
given-total around before [] s f le e = absurd f
given-total around before (state.Rec cur slots ∷ below) s f le e = omega (arith, e, length-between around before slots le)
given-total around before (state.Skip ∷ below) s f le e = absurd f
given-total around before (state.Blocks walk items buffer ∷ below) s f le e =
    omega (arith, e, length-append (take before around) (buffer ++ drop before around), length-append buffer (drop before around), length-take before around, length-drop before around, le)
given-total around before (state.SkipBlocks walk ∷ below) s f le e = absurd f

pub closed-done : (around : List ℕ) (before : ℕ) (s : Store) → HoldsBuffers s.frames → is_done s.mark s.over ≡ true → with_frames (leave s.frames) s ≡ closed_between around before s.frames s
closed-done around before s f d = sym (closed-adds around before s.frames s f ∙ add-done (given around before s.frames) (with_frames (leave s.frames) s) d)

left-empty : (fs : List state.Frame) → leave (map empty_buffers fs) ≡ map empty_buffers (leave fs)
left-empty [] = refl
left-empty (frame ∷ fs) = refl

-- nothing is held any more, and the newest frame goes
pub dropped-empty : (s : Store) (x : List ℕ) → is_done s.mark s.over ≡ false → MOST_OUTPUT < total (with_frames (leave s.frames) s) + length x → with_frames (leave (map empty_buffers s.frames)) (emptied (record s { over = true })) ≡ add x (with_frames (leave s.frames) s)
dropped-empty s x d lt =
    ap (λ (fs : List state.Frame). record { frames = fs; out = []; mark = s.mark; over = true }) (left-empty s.frames)
    ∙ sym (add-over x (with_frames (leave s.frames) s) d lt)

pub closed-great : (around : List ℕ) (before : ℕ) (s : Store) → HoldsBuffers s.frames → before ≤ length around → is_done s.mark s.over ≡ false → MOST_OUTPUT - total s < length around → with_frames (leave (map empty_buffers s.frames)) (emptied (record s { over = true })) ≡ closed_between around before s.frames s
closed-great around before s f le d lt =
    dropped-empty s (given around before s.frames) d (omega (arith, given-total around before s.frames s f le refl, lt))
    ∙ sym (closed-adds around before s.frames s f)

-- ---- what is kept

module _ (top : Frame) (rest : List Frame) (laid : Laid) (lost units : ℕ) (mark : Option ℕ) (over : Bool) (first : ℕ) (k : IsKept (top ∷ rest) laid lost units mark over) (fe : first_of top ≡ Some first) where
  pub rest-frames : AreFrames rest first × (first ≤ length laid.slots)
  rest-frames = closes-rest top rest (length laid.slots) first k.places fe

  pub fewer-slots : length (take first laid.slots) ≡ first
  fewer-slots = omega (arith, length-take first laid.slots, rest-frames.1)

  -- the newest frame goes, whose buffers have n bytes
  pub kept-dropped : (n : ℕ) → n ≡ total_length (drop first (texts_of laid)) → IsKept rest (with_fewer first laid) (lost + n) units mark over
  kept-dropped n e = record {
    places = subst (AreFrames rest) (sym fewer-slots) rest-frames.0;
    items = k.items.1;
    deep = omega (arith, k.deep);
    counts = omega (arith, ap total_length (fewer-texts laid first), total-split first (texts_of laid), k.counts, e);
    fits = omega (arith, k.fits);
    none = k.none;
  }

  -- where nothing is held
  pub kept-shortened : is_done mark over ≡ true → IsKept rest (with_fewer first laid) lost units mark over
  kept-shortened d =
      let none : length laid.arena ≡ 0 = ap (λ (x : List ℕ). length x) (k.none d) in
      let n : 0 ≡ total_length (drop first (texts_of laid)) = omega (arith, total-split first (texts_of laid), k.counts, none) in
      subst (λ (m : ℕ). IsKept rest (with_fewer first laid) m units mark over) (let z : lost + 0 ≡ lost = omega arith in z) (kept-dropped 0 n)

module _ (top : Frame) (rest : List Frame) (laid : Laid) (lost units : ℕ) (mark : Option ℕ) (over : Bool) (around : List ℕ) (before first : ℕ) (h : Held) (is : held_of (top ∷ rest) laid units mark over ≡ h) (k : IsKept (top ∷ rest) laid lost units mark over) (fe : first_of top ≡ Some first) (le : before ≤ length around) where
  abbrev rest-are : AreFrames rest first × (first ≤ length laid.slots)
  rest-are = rest-frames top rest laid lost units mark over first k fe

  fewer-length : length (take first (texts_of laid)) ≡ first
  fewer-length = omega (arith, length-take first (texts_of laid), length-map laid.slots (bytes_of laid.arena), rest-are.1)

  over-first : AreFrames rest (length (take first (texts_of laid)))
  over-first = subst (AreFrames rest) (sym fewer-length) rest-are.0

  abbrev left : Store
  left = store_of rest (take first (texts_of laid)) (out_of laid) mark over

  shown : closed_between around before h.store.frames h.store ≡ add (between around before (drop first (texts_of laid))) left
  shown =
      ap (λ (x : Held). closed_between around before x.store.frames x.store) (sym is)
      ∙ closes-shown top rest (texts_of laid) first around before (held_of (top ∷ rest) laid units mark over).store (subst (AreFrames (top ∷ rest)) (sym (length-map laid.slots (bytes_of laid.arena))) k.places) fe

  left-total : total left + length (between around before (drop first (texts_of laid))) + lost ≡ length laid.arena + length around
  left-total =
      omega (arith, sizes rest (take first (texts_of laid)) over-first, length-between around before (drop first (texts_of laid)) le, total-split first (texts_of laid), k.counts)

  -- ---- where there is room

  module _ (into : TargetBuffer) (are : AreLaid laid) (d : is_done mark over ≡ false) (fits : length around ≤ MOST_OUTPUT - total (held_of (top ∷ rest) laid units mark over).store) (p : newest_place rest ≡ Some into) where
    into-there : (fs : List Frame) (n : ℕ) → AreFrames fs n → newest_place fs ≡ Some into → IsPlace n into
    into-there [] n f e = absurd f
    into-there (t ∷ below) n f e = placed t below n into f e

    pub there : IsPlace first into
    there = into-there rest first rest-are.0 p

    closed-slots : (q : TargetBuffer) → length (with_closed first q around before laid).slots ≡ first
    closed-slots places.Out = fewer-slots top rest laid lost units mark over first k fe
    closed-slots (places.Slot i) = length-set (take first laid.slots) i _ ∙ fewer-slots top rest laid lost units mark over first k fe

    closed-arena : (q : TargetBuffer) → (with_closed first q around before laid).arena ≡ laid.arena ++ around
    closed-arena places.Out = refl
    closed-arena (places.Slot i) = refl

    same-whole : whole laid around before first are le ≡ between around before (drop first (texts_of laid))
    same-whole = refl

    pub kept-closed : IsKept rest (with_closed first into around before laid) lost units mark over
    kept-closed = record {
      places = subst (AreFrames rest) (sym (closed-slots into)) rest-are.0;
      items = k.items.1;
      deep = omega (arith, k.deep);
      counts = omega (arith, all-closed, length-between around before (drop first (texts_of laid)) le, total-split first (texts_of laid), k.counts, ap (λ (x : List ℕ). length x) (closed-arena into), length-append laid.arena around);
      fits = omega (arith, ap (λ (x : List ℕ). length x) (closed-arena into), length-append laid.arena around, fits, total-is (top ∷ rest) laid lost units mark over k, total-fits (top ∷ rest) laid lost units mark over k);
      none = λ t. absurd (let e : true ≡ false = sym t ∙ d in cc);
    }
      where
        all-closed : total_length (texts_of (with_closed first into around before laid)) + length (out_of (with_closed first into around before laid)) ≡ total_length (take first (texts_of laid)) + length (out_of laid) + length (between around before (drop first (texts_of laid)))
        all-closed =
            ap (λ (n : ℕ). n + length (out_of (with_closed first into around before laid))) (ap total_length (texts-closed laid around before first are le into there rest-are.1))
            ∙ ap (λ (y : List ℕ). total_length (texts_with into (between around before (drop first (texts_of laid))) (take first (texts_of laid))) + length y) (out-closed laid around before first are le into)
            ∙ total-with into (between around before (drop first (texts_of laid))) (out_of laid) (take first (texts_of laid)) (subst (λ (n : ℕ). IsPlace n into) (sym fewer-length) there)

    appended-rest : (fs : List Frame) (texts : List (List ℕ)) (out x : List ℕ) → AreFrames fs (length texts) → newest_place fs ≡ Some into → append x (store_of fs texts out mark over) ≡ store_of fs (texts_with into x texts) (out_with into x out) mark over
    appended-rest [] texts out x f e = absurd f
    appended-rest (t ∷ below) texts out x f e = appended t below texts out x mark over into f e

    pub shown-closed : store_of rest (texts_of (with_closed first into around before laid)) (out_of (with_closed first into around before laid)) mark over ≡ closed_between around before h.store.frames h.store
    shown-closed =
        ap (λ (y : List (List ℕ)). store_of rest y (out_of (with_closed first into around before laid)) mark over) (texts-closed laid around before first are le into there rest-are.1)
        ∙ ap (λ (y : List ℕ). store_of rest (texts_with into (between around before (drop first (texts_of laid))) (take first (texts_of laid))) y mark over) (out-closed laid around before first are le into)
        ∙ sym (appended-rest rest (take first (texts_of laid)) (out_of laid) (between around before (drop first (texts_of laid))) over-first p)
        ∙ sym (add-fits (between around before (drop first (texts_of laid))) left d (omega (arith, left-total, fits, total-is (top ∷ rest) laid lost units mark over k, total-fits (top ∷ rest) laid lost units mark over k)))
        ∙ sym shown

-- ---- records, and blocks

zero-spelled : shortest (pos 0) ≡ 0 ∷ []
unfolding shortest shortest_groups
zero-spelled = refl

pub blocks-closed : (fs : List state.Frame) (s : Store) → is_some (walk_of fs) ≡ true → items_of fs ≢ 0 → closed_between (block_count (items_of fs) ++ 0 ∷ []) (length (block_count (items_of fs))) fs s ≡ close_blocks fs s
blocks-closed [] s w some = absurd cc
blocks-closed (state.Rec cur slots ∷ below) s w some = absurd cc
blocks-closed (state.Skip ∷ below) s w some = absurd cc
blocks-closed (state.Blocks walk zero buffer ∷ below) s w some = absurd (some refl)
blocks-closed (state.Blocks walk (suc items) buffer ∷ below) s w some =
    let n = block_count (suc items) in
    ap (λ (x : List ℕ). add (x ++ (buffer ++ drop (length n) (n ++ 0 ∷ []))) (with_frames below s)) (take_at n (0 ∷ []) (length n) refl)
    ∙ ap (λ (x : List ℕ). add (n ++ (buffer ++ x)) (with_frames below s)) (drop_at n (0 ∷ []) (length n) refl ∙ sym zero-spelled)
blocks-closed (state.SkipBlocks walk ∷ below) s w some = absurd cc

-- without items
pub none-closed : (fs : List state.Frame) (s : Store) → is_some (walk_of fs) ≡ true → items_of fs ≡ 0 → add (0 ∷ []) (with_frames (leave fs) s) ≡ close_blocks fs s
none-closed [] s w none = absurd cc
none-closed (state.Rec cur slots ∷ below) s w none = absurd cc
none-closed (state.Skip ∷ below) s w none = absurd cc
none-closed (state.Blocks walk items buffer ∷ below) s w none =
    ap (λ (x : List ℕ). add x (with_frames below s)) (sym (ap (λ (n : ℕ). items_closed n buffer) none ∙ zero-spelled))
none-closed (state.SkipBlocks walk ∷ below) s w none = absurd cc
