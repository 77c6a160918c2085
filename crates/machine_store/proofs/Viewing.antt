-- Frames and buffers by index: what is found of them is what the store shows.
use Rattle.std.proofs.Common.{◌≡◌, ◌≤◌, ◌<◌, ℕ, zero, suc, ◌+◌, ◌-◌, Bool, true, false, cond, List, [], ◌∷◌, ◌++◌, length, reverse, take, drop, get_or, Option, Some, None, slice_get, refl, sym, ap, ◌∙◌, subst, arith, length-append, append_assoc}
use Rattle.std.specs.Prelude.{Result, Ok, Err, OnErr, OnOk, is_ok, nat_lt, is_some, option_map, ◌==◌}
use Rattle.std.proofs.lemmas.Option.{slice_get-get_or, slice_get_past}
use Rattle.std.proofs.lemmas.List.{get_or-drop, get_or-map, get_or-take, length-drop, length-map, length-reverse, length-take, reverse-append, take-append-drop, take-take, take_all}
use Rattle.std.proofs.Math.Seq.{drop-cons}
use Rattle.spec_decoding.specs.Walk.{Walk}
use Rattle.spec_machine.specs.Lengths.{total_length}
use Rattle.spec_machine.specs.State as state
use Rattle.machine_store.specs.declared.buffers.TargetBuffer.{TargetBuffer}
use Rattle.machine_store.specs.declared.buffers.TargetBuffer.TheVariants as places
use Rattle.machine_store.specs.declared.ropes.Segment.{Segment}
use Rattle.machine_store.specs.declared.store.Frame.{Frame}
use Rattle.machine_store.specs.declared.store.Frame.TheVariants as frames
use Rattle.machine_store.specs.declared.views.BufferAt.{BufferAt}
use Rattle.machine_store.specs.declared.views.BufferAt.TheVariants as at
use Rattle.machine_store.specs.declared.views.FrameView.{FrameView}
use Rattle.machine_store.specs.declared.views.FrameView.TheVariants as views
use Rattle.machine_store.specs.Buffers.{AreLaid, IsPlace, Laid, segments_at}
use Rattle.machine_store.specs.Frames.{AreFrames, first_of, frames_in, segments_in, slot_of}
use Rattle.machine_store.specs.Segments.{AreSegments, bytes_at, bytes_of}
use Rattle.machine_store.specs.Store.{Held, held_of, out_of, texts_of}
use Rattle.machine_store.specs.Viewing.{buffer_of, end_below, end_over, frame_numbered, gathered_in, gathered_place, place_named, segments_of_buffer, slots_in, slot_place, view_at, view_in, view_of}
use Rattle.machine_store.proofs.Placing.{all-at}

-- ---- the walk

numbered-here : (number : ℕ) (frame : Frame) (below : List Frame) (end : ℕ) → length below ≡ number + 1 → frame_numbered number (frame ∷ below) end ≡ Some (frame, end)
numbered-here number frame below end e = ap (λ (b : Bool). cond b (Some (frame, end)) (frame_numbered number below (end_below frame end))) (let z : (length below == number + 1) ≡ true = grind (arith, e) in z)

numbered-below : (number : ℕ) (frame : Frame) (below : List Frame) (end : ℕ) → (length below ≡ number + 1 → ⊥) → frame_numbered number (frame ∷ below) end ≡ frame_numbered number below (end_below frame end)
numbered-below number frame below end n = ap (λ (b : Bool). cond b (Some (frame, end)) (frame_numbered number below (end_below frame end))) (let z : (length below == number + 1) ≡ false = grind (arith, n) in z)

-- none has a number that is too large
pub numbered-none : (number : ℕ) (fs : List Frame) (end : ℕ) → length fs ≤ number + 1 → frame_numbered number fs end ≡ None
numbered-none number [] end few = refl
numbered-none number (frame ∷ below) end few =
    numbered-below number frame below end (λ e. absurd (omega (arith, e, few))) ∙ numbered-none number below (end_below frame end) (omega (arith, few))

-- the frame below some newer ones
numbered-at : (number : ℕ) (newer : List Frame) (frame : Frame) (older : List Frame) (end : ℕ) → length older ≡ number + 1
    → frame_numbered number (newer ++ frame ∷ older) end ≡ Some (frame, end_over newer end)
numbered-at number [] frame older end e = numbered-here number frame older end e
numbered-at number (x ∷ newer) frame older end e =
    numbered-below number x (newer ++ frame ∷ older) end (λ same. absurd (omega (arith, same, e, length-append newer (frame ∷ older))))
    ∙ numbered-at number newer frame older (end_below x end) e

pub not-newest : (number : ℕ) (top frame : Frame) (fs : List Frame) (slots end : ℕ) → number + 1 < length fs → frame ≡ get_or fs (number + 1) frame
    → end ≡ end_over (reverse (drop (number + 2) fs)) (end_below top slots) → Some (frame, end) ≡ frame_numbered number (top ∷ reverse fs) slots
not-newest number top frame fs slots end lt is ends =
    let older = take (number + 1) fs in
    let newer = drop (number + 2) fs in
    let next : number + 2 ≡ suc (number + 1) = omega arith in
    let split : fs ≡ older ++ frame ∷ newer =
    ◌∙◌ {b = older ++ drop (number + 1) fs} (sym (take-append-drop (number + 1) fs)) (ap (λ l. older ++ l) (drop-cons fs (number + 1) frame lt ∙ ap (λ x. x ∷ drop (suc (number + 1)) fs) (sym is) ∙ ap (λ n. frame ∷ drop n fs) (sym next))) in
    let turned : reverse fs ≡ reverse newer ++ frame ∷ reverse older =
    ap reverse split ∙ reverse-append older (frame ∷ newer) ∙ turn newer older in
    let many : length (reverse older) ≡ number + 1 = omega (arith, length-reverse older, length-take (number + 1) fs, lt) in
    ap (λ n. Some (frame, n)) ends ∙ sym (numbered-at number (top ∷ reverse newer) frame (reverse older) slots many) ∙ ap (λ l. frame_numbered number (top ∷ l) slots) (sym turned)
  where
    turn : (newer older : List Frame) → reverse (frame ∷ newer) ++ reverse older ≡ reverse newer ++ frame ∷ reverse older
    turn newer older = ap (λ l. l ++ reverse older) (reverse-append (frame ∷ []) newer) ∙ append_assoc (reverse newer) (frame ∷ []) (reverse older)

-- what is shown of a frame that has no slots, wherever these end
pub skipped-seen : (number : ℕ) (top frame : Frame) (fs : List Frame) (slots : ℕ) (view : FrameView) → number + 1 < length fs → frame ≡ get_or fs (number + 1) frame
    → ((end : ℕ) → Some view ≡ view_at frame end) → Some view ≡ view_in (frame_numbered number (top ∷ reverse fs) slots)
skipped-seen number top frame fs slots view lt is shown =
    let end = end_over (reverse (drop (number + 2) fs)) (end_below top slots) in
    shown end ∙ ap view_in (not-newest number top frame fs slots end lt is refl)

-- the oldest of the newer frames comes last
end-last : (newer : List Frame) (frame : Frame) (end : ℕ) → end_over (newer ++ frame ∷ []) end ≡ end_below frame (end_over newer end)
end-last [] frame end = refl
end-last (x ∷ newer) frame end = end-last newer frame (end_below x end)

oldest : (fs : List Frame) (i : ℕ) (frame : Frame) (end : ℕ) → i < length fs → frame ≡ get_or fs i frame → end_over (reverse (drop i fs)) end ≡ end_below frame (end_over (reverse (drop (i + 1) fs)) end)
oldest fs i frame end lt is =
    let next : i + 1 ≡ suc i = omega arith in
    ap (λ l. end_over (reverse l) end) (drop-cons fs i frame lt ∙ ap (λ x. x ∷ drop (suc i) fs) (sym is) ∙ ap (λ n. frame ∷ drop n fs) (sym next))
    ∙ ap (λ l. end_over l end) (reverse-append (frame ∷ []) (drop (i + 1) fs)) ∙ end-last (reverse (drop (i + 1) fs)) frame end

with-first : (frame : Frame) (first end : ℕ) → first_of frame ≡ Some first → end_below frame end ≡ first
with-first frames.Bottom first end e = absurd cc
with-first (frames.Record at selected) first end e = cc
with-first frames.Skip first end e = absurd cc
with-first (frames.Blocks at walk items) first end e = cc
with-first (frames.SkipBlocks walk) first end e = absurd cc

with-none : (frame : Frame) (end : ℕ) → first_of frame ≡ None → end_below frame end ≡ end
with-none frames.Bottom end e = refl
with-none (frames.Record at selected) end e = absurd cc
with-none frames.Skip end e = refl
with-none (frames.Blocks at walk items) end e = absurd cc
with-none (frames.SkipBlocks walk) end e = refl

pub ends-here : (fs : List Frame) (i : ℕ) (frame : Frame) (first end whole : ℕ) → i < length fs → frame ≡ get_or fs i frame → first_of frame ≡ Some first → end_over (reverse (drop i fs)) end ≡ whole → first ≡ whole
ends-here fs i frame first end whole lt is some so_far = sym (with-first frame first (end_over (reverse (drop (i + 1) fs)) end) some) ∙ sym (oldest fs i frame end lt is) ∙ so_far

pub ends-later : (fs : List Frame) (i : ℕ) (frame : Frame) (end whole : ℕ) → i < length fs → frame ≡ get_or fs i frame → first_of frame ≡ None → end_over (reverse (drop i fs)) end ≡ whole → end_over (reverse (drop (i + 1) fs)) end ≡ whole
ends-later fs i frame end whole lt is none so_far = sym (with-none frame (end_over (reverse (drop (i + 1) fs)) end) none) ∙ sym (oldest fs i frame end lt is) ∙ so_far

-- ---- what is found

-- the frame that is shown, over the bytes of its slots and those of the frames below it
abbrev pub shown : Frame → List (List ℕ) → Option state.Frame
shown frames.Bottom texts = None
shown (frames.Record first selected) texts = Some (state.Rec (slot_of first selected) (drop first texts))
shown frames.Skip texts = Some state.Skip
shown (frames.Blocks first walk items) texts = Some (state.Blocks walk items (get_or texts first []))
shown (frames.SkipBlocks walk) texts = Some (state.SkipBlocks walk)

abbrev pub segments_shown : Frame → List (List Segment) → List (List Segment)
segments_shown (frames.Record first selected) slots = drop first slots
segments_shown (frames.Blocks first walk items) slots = get_or slots first [] ∷ []
segments_shown frame slots = []

-- the frame at an index, among those that are shown
pub record IsFound (fs : List Frame) (texts : List (List ℕ)) (slots : List (List Segment)) (number end : ℕ) (frame : Frame) (to : ℕ) : Type 0 where
  pub below : List Frame
  pub are : AreFrames (frame ∷ below) to
  pub within : to ≤ end
  pub is : slice_get (reverse (frames_in fs (take end texts))) number ≡ shown frame (take to texts)
  pub segments : get_or (reverse (segments_in fs (take end slots))) number [] ≡ segments_shown frame (take to slots)

abbrev pub Finds : List Frame → List (List ℕ) → List (List Segment) → ℕ → ℕ → Option (Frame × ℕ) → Type 0
Finds fs texts slots number end (Some found) = IsFound fs texts slots number end found.0 found.1
Finds fs texts slots number end None = slice_get (reverse (frames_in fs (take end texts))) number ≡ None

get-last : {A : Type 0} (xs : List A) (x : A) (n : ℕ) → length xs ≡ n → slice_get (xs ++ x ∷ []) n ≡ Some x
get-last [] x zero e = refl
get-last [] x (suc n) e = absurd (omega (arith, e))
get-last (y ∷ xs) x zero e = absurd (omega (arith, e))
get-last (y ∷ xs) x (suc n) e = get-last xs x n (omega (arith, e))

get-front : {A : Type 0} (xs : List A) (x : A) (n : ℕ) → (length xs ≡ n → ⊥) → slice_get (xs ++ x ∷ []) n ≡ slice_get xs n
get-front [] x zero n = absurd (n refl)
get-front [] x (suc k) n = refl
get-front (y ∷ xs) x zero n = refl
get-front (y ∷ xs) x (suc k) n = get-front xs x k (λ e. n (omega (arith, e)))

or-last : {A : Type 0} (xs : List A) (x d : A) (n : ℕ) → length xs ≡ n → get_or (xs ++ x ∷ []) n d ≡ x
or-last [] x d zero e = refl
or-last [] x d (suc n) e = absurd (omega (arith, e))
or-last (y ∷ xs) x d zero e = absurd (omega (arith, e))
or-last (y ∷ xs) x d (suc n) e = or-last xs x d n (omega (arith, e))

or-front : {A : Type 0} (xs : List A) (x d : A) (n : ℕ) → (length xs ≡ n → ⊥) → get_or (xs ++ x ∷ []) n d ≡ get_or xs n d
or-front [] x d zero n = absurd (n refl)
or-front [] x d (suc k) n = refl
or-front (y ∷ xs) x d zero n = refl
or-front (y ∷ xs) x d (suc k) n = or-front xs x d k (λ e. n (omega (arith, e)))

-- below all frames there is one more, which is not shown
frames-length : (fs : List Frame) (texts : List (List ℕ)) (end : ℕ) → AreFrames fs end → length (frames_in fs texts) + 1 ≡ length fs
frames-length [] texts end f = absurd f
frames-length (frames.Bottom ∷ below) texts end f = omega (arith, ap (λ (x : List Frame). length x) f.0)
frames-length (frames.Record first selected ∷ below) texts end f = omega (arith, frames-length below (take first texts) first f.2)
frames-length (frames.Skip ∷ below) texts end f = omega (arith, frames-length below texts end f)
frames-length (frames.Blocks first walk items ∷ below) texts end f = omega (arith, frames-length below (take first texts) first f.1)
frames-length (frames.SkipBlocks walk ∷ below) texts end f = omega (arith, frames-length below texts end f)

segments-length : (fs : List Frame) (slots : List (List Segment)) (end : ℕ) → AreFrames fs end → length (segments_in fs slots) + 1 ≡ length fs
segments-length [] slots end f = absurd f
segments-length (frames.Bottom ∷ below) slots end f = omega (arith, ap (λ (x : List Frame). length x) f.0)
segments-length (frames.Record first selected ∷ below) slots end f = omega (arith, segments-length below (take first slots) first f.2)
segments-length (frames.Skip ∷ below) slots end f = omega (arith, segments-length below slots end f)
segments-length (frames.Blocks first walk items ∷ below) slots end f = omega (arith, segments-length below (take first slots) first f.1)
segments-length (frames.SkipBlocks walk ∷ below) slots end f = omega (arith, segments-length below slots end f)

-- a frame that is shown, over those below it
pub record Shows (frame : Frame) (below : List Frame) (texts : List (List ℕ)) (slots : List (List Segment)) (end : ℕ) : Type 0 where
  pub are : AreFrames below (end_below frame end)
  pub less : end_below frame end ≤ end
  pub one : state.Frame
  pub shown : Some one ≡ shown frame (take end texts)
  pub all : frames_in (frame ∷ below) (take end texts) ≡ one ∷ frames_in below (take (end_below frame end) texts)
  pub segments : segments_in (frame ∷ below) (take end slots) ≡ segments_shown frame (take end slots) ∷ segments_in below (take (end_below frame end) slots)

module _ (texts : List (List ℕ)) (slots : List (List Segment)) where
  shows-record : (first : ℕ) (selected : Option ℕ) (below : List Frame) (end : ℕ) → AreFrames (frames.Record first selected ∷ below) end → Shows (frames.Record first selected) below texts slots end
  shows-record first selected below end f = record {
    are = f.2;
    less = f.0;
    one = state.Rec (slot_of first selected) (drop first (take end texts));
    shown = refl;
    all = ap (λ (x : List (List ℕ)). state.Rec (slot_of first selected) (drop first (take end texts)) ∷ frames_in below x) (take-take first end texts f.0);
    segments = ap (λ (x : List (List Segment)). drop first (take end slots) ∷ segments_in below x) (take-take first end slots f.0);
  }

  shows-skip : (below : List Frame) (end : ℕ) → AreFrames (frames.Skip ∷ below) end → Shows frames.Skip below texts slots end
  shows-skip below end f = record { are = f; less = omega arith; one = state.Skip; shown = refl; all = refl; segments = refl }

  shows-blocks : (first : ℕ) (walk : Walk) (items : ℕ) (below : List Frame) (end : ℕ) → AreFrames (frames.Blocks first walk items ∷ below) end → Shows (frames.Blocks first walk items) below texts slots end
  shows-blocks first walk items below end f =
      let le : first ≤ end = omega (arith, f.0) in
      record {
        are = f.1;
        less = le;
        one = state.Blocks walk items (get_or (take end texts) first []);
        shown = refl;
        all = ap (λ (x : List (List ℕ)). state.Blocks walk items (get_or (take end texts) first []) ∷ frames_in below x) (take-take first end texts le);
        segments = ap (λ (x : List (List Segment)). (get_or (take end slots) first [] ∷ []) ∷ segments_in below x) (take-take first end slots le);
      }

  shows-skipped : (walk : Walk) (below : List Frame) (end : ℕ) → AreFrames (frames.SkipBlocks walk ∷ below) end → Shows (frames.SkipBlocks walk) below texts slots end
  shows-skipped walk below end f = record { are = f; less = omega arith; one = state.SkipBlocks walk; shown = refl; all = refl; segments = refl }

  module _ (frame : Frame) (below : List Frame) (number end : ℕ) (f : AreFrames (frame ∷ below) end) (s : Shows frame below texts slots end) where
    abbrev frames-below : List state.Frame
    frames-below = frames_in below (take (end_below frame end) texts)

    abbrev segments-below : List (List (List Segment))
    segments-below = segments_in below (take (end_below frame end) slots)

    frames-are : reverse (frames_in (frame ∷ below) (take end texts)) ≡ reverse frames-below ++ s.one ∷ []
    frames-are = ap reverse s.all ∙ reverse-append (s.one ∷ []) frames-below

    segments-are : reverse (segments_in (frame ∷ below) (take end slots)) ≡ reverse segments-below ++ segments_shown frame (take end slots) ∷ []
    segments-are = ap reverse s.segments ∙ reverse-append (segments_shown frame (take end slots) ∷ []) segments-below

    many : length (reverse frames-below) + 1 ≡ length below
    many = omega (arith, length-reverse frames-below, frames-length below (take (end_below frame end) texts) (end_below frame end) s.are)

    segments-many : length (reverse segments-below) + 1 ≡ length below
    segments-many = omega (arith, length-reverse segments-below, segments-length below (take (end_below frame end) slots) (end_below frame end) s.are)

    found-here : length below ≡ number + 1 → IsFound (frame ∷ below) texts slots number end frame end
    found-here e = record {
      below = below;
      are = f;
      within = omega arith;
      is = ap (λ (x : List state.Frame). slice_get x number) frames-are ∙ get-last (reverse frames-below) s.one number (omega (arith, many, e)) ∙ s.shown;
      segments = ap (λ (x : List (List (List Segment))). get_or x number []) segments-are ∙ or-last (reverse segments-below) (segments_shown frame (take end slots)) [] number (omega (arith, segments-many, e));
    }

    found-below : (length below ≡ number + 1 → ⊥) → (found : Option (Frame × ℕ)) → Finds below texts slots number (end_below frame end) found → Finds (frame ∷ below) texts slots number end found
    found-below n None g = ap (λ (x : List state.Frame). slice_get x number) frames-are ∙ get-front (reverse frames-below) s.one number (λ e. n (omega (arith, many, e))) ∙ g
    found-below n (Some found) g = record {
      below = g.below;
      are = g.are;
      within = omega (arith, g.within, s.less);
      is = ap (λ (x : List state.Frame). slice_get x number) frames-are ∙ get-front (reverse frames-below) s.one number (λ e. n (omega (arith, many, e))) ∙ g.is;
      segments = ap (λ (x : List (List (List Segment))). get_or x number []) segments-are ∙ or-front (reverse segments-below) (segments_shown frame (take end slots)) [] number (λ e. n (omega (arith, segments-many, e))) ∙ g.segments;
    }

    by-test : (b : Bool) → (length below == number + 1) ≡ b → Finds below texts slots number (end_below frame end) (frame_numbered number below (end_below frame end)) → Finds (frame ∷ below) texts slots number end (cond b (Some (frame, end)) (frame_numbered number below (end_below frame end)))
    by-test true e g = found-here (let z : length below ≡ number + 1 = grind (arith, e) in z)
    by-test false e g = found-below (λ z. differ (length below) (number + 1) e z) _ g
      where
        differ : (a b : ℕ) → (a == b) ≡ false → a ≡ b → ⊥
        differ a b e z = grind (arith, e, z)

    found-by : Finds below texts slots number (end_below frame end) (frame_numbered number below (end_below frame end)) → Finds (frame ∷ below) texts slots number end (frame_numbered number (frame ∷ below) end)
    found-by g = by-test (length below == number + 1) refl g

  pub finds : (fs : List Frame) (number end : ℕ) → AreFrames fs end → Finds fs texts slots number end (frame_numbered number fs end)
  finds [] number end f = absurd f
  finds (frames.Bottom ∷ []) number end f = by-none number
    where
      by-none : (number : ℕ) → Finds (frames.Bottom ∷ []) texts slots number end (frame_numbered number (frames.Bottom ∷ []) end)
      by-none number = subst (Finds (frames.Bottom ∷ []) texts slots number end) (sym (numbered-below number frames.Bottom [] end (λ e. absurd (omega (arith, e))))) refl
  finds (frames.Bottom ∷ g ∷ below) number end f = absurd (omega (arith, ap (λ (x : List Frame). length x) f.0))
  finds (frames.Record first selected ∷ below) number end f = found-by (frames.Record first selected) below number end f (shows-record first selected below end f) (finds below number first f.2)
  finds (frames.Skip ∷ below) number end f = found-by frames.Skip below number end f (shows-skip below end f) (finds below number end f)
  finds (frames.Blocks first walk items ∷ below) number end f = found-by (frames.Blocks first walk items) below number end f (shows-blocks first walk items below end f) (finds below number first f.1)
  finds (frames.SkipBlocks walk ∷ below) number end f = found-by (frames.SkipBlocks walk) below number end f (shows-skipped walk below end f) (finds below number end f)

-- ---- frames

viewed : (frame : Frame) (texts : List (List ℕ)) (to : ℕ) → to ≤ length texts → option_map view_of (shown frame (take to texts)) ≡ view_at frame to
viewed frames.Bottom texts to le = refl
viewed (frames.Record first selected) texts to le =
    ap (λ (n : ℕ). Some (views.Record (slot_of first selected) n)) (let e : length (drop first (take to texts)) ≡ to - first = omega (arith, length-drop first (take to texts), length-take to texts, le) in e)
viewed frames.Skip texts to le = refl
viewed (frames.Blocks first walk items) texts to le = refl
viewed (frames.SkipBlocks walk) texts to le = refl

view-found : (fs : List Frame) (texts : List (List ℕ)) (slots : List (List Segment)) (number end : ℕ) (found : Option (Frame × ℕ)) → end ≤ length texts → Finds fs texts slots number end found → option_map view_of (slice_get (reverse (frames_in fs (take end texts))) number) ≡ view_in found
view-found fs texts slots number end None le f = ap (option_map view_of) f
view-found fs texts slots number end (Some found) le f = ap (option_map view_of) f.is ∙ viewed found.0 texts found.1 (omega (arith, f.within, le))

pub frame-seen : (fs : List Frame) (texts : List (List ℕ)) (slots : List (List Segment)) (number n : ℕ) → AreFrames fs n → n ≡ length texts → option_map view_of (slice_get (reverse (frames_in fs texts)) number) ≡ view_in (frame_numbered number fs n)
frame-seen fs texts slots number n f e =
    ap (λ (x : List (List ℕ)). option_map view_of (slice_get (reverse (frames_in fs x)) number)) (sym (take_all n texts (omega (arith, e))))
    ∙ view-found fs texts slots number n (frame_numbered number fs n) (omega (arith, e)) (finds texts slots fs number n f)

-- ---- buffers

got : {A : Type 0} (xs : List A) (first slot to : ℕ) (d : A) → slot < to - first → get_or (drop first (take to xs)) slot d ≡ get_or xs (first + slot) d
got xs first slot to d lt = get_or-drop first (take to xs) slot d ∙ get_or-take to xs (first + slot) d (omega (arith, lt))

-- a place is that of a buffer that is there
pub record IsPlaced (fs : List Frame) (laid : Laid) (b : BufferAt) (n : ℕ) (place : TargetBuffer) : Type 0 where
  pub there : IsPlace n place
  pub bytes : buffer_of b (record { frames = frames_in fs (texts_of laid); out = out_of laid; mark = None; over = false }) ≡ Some (bytes_of laid.arena (segments_at laid place))
  pub segments : segments_of_buffer b (record { arena = laid.arena; out = laid.out; frames = segments_in fs laid.slots }) ≡ segments_at laid place

abbrev pub Places : List Frame → Laid → BufferAt → Option TargetBuffer → Type 0
Places fs laid b (Some place) = IsPlaced fs laid b (length laid.slots) place
Places fs laid b None = buffer_of b (record { frames = frames_in fs (texts_of laid); out = out_of laid; mark = None; over = false }) ≡ None

module _ (laid : Laid) where
  abbrev texts : List (List ℕ)
  texts = texts_of laid

  abbrev n : ℕ
  n = length laid.slots

  size : length texts ≡ n
  size = length-map laid.slots (bytes_of laid.arena)

  text-at : (i : ℕ) → i < n → get_or texts i [] ≡ bytes_of laid.arena (get_or laid.slots i [])
  text-at i lt = get_or-map (bytes_of laid.arena) laid.slots i [] [] lt

  module _ (fs : List Frame) (frame : ℕ) where
    abbrev one_of : Option state.Frame
    one_of = slice_get (reverse (frames_in fs texts)) frame

    abbrev lists_of : List (List Segment)
    lists_of = get_or (reverse (segments_in fs laid.slots)) frame []

    -- what was found, over all slots
    pub record IsThere (f : Frame) (to : ℕ) : Type 0 where
      pub below : List Frame
      pub are : AreFrames (f ∷ below) to
      pub within : to ≤ n
      pub is : one_of ≡ shown f (take to texts)
      pub segments : lists_of ≡ segments_shown f (take to laid.slots)

    abbrev Found : Option (Frame × ℕ) → Type 0
    Found (Some found) = IsThere found.0 found.1
    Found None = one_of ≡ None

    over-all : (found : Option (Frame × ℕ)) → Finds fs texts laid.slots frame n found → Found found
    over-all None f = ap (λ (x : List (List ℕ)). slice_get (reverse (frames_in fs x)) frame) (sym (take_all n texts (omega (arith, size)))) ∙ f
    over-all (Some found) f = record {
      below = f.below;
      are = f.are;
      within = f.within;
      is = ap (λ (x : List (List ℕ)). slice_get (reverse (frames_in fs x)) frame) (sym (take_all n texts (omega (arith, size)))) ∙ f.is;
      segments = ap (λ (x : List (List Segment)). get_or (reverse (segments_in fs x)) frame []) (sym (take_all n laid.slots (omega arith))) ∙ f.segments;
    }

    slot-there : (slot first : ℕ) (selected : Option ℕ) (to : ℕ) → IsThere (frames.Record first selected) to → slot < to - first → IsPlaced fs laid (at.Slot frame slot) n (places.Slot (first + slot))
    slot-there slot first selected to t lt =
        let many : slot < length (drop first (take to texts)) = omega (arith, length-drop first (take to texts), length-take to texts, size, t.within, lt) in
        let in_all : first + slot < n = omega (arith, lt, t.within) in
        record {
          there = in_all;
          bytes = ap (λ (o : Option state.Frame). slice_get (slots_in o) slot) t.is ∙ slice_get-get_or (drop first (take to texts)) slot [] many ∙ ap (λ (x : List ℕ). Some x) (got texts first slot to [] lt ∙ text-at (first + slot) in_all);
          segments = ap (λ (x : List (List Segment)). get_or x slot []) t.segments ∙ got laid.slots first slot to [] lt;
        }

    slot-past : (slot first : ℕ) (selected : Option ℕ) (to : ℕ) → IsThere (frames.Record first selected) to → to - first ≤ slot → slice_get (slots_in one_of) slot ≡ None
    slot-past slot first selected to t le =
        ap (λ (o : Option state.Frame). slice_get (slots_in o) slot) t.is ∙ slice_get_past (drop first (take to texts)) slot (omega (arith, length-drop first (take to texts), length-take to texts, size, t.within, le))

    slot-by : (slot first : ℕ) (selected : Option ℕ) (to : ℕ) (b : Bool) → nat_lt slot (to - first) ≡ b → IsThere (frames.Record first selected) to → Places fs laid (at.Slot frame slot) (cond b (Some (places.Slot (first + slot))) None)
    slot-by slot first selected to true e t = slot-there slot first selected to t (let z : slot < to - first = grind (arith, e) in z)
    slot-by slot first selected to false e t = slot-past slot first selected to t (let z : to - first ≤ slot = grind (arith, e) in z)

    slot-placed : (slot : ℕ) (found : Option (Frame × ℕ)) → Found found → Places fs laid (at.Slot frame slot) (slot_place slot found)
    slot-placed slot None f = ap (λ (o : Option state.Frame). slice_get (slots_in o) slot) f
    slot-placed slot (Some (frames.Bottom, to)) f = ap (λ (o : Option state.Frame). slice_get (slots_in o) slot) f.is
    slot-placed slot (Some (frames.Record first selected, to)) f = slot-by slot first selected to (nat_lt slot (to - first)) refl f
    slot-placed slot (Some (frames.Skip, to)) f = ap (λ (o : Option state.Frame). slice_get (slots_in o) slot) f.is
    slot-placed slot (Some (frames.Blocks first walk items, to)) f = ap (λ (o : Option state.Frame). slice_get (slots_in o) slot) f.is
    slot-placed slot (Some (frames.SkipBlocks walk, to)) f = ap (λ (o : Option state.Frame). slice_get (slots_in o) slot) f.is

    gathered-placed : (found : Option (Frame × ℕ)) → Found found → Places fs laid (at.Gathered frame) (gathered_place found)
    gathered-placed None f = ap gathered_in f
    gathered-placed (Some (frames.Bottom, to)) f = ap gathered_in f.is
    gathered-placed (Some (frames.Record first selected, to)) f = ap gathered_in f.is
    gathered-placed (Some (frames.Skip, to)) f = ap gathered_in f.is
    gathered-placed (Some (frames.Blocks first walk items, to)) f =
        let in_all : first < n = omega (arith, f.are.0, f.within) in
        record {
          there = in_all;
          bytes = ap gathered_in f.is ∙ ap (λ (x : List ℕ). Some x) (get_or-take to texts first [] (omega (arith, f.are.0)) ∙ text-at first in_all);
          segments = ap (λ (x : List (List Segment)). get_or x 0 []) f.segments ∙ get_or-take to laid.slots first [] (omega (arith, f.are.0));
        }
    gathered-placed (Some (frames.SkipBlocks walk, to)) f = ap gathered_in f.is

  pub placed : (fs : List Frame) (b : BufferAt) → AreFrames fs n → Places fs laid b (place_named b fs n)
  placed fs at.Out f = record { there = tt; bytes = refl; segments = refl }
  placed fs (at.Slot frame slot) f = slot-placed fs frame slot (frame_numbered frame fs n) (over-all fs frame (frame_numbered frame fs n) (finds texts laid.slots fs frame n f))
  placed fs (at.Gathered frame) f = gathered-placed fs frame (frame_numbered frame fs n) (over-all fs frame (frame_numbered frame fs n) (finds texts laid.slots fs frame n f))

-- ---- how many segments a buffer has

no-more : (arena : List ℕ) (segments : List Segment) → AreSegments (length arena) segments → length segments ≤ length (bytes_of arena segments)
no-more arena [] f = omega arith
no-more arena (s ∷ segments) f =
    omega (arith, f.0.some, f.0.within, no-more arena segments f.2, length-append (bytes_at arena s) (bytes_of arena segments), length-take (s.end - s.place) (drop s.place arena), length-drop s.place arena)

in-total : (texts : List (List ℕ)) (i : ℕ) → length (get_or texts i []) ≤ total_length texts
in-total [] i = omega arith
in-total (x ∷ texts) zero = omega arith
in-total (x ∷ texts) (suc i) = omega (arith, in-total texts i)

pub few-segments : (laid : Laid) (place : TargetBuffer) (n : ℕ) → AreLaid laid → IsPlace (length laid.slots) place → total_length (texts_of laid) + length (out_of laid) ≤ n → length (segments_at laid place) ≤ n
few-segments laid places.Out n are p e = omega (arith, no-more laid.arena laid.out are.out, e)
few-segments laid (places.Slot i) n are p e =
    omega (arith, no-more laid.arena (get_or laid.slots i []) (all-at (AreSegments (length laid.arena)) laid.slots i [] are.slots p), in-total (texts_of laid) i, ap (λ (x : List ℕ). length x) (text-at laid i p), e)

-- ---- what the functions return

some-placed : (fs : List Frame) (laid : Laid) (b : BufferAt) (o : Option TargetBuffer) → Places fs laid b o → is_some o ≡ is_some (buffer_of b (record { frames = frames_in fs (texts_of laid); out = out_of laid; mark = None; over = false }))
some-placed fs laid b None p = ap is_some (sym p)
some-placed fs laid b (Some place) p = ap is_some (sym p.bytes)

module _ (top : Frame) (below xs : List Frame) (laid : Laid) (b : BufferAt) (k : ℕ) (o : Option TargetBuffer) (f : AreFrames (top ∷ reverse below) (length laid.slots)) (same : xs ≡ below) (many : k ≡ length laid.slots) (e : o ≡ place_named b (top ∷ reverse xs) k) where
  places-told : Places (top ∷ reverse below) laid b o
  places-told =
      subst (Places (top ∷ reverse below) laid b)
      (sym (e ∙ ap (λ (x : List Frame). place_named b (top ∷ reverse x) k) same ∙ ap (λ (n : ℕ). place_named b (top ∷ reverse below) n) many))
      (placed laid (top ∷ reverse below) b f)

  pub is-placed : (place : TargetBuffer) → o ≡ Some place → IsPlaced (top ∷ reverse below) laid b (length laid.slots) place
  is-placed place is = subst (Places (top ∷ reverse below) laid b) is places-told

  pub is-there : is_some o ≡ is_some (buffer_of b (record { frames = frames_in (top ∷ reverse below) (texts_of laid); out = out_of laid; mark = None; over = false }))
  is-there = some-placed (top ∷ reverse below) laid b o places-told

  pub none-placed : o ≡ None → buffer_of b (record { frames = frames_in (top ∷ reverse below) (texts_of laid); out = out_of laid; mark = None; over = false }) ≡ None
  none-placed is = subst (Places (top ∷ reverse below) laid b) is places-told

same-buffer : (b : BufferAt) (fs : List state.Frame) (out : List ℕ) (mark : Option ℕ) (over : Bool) → buffer_of b (record { frames = fs; out = out; mark = mark; over = over }) ≡ buffer_of b (record { frames = fs; out = out; mark = None; over = false })
same-buffer at.Out fs out mark over = refl
same-buffer (at.Slot frame slot) fs out mark over = refl
same-buffer (at.Gathered frame) fs out mark over = refl

pub buffer-shown : (fs : List Frame) (laid : Laid) (units : ℕ) (mark : Option ℕ) (over : Bool) (b : BufferAt) (held : Held) (found : Option (List ℕ)) → held_of fs laid units mark over ≡ held →
    buffer_of b (record { frames = frames_in fs (texts_of laid); out = out_of laid; mark = None; over = false }) ≡ found → buffer_of b held.store ≡ found
buffer-shown fs laid units mark over b held found is e =
    ap (λ (h : Held). buffer_of b h.store) (sym is) ∙ same-buffer b (frames_in fs (texts_of laid)) (out_of laid) mark over ∙ e

pub none-named : (o : Option (List ℕ)) → is_some o ≡ true → o ≡ None → ⊥
none-named None e n = cc
none-named (Some x) e n = cc

pub pushed-buffer : (o : Option (List ℕ)) (old new bytes : List ℕ) → o ≡ Some bytes → new ≡ old ++ bytes → Some new ≡ option_map (λ (x : List ℕ). old ++ x) o
pushed-buffer o old new bytes e n = ap (λ (x : List ℕ). Some x) n ∙ sym (ap (option_map (λ (x : List ℕ). old ++ x)) e)

pub grown-on-ok : {A E : Type 0} (r : Result A E) (new old more : List ℕ) → new ≡ cond (is_ok r) (old ++ more) old → OnOk r (new ≡ old ++ more)
grown-on-ok (Ok x) new old more e = e
grown-on-ok (Err x) new old more e = tt

pub same-on-err : {A E : Type 0} (r : Result A E) (new old more : List ℕ) → new ≡ cond (is_ok r) (old ++ more) old → OnErr r (new ≡ old)
same-on-err (Ok x) new old more e = tt
same-on-err (Err x) new old more e = e

pub segments-named : (fs : List Frame) (laid : Laid) (units : ℕ) (mark : Option ℕ) (over : Bool) (b : BufferAt) (held : Held) (place : TargetBuffer) → held_of fs laid units mark over ≡ held → IsPlaced fs laid b (length laid.slots) place → segments_of_buffer b held.layout ≡ segments_at laid place
segments-named fs laid units mark over b held place is p = ap (λ (h : Held). segments_of_buffer b h.layout) (sym is) ∙ p.segments

-- ---- how a buffer lies

-- its bytes are those at its segments, which lie in the arena
pub record Lies (b : BufferAt) (held : Held) : Type 0 where
  pub bytes : buffer_of b held.store ≡ Some (bytes_of held.layout.arena (segments_of_buffer b held.layout))
  pub segments : AreSegments (length held.layout.arena) (segments_of_buffer b held.layout)

laid-at : (laid : Laid) (place : TargetBuffer) → AreLaid laid → IsPlace (length laid.slots) place → AreSegments (length laid.arena) (segments_at laid place)
laid-at laid places.Out are there = are.out
laid-at laid (places.Slot number) are there = all-at (AreSegments (length laid.arena)) laid.slots number [] are.slots there

module _ (fs : List Frame) (laid : Laid) (units : ℕ) (mark : Option ℕ) (over : Bool) (b : BufferAt) where
  abbrev shown-held : Held
  shown-held = held_of fs laid units mark over

  lies-at : (o : Option TargetBuffer) → Places fs laid b o → AreLaid laid → is_some (buffer_of b shown-held.store) ≡ true → Lies b shown-held
  lies-at None p are there = absurd (none-named (buffer_of b shown-held.store) there (same-buffer b (frames_in fs (texts_of laid)) (out_of laid) mark over ∙ p))
  lies-at (Some place) p are there = record {
    bytes = same-buffer b (frames_in fs (texts_of laid)) (out_of laid) mark over ∙ p.bytes ∙ ap (λ (x : List Segment). Some (bytes_of laid.arena x)) (sym p.segments);
    segments = subst (AreSegments (length laid.arena)) (sym p.segments) (laid-at laid place are p.there);
  }

  pub lies : (held : Held) → AreFrames fs (length laid.slots) → AreLaid laid → held_of fs laid units mark over ≡ held → is_some (buffer_of b held.store) ≡ true → Lies b held
  lies held f are is there = subst (Lies b) is (lies-at (place_named b fs (length laid.slots)) (placed laid fs b f) are (ap (λ (h : Held). is_some (buffer_of b h.store)) is ∙ there))
