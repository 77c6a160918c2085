-- What a store keeps, and what it shows, through each of its changes.
use Rattle.std.proofs.Common.{◌≡◌, ◌≤◌, ◌<◌, ℕ, ◌+◌, ◌-◌, Bool, true, false, List, [], ◌∷◌, ◌++◌, length, take, replicate, Option, Some, None, refl, sym, ap, ◌∙◌, subst, arith, length-append}
use Rattle.std.specs.Prelude.{Result, Ok, Err, OnErr, OnOk}
use Rattle.std.specs.List.{AllByRecursion}
use Rattle.std.proofs.lemmas.List.{append-nil, drop_at, get_or_at, length-map, length-set, length-replicate, take_at}
use Rattle.spec_avro.specs.declared.limits.TheConstants.{MOST_DEPTH, MOST_OUTPUT}
use Rattle.spec_machine.specs.Lengths.{total_length}
use Rattle.spec_machine.specs.State as state
use Rattle.spec_machine.specs.State.{Store, add, append, emptied, is_done, marked, miss, total}
use Rattle.machine_store.specs.declared.buffers.TargetBuffer.{TargetBuffer}
use Rattle.machine_store.specs.declared.buffers.TargetBuffer.TheVariants as places
use Rattle.machine_store.specs.declared.store.Frame.{Frame}
use Rattle.machine_store.specs.declared.store.Frame.TheVariants as frames
use Rattle.machine_store.specs.declared.store.Opening.{Opening}
use Rattle.machine_store.specs.declared.store.Opening.TheVariants as openings
use Rattle.machine_store.specs.Buffers.{AreLaid, IsPlace, Laid, with_added, with_none, with_opened}
use Rattle.machine_store.specs.Frames.{AreFrames, HasFewItems, frame_of, frames_in, opened_at, place_of, slots_opened}
use Rattle.machine_store.specs.Store.{Held, IsKept, held_of, out_of, texts_of, with_frames}
use Rattle.machine_store.proofs.Framing.{add-fits, add-over, appended, emptied-frames, placed, sizes}
use Rattle.machine_store.proofs.Texts.{out-added, texts-added, texts-none, texts-opened, texts_with, total-append, total-replicate, total-with}

-- ---- the store that is shown

abbrev pub store_of : List Frame → List (List ℕ) → List ℕ → Option ℕ → Bool → Store
store_of fs texts out mark over = record { frames = frames_in fs texts; out = out; mark = mark; over = over }

pub total-is : (fs : List Frame) (laid : Laid) (lost units : ℕ) (mark : Option ℕ) (over : Bool) → IsKept fs laid lost units mark over → total (held_of fs laid units mark over).store + lost ≡ length laid.arena
total-is fs laid lost units mark over k =
    ap (λ (n : ℕ). n + length (out_of laid) + lost) (sizes fs (texts_of laid) (places-texts fs laid k.places)) ∙ k.counts
  where
    places-texts : (fs : List Frame) (laid : Laid) → AreFrames fs (length laid.slots) → AreFrames fs (length (texts_of laid))
    places-texts fs laid f = subst (AreFrames fs) (sym (length-map laid.slots _)) f

-- no more than the limit
pub total-fits : (fs : List Frame) (laid : Laid) (lost units : ℕ) (mark : Option ℕ) (over : Bool) → IsKept fs laid lost units mark over → total (held_of fs laid units mark over).store ≤ MOST_OUTPUT
total-fits fs laid lost units mark over k = omega (arith, total-is fs laid lost units mark over k, k.fits)

over-texts : (fs : List Frame) (laid : Laid) → AreFrames fs (length laid.slots) → AreFrames fs (length (texts_of laid))
over-texts fs laid f = subst (AreFrames fs) (sym (length-map laid.slots _)) f

nothing : (xs : List ℕ) → length xs ≡ 0 → xs ≡ []
nothing [] e = refl
nothing (x ∷ xs) e = absurd (omega (arith, e))

-- ---- emptied

pub kept-none : (fs : List Frame) (laid : Laid) (lost units : ℕ) (mark mark' : Option ℕ) (over over' : Bool) → IsKept fs laid lost units mark over → IsKept fs (with_none laid) 0 units mark' over'
kept-none fs laid lost units mark mark' over over' k = record {
  places = subst (AreFrames fs) (sym (length-replicate (length laid.slots) [])) k.places;
  items = k.items;
  deep = k.deep;
  counts = omega (arith, ap total_length (texts-none laid), total-replicate (length (texts_of laid)));
  fits = omega arith;
  none = λ d. refl;
}

pub shown-none : (fs : List Frame) (laid : Laid) (lost units : ℕ) (mark mark' : Option ℕ) (over over' : Bool) → IsKept fs laid lost units mark over →
    store_of fs (texts_of (with_none laid)) (out_of (with_none laid)) mark' over' ≡ emptied (store_of fs (texts_of laid) (out_of laid) mark' over')
shown-none fs laid lost units mark mark' over over' k =
    ap (λ (x : List (List ℕ)). store_of fs x [] mark' over') (texts-none laid)
    ∙ ap (λ (x : List state.Frame). record { frames = x; out = []; mark = mark'; over = over' }) (sym (emptied-frames fs (texts_of laid) (over-texts fs laid k.places)))

-- ---- bytes added

-- the limit is passed
pub shown-passed : (fs : List Frame) (laid : Laid) (lost units : ℕ) (mark : Option ℕ) (over : Bool) (h : Held) → held_of fs laid units mark over ≡ h → IsKept fs laid lost units mark over →
    store_of fs (texts_of (with_none laid)) (out_of (with_none laid)) mark true ≡ emptied (record h.store { over = true })
shown-passed fs laid lost units mark over h is k = shown-none fs laid lost units mark mark over true k ∙ ap (λ (x : Held). emptied (record x.store { over = true })) is

-- more than there is room for
pub add-great : (x : List ℕ) (s : Store) → is_done s.mark s.over ≡ false → MOST_OUTPUT - total s < length x → emptied (record s { over = true }) ≡ add x s
add-great x s d lt = sym (add-over x s d (omega (arith, lt)))

-- no more
module _ (top : Frame) (below : List Frame) (laid : Laid) (lost units : ℕ) (mark : Option ℕ) (over : Bool) (x : List ℕ) (place : TargetBuffer) (k : IsKept (top ∷ below) laid lost units mark over) (are : AreLaid laid) (d : is_done mark over ≡ false) (p : place_of top ≡ Some place) (le : length x ≤ MOST_OUTPUT - total (held_of (top ∷ below) laid units mark over).store) where
  there : IsPlace (length laid.slots) place
  there = placed top below (length laid.slots) place k.places p

  there-texts : IsPlace (length (texts_of laid)) place
  there-texts = subst (λ (n : ℕ). IsPlace n place) (sym (length-map laid.slots _)) there

  same-many : (q : TargetBuffer) → length (with_added q x laid).slots ≡ length laid.slots
  same-many places.Out = refl
  same-many (places.Slot i) = length-set laid.slots i _

  pub kept-added : IsKept (top ∷ below) (with_added place x laid) lost units mark over
  kept-added = record {
    places = subst (AreFrames (top ∷ below)) (sym (same-many place)) k.places;
    items = k.items;
    deep = k.deep;
    counts = omega (arith, all-added, k.counts, arena-added place);
    fits = omega (arith, arena-added place, le, total-is (top ∷ below) laid lost units mark over k, total-fits (top ∷ below) laid lost units mark over k);
    none = λ t. absurd (let e : true ≡ false = sym t ∙ d in cc);
  }
    where
      all-added : total_length (texts_of (with_added place x laid)) + length (out_of (with_added place x laid)) ≡ total_length (texts_of laid) + length (out_of laid) + length x
      all-added =
          ap (λ (n : ℕ). n + length (out_of (with_added place x laid))) (ap total_length (texts-added laid x are place there))
          ∙ ap (λ (y : List ℕ). total_length (texts_with place x (texts_of laid)) + length y) (out-added laid x are place there)
          ∙ total-with place x (out_of laid) (texts_of laid) there-texts

      arena-added : (q : TargetBuffer) → length (with_added q x laid).arena ≡ length laid.arena + length x
      arena-added places.Out = length-append laid.arena x
      arena-added (places.Slot i) = length-append laid.arena x

  pub shown-added : (h : Held) → held_of (top ∷ below) laid units mark over ≡ h → store_of (top ∷ below) (texts_of (with_added place x laid)) (out_of (with_added place x laid)) mark over ≡ add x h.store
  shown-added h is =
      ap (λ (y : List (List ℕ)). store_of (top ∷ below) y (out_of (with_added place x laid)) mark over) (texts-added laid x are place there)
      ∙ ap (λ (y : List ℕ). store_of (top ∷ below) (texts_with place x (texts_of laid)) y mark over) (out-added laid x are place there)
      ∙ sym (appended top below (texts_of laid) (out_of laid) x mark over place (over-texts (top ∷ below) laid k.places) p)
      ∙ sym (add-fits x (held_of (top ∷ below) laid units mark over).store d (omega (arith, le, total-fits (top ∷ below) laid lost units mark over k)))
      ∙ ap (λ (y : Held). add x y.store) is

pub on_added : {A E : Type 0} (r : Result A E) (P : Laid → Type 0) (laid new grown : Laid) → (P grown) → OnOk r (new ≡ grown) → OnOk r (P new)
on_added (Ok a) P laid new grown p e = subst P (sym e) p
on_added (Err a) P laid new grown p e = tt

pub either : {A E : Type 0} (r : Result A E) (P : Laid → Type 0) (old new grown : Laid) → P grown → P old → OnOk r (new ≡ grown) → OnErr r (new ≡ old) → P new
either (Ok a) P old new grown p q e f = subst P (sym e) p
either (Err a) P old new grown p q e f = subst P (sym f) q

-- ---- marked

pub miss-first : (fs : List Frame) (laid : Laid) (lost units : ℕ) (over : Bool) (m : ℕ) (h : Held) → held_of fs laid units None over ≡ h → IsKept fs laid lost units None over →
    store_of fs (texts_of (with_none laid)) (out_of (with_none laid)) (Some m) over ≡ miss m h.store
unfolding miss
miss-first fs laid lost units over m h is k = shown-none fs laid lost units None (Some m) over over k ∙ ap (λ (y : Held). marked m y.store.mark y.store) is

pub miss-later : (m first : ℕ) (s : Store) → s.mark ≡ Some first → s ≡ miss m s
unfolding miss
miss-later m first s e = sym (ap (λ (x : Option ℕ). marked m x s) e)

-- ---- opened

more-items : (a b : ℕ) (fs : List Frame) → a ≤ b → AllByRecursion (HasFewItems a) fs → AllByRecursion (HasFewItems b) fs
more-items a b [] le f = tt
more-items a b (frames.Bottom ∷ fs) le f = (tt, more-items a b fs le f.1)
more-items a b (frames.Record first selected ∷ fs) le f = (tt, more-items a b fs le f.1)
more-items a b (frames.Skip ∷ fs) le f = (tt, more-items a b fs le f.1)
more-items a b (frames.Blocks first walk items ∷ fs) le f = (omega (arith, f.0, le), more-items a b fs le f.1)
more-items a b (frames.SkipBlocks walk ∷ fs) le f = (tt, more-items a b fs le f.1)

few-at : (units first : ℕ) (o : Opening) → HasFewItems units (opened_at first o)
few-at units first (openings.Record slots) = tt
few-at units first openings.Skip = tt
few-at units first (openings.Blocks walk) = omega arith
few-at units first (openings.SkipBlocks walk) = tt

frames-opened : (fs : List Frame) (n m : ℕ) (o : Opening) → AreFrames fs n → m ≡ n + slots_opened o → AreFrames (opened_at n o ∷ fs) m
frames-opened fs n m (openings.Record slots) f e = (omega (arith, e), tt, f)
frames-opened fs n m openings.Skip f e = subst (AreFrames fs) (let z : n ≡ m = omega (arith, e) in z) f
frames-opened fs n m (openings.Blocks walk) f e = (e, f)
frames-opened fs n m (openings.SkipBlocks walk) f e = subst (AreFrames fs) (let z : n ≡ m = omega (arith, e) in z) f

shows-opened : (fs : List Frame) (texts : List (List ℕ)) (first : ℕ) (o : Opening) → length texts ≡ first → frames_in (opened_at first o ∷ fs) (texts ++ replicate (slots_opened o) []) ≡ frame_of o ∷ frames_in fs texts
shows-opened fs texts first (openings.Record slots) e =
    ap (λ (x : List (List ℕ)). state.Rec None x ∷ frames_in fs (take first (texts ++ replicate slots []))) (drop_at texts (replicate slots []) first e)
    ∙ ap (λ (x : List (List ℕ)). state.Rec None (replicate slots []) ∷ frames_in fs x) (take_at texts (replicate slots []) first e)
shows-opened fs texts first openings.Skip e = ap (λ (x : List (List ℕ)). state.Skip ∷ frames_in fs x) (append-nil texts)
shows-opened fs texts first (openings.Blocks walk) e =
    ap (λ (x : List ℕ). state.Blocks walk 0 x ∷ frames_in fs (take first (texts ++ [] ∷ []))) (get_or_at texts [] [] [] first e)
    ∙ ap (λ (x : List (List ℕ)). state.Blocks walk 0 [] ∷ frames_in fs x) (take_at texts ([] ∷ []) first e)
shows-opened fs texts first (openings.SkipBlocks walk) e = ap (λ (x : List (List ℕ)). state.SkipBlocks walk ∷ frames_in fs x) (append-nil texts)

pub depth : (fs : List Frame) (texts : List (List ℕ)) (n : ℕ) → AreFrames fs n → length (frames_in fs texts) + 1 ≡ length fs
depth [] texts n f = absurd f
depth (frames.Bottom ∷ below) texts n f = omega (arith, ap (λ (x : List Frame). length x) f.0)
depth (frames.Record first selected ∷ below) texts n f = omega (arith, depth below (take first texts) first f.2)
depth (frames.Skip ∷ below) texts n f = omega (arith, depth below texts n f)
depth (frames.Blocks first walk items ∷ below) texts n f = omega (arith, depth below (take first texts) first f.1)
depth (frames.SkipBlocks walk ∷ below) texts n f = omega (arith, depth below texts n f)

pub kept-opened : (fs : List Frame) (laid new : Laid) (lost units more first : ℕ) (mark : Option ℕ) (over : Bool) (o : Opening) (h : Held) → held_of fs laid units mark over ≡ h → IsKept fs laid lost units mark over → first ≡ length laid.slots → new ≡ with_opened (slots_opened o) laid → units ≤ more → length h.store.frames < MOST_DEPTH →
    IsKept (opened_at first o ∷ fs) new lost more mark over
kept-opened fs laid new lost units more first mark over o h is k f e le lt =
    subst (λ (x : Laid). IsKept (opened_at first o ∷ fs) x lost more mark over) (sym e) (record {
      places = subst (λ (n : ℕ). AreFrames (opened_at n o ∷ fs) (length (laid.slots ++ replicate (slots_opened o) []))) (sym f)
          (frames-opened fs (length laid.slots) (length (laid.slots ++ replicate (slots_opened o) [])) o k.places (length-append laid.slots (replicate (slots_opened o) []) ∙ ap (λ (n : ℕ). length laid.slots + n) (length-replicate (slots_opened o) [])));
      items = (few-at more first o, more-items units more fs le k.items);
      deep = omega (arith, depth fs (texts_of laid) (length laid.slots) k.places, ap (λ (x : Held). length x.store.frames) is, lt);
      counts = ap (λ (n : ℕ). n + length (out_of laid) + lost) (ap total_length (texts-opened laid (slots_opened o)) ∙ total-append (texts_of laid) (replicate (slots_opened o) []) ∙ ap (λ (n : ℕ). total_length (texts_of laid) + n) (total-replicate (slots_opened o)) ∙ (let z : total_length (texts_of laid) + 0 ≡ total_length (texts_of laid) = omega arith in z)) ∙ k.counts;
      fits = k.fits;
      none = k.none;
    })

pub shown-opened : (fs : List Frame) (laid new : Laid) (units first : ℕ) (mark : Option ℕ) (over : Bool) (o : Opening) (h : Held) → held_of fs laid units mark over ≡ h → first ≡ length laid.slots → new ≡ with_opened (slots_opened o) laid →
    store_of (opened_at first o ∷ fs) (texts_of new) (out_of new) mark over ≡ with_frames (frame_of o ∷ h.store.frames) h.store
shown-opened fs laid new units first mark over o h is f e =
    ap (λ (x : Laid). store_of (opened_at first o ∷ fs) (texts_of x) (out_of x) mark over) e
    ∙ ap (λ (x : List (List ℕ)). store_of (opened_at first o ∷ fs) x (out_of laid) mark over) (texts-opened laid (slots_opened o))
    ∙ ap (λ (x : List state.Frame). record { frames = x; out = out_of laid; mark = mark; over = over }) (shows-opened fs (texts_of laid) first o (length-map laid.slots _ ∙ sym f))
    ∙ ap (λ (x : Held). with_frames (frame_of o ∷ x.store.frames) x.store) is
