-- What a store keeps, and what it shows, when its newest frame goes: where nothing is held any more, and an array or
-- a map without items.
use Rattle.std.proofs.Common.{◌≡◌, ◌≢◌, ◌≤◌, ◌<◌, ℕ, ◌+◌, ◌-◌, Bool, true, false, List, [], ◌∷◌, ◌++◌, length, take, drop, get_or, set, Option, Some, refl, sym, ap, ◌∙◌, subst, arith, length-append}
use Rattle.std.specs.Prelude.{is_some}
use Rattle.std.proofs.lemmas.List.{get_or-map, get_or-take, length-map}
use Rattle.std.proofs.Math.Seq.{take-set-lt}
use Rattle.spec_avro.specs.declared.limits.TheConstants.{MOST_OUTPUT}
use Rattle.spec_machine.specs.Lengths.{total_length}
use Rattle.spec_machine.specs.State as state
use Rattle.spec_machine.specs.State.{Store, add, emptied, is_done, total}
use Rattle.machine_store.specs.declared.buffers.TargetBuffer.{TargetBuffer}
use Rattle.machine_store.specs.declared.buffers.TargetBuffer.TheVariants as places
use Rattle.machine_store.specs.declared.ropes.Segment.{Segment}
use Rattle.machine_store.specs.declared.store.Frame.{Frame}
use Rattle.machine_store.specs.declared.store.Frame.TheVariants as frames
use Rattle.machine_store.specs.Buffers.{AreLaid, IsPlace, Laid, segments_at, with_added, with_fewer}
use Rattle.machine_store.specs.Frames.{AreFrames, first_of, frames_in, newest_place, walk_of}
use Rattle.machine_store.specs.Segments.{bytes_of, with_bytes}
use Rattle.machine_store.specs.Store.{Held, IsKept, held_of, leave, out_of, texts_of, with_frames}
use Rattle.machine_store.proofs.Closing.{fewer-texts, kept-dropped, rest-frames}
use Rattle.machine_store.proofs.Framing.{one-total, placed}
use Rattle.machine_store.proofs.Keeping.{kept-added, shown-added, store_of, total-fits, total-is}
use Rattle.machine_store.proofs.Placing.{all-take}

-- ---- what is shown

left-frames : (top : Frame) (rest : List Frame) (texts : List (List ℕ)) (first : ℕ) → first_of top ≡ Some first → leave (frames_in (top ∷ rest) texts) ≡ frames_in rest (take first texts)
left-frames frames.Bottom rest texts first e = absurd cc
left-frames (frames.Record a selected) rest texts first e = let z : a ≡ first = cc in ap (λ (i : ℕ). frames_in rest (take i texts)) z
left-frames frames.Skip rest texts first e = absurd cc
left-frames (frames.Blocks a walk items) rest texts first e = let z : a ≡ first = cc in ap (λ (i : ℕ). frames_in rest (take i texts)) z
left-frames (frames.SkipBlocks walk) rest texts first e = absurd cc

pub shown-dropped : (top : Frame) (rest : List Frame) (laid : Laid) (units : ℕ) (mark : Option ℕ) (over : Bool) (first : ℕ) (h : Held) → held_of (top ∷ rest) laid units mark over ≡ h → first_of top ≡ Some first → store_of rest (texts_of (with_fewer first laid)) (out_of (with_fewer first laid)) mark over ≡ with_frames (leave h.store.frames) h.store
shown-dropped top rest laid units mark over first h is fe =
    ap (λ (x : List (List ℕ)). store_of rest x (out_of laid) mark over) (fewer-texts laid first)
    ∙ ap (λ (fs : List state.Frame). record { frames = fs; out = out_of laid; mark = mark; over = over }) (sym (left-frames top rest (texts_of laid) first fe))
    ∙ ap (λ (x : Held). with_frames (leave x.store.frames) x.store) is

-- ---- the buffer of an array or a map

one-buffer : (top : Frame) (rest : List Frame) (texts : List (List ℕ)) (first : ℕ) → AreFrames (top ∷ rest) (length texts) → first_of top ≡ Some first → is_some (walk_of (frames_in (top ∷ rest) texts)) ≡ true → (first < length texts) × (total_length (drop first texts) ≡ length (get_or texts first []))
one-buffer frames.Bottom rest texts first f e w = absurd cc
one-buffer (frames.Record a selected) rest texts first f e w = absurd cc
one-buffer frames.Skip rest texts first f e w = absurd cc
one-buffer (frames.Blocks a walk items) rest texts first f e w =
    let z : a ≡ first = cc in
    subst (λ (i : ℕ). (i < length texts) × (total_length (drop i texts) ≡ length (get_or texts i []))) z (omega (arith, f.0), one-total a texts f.0)
one-buffer (frames.SkipBlocks walk) rest texts first f e w = absurd cc

-- what was written is as long as the buffer
pub written-length : (place : TargetBuffer) (laid : Laid) (old new : List ℕ) (n : ℕ) → old ≡ [] → new ≡ old ++ bytes_of laid.arena (segments_at laid place) → n ≡ length new → n ≡ length (bytes_of laid.arena (segments_at laid place))
written-length place laid old new n o e is = is ∙ ap (λ (x : List ℕ). length x) (e ∙ ap (λ (x : List ℕ). x ++ bytes_of laid.arena (segments_at laid place)) o)

module _ (top : Frame) (rest : List Frame) (laid : Laid) (lost units : ℕ) (mark : Option ℕ) (over : Bool) (first : ℕ) (h : Held) (is : held_of (top ∷ rest) laid units mark over ≡ h) (k : IsKept (top ∷ rest) laid lost units mark over) (fe : first_of top ≡ Some first) (w : is_some (walk_of h.store.frames) ≡ true) where
  buffer : (first < length (texts_of laid)) × (total_length (drop first (texts_of laid)) ≡ length (get_or (texts_of laid) first []))
  buffer =
      one-buffer top rest (texts_of laid) first (subst (AreFrames (top ∷ rest)) (sym (length-map laid.slots (bytes_of laid.arena))) k.places) fe
      (ap (λ (x : Held). is_some (walk_of x.store.frames)) is ∙ w)

  pub buffer-there : IsPlace (length laid.slots) (places.Slot first)
  buffer-there = omega (arith, buffer.0, length-map laid.slots (bytes_of laid.arena))

  module _ (n : ℕ) (e : n ≡ length (bytes_of laid.arena (segments_at laid (places.Slot first)))) where
    all-dropped : n ≡ total_length (drop first (texts_of laid))
    all-dropped = e ∙ ap (λ (x : List ℕ). length x) (sym (get_or-map (bytes_of laid.arena) laid.slots first [] [] buffer-there)) ∙ sym buffer.1

    kept : IsKept rest (with_fewer first laid) (lost + n) units mark over
    kept = kept-dropped top rest laid lost units mark over first k fe n all-dropped

    abbrev left : Store
    left = store_of rest (texts_of (with_fewer first laid)) (out_of (with_fewer first laid)) mark over

    kept-total : total left + (lost + n) ≡ length laid.arena
    kept-total = total-is rest (with_fewer first laid) (lost + n) units mark over kept

    left-total : total left + n ≡ total h.store
    left-total = omega (arith, kept-total, total-is (top ∷ rest) laid lost units mark over k, ap (λ (x : Held). total x.store) is)

    -- where one byte more is too much
    pub too-much : total h.store - n ≡ MOST_OUTPUT → MOST_OUTPUT < total (with_frames (leave h.store.frames) h.store) + 1
    too-much much = omega (arith, left-total, much, ap total (shown-dropped top rest laid units mark over first h is fe))

    -- where there is room for it
    module _ (into : TargetBuffer) (are : AreLaid laid) (d : is_done mark over ≡ false) (some : total h.store - n ≢ MOST_OUTPUT) where
      commutes : (q : TargetBuffer) → IsPlace first q → with_fewer first (with_added q (0 ∷ []) laid) ≡ with_added q (0 ∷ []) (with_fewer first laid)
      commutes places.Out p = refl
      commutes (places.Slot i) p =
          let s : Segment = record { place = length laid.arena; end = length laid.arena + 1 } in
          ap (λ (x : List (List Segment)). record { arena = laid.arena ++ 0 ∷ []; out = laid.out; slots = x })
          (take-set-lt first laid.slots i (with_bytes (get_or laid.slots i []) s) p
          ∙ ap (λ (x : List Segment). set (take first laid.slots) i (with_bytes x s)) (sym (get_or-take first laid.slots i [] p)))

      fewer-are : AreLaid (with_fewer first laid)
      fewer-are = record { out = are.out; slots = all-take _ first laid.slots are.slots }

      room : 1 ≤ MOST_OUTPUT - total left
      room = grind (arith, left-total, some, total-fits rest (with_fewer first laid) (lost + n) units mark over kept)

      there : (fs : List Frame) → AreFrames fs first → newest_place fs ≡ Some into → IsPlace first into
      there [] f p = absurd f
      there (t ∷ below) f p = placed t below first into f p

      same : newest_place rest ≡ Some into → with_added into (0 ∷ []) (with_fewer first laid) ≡ with_fewer first (with_added into (0 ∷ []) laid)
      same p = sym (commutes into (there rest (rest-frames top rest laid lost units mark over first k fe).0 p))

      kept-byte : (fs : List Frame) → newest_place fs ≡ Some into → IsKept fs (with_fewer first laid) (lost + n) units mark over → 1 ≤ MOST_OUTPUT - total (held_of fs (with_fewer first laid) units mark over).store → IsKept fs (with_added into (0 ∷ []) (with_fewer first laid)) (lost + n) units mark over
      kept-byte [] p g r = absurd cc
      kept-byte (t ∷ below) p g r = kept-added t below (with_fewer first laid) (lost + n) units mark over (0 ∷ []) into g fewer-are d p r

      shown-byte : (fs : List Frame) → newest_place fs ≡ Some into → IsKept fs (with_fewer first laid) (lost + n) units mark over → 1 ≤ MOST_OUTPUT - total (held_of fs (with_fewer first laid) units mark over).store → store_of fs (texts_of (with_added into (0 ∷ []) (with_fewer first laid))) (out_of (with_added into (0 ∷ []) (with_fewer first laid))) mark over ≡ add (0 ∷ []) (store_of fs (texts_of (with_fewer first laid)) (out_of (with_fewer first laid)) mark over)
      shown-byte [] p g r = absurd cc
      shown-byte (t ∷ below) p g r = shown-added t below (with_fewer first laid) (lost + n) units mark over (0 ∷ []) into g fewer-are d p r _ refl

      longer : (q : TargetBuffer) → length (with_fewer first (with_added q (0 ∷ []) laid)).arena ≡ length laid.arena + 1
      longer places.Out = length-append laid.arena (0 ∷ [])
      longer (places.Slot i) = length-append laid.arena (0 ∷ [])

      -- what no buffer holds any more, of an arena that is longer by a byte
      pub lost-then : (held : ℕ) (new : Laid) → held ≡ total h.store - n → new ≡ with_fewer first (with_added into (0 ∷ []) laid) → (held + 1 ≤ length new.arena) × (length new.arena - (held + 1) ≡ lost + n)
      lost-then held new e is =
          let size : length new.arena ≡ length laid.arena + 1 = ap (λ (x : Laid). length x.arena) is ∙ longer into in
          (omega (arith, size, e, left-total, kept-total), omega (arith, size, e, left-total, kept-total))

      pub kept-emptied : newest_place rest ≡ Some into → IsKept rest (with_fewer first (with_added into (0 ∷ []) laid)) (lost + n) units mark over
      kept-emptied p = subst (λ (x : Laid). IsKept rest x (lost + n) units mark over) (same p) (kept-byte rest p kept room)

      pub shown-emptied : newest_place rest ≡ Some into → store_of rest (texts_of (with_fewer first (with_added into (0 ∷ []) laid))) (out_of (with_fewer first (with_added into (0 ∷ []) laid))) mark over ≡ add (0 ∷ []) (with_frames (leave h.store.frames) h.store)
      shown-emptied p =
          ap (λ (x : Laid). store_of rest (texts_of x) (out_of x) mark over) (sym (same p))
          ∙ shown-byte rest p kept room
          ∙ ap (add (0 ∷ [])) (shown-dropped top rest laid units mark over first h is fe)
