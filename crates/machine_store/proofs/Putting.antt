-- What adding and closing leave: buffers that lie in the arena, and show what they should.
use Rattle.std.proofs.Common.{◌≡◌, ◌≤◌, ◌<◌, ℕ, ◌+◌, List, [], ◌∷◌, ◌++◌, length, map, take, drop, set, refl, sym, ap, ◌∙◌, subst, arith}
use Rattle.std.proofs.lemmas.List.{append-nil, length-map}
use Rattle.machine_store.specs.declared.buffers.Buffer.{Buffer}
use Rattle.machine_store.specs.declared.buffers.Buffer.TheVariants as buffers
use Rattle.machine_store.specs.declared.buffers.TargetBuffer.{TargetBuffer}
use Rattle.machine_store.specs.declared.buffers.TargetBuffer.TheVariants as places
use Rattle.machine_store.specs.declared.ropes.Segment.{Segment}
use Rattle.machine_store.specs.Buffers.{AllHeld, IsHeld, IsLaid, IsLater, IsPlace, Laid, buffer_at, laid_of, out_after, segments_at, segments_of, slots_after, with_added, with_closed}
use Rattle.machine_store.specs.Ropes.{rope_at}
use Rattle.machine_store.specs.Segments.{AreWithin, IsSegment, bytes_at, bytes_of, with_bytes, with_lists}
use Rattle.machine_store.proofs.Joining.{AllHeld-later, later-later}
use Rattle.machine_store.proofs.Laying.{within-back, within-front}
use Rattle.machine_store.proofs.Writing.{bytes_of-append}
use Rattle.machine_store.proofs.Placing.{Became, added-became, closed-became, closing, fewer-laid, held-place, place-there, put-out, put-slot, segments-place, within-place, shows-added-out, shows-added-slot, shows-closed-out, shows-closed-slot}

module _ (arena : List ℕ) (old : List (List Segment)) (out : Buffer) (slots : List Buffer) (laid : Laid) (is : laid_of arena old out slots ≡ laid) (keeps : IsLaid arena old out slots) where
  -- ---- bytes added

  -- the buffer that was there, and what it became
  pub record Added (grown bytes : List ℕ) (new : List (List Segment)) (r b : Buffer) (place : TargetBuffer) (from : ℕ) : Type 0 where
    pub there : IsPlace (length laid.slots) place
    pub begins : from ≡ length arena
    pub at : r ≡ buffer_at out slots place
    pub segments : segments_of new b ≡ with_bytes (segments_of old r) (record { place = from; end = from + length bytes })
    pub held : IsHeld new b
    pub later : IsLater old new
    pub longer : grown ≡ arena ++ bytes

  became : (grown bytes : List ℕ) (new : List (List Segment)) (r b : Buffer) (place : TargetBuffer) (from : ℕ) → Added grown bytes new r b place from →
      Became arena grown bytes old new b (with_bytes (segments_of old (buffer_at out slots place)) (record { place = length arena; end = length arena + length bytes }))
  became grown bytes new r b place from a =
      added-became arena grown bytes old new out b slots place from (from + length bytes) keeps (place-there arena old out slots place laid is a.there) a.begins refl a.later a.longer a.held
      (a.segments ∙ ap (λ (x : Buffer). with_bytes (segments_of old x) (record { place = from; end = from + length bytes })) a.at)

  added-out : (grown bytes : List ℕ) (new : List (List Segment)) (r b : Buffer) (place : TargetBuffer) (from : ℕ) → Added grown bytes new r b place from → place ≡ places.Out →
      IsLaid grown new b slots × (laid_of grown new b slots ≡ with_added place bytes laid)
  added-out grown bytes new r b place from a e =
      let g = subst (λ (x : TargetBuffer). Became arena grown bytes old new b (with_bytes (segments_of old (buffer_at out slots x)) (record { place = length arena; end = length arena + length bytes }))) e (became grown bytes new r b place from a) in (
        put-out arena grown bytes old new out b slots (with_bytes (segments_of old out) (record { place = length arena; end = length arena + length bytes })) keeps g,
        shows-added-out arena grown bytes old new out b slots laid is keeps g ∙ ap (λ (x : TargetBuffer). with_added x bytes laid) (sym e),
      )

  added-slot : (grown bytes : List ℕ) (new : List (List Segment)) (r b : Buffer) (place : TargetBuffer) (from i : ℕ) → Added grown bytes new r b place from → place ≡ places.Slot i →
      IsLaid grown new out (set slots i b) × (laid_of grown new out (set slots i b) ≡ with_added place bytes laid)
  added-slot grown bytes new r b place from i a e =
      let g = subst (λ (x : TargetBuffer). Became arena grown bytes old new b (with_bytes (segments_of old (buffer_at out slots x)) (record { place = length arena; end = length arena + length bytes }))) e (became grown bytes new r b place from a) in
      let lt : i < length slots = subst (λ (x : TargetBuffer). IsPlace (length slots) x) e (place-there arena old out slots place laid is a.there) in (
        put-slot arena grown bytes old new out b slots i (with_bytes (segments_of old (buffer_at out slots (places.Slot i))) (record { place = length arena; end = length arena + length bytes })) keeps g,
        shows-added-slot arena grown bytes old new out b slots i laid is keeps lt g ∙ ap (λ (x : TargetBuffer). with_added x bytes laid) (sym e),
      )

  pub added-put : (grown bytes : List ℕ) (new : List (List Segment)) (r b : Buffer) (place : TargetBuffer) (from : ℕ) → Added grown bytes new r b place from →
      IsLaid grown new (out_after place b out) (slots_after place b slots) × (laid_of grown new (out_after place b out) (slots_after place b slots) ≡ with_added place bytes laid)
  added-put grown bytes new r b places.Out from a = added-out grown bytes new r b places.Out from a refl
  added-put grown bytes new r b (places.Slot i) from a = added-slot grown bytes new r b (places.Slot i) from i a refl

  -- ---- slots closed

  pub slots-held : (one : List (List Segment)) → IsLater old one → AllHeld one slots
  slots-held one l = AllHeld-later old one slots l keeps.rest

  pub record Closed (grown around : List ℕ) (one two new : List (List Segment)) (r b c d : Buffer) (into : TargetBuffer) (first before from : ℕ) : Type 0 where
    pub there : IsPlace first into
    pub some : first ≤ length laid.slots
    pub fits : before ≤ length around
    pub begins : from ≡ length arena
    pub at : r ≡ buffer_at out slots into
    pub front : segments_of one b ≡ with_bytes (segments_of old r) (record { place = from; end = from + before })
    pub later1 : IsLater old one
    pub middle : segments_of two c ≡ with_lists (segments_of one b) (map (segments_of one) (drop first slots))
    pub later2 : IsLater one two
    pub back : segments_of new d ≡ with_bytes (segments_of two c) (record { place = from + before; end = from + length around })
    pub held : IsHeld new d
    pub later3 : IsLater two new
    pub longer : grown ≡ arena ++ around

  place-below : (first n : ℕ) (into : TargetBuffer) → first ≤ n → IsPlace first into → IsPlace n into
  place-below first n places.Out le p = tt
  place-below first n (places.Slot i) le p = omega (arith, le, p)

  how-many : length slots ≡ length laid.slots
  how-many = sym (length-map slots (segments_of old)) ∙ ap (λ (x : Laid). length x.slots) is

  closed : (grown around : List ℕ) (one two new : List (List Segment)) (r b c d : Buffer) (into : TargetBuffer) (first before from : ℕ) → Closed grown around one two new r b c d into first before from →
      Became arena grown around old new d (closing arena (segments_of old (buffer_at out slots into)) (drop first (map (segments_of old) slots)) around before)
  closed grown around one two new r b c d into first before from a =
      let there : IsPlace (length slots) into = place-below first (length slots) into (omega (arith, a.some, how-many)) a.there in
      closed-became arena grown around old one two new out b c d slots into first before from keeps there a.begins a.fits a.longer a.later1
      (a.front ∙ ap (λ (x : Buffer). with_bytes (segments_of old x) (record { place = from; end = from + before })) a.at) a.later2
      a.middle
      a.later3 a.back a.held (later-later old two new (later-later old one two a.later1 a.later2) a.later3)

  closed-out : (grown around : List ℕ) (one two new : List (List Segment)) (r b c d : Buffer) (into : TargetBuffer) (first before from : ℕ) → Closed grown around one two new r b c d into first before from → into ≡ places.Out →
      IsLaid grown new d (take first slots) × (laid_of grown new d (take first slots) ≡ with_closed first into around before laid)
  closed-out grown around one two new r b c d into first before from a e =
      let g = subst (λ (x : TargetBuffer). Became arena grown around old new d (closing arena (segments_of old (buffer_at out slots x)) (drop first (map (segments_of old) slots)) around before)) e (closed grown around one two new r b c d into first before from a) in (
        put-out arena grown around old new out d (take first slots) (closing arena (segments_of old out) (drop first (map (segments_of old) slots)) around before) (fewer-laid arena old out slots first keeps) g,
        shows-closed-out arena grown around old new out d slots first before laid is keeps g ∙ ap (λ (x : TargetBuffer). with_closed first x around before laid) (sym e),
      )

  closed-slot : (grown around : List ℕ) (one two new : List (List Segment)) (r b c d : Buffer) (into : TargetBuffer) (first before from i : ℕ) → Closed grown around one two new r b c d into first before from → into ≡ places.Slot i →
      IsLaid grown new out (set (take first slots) i d) × (laid_of grown new out (set (take first slots) i d) ≡ with_closed first into around before laid)
  closed-slot grown around one two new r b c d into first before from i a e =
      let g = subst (λ (x : TargetBuffer). Became arena grown around old new d (closing arena (segments_of old (buffer_at out slots x)) (drop first (map (segments_of old) slots)) around before)) e (closed grown around one two new r b c d into first before from a) in
      let lt : i < length slots = subst (λ (x : TargetBuffer). IsPlace (length slots) x) e (place-below first (length slots) into (omega (arith, a.some, how-many)) a.there) in (
        put-slot arena grown around old new out d (take first slots) i (closing arena (segments_of old (buffer_at out slots (places.Slot i))) (drop first (map (segments_of old) slots)) around before) (fewer-laid arena old out slots first keeps) g,
        shows-closed-slot arena grown around old new out d slots i first before laid is keeps lt g ∙ ap (λ (x : TargetBuffer). with_closed first x around before laid) (sym e),
      )

  pub closed-put : (grown around : List ℕ) (one two new : List (List Segment)) (r b c d : Buffer) (into : TargetBuffer) (first before from : ℕ) → Closed grown around one two new r b c d into first before from →
      IsLaid grown new (out_after into d out) (slots_after into d (take first slots)) × (laid_of grown new (out_after into d out) (slots_after into d (take first slots)) ≡ with_closed first into around before laid)
  closed-put grown around one two new r b c d places.Out first before from a = closed-out grown around one two new r b c d places.Out first before from a refl
  closed-put grown around one two new r b c d (places.Slot i) first before from a = closed-slot grown around one two new r b c d (places.Slot i) first before from i a refl

  -- ---- a buffer of more segments, as it is written

  pub record Wide (first : Segment) (middle : ℕ) (last : Segment) (place : TargetBuffer) : Type 0 where
    pub front : IsSegment (length arena) first
    pub there : middle < length old
    pub rope : AreWithin (length arena) (rope_at old middle)
    pub back : IsSegment (length arena) last
    pub bytes : bytes_at arena first ++ (bytes_of arena (rope_at old middle) ++ bytes_at arena last) ≡ bytes_of laid.arena (segments_at laid place)

  pub wide : (first last : Segment) (middle : ℕ) (place : TargetBuffer) → IsPlace (length laid.slots) place → buffers.More first middle last ≡ buffer_at out slots place → Wide first middle last place
  wide first last middle place p e =
      let b : Buffer = buffers.More first middle last in
      let q = place-there arena old out slots place laid is p in
      let w = within-place arena old out slots place b keeps q e in
      record {
        front = w.0;
        there = subst (IsHeld old) (sym e) (held-place arena old out slots place keeps q);
        rope = within-front (length arena) (rope_at old middle) (last ∷ []) w.1;
        back = (within-back (length arena) (rope_at old middle) (last ∷ []) w.1).0;
        bytes = ap (λ (x : List ℕ). bytes_at arena first ++ x) (ap (λ (x : List ℕ). bytes_of arena (rope_at old middle) ++ x) (sym (append-nil (bytes_at arena last))) ∙ sym (bytes_of-append arena (rope_at old middle) (last ∷ [])))
            ∙ ap (λ (x : Buffer). bytes_of arena (segments_of old x)) e ∙ ap (bytes_of arena) (segments-place arena old out slots place laid is q) ∙ ap (λ (x : List ℕ). bytes_of x (segments_at laid place)) (ap (λ (x : Laid). x.arena) is);
      }
