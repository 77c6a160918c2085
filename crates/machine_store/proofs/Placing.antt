-- Buffers in their places: what stays while ropes and the arena grow, and what a buffer that is put shows.
use Rattle.std.proofs.Common.{◌≡◌, ◌≤◌, ◌<◌, ℕ, zero, suc, ◌+◌, cond, List, [], ◌∷◌, ◌++◌, length, map, take, drop, get_or, set, replicate, refl, sym, ap, ◌∙◌, subst, arith, append_assoc, length-append}
use Rattle.std.specs.Prelude.{Result, Ok, Err, OnErr, OnOk, is_ok}
use Rattle.std.specs.List.{AllByRecursion}
use Rattle.std.proofs.lemmas.List.{drop-map, get_or-map, length-map, map-append, map-set, take-map}
use Rattle.machine_store.specs.declared.buffers.Buffer.{Buffer}
use Rattle.machine_store.specs.declared.buffers.Buffer.TheVariants as buffers
use Rattle.machine_store.specs.declared.buffers.TargetBuffer.{TargetBuffer}
use Rattle.machine_store.specs.declared.buffers.TargetBuffer.TheVariants as places
use Rattle.machine_store.specs.declared.ropes.Segment.{Segment}
use Rattle.machine_store.specs.Buffers.{AllHeld, AreLaid, IsHeld, IsLaid, IsLater, IsPlace, Laid, buffer_at, laid_of, segments_at, segments_of, with_added, with_closed, with_none, with_opened}
use Rattle.machine_store.specs.Segments.{AreSegments, AreWithin, with_bytes, with_lists}
use Rattle.machine_store.proofs.Joining.{AllHeld-later, AreRopes-later, IsHeld-later, all-later, held-at, segments-later}
use Rattle.machine_store.proofs.Laying.{longer-lists, longer-segments, with_bytes-are, with_lists-are, within-segments}

-- ---- lists of which something holds

pub all-take : {A : Type 0} (P : A → Type 0) (n : ℕ) (xs : List A) → AllByRecursion P xs → AllByRecursion P (take n xs)
all-take P zero xs f = tt
all-take P (suc n) [] f = tt
all-take P (suc n) (x ∷ xs) f = (f.0, all-take P n xs f.1)

pub all-drop : {A : Type 0} (P : A → Type 0) (n : ℕ) (xs : List A) → AllByRecursion P xs → AllByRecursion P (drop n xs)
all-drop P zero xs f = f
all-drop P (suc n) [] f = tt
all-drop P (suc n) (x ∷ xs) f = all-drop P n xs f.1

pub all-set : {A : Type 0} (P : A → Type 0) (i : ℕ) (y : A) (xs : List A) → P y → AllByRecursion P xs → AllByRecursion P (set xs i y)
all-set P i y [] p f = tt
all-set P zero y (x ∷ xs) p f = (p, f.1)
all-set P (suc i) y (x ∷ xs) p f = (f.0, all-set P i y xs p f.1)

pub all-append : {A : Type 0} (P : A → Type 0) (xs ys : List A) → AllByRecursion P xs → AllByRecursion P ys → AllByRecursion P (xs ++ ys)
all-append P [] ys f g = g
all-append P (x ∷ xs) ys f g = (f.0, all-append P xs ys f.1 g)

pub all-replicate : {A : Type 0} (P : A → Type 0) (n : ℕ) (y : A) → P y → AllByRecursion P (replicate n y)
all-replicate P zero y p = tt
all-replicate P (suc n) y p = (p, all-replicate P n y p)

pub all-at : {A : Type 0} (P : A → Type 0) (xs : List A) (i : ℕ) (d : A) → AllByRecursion P xs → i < length xs → P (get_or xs i d)
all-at P [] i d f lt = absurd (omega (arith, lt))
all-at P (x ∷ xs) zero d f lt = f.0
all-at P (x ∷ xs) (suc i) d f lt = all-at P xs i d f.1 (omega (arith, lt))

pub map-replicate : {A B : Type 0} (f : A → B) (n : ℕ) (y : A) → map f (replicate n y) ≡ replicate n (f y)
map-replicate f zero y = refl
map-replicate {B = B} f (suc n) y = ap (λ (x : List B). f y ∷ x) (map-replicate f n y)

-- ---- while ropes grow

same-laid : (arena : List ℕ) (old new : List (List Segment)) (out : Buffer) (slots : List Buffer) → IsLater old new → IsHeld old out → AllHeld old slots → laid_of arena new out slots ≡ laid_of arena old out slots
same-laid arena old new out slots l f r =
    ap (λ (x : List Segment). record { arena = arena; out = x; slots = map (segments_of new) slots }) (segments-later old new out l f)
    ∙ ap (λ (x : List (List Segment)). record { arena = arena; out = segments_of old out; slots = x }) (all-later old new slots l r)

pub shown-later : (arena : List ℕ) (old new : List (List Segment)) (out : Buffer) (slots : List Buffer) (laid : Laid) → laid_of arena old out slots ≡ laid → IsLaid arena old out slots → IsLater old new → laid_of arena new out slots ≡ laid
shown-later arena old new out slots laid is f l = same-laid arena old new out slots l f.first f.rest ∙ is

pub IsLaid-later : (arena : List ℕ) (old new : List (List Segment)) (out : Buffer) (slots : List Buffer) → IsLaid arena old out slots → IsLater old new → IsLaid arena new out slots
IsLaid-later arena old new out slots f l = record {
  based = AreRopes-later old new l f.based;
  first = IsHeld-later old new out l f.first;
  rest = AllHeld-later old new slots l f.rest;
  laid = subst AreLaid (sym (same-laid arena old new out slots l f.first f.rest)) f.laid;
}

-- ---- a buffer that is put

-- what a buffer became, while ropes and the arena grew
pub record Became (arena grown more : List ℕ) (old new : List (List Segment)) (b : Buffer) (segments : List Segment) : Type 0 where
  pub later : IsLater old new
  pub longer : grown ≡ arena ++ more
  pub held : IsHeld new b
  pub is : segments_of new b ≡ segments
  pub are : AreSegments (length grown) segments

grows : (arena grown more : List ℕ) → grown ≡ arena ++ more → length arena ≤ length grown
grows arena grown more e = omega (arith, ap length e, length-append arena more)

pub put-out : (arena grown more : List ℕ) (old new : List (List Segment)) (out b : Buffer) (slots : List Buffer) (segments : List Segment) → IsLaid arena old out slots → Became arena grown more old new b segments → IsLaid grown new b slots
put-out arena grown more old new out b slots segments f g = record {
  based = AreRopes-later old new g.later f.based;
  first = g.held;
  rest = AllHeld-later old new slots g.later f.rest;
  laid = record {
    out = subst (AreSegments (length grown)) (sym g.is) g.are;
    slots = longer-lists (length arena) (length grown) (map (segments_of new) slots) (grows arena grown more g.longer) (subst (AllByRecursion (AreSegments (length arena))) (sym (all-later old new slots g.later f.rest)) f.laid.slots);
  };
}

pub put-slot : (arena grown more : List ℕ) (old new : List (List Segment)) (out b : Buffer) (slots : List Buffer) (i : ℕ) (segments : List Segment) → IsLaid arena old out slots → Became arena grown more old new b segments → IsLaid grown new out (set slots i b)
put-slot arena grown more old new out b slots i segments f g =
    let le = grows arena grown more g.longer in
    record {
      based = AreRopes-later old new g.later f.based;
      first = IsHeld-later old new out g.later f.first;
      rest = all-set (IsHeld new) i b slots g.held (AllHeld-later old new slots g.later f.rest);
      laid = record {
        out = longer-segments (length arena) (length grown) (segments_of new out) le (subst (AreSegments (length arena)) (sym (segments-later old new out g.later f.first)) f.laid.out);
        slots = subst (AllByRecursion (AreSegments (length grown))) (sym (map-set (segments_of new) slots i b))
            (all-set (AreSegments (length grown)) i (segments_of new b) (map (segments_of new) slots) (subst (AreSegments (length grown)) (sym g.is) g.are)
            (longer-lists (length arena) (length grown) (map (segments_of new) slots) le (subst (AllByRecursion (AreSegments (length arena))) (sym (all-later old new slots g.later f.rest)) f.laid.slots)));
      };
    }

pub shown-out : (arena grown more : List ℕ) (old new : List (List Segment)) (out b : Buffer) (slots : List Buffer) (segments : List Segment) → IsLaid arena old out slots → Became arena grown more old new b segments →
    laid_of grown new b slots ≡ record (laid_of arena old out slots) { arena = arena ++ more; out = segments }
shown-out arena grown more old new out b slots segments f g =
    ap (λ (x : List ℕ). laid_of x new b slots) g.longer
    ∙ ap (λ (x : List Segment). record { arena = arena ++ more; out = x; slots = map (segments_of new) slots }) g.is
    ∙ ap (λ (x : List (List Segment)). record { arena = arena ++ more; out = segments; slots = x }) (all-later old new slots g.later f.rest)

pub shown-slot : (arena grown more : List ℕ) (old new : List (List Segment)) (out b : Buffer) (slots : List Buffer) (i : ℕ) (segments : List Segment) → IsLaid arena old out slots → Became arena grown more old new b segments →
    laid_of grown new out (set slots i b) ≡ record (laid_of arena old out slots) { arena = arena ++ more; slots = set (map (segments_of old) slots) i segments }
shown-slot arena grown more old new out b slots i segments f g =
    ap (λ (x : List ℕ). laid_of x new out (set slots i b)) g.longer
    ∙ ap (λ (x : List Segment). record { arena = arena ++ more; out = x; slots = map (segments_of new) (set slots i b) }) (segments-later old new out g.later f.first)
    ∙ ap (λ (x : List (List Segment)). record { arena = arena ++ more; out = segments_of old out; slots = x })
    (map-set (segments_of new) slots i b ∙ ap (λ (x : List Segment). set (map (segments_of new) slots) i x) g.is ∙ ap (λ (x : List (List Segment)). set x i segments) (all-later old new slots g.later f.rest))

-- ---- the buffer at an offset

pub held-place : (arena : List ℕ) (ropes : List (List Segment)) (out : Buffer) (slots : List Buffer) (place : TargetBuffer) → IsLaid arena ropes out slots → IsPlace (length slots) place → IsHeld ropes (buffer_at out slots place)
held-place arena ropes out slots places.Out f p = f.first
held-place arena ropes out slots (places.Slot i) f p = held-at ropes slots i buffers.Empty f.rest p

pub segments-place : (arena : List ℕ) (ropes : List (List Segment)) (out : Buffer) (slots : List Buffer) (place : TargetBuffer) (laid : Laid) → laid_of arena ropes out slots ≡ laid → IsPlace (length slots) place → segments_of ropes (buffer_at out slots place) ≡ segments_at laid place
segments-place arena ropes out slots places.Out laid is p = ap (λ (x : Laid). x.out) is
segments-place arena ropes out slots (places.Slot i) laid is p = sym (get_or-map (segments_of ropes) slots i buffers.Empty [] p) ∙ ap (λ (x : Laid). get_or x.slots i []) is

pub are-place : (arena : List ℕ) (ropes : List (List Segment)) (out : Buffer) (slots : List Buffer) (place : TargetBuffer) → IsLaid arena ropes out slots → IsPlace (length slots) place → AreSegments (length arena) (segments_of ropes (buffer_at out slots place))
are-place arena ropes out slots places.Out f p = f.laid.out
are-place arena ropes out slots (places.Slot i) f p =
    subst (AreSegments (length arena)) (get_or-map (segments_of ropes) slots i buffers.Empty [] p) (all-at (AreSegments (length arena)) (map (segments_of ropes) slots) i [] f.laid.slots (omega (arith, p, length-map slots (segments_of ropes))))

pub place-there : (arena : List ℕ) (ropes : List (List Segment)) (out : Buffer) (slots : List Buffer) (place : TargetBuffer) (laid : Laid) → laid_of arena ropes out slots ≡ laid → IsPlace (length laid.slots) place → IsPlace (length slots) place
place-there arena ropes out slots place laid is p = subst (λ (n : ℕ). IsPlace n place) (sym (ap (λ (x : Laid). length x.slots) is) ∙ length-map slots (segments_of ropes)) p

-- ---- bytes added

pub added-became : (arena grown bytes : List ℕ) (old new : List (List Segment)) (out b : Buffer) (slots : List Buffer) (place : TargetBuffer) (from end : ℕ) → IsLaid arena old out slots → IsPlace (length slots) place → from ≡ length arena → end ≡ from + length bytes →
    IsLater old new → grown ≡ arena ++ bytes → IsHeld new b → segments_of new b ≡ with_bytes (segments_of old (buffer_at out slots place)) (record { place = from; end = end }) →
    Became arena grown bytes old new b (with_bytes (segments_of old (buffer_at out slots place)) (record { place = length arena; end = length arena + length bytes }))
added-became arena grown bytes old new out b slots place from end f p fe ee l g h e = record {
  later = l;
  longer = g;
  held = h;
  is = e ∙ ap (λ (x : ℕ). with_bytes (segments_of old (buffer_at out slots place)) (record { place = x; end = end })) fe
      ∙ ap (λ (x : ℕ). with_bytes (segments_of old (buffer_at out slots place)) (record { place = length arena; end = x })) (let z : end ≡ length arena + length bytes = omega (arith, fe, ee) in z);
  are = with_bytes-are (length grown) (segments_of old (buffer_at out slots place)) (record { place = length arena; end = length arena + length bytes })
      (longer-segments (length arena) (length grown) (segments_of old (buffer_at out slots place)) (grows arena grown bytes g) (are-place arena old out slots place f p)) (omega arith) (omega (arith, ap length g, length-append arena bytes));
}

pub shows-added-out : (arena grown bytes : List ℕ) (old new : List (List Segment)) (out b : Buffer) (slots : List Buffer) (laid : Laid) → laid_of arena old out slots ≡ laid → IsLaid arena old out slots →
    Became arena grown bytes old new b (with_bytes (segments_of old out) (record { place = length arena; end = length arena + length bytes })) → laid_of grown new b slots ≡ with_added places.Out bytes laid
shows-added-out arena grown bytes old new out b slots laid is f g =
    shown-out arena grown bytes old new out b slots (with_bytes (segments_of old out) (record { place = length arena; end = length arena + length bytes })) f g ∙ ap (with_added places.Out bytes) is

pub shows-added-slot : (arena grown bytes : List ℕ) (old new : List (List Segment)) (out b : Buffer) (slots : List Buffer) (i : ℕ) (laid : Laid) → laid_of arena old out slots ≡ laid → IsLaid arena old out slots → i < length slots →
    Became arena grown bytes old new b (with_bytes (segments_of old (get_or slots i buffers.Empty)) (record { place = length arena; end = length arena + length bytes })) → laid_of grown new out (set slots i b) ≡ with_added (places.Slot i) bytes laid
shows-added-slot arena grown bytes old new out b slots i laid is f lt g =
    shown-slot arena grown bytes old new out b slots i (with_bytes (segments_of old (get_or slots i buffers.Empty)) (record { place = length arena; end = length arena + length bytes })) f g
    ∙ ap (λ (x : List Segment). record (laid_of arena old out slots) { arena = arena ++ bytes; slots = set (map (segments_of old) slots) i (with_bytes x (record { place = length arena; end = length arena + length bytes })) }) (sym (get_or-map (segments_of old) slots i buffers.Empty [] lt))
    ∙ ap (with_added (places.Slot i) bytes) is

-- ---- slots closed

pub fewer-laid : (arena : List ℕ) (ropes : List (List Segment)) (out : Buffer) (slots : List Buffer) (first : ℕ) → IsLaid arena ropes out slots → IsLaid arena ropes out (take first slots)
fewer-laid arena ropes out slots first f = record {
  based = f.based;
  first = f.first;
  rest = all-take (IsHeld ropes) first slots f.rest;
  laid = record {
    out = f.laid.out;
    slots = subst (AllByRecursion (AreSegments (length arena))) (take-map (segments_of ropes) first slots) (all-take (AreSegments (length arena)) first (map (segments_of ropes) slots) f.laid.slots);
  };
}

-- the segments of a buffer with those of slots, between new bytes
abbrev pub closing : List ℕ → List Segment → List (List Segment) → List ℕ → ℕ → List Segment
closing arena front lists around before =
    with_bytes (with_lists (with_bytes front (record { place = length arena; end = length arena + before })) lists) (record { place = length arena + before; end = length arena + length around })

pub closing-are : (arena grown around : List ℕ) (front : List Segment) (lists : List (List Segment)) (before : ℕ) → grown ≡ arena ++ around → before ≤ length around → AreSegments (length arena) front → AllByRecursion (AreSegments (length arena)) lists →
    AreSegments (length grown) (closing arena front lists around before)
closing-are arena grown around front lists before g le f r =
    let n : length grown ≡ length arena + length around = omega (arith, ap length g, length-append arena around) in
    let up : length arena ≤ length grown = omega (arith, n) in
    with_bytes-are (length grown) (with_lists (with_bytes front (record { place = length arena; end = length arena + before })) lists) (record { place = length arena + before; end = length arena + length around })
    (with_lists-are (length grown) (with_bytes front (record { place = length arena; end = length arena + before })) lists
    (with_bytes-are (length grown) front (record { place = length arena; end = length arena + before }) (longer-segments (length arena) (length grown) front up f) (omega arith) (omega (arith, n, le)))
    (longer-lists (length arena) (length grown) lists up r))
    (omega (arith, le)) (omega (arith, n))

pub closed-became : (arena grown around : List ℕ) (old one two new : List (List Segment)) (out b c d : Buffer) (slots : List Buffer) (into : TargetBuffer) (first before from : ℕ) → IsLaid arena old out slots → IsPlace (length slots) into → from ≡ length arena → before ≤ length around → grown ≡ arena ++ around →
    IsLater old one → segments_of one b ≡ with_bytes (segments_of old (buffer_at out slots into)) (record { place = from; end = from + before }) →
    IsLater one two → segments_of two c ≡ with_lists (segments_of one b) (map (segments_of one) (drop first slots)) →
    IsLater two new → segments_of new d ≡ with_bytes (segments_of two c) (record { place = from + before; end = from + length around }) → IsHeld new d → IsLater old new →
    Became arena grown around old new d (closing arena (segments_of old (buffer_at out slots into)) (drop first (map (segments_of old) slots)) around before)
closed-became arena grown around old one two new out b c d slots into first before from f p fe le g l1 e1 l2 e2 l3 e3 h l = record {
  later = l;
  longer = g;
  held = h;
  is = ap (λ (x : ℕ). segments_of new d) fe
      ∙ e3 ∙ ap (λ (x : List Segment). with_bytes x (record { place = from + before; end = from + length around })) (e2 ∙ ap (λ (x : List Segment). with_lists x (map (segments_of one) (drop first slots))) e1
      ∙ ap (with_lists (with_bytes (segments_of old (buffer_at out slots into)) (record { place = from; end = from + before }))) (all-later old one (drop first slots) l1 (all-drop (IsHeld old) first slots f.rest) ∙ sym (drop-map (segments_of old) first slots)))
      ∙ ap (λ (n : ℕ). with_bytes (with_lists (with_bytes (segments_of old (buffer_at out slots into)) (record { place = n; end = n + before })) (drop first (map (segments_of old) slots))) (record { place = n + before; end = n + length around })) fe;
  are = closing-are arena grown around (segments_of old (buffer_at out slots into)) (drop first (map (segments_of old) slots)) before g le (are-place arena old out slots into f p) (all-drop (AreSegments (length arena)) first (map (segments_of old) slots) f.laid.slots);
}

pub shows-closed-out : (arena grown around : List ℕ) (old new : List (List Segment)) (out d : Buffer) (slots : List Buffer) (first before : ℕ) (laid : Laid) → laid_of arena old out slots ≡ laid → IsLaid arena old out slots →
    Became arena grown around old new d (closing arena (segments_of old out) (drop first (map (segments_of old) slots)) around before) → laid_of grown new d (take first slots) ≡ with_closed first places.Out around before laid
shows-closed-out arena grown around old new out d slots first before laid is f g =
    shown-out arena grown around old new out d (take first slots) (closing arena (segments_of old out) (drop first (map (segments_of old) slots)) around before) (fewer-laid arena old out slots first f) g
    ∙ ap (λ (x : List (List Segment)). record { arena = arena ++ around; out = closing arena (segments_of old out) (drop first (map (segments_of old) slots)) around before; slots = x }) (sym (take-map (segments_of old) first slots))
    ∙ ap (with_closed first places.Out around before) is

pub shows-closed-slot : (arena grown around : List ℕ) (old new : List (List Segment)) (out d : Buffer) (slots : List Buffer) (i first before : ℕ) (laid : Laid) → laid_of arena old out slots ≡ laid → IsLaid arena old out slots → i < length slots →
    Became arena grown around old new d (closing arena (segments_of old (get_or slots i buffers.Empty)) (drop first (map (segments_of old) slots)) around before) → laid_of grown new out (set (take first slots) i d) ≡ with_closed first (places.Slot i) around before laid
shows-closed-slot arena grown around old new out d slots i first before laid is f lt g =
    shown-slot arena grown around old new out d (take first slots) i (closing arena (segments_of old (get_or slots i buffers.Empty)) (drop first (map (segments_of old) slots)) around before) (fewer-laid arena old out slots first f) g
    ∙ ap (λ (x : List (List Segment)). record { arena = arena ++ around; out = segments_of old out; slots = set x i (closing arena (segments_of old (get_or slots i buffers.Empty)) (drop first (map (segments_of old) slots)) around before) }) (sym (take-map (segments_of old) first slots))
    ∙ ap (λ (x : List Segment). record { arena = arena ++ around; out = segments_of old out; slots = set (take first (map (segments_of old) slots)) i (closing arena x (drop first (map (segments_of old) slots)) around before) }) (sym (get_or-map (segments_of old) slots i buffers.Empty [] lt))
    ∙ ap (with_closed first (places.Slot i) around before) is

-- ---- opened, and emptied

pub opened-laid : (arena : List ℕ) (ropes : List (List Segment)) (out : Buffer) (slots : List Buffer) (more : ℕ) → IsLaid arena ropes out slots → IsLaid arena ropes out (slots ++ replicate more buffers.Empty)
opened-laid arena ropes out slots more f = record {
  based = f.based;
  first = f.first;
  rest = all-append (IsHeld ropes) slots (replicate more buffers.Empty) f.rest (all-replicate (IsHeld ropes) more buffers.Empty tt);
  laid = record {
    out = f.laid.out;
    slots = subst (AllByRecursion (AreSegments (length arena))) (sym (map-append (segments_of ropes) slots (replicate more buffers.Empty)))
        (all-append (AreSegments (length arena)) (map (segments_of ropes) slots) (map (segments_of ropes) (replicate more buffers.Empty)) f.laid.slots
        (subst (AllByRecursion (AreSegments (length arena))) (sym (map-replicate (segments_of ropes) more buffers.Empty)) (all-replicate (AreSegments (length arena)) more [] tt)));
  };
}

pub shows-opened : (arena : List ℕ) (ropes : List (List Segment)) (out : Buffer) (slots : List Buffer) (more : ℕ) (laid : Laid) → laid_of arena ropes out slots ≡ laid → laid_of arena ropes out (slots ++ replicate more buffers.Empty) ≡ with_opened more laid
shows-opened arena ropes out slots more laid is =
    ap (λ (x : List (List Segment)). record { arena = arena; out = segments_of ropes out; slots = x }) (map-append (segments_of ropes) slots (replicate more buffers.Empty) ∙ ap (λ (x : List (List Segment)). map (segments_of ropes) slots ++ x) (map-replicate (segments_of ropes) more buffers.Empty))
    ∙ ap (with_opened more) is

pub emptied-laid : (arena : List ℕ) (ropes : List (List Segment)) (slots : List Buffer) (n : ℕ) → ropes ≡ [] ∷ [] → slots ≡ replicate n buffers.Empty → IsLaid arena ropes buffers.Empty slots
emptied-laid arena ropes slots n r e = record {
  based = record { some = omega (arith, ap length r); none = ap (λ (x : List (List Segment)). get_or x 0 []) r };
  first = tt;
  rest = subst (AllHeld ropes) (sym e) (all-replicate (IsHeld ropes) n buffers.Empty tt);
  laid = record {
    out = tt;
    slots = subst (λ (x : List Buffer). AllByRecursion (AreSegments (length arena)) (map (segments_of ropes) x)) (sym e) (subst (AllByRecursion (AreSegments (length arena))) (sym (map-replicate (segments_of ropes) n buffers.Empty)) (all-replicate (AreSegments (length arena)) n [] tt));
  };
}

pub shows-emptied : (arena : List ℕ) (ropes : List (List Segment)) (slots : List Buffer) (n : ℕ) (laid : Laid) → arena ≡ [] → slots ≡ replicate n buffers.Empty → n ≡ length laid.slots → laid_of arena ropes buffers.Empty slots ≡ with_none laid
shows-emptied arena ropes slots n laid a e s =
    ap (λ (x : List ℕ). laid_of x ropes buffers.Empty slots) a
    ∙ ap (λ (x : List Buffer). record { arena = []; out = []; slots = map (segments_of ropes) x }) e
    ∙ ap (λ (x : List (List Segment)). record { arena = []; out = []; slots = x }) (map-replicate (segments_of ropes) n buffers.Empty ∙ ap (λ (k : ℕ). replicate k []) s)

pub on_err : {A E P : Type 0} (r : Result A E) → P → OnErr r P
on_err (Ok a) p = tt
on_err (Err e) p = p

-- what one call leaves, where it opens slots or is refused
pub kept-either : {A E : Type 0} (r : Result A E) (arena : List ℕ) (ropes : List (List Segment)) (out : Buffer) (slots new : List Buffer) (more : ℕ) → IsLaid arena ropes out slots → OnOk r (new ≡ slots ++ replicate more buffers.Empty) → OnErr r (new ≡ slots) → IsLaid arena ropes out new
kept-either (Ok a) arena ropes out slots new more f o e = subst (IsLaid arena ropes out) (sym o) (opened-laid arena ropes out slots more f)
kept-either (Err x) arena ropes out slots new more f o e = subst (IsLaid arena ropes out) (sym e) f

pub shown-either : {A E : Type 0} (r : Result A E) (arena : List ℕ) (ropes : List (List Segment)) (out : Buffer) (slots new : List Buffer) (more : ℕ) (laid : Laid) → laid_of arena ropes out slots ≡ laid → OnOk r (new ≡ slots ++ replicate more buffers.Empty) →
    OnOk r (laid_of arena ropes out new ≡ with_opened more laid)
shown-either (Ok a) arena ropes out slots new more laid is o = ap (laid_of arena ropes out) o ∙ shows-opened arena ropes out slots more laid is
shown-either (Err x) arena ropes out slots new more laid is o = tt

pub refused-either : {A E : Type 0} (r : Result A E) (arena : List ℕ) (ropes : List (List Segment)) (out : Buffer) (slots new : List Buffer) (laid : Laid) → laid_of arena ropes out slots ≡ laid → OnErr r (new ≡ slots) → OnErr r (laid_of arena ropes out new ≡ laid)
refused-either (Ok a) arena ropes out slots new laid is e = tt
refused-either (Err x) arena ropes out slots new laid is e = ap (laid_of arena ropes out) e ∙ is

-- the buffer at an offset lies in the arena
pub within-place : (arena : List ℕ) (ropes : List (List Segment)) (out : Buffer) (slots : List Buffer) (place : TargetBuffer) (b : Buffer) → IsLaid arena ropes out slots → IsPlace (length slots) place → b ≡ buffer_at out slots place → AreWithin (length arena) (segments_of ropes b)
within-place arena ropes out slots place b f p e =
    subst (λ (x : Buffer). AreWithin (length arena) (segments_of ropes x)) (sym e) (within-segments (length arena) (segments_of ropes (buffer_at out slots place)) (are-place arena ropes out slots place f p))

-- three parts written one after another
pub wrote : {A E : Type 0} (r : Result A E) (out a b c one two last three all : List ℕ) → one ≡ out ++ a → two ≡ one ++ b → last ≡ c → three ≡ cond (is_ok r) (two ++ last) two → a ++ (b ++ c) ≡ all → OnOk r (three ≡ out ++ all)
wrote (Ok x) out a b c one two last three all f g h e s =
    e ∙ ap (λ (z : List ℕ). two ++ z) h ∙ ap (λ (z : List ℕ). z ++ c) (g ∙ ap (λ (z : List ℕ). z ++ b) f) ∙ append_assoc (out ++ a) b c ∙ append_assoc out a (b ++ c) ∙ ap (λ (z : List ℕ). out ++ z) s
wrote (Err x) out a b c one two last three all f g h e s = tt
