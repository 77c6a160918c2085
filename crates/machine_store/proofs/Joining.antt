-- What joining makes of the segments of a buffer, and that all else stays while ropes grow.
use Rattle.std.proofs.Common.{◌≡◌, ◌≢◌, ◌≤◌, ◌<◌, ℕ, zero, suc, ◌+◌, ◌-◌, Bool, true, false, List, [], ◌∷◌, ◌++◌, length, map, take, drop, get_or, refl, sym, ap, ◌∙◌, subst, arith, append_assoc, length-append, ◌⊎◌, inl, inr, eqb, cond}
use Rattle.std.proofs.Math.Seq.{take-add}
use Rattle.std.proofs.lemmas.Bool.{eq-eqb}
use Rattle.std.proofs.lemmas.Bool.Decides.{eqb_tells}
use Rattle.std.proofs.lemmas.List.{append-nil, drop-drop, drop-map, drop_all, get_or_append_left, get_or_at, length-map}
use Rattle.machine_store.specs.declared.buffers.Buffer.{Buffer}
use Rattle.machine_store.specs.declared.buffers.Buffer.TheVariants as buffers
use Rattle.machine_store.specs.declared.ropes.Segment.{Segment}
use Rattle.machine_store.specs.Buffers.{AllHeld, AreRopes, IsHeld, IsLater, segments_of}
use Rattle.machine_store.specs.Ropes.{rope_at}
use Rattle.machine_store.specs.Segments.{AreSegments, IsSegment, bytes_at, bytes_of, with_lists, with_segment, with_segments}

-- ---- the last segment

pub with_segment-at : (xs : List Segment) (l s : Segment) → with_segment (xs ++ l ∷ []) s ≡ xs ++ with_segment (l ∷ []) s
with_segment-at [] l s = refl
with_segment-at (x ∷ []) l s = refl
with_segment-at (x ∷ y ∷ ys) l s = ap (λ (z : List Segment). x ∷ z) (with_segment-at (y ∷ ys) l s)

pub goes_on : (xs : List Segment) (l s : Segment) → l.end ≡ s.place → with_segment (xs ++ l ∷ []) s ≡ xs ++ record l { end = s.end } ∷ []
goes_on xs l s e =
    with_segment-at xs l s ∙ ap (λ (b : Bool). xs ++ cond b (record l { end = s.end } ∷ []) (l ∷ s ∷ [])) (eq-eqb l.end s.place e)

pub comes_after : (xs : List Segment) (l s : Segment) → l.end ≢ s.place → with_segment (xs ++ l ∷ []) s ≡ (xs ++ l ∷ []) ++ s ∷ []
comes_after xs l s ne =
    with_segment-at xs l s ∙ ap (λ (b : Bool). xs ++ cond b (record l { end = s.end } ∷ []) (l ∷ s ∷ [])) (differ (eqb_tells l.end s.place))
    ∙ sym (append_assoc xs (l ∷ []) (s ∷ []))
  where
    differ : ((eqb l.end s.place ≡ true) × (l.end ≡ s.place)) ⊎ ((eqb l.end s.place ≡ false) × (l.end ≢ s.place)) → eqb l.end s.place ≡ false
    differ (inl t) = absurd (ne t.1)
    differ (inr f) = f.0

-- ---- ropes that grow

pub rope-later : (old new : List (List Segment)) (i : ℕ) → IsLater old new → i < length old → rope_at new i ≡ rope_at old i
rope-later old new i l lt = ap (λ (x : List (List Segment)). rope_at x i) l.is ∙ get_or_append_left old l.more [] i lt

pub longer : (old new : List (List Segment)) → IsLater old new → length old ≤ length new
longer old new l = omega (arith, ap length l.is, length-append old l.more)

pub later-later : (a b c : List (List Segment)) → IsLater a b → IsLater b c → IsLater a c
later-later a b c l m = record { more = l.more ++ m.more; is = m.is ∙ ap (λ (x : List (List Segment)). x ++ m.more) l.is ∙ append_assoc a l.more m.more }

pub AreRopes-later : (old new : List (List Segment)) → IsLater old new → AreRopes old → AreRopes new
AreRopes-later old new l f = record { some = omega (arith, longer old new l, f.some); none = rope-later old new 0 l f.some ∙ f.none }

pub IsHeld-later : (old new : List (List Segment)) (b : Buffer) → IsLater old new → IsHeld old b → IsHeld new b
IsHeld-later old new buffers.Empty l h = tt
IsHeld-later old new (buffers.One s) l h = tt
IsHeld-later old new (buffers.More first middle last) l h = omega (arith, longer old new l, h)

pub segments-later : (old new : List (List Segment)) (b : Buffer) → IsLater old new → IsHeld old b → segments_of new b ≡ segments_of old b
segments-later old new buffers.Empty l h = refl
segments-later old new (buffers.One s) l h = refl
segments-later old new (buffers.More first middle last) l h = ap (λ (x : List Segment). first ∷ (x ++ last ∷ [])) (rope-later old new middle l h)

pub AllHeld-later : (old new : List (List Segment)) (bs : List Buffer) → IsLater old new → AllHeld old bs → AllHeld new bs
AllHeld-later old new [] l h = tt
AllHeld-later old new (b ∷ bs) l h = (IsHeld-later old new b l h.0, AllHeld-later old new bs l h.1)

pub all-later : (old new : List (List Segment)) (bs : List Buffer) → IsLater old new → AllHeld old bs → map (segments_of new) bs ≡ map (segments_of old) bs
all-later old new [] l h = refl
all-later old new (b ∷ bs) l h =
    ap (λ (x : List Segment). x ∷ map (segments_of new) bs) (segments-later old new b l h.0) ∙ ap (λ (x : List (List Segment)). segments_of old b ∷ x) (all-later old new bs l h.1)

-- ---- what the joins give

last-rope : (old new : List (List Segment)) (r : List Segment) (i : ℕ) → i ≡ length old → new ≡ old ++ r ∷ [] → rope_at new i ≡ r
last-rope old new r i n e = ap (λ (x : List (List Segment)). rope_at x i) e ∙ get_or_at old r [] [] i (sym n)

-- a segment after those of a buffer, whose last one goes into a rope
pub after-last : (old new : List (List Segment)) (first last s : Segment) (middle i : ℕ) → AreRopes old → last.end ≢ s.place → i ≡ length old → new ≡ old ++ (rope_at old middle ++ last ∷ rope_at old 0) ∷ [] →
    segments_of new (buffers.More first i s) ≡ with_segment (segments_of old (buffers.More first middle last)) s
after-last old new first last s middle i f ne n e =
    ap (λ (x : List Segment). first ∷ (x ++ s ∷ [])) (last-rope old new (rope_at old middle ++ last ∷ rope_at old 0) i n e ∙ ap (λ (x : List Segment). rope_at old middle ++ last ∷ x) f.none)
    ∙ sym (comes_after (first ∷ rope_at old middle) last s ne)

-- ---- bytes

run-on : (arena : List ℕ) (p e m : ℕ) → p ≤ e → e ≤ m → bytes_at arena (record { place = p; end = m }) ≡ bytes_at arena (record { place = p; end = e }) ++ bytes_at arena (record { place = e; end = m })
run-on arena p e m pe em =
    ap (λ (n : ℕ). take n (drop p arena)) (let s : m - p ≡ (e - p) + (m - e) = omega arith in s)
    ∙ take-add (e - p) (m - e) (drop p arena)
    ∙ ap (λ (x : List ℕ). take (e - p) (drop p arena) ++ take (m - e) x) (drop-drop (e - p) p arena ∙ ap (λ (n : ℕ). drop n arena) (let s : p + (e - p) ≡ e = omega arith in s))

one_after : (arena : List ℕ) (l s : Segment) (n : ℕ) (b : Bool) → IsSegment n l → s.place ≤ s.end → eqb l.end s.place ≡ b →
    bytes_of arena (cond b (record l { end = s.end } ∷ []) (l ∷ s ∷ [])) ≡ (bytes_at arena l ++ []) ++ bytes_at arena s
one_after arena l s n true f le t =
    let same : l.end ≡ s.place = grind (arith, eqb_tells l.end s.place) in
    append-nil (bytes_at arena (record l { end = s.end }))
    ∙ run-on arena l.place l.end s.end (omega (arith, f.some)) (omega (arith, same, le))
    ∙ ap (λ (p : ℕ). bytes_at arena l ++ bytes_at arena (record { place = p; end = s.end })) same
    ∙ ap (λ (x : List ℕ). x ++ bytes_at arena s) (sym (append-nil (bytes_at arena l)))
one_after arena l s n false f le t =
    ap (λ (x : List ℕ). bytes_at arena l ++ x) (append-nil (bytes_at arena s)) ∙ ap (λ (x : List ℕ). x ++ bytes_at arena s) (sym (append-nil (bytes_at arena l)))

pub bytes-with_segment : (arena : List ℕ) (n : ℕ) (front : List Segment) (s : Segment) → AreSegments n front → s.place ≤ s.end → bytes_of arena (with_segment front s) ≡ bytes_of arena front ++ bytes_at arena s
bytes-with_segment arena n [] s f le = append-nil (bytes_at arena s)
bytes-with_segment arena n (l ∷ []) s f le = one_after arena l s n (eqb l.end s.place) f.0 le refl
bytes-with_segment arena n (x ∷ y ∷ ys) s f le =
    ap (λ (z : List ℕ). bytes_at arena x ++ z) (bytes-with_segment arena n (y ∷ ys) s f.2 le) ∙ sym (append_assoc (bytes_at arena x) (bytes_of arena (y ∷ ys)) (bytes_at arena s))

-- ---- a loop over slots

-- those from a first one on, up to another one, are joined
pub record HasJoined (old new : List (List Segment)) (buffer joined : Buffer) (slots : List Buffer) (first to : ℕ) : Type 0 where
  pub later : IsLater old new
  pub held : IsHeld new joined
  pub rest : with_lists (segments_of new joined) (drop to (map (segments_of old) slots)) ≡ with_lists (segments_of old buffer) (drop first (map (segments_of old) slots))

pub same-joined : (ropes : List (List Segment)) (buffer : Buffer) (slots : List Buffer) (first : ℕ) → IsHeld ropes buffer → HasJoined ropes ropes buffer buffer slots first first
same-joined ropes buffer slots first h = record { later = record { more = []; is = sym (append-nil ropes) }; held = h; rest = refl }

pub held-at : (ropes : List (List Segment)) (bs : List Buffer) (i : ℕ) (d : Buffer) → AllHeld ropes bs → i < length bs → IsHeld ropes (get_or bs i d)
held-at ropes [] i d h lt = absurd (omega (arith, lt))
held-at ropes (b ∷ bs) zero d h lt = h.0
held-at ropes (b ∷ bs) (suc i) d h lt = held-at ropes bs i d h.1 (omega (arith, lt))

next-list : (old : List (List Segment)) (slots : List Buffer) (i : ℕ) (d : Buffer) → i < length slots → drop i (map (segments_of old) slots) ≡ segments_of old (get_or slots i d) ∷ drop (i + 1) (map (segments_of old) slots)
next-list old [] i d lt = absurd (omega (arith, lt))
next-list old (b ∷ bs) zero d lt = refl
next-list old (b ∷ bs) (suc i) d lt = next-list old bs i d (omega (arith, lt)) ∙ ap (λ (n : ℕ). segments_of old (get_or bs i d) ∷ drop n (map (segments_of old) (b ∷ bs))) (let e : suc (i + 1) ≡ suc i + 1 = omega arith in e)

module _ (old new : List (List Segment)) (buffer joined : Buffer) (slots : List Buffer) (first to : ℕ) (all : AllHeld old slots) (has : HasJoined old new buffer joined slots first to) where
  pub next-held : (slot : Buffer) → slot ≡ get_or slots to buffers.Empty → to < length slots → IsHeld new slot
  next-held slot is lt = subst (IsHeld new) (sym is) (IsHeld-later old new (get_or slots to buffers.Empty) has.later (held-at old slots to buffers.Empty all lt))

  pub one-joined : (next : List (List Segment)) (slot more : Buffer) → slot ≡ get_or slots to buffers.Empty → to < length slots →
      segments_of next more ≡ with_segments (segments_of new joined) (segments_of new slot) → IsHeld next more → IsLater new next → HasJoined old next buffer more slots first (to + 1)
  one-joined next slot more is lt e held later =
      let same : segments_of new slot ≡ segments_of old (get_or slots to buffers.Empty) = ap (segments_of new) is ∙ segments-later old new (get_or slots to buffers.Empty) has.later (held-at old slots to buffers.Empty all lt) in
      record {
        later = later-later old new next has.later later;
        held = held;
        rest = ap (λ (x : List Segment). with_lists x (drop (to + 1) (map (segments_of old) slots))) (e ∙ ap (with_segments (segments_of new joined)) same)
            ∙ ap (with_lists (segments_of new joined)) (sym (next-list old slots to buffers.Empty lt))
            ∙ has.rest;
      }

  pub all-joined : length slots ≤ to → segments_of new joined ≡ with_lists (segments_of old buffer) (map (segments_of old) (drop first slots))
  all-joined le =
      ap (with_lists (segments_of new joined)) (sym (drop_all to (map (segments_of old) slots) (omega (arith, le, length-map slots (segments_of old))))) ∙ has.rest
      ∙ ap (with_lists (segments_of old buffer)) (drop-map (segments_of old) first slots)
