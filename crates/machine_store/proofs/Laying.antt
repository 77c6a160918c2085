-- Segments that are joined lie in the arena, and hold the bytes of both.
use Rattle.std.proofs.Common.{◌≡◌, ◌≢◌, ◌≤◌, ℕ, ◌-◌, Bool, true, false, cond, eqb, List, [], ◌∷◌, ◌++◌, length, map, take, drop, refl, sym, ap, ◌∙◌, subst, arith, append_assoc}
use Rattle.std.specs.List.{AllByRecursion}
use Rattle.std.proofs.lemmas.Bool.{eq-eqb, eqb-true}
use Rattle.std.proofs.lemmas.Bool.Decides.{eqb_tells}
use Rattle.std.proofs.lemmas.List.{append-nil, drop-append-le, length-drop, take-append-le}
use Rattle.spec_avro.specs.Blocks.{joined}
use Rattle.machine_store.specs.declared.ropes.Segment.{Segment}
use Rattle.machine_store.specs.Segments.{AreSegments, AreWithin, IsApart, IsSegment, bytes_at, bytes_of, with_bytes, with_lists, with_segment, with_segments}
use Rattle.machine_store.proofs.Joining.{bytes-with_segment}

-- ---- in a longer arena

pub longer-segment : (n m : ℕ) (s : Segment) → n ≤ m → IsSegment n s → IsSegment m s
longer-segment n m s le f = record { some = f.some; within = omega (arith, f.within, le) }

pub longer-segments : (n m : ℕ) (xs : List Segment) → n ≤ m → AreSegments n xs → AreSegments m xs
longer-segments n m [] le f = tt
longer-segments n m (s ∷ xs) le f = (longer-segment n m s le f.0, f.1, longer-segments n m xs le f.2)

pub longer-lists : (n m : ℕ) (lists : List (List Segment)) → n ≤ m → AllByRecursion (AreSegments n) lists → AllByRecursion (AreSegments m) lists
longer-lists n m [] le f = tt
longer-lists n m (xs ∷ lists) le f = (longer-segments n m xs le f.0, longer-lists n m lists le f.1)

pub bytes_at-append : (arena more : List ℕ) (s : Segment) → IsSegment (length arena) s → bytes_at (arena ++ more) s ≡ bytes_at arena s
bytes_at-append arena more s f =
    ap (take (s.end - s.place)) (drop-append-le s.place arena more (omega (arith, f.some, f.within)))
    ∙ take-append-le (s.end - s.place) (drop s.place arena) more (omega (arith, f.some, f.within, length-drop s.place arena))

pub bytes_of-append : (arena more : List ℕ) (xs : List Segment) → AreSegments (length arena) xs → bytes_of (arena ++ more) xs ≡ bytes_of arena xs
bytes_of-append arena more [] f = refl
bytes_of-append arena more (s ∷ xs) f =
    ap (λ (x : List ℕ). x ++ bytes_of (arena ++ more) xs) (bytes_at-append arena more s f.0) ∙ ap (λ (x : List ℕ). bytes_at arena s ++ x) (bytes_of-append arena more xs f.2)

pub lists-append : (arena more : List ℕ) (lists : List (List Segment)) → AllByRecursion (AreSegments (length arena)) lists → map (bytes_of (arena ++ more)) lists ≡ map (bytes_of arena) lists
lists-append arena more [] f = refl
lists-append arena more (xs ∷ lists) f =
    ap (λ (x : List ℕ). x ∷ map (bytes_of (arena ++ more)) lists) (bytes_of-append arena more xs f.0) ∙ ap (λ (x : List (List ℕ)). bytes_of arena xs ∷ x) (lists-append arena more lists f.1)

pub within-segments : (n : ℕ) (xs : List Segment) → AreSegments n xs → AreWithin n xs
within-segments n [] f = tt
within-segments n (s ∷ xs) f = (f.0, within-segments n xs f.2)

pub within-front : (n : ℕ) (xs ys : List Segment) → AreWithin n (xs ++ ys) → AreWithin n xs
within-front n [] ys f = tt
within-front n (s ∷ xs) ys f = (f.0, within-front n xs ys f.1)

pub within-back : (n : ℕ) (xs ys : List Segment) → AreWithin n (xs ++ ys) → AreWithin n ys
within-back n [] ys f = f
within-back n (s ∷ xs) ys f = within-back n xs ys f.1

-- ---- joined

apart-joined : (n : ℕ) (x y s : Segment) (ys rest : List Segment) → x.end ≢ y.place → IsApart x (with_segment (y ∷ ys) s ++ rest)
apart-joined n x y s [] rest ne = apart-one (eqb y.end s.place)
  where
    apart-one : (b : Bool) → IsApart x (cond b (record y { end = s.end } ∷ []) (y ∷ s ∷ []) ++ rest)
    apart-one true = ne
    apart-one false = ne
apart-joined n x y s (z ∷ zs) rest ne = ne

joined-one : (n : ℕ) (l s : Segment) (rest : List Segment) (b : Bool) → IsSegment n l → AreSegments n (s ∷ rest) → eqb l.end s.place ≡ b → AreSegments n (cond b (record l { end = s.end } ∷ []) (l ∷ s ∷ []) ++ rest)
joined-one n l s rest true f g t =
    let same : l.end ≡ s.place = eqb-true l.end s.place t in
    (record { some = omega (arith, same, f.some, g.0.some); within = g.0.within }, g.1, g.2)
joined-one n l s rest false f g t = (f, (λ e. absurd (let h : true ≡ false = sym (eq-eqb l.end s.place e) ∙ t in cc)), g)

pub joined-segments : (n : ℕ) (front : List Segment) (s : Segment) (rest : List Segment) → AreSegments n front → AreSegments n (s ∷ rest) → AreSegments n (with_segment front s ++ rest)
joined-segments n [] s rest f g = g
joined-segments n (l ∷ []) s rest f g = joined-one n l s rest (eqb l.end s.place) f.0 g refl
joined-segments n (x ∷ y ∷ ys) s rest f g = (f.0, apart-joined n x y s ys rest f.1, joined-segments n (y ∷ ys) s rest f.2 g)

pub with_segments-are : (n : ℕ) (front others : List Segment) → AreSegments n front → AreSegments n others → AreSegments n (with_segments front others)
with_segments-are n front [] f g = f
with_segments-are n front (s ∷ rest) f g = joined-segments n front s rest f g

pub with_lists-are : (n : ℕ) (front : List Segment) (lists : List (List Segment)) → AreSegments n front → AllByRecursion (AreSegments n) lists → AreSegments n (with_lists front lists)
with_lists-are n front [] f g = f
with_lists-are n front (xs ∷ lists) f g = with_lists-are n (with_segments front xs) lists (with_segments-are n front xs f g.0) g.1

with_bytes-cond : (n : ℕ) (front : List Segment) (s : Segment) (b : Bool) → AreSegments n front → s.place ≤ s.end → s.end ≤ n → eqb s.place s.end ≡ b → AreSegments n (cond b front (with_segment front s))
with_bytes-cond n front s true f le within t = f
with_bytes-cond n front s false f le within t =
    subst (AreSegments n) (append-nil (with_segment front s)) (joined-segments n front s [] f (record { some = grind (arith, eqb_tells s.place s.end); within = within }, tt, tt))

pub with_bytes-are : (n : ℕ) (front : List Segment) (s : Segment) → AreSegments n front → s.place ≤ s.end → s.end ≤ n → AreSegments n (with_bytes front s)
with_bytes-are n front s f le within = with_bytes-cond n front s (eqb s.place s.end) f le within refl

-- ---- the bytes of both

pub bytes-with_segments : (arena : List ℕ) (n : ℕ) (front others : List Segment) → AreSegments n front → AreSegments n others → bytes_of arena (with_segments front others) ≡ bytes_of arena front ++ bytes_of arena others
bytes-with_segments arena n front [] f g = sym (append-nil (bytes_of arena front))
bytes-with_segments arena n front (s ∷ rest) f g =
    bytes_of-join (with_segment front s)
    ∙ ap (λ (x : List ℕ). x ++ bytes_of arena rest) (bytes-with_segment arena n front s f (omega (arith, g.0.some)))
    ∙ append_assoc (bytes_of arena front) (bytes_at arena s) (bytes_of arena rest)
  where
    bytes_of-join : (xs : List Segment) → bytes_of arena (xs ++ rest) ≡ bytes_of arena xs ++ bytes_of arena rest
    bytes_of-join [] = refl
    bytes_of-join (x ∷ xs) = ap (λ (z : List ℕ). bytes_at arena x ++ z) (bytes_of-join xs) ∙ sym (append_assoc (bytes_at arena x) (bytes_of arena xs) (bytes_of arena rest))

pub bytes-with_lists : (arena : List ℕ) (n : ℕ) (front : List Segment) (lists : List (List Segment)) → AreSegments n front → AllByRecursion (AreSegments n) lists →
    bytes_of arena (with_lists front lists) ≡ bytes_of arena front ++ joined (map (bytes_of arena) lists)
bytes-with_lists arena n front [] f g = sym (append-nil (bytes_of arena front))
bytes-with_lists arena n front (xs ∷ lists) f g =
    bytes-with_lists arena n (with_segments front xs) lists (with_segments-are n front xs f g.0) g.1
    ∙ ap (λ (x : List ℕ). x ++ joined (map (bytes_of arena) lists)) (bytes-with_segments arena n front xs f g.0)
    ∙ append_assoc (bytes_of arena front) (bytes_of arena xs) (joined (map (bytes_of arena) lists))

nothing-at : (arena : List ℕ) (s : Segment) → s.place ≡ s.end → bytes_at arena s ≡ []
nothing-at arena s e = ap (λ (n : ℕ). take n (drop s.place arena)) (let z : s.end - s.place ≡ 0 = omega (arith, e) in z)

bytes-cond : (arena : List ℕ) (n : ℕ) (front : List Segment) (s : Segment) (b : Bool) → AreSegments n front → s.place ≤ s.end → eqb s.place s.end ≡ b → bytes_of arena (cond b front (with_segment front s)) ≡ bytes_of arena front ++ bytes_at arena s
bytes-cond arena n front s true f le t =
    sym (append-nil (bytes_of arena front)) ∙ ap (λ (x : List ℕ). bytes_of arena front ++ x) (sym (nothing-at arena s (eqb-true s.place s.end t)))
bytes-cond arena n front s false f le t = bytes-with_segment arena n front s f le

pub bytes-with_bytes : (arena : List ℕ) (n : ℕ) (front : List Segment) (s : Segment) → AreSegments n front → s.place ≤ s.end → bytes_of arena (with_bytes front s) ≡ bytes_of arena front ++ bytes_at arena s
bytes-with_bytes arena n front s f le = bytes-cond arena n front s (eqb s.place s.end) f le refl
