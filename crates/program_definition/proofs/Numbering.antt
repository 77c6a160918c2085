-- Numbers point at what the statements name.
use Rattle.std.proofs.Common.{◌≡◌, ℕ, suc, ◌+◌, Bool, true, false, List, [], ◌∷◌, ◌++◌, length, map, Some, None, refl, ap, ◌∙◌, subst, arith}
use Rattle.std.specs.Prelude.{slice_get, if◌then◌else◌}
use Rattle.std.specs.List.{AllByRecursion}
use Rattle.std.specs.Str.{bytes_eq}
use Rattle.spec_avro.specs.declared.mismatch.Mismatch.{Mismatch}
use Rattle.spec_machine.specs.Program.{Program}
use Rattle.spec_machine.specs.Code.{are_whole, is_lost}
use Rattle.spec_machine.specs.Statements.{Section, Statement, Op, Put, Miss, BytesText, Enum, Call, Ahead, Back, Branch, Lost, Target, To, Lacks}
use Rattle.spec_machine.specs.Numbering.{calls_of, code_from, constants_of, entry_of, has, jumps_from, jumps_of, lacked, linked, maps_of, misses_of, named_in, number, same_miss}
use Rattle.program_definition.proofs.Numbers.{bytes_is, miss_is, number_at}
use Rattle.program_definition.proofs.Placed.{AreTargets, Placed, Stand}

-- from a place on, one list is the other
abbrev pub AtFrom : {A : Type 0} → ℕ → List A → List A → Type 0
AtFrom n whole xs = (i : ℕ) → slice_get whole (n + i) ≡ slice_get xs i

pub from_start : {A : Type 0} (xs : List A) → AtFrom 0 xs xs
from_start xs i = ap (slice_get xs) (let e : 0 + i ≡ i = omega arith in e)

pub none_at : {A : Type 0} (n : ℕ) (whole : List A) → AtFrom n whole [] → slice_get whole n ≡ None
none_at n whole h = ap (slice_get whole) (let e : n ≡ n + 0 = omega arith in e) ∙ h 0

pub first_at : {A : Type 0} (n : ℕ) (whole : List A) (x : A) (xs : List A) → AtFrom n whole (x ∷ xs) → slice_get whole n ≡ Some x
first_at n whole x xs h = ap (slice_get whole) (let e : n ≡ n + 0 = omega arith in e) ∙ h 0

pub rest_at : {A : Type 0} (n : ℕ) (whole : List A) (x : A) (xs : List A) → AtFrom n whole (x ∷ xs) → AtFrom (n + 1) whole xs
rest_at n whole x xs h i = ap (slice_get whole) (let e : n + 1 + i ≡ n + suc i = omega arith in e) ∙ h (suc i)

later_at : {A : Type 0} (n : ℕ) (whole xs ys : List A) → AtFrom n whole (xs ++ ys) → AtFrom (n + length xs) whole ys
later_at n whole [] ys h = subst (λ k. AtFrom k whole ys) (let e : n ≡ n + 0 = omega arith in e) h
later_at n whole (x ∷ xs) ys h = subst (λ k. AtFrom k whole ys) (let e : n + 1 + length xs ≡ n + suc (length xs) = omega arith in e) (later_at (n + 1) whole xs ys (rest_at n whole x (xs ++ ys) h))

later_map : {A B : Type 0} (f : A → B) (n : ℕ) (whole : List B) (xs ys : List A) → AtFrom n whole (map f (xs ++ ys)) → AtFrom (n + length xs) whole (map f ys)
later_map f n whole [] ys h = subst (λ k. AtFrom k whole (map f ys)) (let e : n ≡ n + 0 = omega arith in e) h
later_map f n whole (x ∷ xs) ys h = subst (λ k. AtFrom k whole (map f ys)) (let e : n + 1 + length xs ≡ n + suc (length xs) = omega arith in e) (later_map f (n + 1) whole xs ys (rest_at n whole (f x) (map f (xs ++ ys)) h))

pub all_front : {A : Type 0} (Q : A → Type 0) (xs ys : List A) → AllByRecursion Q (xs ++ ys) → AllByRecursion Q xs
all_front Q [] ys h = tt
all_front Q (x ∷ xs) ys h = (h.0, all_front Q xs ys h.1)

pub all_back : {A : Type 0} (Q : A → Type 0) (xs ys : List A) → AllByRecursion Q (xs ++ ys) → AllByRecursion Q ys
all_back Q [] ys h = h
all_back Q (x ∷ xs) ys h = all_back Q xs ys h.1

module _ (P : Program) (starts : Section → ℕ) (Begins : Section → ℕ → Type 0) where
  abbrev Has : Section → Type 0
  Has s = Begins s (starts s)

  abbrev HasConstant : List ℕ → Type 0
  HasConstant bytes = has bytes_eq bytes P.constants ≡ true

  abbrev HasMiss : Mismatch → Type 0
  HasMiss m = has same_miss m P.misses ≡ true

  entries_are : (ts : List Target) → AllByRecursion HasMiss (lacked ts) → AreTargets P (map (entry_of P.misses) ts) ts
  entries_are [] h = tt
  entries_are (To n ∷ ts) h = (refl, entries_are ts h)
  entries_are (Lacks m ∷ ts) h = (number_at same_miss miss_is m P.misses h.0, entries_are ts h.1)

  one_stands : (pc m j : ℕ) (l : Statement) (maps : List (List Target)) (jumps : List (List ℕ)) → slice_get P.code pc ≡ Some (linked starts P.constants P.misses pc m j l) → AtFrom m P.maps (map (map (entry_of P.misses)) (maps_of l ++ maps)) → AtFrom j P.jumps (jumps_of pc l ++ jumps)
      → AllByRecursion HasConstant (constants_of l) → AllByRecursion HasMiss (misses_of l) → AllByRecursion Has (calls_of l) → is_lost l ≡ false → Stand P Begins pc l
  one_stands pc m j (Op i) maps jumps h hm hj c x s w = h
  one_stands pc m j (Put bytes) maps jumps h hm hj c x s w = (number bytes_eq bytes P.constants, h, number_at bytes_eq bytes_is bytes P.constants c.0)
  one_stands pc m j (Miss y) maps jumps h hm hj c x s w = (number same_miss y P.misses, h, number_at same_miss miss_is y P.misses x.0)
  one_stands pc m j (BytesText y) maps jumps h hm hj c x s w = (number same_miss y P.misses, h, number_at same_miss miss_is y P.misses x.0)
  one_stands pc m j (Enum ts) maps jumps h hm hj c x s w = (m, map (entry_of P.misses) ts, h, first_at m P.maps (map (entry_of P.misses) ts) (map (map (entry_of P.misses)) maps) hm, entries_are ts x)
  one_stands pc m j (Call y) maps jumps h hm hj c x s w = (starts y, h, s.0)
  one_stands pc m j (Ahead go far) maps jumps h hm hj c x s w = h
  one_stands pc m j (Back far) maps jumps h hm hj c x s w = h
  one_stands pc m j (Branch fars) maps jumps h hm hj c x s w = (j, h, first_at j P.jumps (map (λ far. pc + far) fars) jumps hj)
  one_stands pc m j Lost maps jumps h hm hj c x s w = let no : ⊥ = cc in no

  whole_parts : (l : Statement) (ls : List Statement) → are_whole (l ∷ ls) ≡ true → (is_lost l ≡ false) × (are_whole ls ≡ true)
  whole_parts l ls h = go (is_lost l) refl h
    where
      go : (b : Bool) → is_lost l ≡ b → (if b then false else are_whole ls) ≡ true → (is_lost l ≡ false) × (are_whole ls ≡ true)
      go true e h = absurd (let no : ⊥ = cc in no)
      go false e h = (e, h)

  pub all_stand : (pc m j : ℕ) (ls : List Statement) → AtFrom pc P.code (code_from starts P.constants P.misses pc m j ls) → AtFrom m P.maps (map (map (entry_of P.misses)) (named_in maps_of ls)) → AtFrom j P.jumps (jumps_from pc ls)
      → AllByRecursion HasConstant (named_in constants_of ls) → AllByRecursion HasMiss (named_in misses_of ls) → AllByRecursion Has (named_in calls_of ls) → are_whole ls ≡ true → Placed P Begins pc ls
  all_stand pc m j [] h hm hj c x s w = tt
  all_stand pc m j (l ∷ ls) h hm hj c x s w =
      let n = m + length (maps_of l) in
      let k = j + length (jumps_of pc l) in
      let parts = whole_parts l ls w in (
        one_stands pc m j l (named_in maps_of ls) (jumps_from (pc + 1) ls)
            (first_at pc P.code (linked starts P.constants P.misses pc m j l) (code_from starts P.constants P.misses (pc + 1) n k ls) h) hm hj
            (all_front HasConstant (constants_of l) (named_in constants_of ls) c) (all_front HasMiss (misses_of l) (named_in misses_of ls) x) (all_front Has (calls_of l) (named_in calls_of ls) s) parts.0,
        all_stand (pc + 1) n k ls
            (rest_at pc P.code (linked starts P.constants P.misses pc m j l) (code_from starts P.constants P.misses (pc + 1) n k ls) h)
            (later_map (map (entry_of P.misses)) m P.maps (maps_of l) (named_in maps_of ls) hm)
            (later_at j P.jumps (jumps_of pc l) (jumps_from (pc + 1) ls) hj)
            (all_back HasConstant (constants_of l) (named_in constants_of ls) c) (all_back HasMiss (misses_of l) (named_in misses_of ls) x) (all_back Has (calls_of l) (named_in calls_of ls) s) parts.1,
      )
