-- What good statements name is in range.
use Rattle.std.proofs.Common.{◌≡◌, ℕ, suc, ◌+◌, ◌<◌, ◌≤◌, Bool, true, false, ◌&&◌, List, [], ◌∷◌, ◌++◌, length, map, refl, ap, arith, length-append}
use Rattle.std.specs.Prelude.{nat_le}
use Rattle.std.specs.List.{AllByRecursion}
use Rattle.std.specs.Str.{bytes_eq}
use Rattle.std.proofs.lemmas.Bool.Decides.{nat_tests}
use Rattle.std.proofs.lemmas.Option.{slice_get_within}
use Rattle.spec_avro.specs.Node.{Node}
use Rattle.spec_avro.specs.declared.mismatch.Mismatch.{Mismatch}
use Rattle.spec_machine.specs.declared.limits.TheConstants.{MOST_ENTRIES}
use Rattle.spec_machine.specs.declared.sizes.Sizes.{Sizes}
use Rattle.spec_machine.specs.Judging.{are_within, is_within_limits}
use Rattle.spec_machine.specs.Program.{Program}
use Rattle.spec_machine.specs.Range.{EntryIsInRange, InstrIsInRange, IsAddress, IsWithinLimits, MissIsInRange, sizes_of}
use Rattle.spec_machine.specs.Statements.{Section, Statement, Op, Put, Miss, BytesText, Enum, Call, Ahead, Back, Branch, Lost, Target, To, Lacks}
use Rattle.spec_machine.specs.Numbering.{calls_of, code_from, constants_of, entry_of, has, jumps_from, jumps_of, lacked, linked, maps_of, misses_of, named_in, number, same_miss}
use Rattle.program_definition.proofs.Good.{AllGood, IsGood, TargetIsGood}
use Rattle.program_definition.proofs.Numbering.{all_front, all_back}
use Rattle.program_definition.proofs.Numbers.{bytes_is, miss_is, number_at}

pub code_length : (starts : Section → ℕ) (cs : List (List ℕ)) (ms : List Mismatch) (pc m j : ℕ) (ls : List Statement) → length (code_from starts cs ms pc m j ls) ≡ length ls
code_length starts cs ms pc m j [] = refl
code_length starts cs ms pc m j (l ∷ ls) = ap suc (code_length starts cs ms (pc + 1) (m + length (maps_of l)) (j + length (jumps_of pc l)) ls)

-- ---- within the limits

and_is : (a b : Bool) → (a && b) ≡ true → (a ≡ true) × (b ≡ true)
and_is true b h = (refl, h)
and_is false b h = absurd cc

is_le : (a b : ℕ) → nat_le a b ≡ true → a ≤ b
is_le a b h = grind (arith, nat_tests, h)

all_short : {A : Type 0} (most : ℕ) (xs : List (List A)) → are_within most xs ≡ true → AllByRecursion (λ x. length x ≤ most) xs
all_short most [] h = tt
all_short most (x ∷ xs) h = let b = and_is (nat_le (length x) most) (are_within most xs) h in (is_le (length x) most b.0, all_short most xs b.1)

pub within_limits : (P : Program) → is_within_limits P ≡ true → IsWithinLimits P
within_limits P h =
    let a = and_is _ _ h in
    let b = and_is _ _ a.0 in
    let c = and_is _ _ b.0 in
    let d = and_is _ _ c.0 in
    let e = and_is _ _ d.0 in
    let f = and_is _ _ e.0 in
    let g = and_is _ _ f.0 in
    record {
      code = is_le _ _ g.0;
      constants = is_le _ _ g.1;
      bytes = is_le _ _ f.1;
      maps = record { many = is_le _ _ e.1; each = all_short MOST_ENTRIES P.maps d.1 };
      jumps = record { many = is_le _ _ c.1; each = all_short MOST_ENTRIES P.jumps b.1 };
      misses = is_le _ _ a.1;
    }

-- ---- what statements name

all_on : {A : Type 0} (Q : A → Type 0) (xs ys : List A) → AllByRecursion Q xs → AllByRecursion Q ys → AllByRecursion Q (xs ++ ys)
all_on Q [] ys h k = k
all_on Q (x ∷ xs) ys h k = (h.0, all_on Q xs ys h.1 k)

all_map_on : {A B : Type 0} (f : A → B) (Q : B → Type 0) (xs ys : List A) → AllByRecursion Q (map f xs) → AllByRecursion Q (map f ys) → AllByRecursion Q (map f (xs ++ ys))
all_map_on f Q [] ys h k = k
all_map_on f Q (x ∷ xs) ys h k = (h.0, all_map_on f Q xs ys h.1 k)

module _ (W R : List Node) where
  put_some : (n : ℕ) (l : Statement) → IsGood W R n l → AllByRecursion (λ x. 0 < length x) (constants_of l)
  put_some n (Put bytes) h = (h, tt)
  put_some n (Op i) h = tt
  put_some n (Miss m) h = tt
  put_some n (BytesText m) h = tt
  put_some n (Enum targets) h = tt
  put_some n (Call s) h = tt
  put_some n (Ahead go far) h = tt
  put_some n (Back far) h = tt
  put_some n (Branch fars) h = tt
  put_some n Lost h = tt

  pub constants_some : (k : ℕ) (ls : List Statement) → AllGood W R k ls → AllByRecursion (λ x. 0 < length x) (named_in constants_of ls)
  constants_some k [] h = tt
  constants_some k (l ∷ ls) h = all_on (λ x. 0 < length x) (constants_of l) (named_in constants_of ls) (put_some (length ls + k) l h.0) (constants_some k ls h.1)

  lacked_in : (targets : List Target) → AllByRecursion TargetIsGood targets → AllByRecursion MissIsInRange (lacked targets)
  lacked_in [] h = tt
  lacked_in (To n ∷ targets) h = lacked_in targets h.1
  lacked_in (Lacks m ∷ targets) h = (h.0, lacked_in targets h.1)

  miss_in : (n : ℕ) (l : Statement) → IsGood W R n l → AllByRecursion MissIsInRange (misses_of l)
  miss_in n (Miss m) h = (h, tt)
  miss_in n (BytesText m) h = (h, tt)
  miss_in n (Enum targets) h = lacked_in targets h
  miss_in n (Op i) h = tt
  miss_in n (Put bytes) h = tt
  miss_in n (Call s) h = tt
  miss_in n (Ahead go far) h = tt
  miss_in n (Back far) h = tt
  miss_in n (Branch fars) h = tt
  miss_in n Lost h = tt

  pub misses_in_range : (k : ℕ) (ls : List Statement) → AllGood W R k ls → AllByRecursion MissIsInRange (named_in misses_of ls)
  misses_in_range k [] h = tt
  misses_in_range k (l ∷ ls) h = all_on MissIsInRange (misses_of l) (named_in misses_of ls) (miss_in (length ls + k) l h.0) (misses_in_range k ls h.1)

  module _ (P : Program) (starts : Section → ℕ) where
    abbrev sizes : Sizes
    sizes = sizes_of P

    abbrev pub HaveMisses : List Mismatch → Type 0
    HaveMisses ms = AllByRecursion (λ m. has same_miss m P.misses ≡ true) ms

    abbrev pub HaveConstants : List (List ℕ) → Type 0
    HaveConstants cs = AllByRecursion (λ c. has bytes_eq c P.constants ≡ true) cs

    abbrev pub AreThere : List Section → Type 0
    AreThere ss = AllByRecursion (λ s. starts s < length P.code) ss

    miss_number : (m : Mismatch) → has same_miss m P.misses ≡ true → number same_miss m P.misses < length P.misses
    miss_number m h = slice_get_within P.misses (number same_miss m P.misses) m (number_at same_miss miss_is m P.misses h)

    -- ---- entries

    entries_in : (targets : List Target) → AllByRecursion TargetIsGood targets → HaveMisses (lacked targets) → AllByRecursion (EntryIsInRange sizes) (map (entry_of P.misses) targets)
    entries_in [] h x = tt
    entries_in (To n ∷ targets) h x = (h.0, entries_in targets h.1 x)
    entries_in (Lacks m ∷ targets) h x = (miss_number m x.0, entries_in targets h.1 x.1)

    map_in : (n : ℕ) (l : Statement) → IsGood W R n l → HaveMisses (misses_of l) → AllByRecursion (AllByRecursion (EntryIsInRange sizes)) (map (map (entry_of P.misses)) (maps_of l))
    map_in n (Enum targets) h x = (entries_in targets h x, tt)
    map_in n (Op i) h x = tt
    map_in n (Put bytes) h x = tt
    map_in n (Miss m) h x = tt
    map_in n (BytesText m) h x = tt
    map_in n (Call s) h x = tt
    map_in n (Ahead go far) h x = tt
    map_in n (Back far) h x = tt
    map_in n (Branch fars) h x = tt
    map_in n Lost h x = tt

    pub maps_in_range : (k : ℕ) (ls : List Statement) → AllGood W R k ls → HaveMisses (named_in misses_of ls) → AllByRecursion (AllByRecursion (EntryIsInRange sizes)) (map (map (entry_of P.misses)) (named_in maps_of ls))
    maps_in_range k [] h x = tt
    maps_in_range k (l ∷ ls) h x =
        all_map_on (map (entry_of P.misses)) (AllByRecursion (EntryIsInRange sizes)) (maps_of l) (named_in maps_of ls)
        (map_in (length ls + k) l h.0 (all_front _ (misses_of l) (named_in misses_of ls) x)) (maps_in_range k ls h.1 (all_back _ (misses_of l) (named_in misses_of ls) x))

    -- ---- addresses

    fars_in : (pc n : ℕ) (fars : List ℕ) → pc + n < length P.code → AllByRecursion (λ far. far ≤ n) fars → AllByRecursion (IsAddress sizes) (map (λ far. pc + far) fars)
    fars_in pc n [] lt h = tt
    fars_in pc n (far ∷ fars) lt h = (omega (arith, lt, h.0), fars_in pc n fars lt h.1)

    jump_in : (pc n : ℕ) (l : Statement) → pc + n < length P.code → IsGood W R n l → AllByRecursion (AllByRecursion (IsAddress sizes)) (jumps_of pc l)
    jump_in pc n (Branch fars) lt h = (fars_in pc n fars lt h, tt)
    jump_in pc n (Op i) lt h = tt
    jump_in pc n (Put bytes) lt h = tt
    jump_in pc n (Miss m) lt h = tt
    jump_in pc n (BytesText m) lt h = tt
    jump_in pc n (Enum targets) lt h = tt
    jump_in pc n (Call s) lt h = tt
    jump_in pc n (Ahead go far) lt h = tt
    jump_in pc n (Back far) lt h = tt
    jump_in pc n Lost lt h = tt

    pub jumps_in_range : (pc : ℕ) (ls : List Statement) → pc + length ls ≤ length P.code → AllGood W R 0 ls → AllByRecursion (AllByRecursion (IsAddress sizes)) (jumps_from pc ls)
    jumps_in_range pc [] le h = tt
    jumps_in_range pc (l ∷ ls) le h =
        all_on (AllByRecursion (IsAddress sizes)) (jumps_of pc l) (jumps_from (pc + 1) ls) (jump_in pc (length ls + 0) l (omega (arith, le)) h.0) (jumps_in_range (pc + 1) ls (omega (arith, le)) h.1)

    -- ---- instructions

    one_in : (pc m j n : ℕ) (l : Statement) → pc + n < length P.code → m + length (maps_of l) ≤ length P.maps → j + length (jumps_of pc l) ≤ length P.jumps
        → HaveConstants (constants_of l) → HaveMisses (misses_of l) → AreThere (calls_of l) → IsGood W R n l → InstrIsInRange sizes (linked starts P.constants P.misses pc m j l)
    one_in pc m j n (Op i) lt maps jumps c x s h = h sizes
    one_in pc m j n (Put bytes) lt maps jumps c x s h = slice_get_within P.constants (number bytes_eq bytes P.constants) bytes (number_at bytes_eq bytes_is bytes P.constants c.0)
    one_in pc m j n (Miss y) lt maps jumps c x s h = miss_number y x.0
    one_in pc m j n (BytesText y) lt maps jumps c x s h = miss_number y x.0
    one_in pc m j n (Enum targets) lt maps jumps c x s h = omega (arith, maps)
    one_in pc m j n (Call y) lt maps jumps c x s h = s.0
    one_in pc m j n (Ahead go far) lt maps jumps c x s h = h.1 sizes (pc + far) (omega (arith, lt, h.0))
    one_in pc m j n (Back far) lt maps jumps c x s h = omega (arith, lt)
    one_in pc m j n (Branch fars) lt maps jumps c x s h = omega (arith, jumps)
    one_in pc m j n Lost lt maps jumps c x s h = absurd h

    pub instrs_in_range : (pc m j : ℕ) (ls : List Statement) → pc + length ls ≤ length P.code → m + length (named_in maps_of ls) ≤ length P.maps → j + length (jumps_from pc ls) ≤ length P.jumps
        → HaveConstants (named_in constants_of ls) → HaveMisses (named_in misses_of ls) → AreThere (named_in calls_of ls) → AllGood W R 0 ls
        → AllByRecursion (InstrIsInRange sizes) (code_from starts P.constants P.misses pc m j ls)
    instrs_in_range pc m j [] le maps jumps c x s h = tt
    instrs_in_range pc m j (l ∷ ls) le maps jumps c x s h =
        let some_maps = length-append (maps_of l) (named_in maps_of ls) in
        let some_jumps = length-append (jumps_of pc l) (jumps_from (pc + 1) ls) in (
          one_in pc m j (length ls + 0) l (omega (arith, le)) (omega (arith, maps, some_maps)) (omega (arith, jumps, some_jumps))
              (all_front _ (constants_of l) (named_in constants_of ls) c) (all_front _ (misses_of l) (named_in misses_of ls) x) (all_front _ (calls_of l) (named_in calls_of ls) s) h.0,
          instrs_in_range (pc + 1) (m + length (maps_of l)) (j + length (jumps_of pc l)) ls (omega (arith, le)) (omega (arith, maps, some_maps)) (omega (arith, jumps, some_jumps))
              (all_back _ (constants_of l) (named_in constants_of ls) c) (all_back _ (misses_of l) (named_in misses_of ls) x) (all_back _ (calls_of l) (named_in calls_of ls) s) h.1,
        )
