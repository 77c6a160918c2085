-- Statements whose operands are in range, and which go to addresses that are there.
use Rattle.std.proofs.Common.{◌≡◌, ℕ, ◌+◌, ◌<◌, ◌≤◌, List, [], ◌∷◌, ◌++◌, length, map, Some, subst, arith, length-append}
use Rattle.std.specs.Prelude.{slice_get}
use Rattle.std.specs.List.{AllByRecursion}
use Rattle.spec_avro.specs.Node.{Node, Names, FieldNode, RecordNode}
use Rattle.spec_avro.specs.Resolution.{field_lists}
use Rattle.spec_machine.specs.declared.instr.Instr.{Instr}
use Rattle.spec_machine.specs.declared.instr.Instr.TheVariants as op
use Rattle.spec_machine.specs.declared.limits.TheConstants.{MOST_SYMBOLS}
use Rattle.spec_machine.specs.declared.sizes.Sizes.{Sizes}
use Rattle.spec_machine.specs.Range.{InstrIsInRange, MissIsInRange}
use Rattle.spec_machine.specs.Statements.{Section, Main, Write, Skip, Statement, Op, Put, Miss, BytesText, Enum, Call, Ahead, Back, Branch, Lost, Target, To, Lacks, begins, branched, looped, one_of}

abbrev pub TargetIsGood : Target → Type 0
TargetIsGood (To n) = n < MOST_SYMBOLS
TargetIsGood (Lacks m) = MissIsInRange m

-- an instruction that goes to an address
abbrev pub Goes : (ℕ → Instr) → Type 0
Goes go = (sizes : Sizes) (a : ℕ) → a < sizes.code → InstrIsInRange sizes (go a)

module _ (W R : List Node) where
  -- there is such a routine
  abbrev pub IsRoutine : Section → Type 0
  IsRoutine Main = Unit {0}
  IsRoutine (Write w r) = (p : List FieldNode × List FieldNode) × (field_lists (slice_get W w) (slice_get R r) ≡ Some p)
  IsRoutine (Skip w) = (names : Names) × (fields : List FieldNode) × (slice_get W w ≡ Some (RecordNode names fields))

  -- of a statement that n come after
  abbrev pub IsGood : ℕ → Statement → Type 0
  IsGood n (Op i) = (sizes : Sizes) → InstrIsInRange sizes i
  IsGood n (Put bytes) = 0 < length bytes
  IsGood n (Miss m) = MissIsInRange m
  IsGood n (BytesText m) = MissIsInRange m
  IsGood n (Enum targets) = AllByRecursion TargetIsGood targets
  IsGood n (Call s) = IsRoutine s
  IsGood n (Ahead go far) = (far ≤ n) × Goes go
  IsGood n (Back far) = Unit {0}
  IsGood n (Branch fars) = AllByRecursion (λ far. far ≤ n) fars
  IsGood n Lost = ⊥

  -- of statements that k more come after
  abbrev pub AllGood : ℕ → List Statement → Type 0
  AllGood k [] = Unit {0}
  AllGood k (l ∷ ls) = IsGood (length ls + k) l × AllGood k ls

  all_most : (n k : ℕ) (fars : List ℕ) → n ≤ k → AllByRecursion (λ far. far ≤ n) fars → AllByRecursion (λ far. far ≤ k) fars
  all_most n k [] le h = tt
  all_most n k (far ∷ fars) le h = (omega (arith, le, h.0), all_most n k fars le h.1)

  one_more : (n k : ℕ) (l : Statement) → n ≤ k → IsGood n l → IsGood k l
  one_more n k (Op i) le h = h
  one_more n k (Put bytes) le h = h
  one_more n k (Miss m) le h = h
  one_more n k (BytesText m) le h = h
  one_more n k (Enum targets) le h = h
  one_more n k (Call s) le h = h
  one_more n k (Ahead go far) le h = (omega (arith, le, h.0), h.1)
  one_more n k (Back far) le h = tt
  one_more n k (Branch fars) le h = all_most n k fars le h
  one_more n k Lost le h = h

  -- more statements may come after
  pub good_more : (n k : ℕ) (ls : List Statement) → n ≤ k → AllGood n ls → AllGood k ls
  good_more n k [] le h = tt
  good_more n k (l ∷ ls) le h = (one_more (length ls + n) (length ls + k) l (omega (arith, le)) h.0, good_more n k ls le h.1)

  good_on : (k : ℕ) (a b : List Statement) → AllGood (length b + k) a → AllGood k b → AllGood k (a ++ b)
  good_on k [] b h g = g
  good_on k (l ∷ a) b h g =
      let e : length a + (length b + k) ≡ length (a ++ b) + k = omega (arith, length-append a b) in
      (subst (λ n. IsGood n l) e h.0, good_on k a b h.1 g)

  -- statements and then others, of which there is one
  pub good_then : (n k : ℕ) (a b : List Statement) → n ≤ length b + k → AllGood n a → AllGood k b → AllGood k (a ++ b)
  good_then n k a b le h g = good_on k a b (good_more n (length b + k) a le h) g

  -- ---- loops and members; each code has a statement after it

  pub good_loop : (next : ℕ → Instr) (body : List Statement) → Goes next → AllGood 1 body → AllGood 1 (looped next body)
  good_loop next body goes h =
      let back = Back (length body + 1) ∷ [] in
      let far : length body + 2 ≤ length (body ++ back) + 1 = omega (arith, length-append body back) in
      ((far, goes), good_then 1 1 body back (omega arith) h (tt, tt))

  begins_near : (far n : ℕ) (codes : List (List Statement)) → far + length (one_of codes) ≤ n → AllByRecursion (λ f. f ≤ n) (begins far codes)
  begins_near far n [] le = tt
  begins_near far n (c ∷ []) le = (omega (arith, le), tt)
  begins_near far n (c ∷ d ∷ codes) le =
      let jump = Ahead op.Jump (length (one_of (d ∷ codes)) + 1) in
      let all = length-append c (jump ∷ one_of (d ∷ codes)) in
      (omega (arith, le), begins_near (far + length c + 1) n (d ∷ codes) (omega (arith, le, all)))

  good_one_of : (F : ℕ → List Statement) (Q : ℕ → Type 0) (ms : List ℕ) → AllByRecursion Q ms → ((m : ℕ) → Q m → AllGood 1 (F m)) → AllGood 1 (one_of (map F ms))
  good_one_of F Q [] are h = tt
  good_one_of F Q (m ∷ []) are h = h m are.0
  good_one_of F Q (m ∷ n ∷ ms) are h =
      let rest = one_of (map F (n ∷ ms)) in
      let far : length rest + 1 ≤ length rest + 1 = omega arith in
      good_then 1 1 (F m) (Ahead op.Jump (length rest + 1) ∷ rest) (omega arith) (h m are.0) ((far, λ sizes a lt. lt), good_one_of F Q (n ∷ ms) are.1 h)

  pub good_branched : (F : ℕ → List Statement) (Q : ℕ → Type 0) (ms : List ℕ) → AllByRecursion Q ms → ((m : ℕ) → Q m → AllGood 1 (F m)) → AllGood 1 (branched (map F ms))
  good_branched F Q ms are h = (begins_near 1 (length (one_of (map F ms)) + 1) (map F ms) (omega arith), good_one_of F Q ms are h)
