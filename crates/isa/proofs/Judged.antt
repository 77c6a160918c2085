-- There is no first error just where the parts are a program.
use Rattle.std.proofs.Common.{◌≡◌, ℕ, zero, suc, ◌+◌, ◌<◌, ◌≤◌, Bool, true, false, not, cond, ◌&&◌, List, [], ◌∷◌, length, Option, Some, None, refl, sym, ap, ◌∙◌, arith}
use Rattle.std.specs.Prelude.{nat_lt, nat_le, ◌==◌, option_map}
use Rattle.std.specs.Option.{option_or}
use Rattle.std.specs.List.{AllByRecursion, position_from}
use Rattle.std.proofs.lemmas.Iterator.Adapters.{position_from-zero}
use Rattle.spec_avro.specs.declared.mismatch.Mismatch.{Mismatch}
use Rattle.spec_machine.specs.declared.entry.Entry.{Entry}
use Rattle.spec_machine.specs.declared.entry.Entry.TheVariants as entries
use Rattle.spec_machine.specs.declared.instr.Instr.{Instr}
use Rattle.spec_machine.specs.declared.instr.Instr.TheVariants as op
use Rattle.spec_machine.specs.declared.limits.TheConstants.{MOST_ENTRIES}
use Rattle.spec_machine.specs.declared.program_error.ProgramError.{ProgramError}
use Rattle.spec_machine.specs.declared.program_error.ProgramError.TheVariants as errors
use Rattle.spec_machine.specs.declared.sizes.Sizes.{Sizes}
use Rattle.spec_machine.specs.Program.{Program}
use Rattle.spec_machine.specs.Range.{EntryIsInRange, InstrIsInRange, IsAddress, IsProgram, IsWithinLimits, MissIsInRange, sizes_of}
use Rattle.spec_machine.specs.Judging.{are_within, at_list, entry_is_in_range, first_empty, first_empty_from, first_error, first_out, first_out_from, first_out_in, instr_is_in_range, is_address, is_within_limits, miss_is_in_range}
use Rattle.isa.specs.Laws.Plain.{le_is, lt_is, is_lt}

both : (a b : Bool) → (a && b) ≡ true → (a ≡ true) × (b ≡ true)
both true b h = (refl, h)
both false b h = absurd cc

is_le : (a b : ℕ) → nat_le a b ≡ true → a ≤ b
is_le a b h = grind arith

not_zero : (k : ℕ) → (suc k == 0) ≡ false
not_zero k = grind arith

-- ---- nothing is out of range

module _ {A : Type 0} (test : A → Bool) (P : A → Type 0) (holds : (x : A) → test x ≡ true → P x) (tells : (x : A) → P x → test x ≡ true) where
  step : (n : ℕ) (x : A) (xs : List A) (b : Bool) → test x ≡ b → (position_from (λ y. not (test y)) (n + 1) xs ≡ None → AllByRecursion P xs)
      → cond (not b) (Some n) (position_from (λ y. not (test y)) (n + 1) xs) ≡ None → P x × AllByRecursion P xs
  step n x xs true e rest h = (holds x e, rest h)
  step n x xs false e rest h = absurd cc

  all_from : (n : ℕ) (xs : List A) → position_from (λ y. not (test y)) n xs ≡ None → AllByRecursion P xs
  all_from n [] h = tt
  all_from n (x ∷ xs) h = step n x xs (test x) refl (all_from (n + 1) xs) h

  none_from : (n : ℕ) (xs : List A) → AllByRecursion P xs → position_from (λ y. not (test y)) n xs ≡ None
  none_from n [] h = refl
  none_from n (x ∷ xs) h = ap (λ b. cond (not b) (Some n) (position_from (λ y. not (test y)) (n + 1) xs)) (tells x h.0) ∙ none_from (n + 1) xs h.1

  pub all_in : (xs : List A) → first_out test xs ≡ None → AllByRecursion P xs
  all_in xs h = all_from 0 xs (sym (position_from-zero (λ y. not (test y)) xs) ∙ h)

  pub none_out : (xs : List A) → AllByRecursion P xs → first_out test xs ≡ None
  none_out xs h = position_from-zero (λ y. not (test y)) xs ∙ none_from 0 xs h

  turn : (n : ℕ) (xs : List A) (lists : List (List A)) (o : Option ℕ) → first_out test xs ≡ o → (first_out_from test (suc n) lists ≡ None → AllByRecursion (AllByRecursion P) lists)
      → at_list n o (first_out_from test (suc n) lists) ≡ None → AllByRecursion P xs × AllByRecursion (AllByRecursion P) lists
  turn n xs lists (Some i) e rest h = absurd cc
  turn n xs lists None e rest h = (all_in xs e, rest h)

  pub all_in_lists : (n : ℕ) (lists : List (List A)) → first_out_from test n lists ≡ None → AllByRecursion (AllByRecursion P) lists
  all_in_lists n [] h = tt
  all_in_lists n (xs ∷ lists) h = turn n xs lists (first_out test xs) refl (all_in_lists (suc n) lists) h

  pub none_out_in : (n : ℕ) (lists : List (List A)) → AllByRecursion (AllByRecursion P) lists → first_out_from test n lists ≡ None
  none_out_in n [] h = refl
  none_out_in n (xs ∷ lists) h = ap (λ o. at_list n o (first_out_from test (suc n) lists)) (none_out xs h.0) ∙ none_out_in (suc n) lists h.1

-- ---- nothing is empty, and nothing too long

module _ {A : Type 0} where
  abbrev IsSome : List A → Type 0
  IsSome x = 0 < length x

  full_here : (n : ℕ) (x : List A) (xs : List (List A)) → (first_empty_from (suc n) xs ≡ None → AllByRecursion IsSome xs) → first_empty_from n (x ∷ xs) ≡ None → IsSome x × AllByRecursion IsSome xs
  full_here n [] xs rest h = absurd cc
  full_here n (y ∷ x) xs rest h = (omega arith, rest (ap (λ b. cond b (Some n) (first_empty_from (suc n) xs)) (sym (not_zero (length x))) ∙ h))

  all_full : (n : ℕ) (xs : List (List A)) → first_empty_from n xs ≡ None → AllByRecursion IsSome xs
  all_full n [] h = tt
  all_full n (x ∷ xs) h = full_here n x xs (all_full (suc n) xs) h

  none_empty : (n : ℕ) (xs : List (List A)) → AllByRecursion IsSome xs → first_empty_from n xs ≡ None
  none_empty n [] h = refl
  none_empty n ([] ∷ xs) h = absurd (omega (arith, h.0))
  none_empty n ((y ∷ x) ∷ xs) h = ap (λ b. cond b (Some n) (first_empty_from (suc n) xs)) (not_zero (length x)) ∙ none_empty (suc n) xs h.1

  all_short : (most : ℕ) (xs : List (List A)) → are_within most xs ≡ true → AllByRecursion (λ x. length x ≤ most) xs
  all_short most [] h = tt
  all_short most (x ∷ xs) h = let b = both (nat_le (length x) most) (are_within most xs) h in (is_le (length x) most b.0, all_short most xs b.1)

  short_all : (most : ℕ) (xs : List (List A)) → AllByRecursion (λ x. length x ≤ most) xs → are_within most xs ≡ true
  short_all most [] h = refl
  short_all most (x ∷ xs) h = ap (λ b. b && are_within most xs) (le_is (length x) most h.0) ∙ short_all most xs h.1

-- ---- one thing

entry_in : (n : Sizes) (e : Entry) → entry_is_in_range n e ≡ true → EntryIsInRange n e
entry_in n (entries.Position i) h = is_lt _ _ h
entry_in n (entries.Miss m) h = is_lt _ _ h

in_entry : (n : Sizes) (e : Entry) → EntryIsInRange n e → entry_is_in_range n e ≡ true
in_entry n (entries.Position i) h = lt_is _ _ h
in_entry n (entries.Miss m) h = lt_is _ _ h

miss_in : (n : Sizes) (m : Mismatch) → miss_is_in_range n m ≡ true → MissIsInRange m
miss_in n m h = let b = both _ _ h in record { writer = is_lt _ _ b.0; reader = is_lt _ _ b.1 }

in_miss : (n : Sizes) (m : Mismatch) → MissIsInRange m → miss_is_in_range n m ≡ true
in_miss n m h = rw (lt_is _ _ h.writer) (lt_is _ _ h.reader)

instr_in : (n : Sizes) (i : Instr) → instr_is_in_range n i ≡ true → InstrIsInRange n i
instr_in n (op.BytesText x) h = is_lt _ _ h
instr_in n (op.Enum x) h = is_lt _ _ h
instr_in n (op.Put x) h = is_lt _ _ h
instr_in n (op.Slot x) h = is_lt _ _ h
instr_in n (op.Next x) h = is_lt _ _ h
instr_in n (op.SkipNext x) h = is_lt _ _ h
instr_in n (op.Branch x) h = is_lt _ _ h
instr_in n (op.Miss x) h = is_lt _ _ h
instr_in n (op.Call x) h = is_lt _ _ h
instr_in n (op.Jump x) h = is_lt _ _ h
instr_in n (op.Fixed x) h = is_le _ _ h
instr_in n (op.SkipFixed x) h = is_le _ _ h
instr_in n (op.SkipEnum x) h = is_le _ _ h
instr_in n (op.Record x) h = is_le _ _ h
instr_in n op.Bool h = tt
instr_in n op.Int h = tt
instr_in n op.Long h = tt
instr_in n op.Bytes h = tt
instr_in n op.Text h = tt
instr_in n op.SkipBool h = tt
instr_in n op.SkipInt h = tt
instr_in n op.SkipLong h = tt
instr_in n op.SkipBytes h = tt
instr_in n op.SkipText h = tt
instr_in n op.EndRecord h = tt
instr_in n op.Enter h = tt
instr_in n op.Leave h = tt
instr_in n op.Blocks h = tt
instr_in n op.SkipBlocks h = tt
instr_in n op.Return h = tt
instr_in n op.Halt h = tt

in_instr : (n : Sizes) (i : Instr) → InstrIsInRange n i → instr_is_in_range n i ≡ true
in_instr n (op.BytesText x) h = lt_is _ _ h
in_instr n (op.Enum x) h = lt_is _ _ h
in_instr n (op.Put x) h = lt_is _ _ h
in_instr n (op.Slot x) h = lt_is _ _ h
in_instr n (op.Next x) h = lt_is _ _ h
in_instr n (op.SkipNext x) h = lt_is _ _ h
in_instr n (op.Branch x) h = lt_is _ _ h
in_instr n (op.Miss x) h = lt_is _ _ h
in_instr n (op.Call x) h = lt_is _ _ h
in_instr n (op.Jump x) h = lt_is _ _ h
in_instr n (op.Fixed x) h = le_is _ _ h
in_instr n (op.SkipFixed x) h = le_is _ _ h
in_instr n (op.SkipEnum x) h = le_is _ _ h
in_instr n (op.Record x) h = le_is _ _ h
in_instr n op.Bool h = refl
in_instr n op.Int h = refl
in_instr n op.Long h = refl
in_instr n op.Bytes h = refl
in_instr n op.Text h = refl
in_instr n op.SkipBool h = refl
in_instr n op.SkipInt h = refl
in_instr n op.SkipLong h = refl
in_instr n op.SkipBytes h = refl
in_instr n op.SkipText h = refl
in_instr n op.EndRecord h = refl
in_instr n op.Enter h = refl
in_instr n op.Leave h = refl
in_instr n op.Blocks h = refl
in_instr n op.SkipBlocks h = refl
in_instr n op.Return h = refl
in_instr n op.Halt h = refl

-- ---- all of them

module _ (P : Program) where
  within_limits : is_within_limits P ≡ true → IsWithinLimits P
  within_limits h =
      let a = both _ _ h in let b = both _ _ a.0 in let c = both _ _ b.0 in let d = both _ _ c.0 in let e = both _ _ d.0 in let f = both _ _ e.0 in let g = both _ _ f.0 in
      record {
        code = is_le _ _ g.0;
        constants = is_le _ _ g.1;
        bytes = is_le _ _ f.1;
        maps = record { many = is_le _ _ e.1; each = all_short MOST_ENTRIES P.maps d.1 };
        jumps = record { many = is_le _ _ c.1; each = all_short MOST_ENTRIES P.jumps b.1 };
        misses = is_le _ _ a.1;
      }

  limits_within : IsWithinLimits P → is_within_limits P ≡ true
  limits_within w = rw (le_is _ _ w.code, le_is _ _ w.constants, le_is _ _ w.bytes, le_is _ _ w.maps.many, short_all MOST_ENTRIES P.maps w.maps.each, le_is _ _ w.jumps.many, short_all MOST_ENTRIES P.jumps w.jumps.each, le_is _ _ w.misses) refl

module _ {A B C D E X : Type 0} (no_code too_large : X) (f : A → X) (g : B → X) (h : C → X) (k : D → X) (l : E → X) where
  abbrev chain : Bool → Bool → Option A → Option B → Option C → Option D → Option E → Option X
  chain a b v w x y z = cond a (Some no_code) (cond (not b) (Some too_large) (option_or (option_map f v) (option_or (option_or (option_or (option_map g w) (option_map h x)) (option_map k y)) (option_map l z))))

  -- none is reported just where there is none of them
  peel : (a b : Bool) (v : Option A) (w : Option B) (x : Option C) (y : Option D) (z : Option E) → chain a b v w x y z ≡ None
      → (a ≡ false) × (b ≡ true) × (v ≡ None) × (w ≡ None) × (x ≡ None) × (y ≡ None) × (z ≡ None)
  peel true b v w x y z e = absurd cc
  peel false false v w x y z e = absurd cc
  peel false true (Some v) w x y z e = absurd cc
  peel false true None (Some w) x y z e = absurd cc
  peel false true None None (Some x) y z e = absurd cc
  peel false true None None None (Some y) z e = absurd cc
  peel false true None None None None (Some z) e = absurd cc
  peel false true None None None None None e = (refl, refl, refl, refl, refl, refl, refl)

  wrap : (a b : Bool) (v : Option A) (w : Option B) (x : Option C) (y : Option D) (z : Option E)
      → a ≡ false → b ≡ true → v ≡ None → w ≡ None → x ≡ None → y ≡ None → z ≡ None → chain a b v w x y z ≡ None
  wrap a b v w x y z d e p q r s t = rw (d, e, p, q, r, s, t) refl

some_of : (k : ℕ) → (k == 0) ≡ false → 0 < k
some_of zero h = absurd cc
some_of (suc k) h = omega arith

of_some : (k : ℕ) → 0 < k → (k == 0) ≡ false
of_some k h = grind arith

module _ (P : Program) where
  abbrev n : Sizes
  n = sizes_of P

  pub sound : first_error P ≡ None → IsProgram P
  sound e =
      let p = peel errors.NoCode errors.TooLarge errors.EmptyConstant (λ (q : ℕ × ℕ). errors.Entry q.0 q.1) (λ (q : ℕ × ℕ). errors.Address q.0 q.1) errors.Miss errors.Instr
      (length P.code == 0) (is_within_limits P) (first_empty P.constants) (first_out_in (entry_is_in_range n) P.maps) (first_out_in (is_address n) P.jumps) (first_out (miss_is_in_range n) P.misses) (first_out (instr_is_in_range n) P.code) e in
      record {
        some = some_of (length P.code) p.0;
        within = within_limits P p.1;
        constants = all_full 0 P.constants p.2;
        entries = all_in_lists (entry_is_in_range n) (EntryIsInRange n) (entry_in n) (in_entry n) 0 P.maps p.3;
        addresses = all_in_lists (is_address n) (IsAddress n) (λ a. is_lt _ _) (λ a. lt_is _ _) 0 P.jumps p.4;
        misses = all_in (miss_is_in_range n) MissIsInRange (miss_in n) (in_miss n) P.misses p.5;
        instrs = all_in (instr_is_in_range n) (InstrIsInRange n) (instr_in n) (in_instr n) P.code p.6;
      }

  pub complete : IsProgram P → first_error P ≡ None
  complete h = wrap errors.NoCode errors.TooLarge errors.EmptyConstant (λ (q : ℕ × ℕ). errors.Entry q.0 q.1) (λ (q : ℕ × ℕ). errors.Address q.0 q.1) errors.Miss errors.Instr
      (length P.code == 0) (is_within_limits P) (first_empty P.constants) (first_out_in (entry_is_in_range n) P.maps) (first_out_in (is_address n) P.jumps) (first_out (miss_is_in_range n) P.misses) (first_out (instr_is_in_range n) P.code)
      (of_some (length P.code) h.some) (limits_within P h.within) (none_empty 0 P.constants h.constants)
      (none_out_in (entry_is_in_range n) (EntryIsInRange n) (entry_in n) (in_entry n) 0 P.maps h.entries)
      (none_out_in (is_address n) (IsAddress n) (λ a. is_lt _ _) (λ a. lt_is _ _) 0 P.jumps h.addresses)
      (none_out (miss_is_in_range n) MissIsInRange (miss_in n) (in_miss n) P.misses h.misses)
      (none_out (instr_is_in_range n) (InstrIsInRange n) (instr_in n) (in_instr n) P.code h.instrs)

  -- no first error is reported of a program
  pub refused : (e : ProgramError) → first_error P ≡ Some e → IsProgram P → ⊥
  refused e told h = let clash : Some e ≡ None = sym told ∙ complete h in absurd cc
