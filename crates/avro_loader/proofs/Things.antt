-- Entries, addresses, misses, instructions and constants: what is read is spelled so, and what is spelled so is read.
use Rattle.std.proofs.Common.{◌≡◌, ℕ, zero, suc, ◌^◌, ◌<◌, ◌≤◌, false, cond, ltb, List, [], ◌∷◌, ◌++◌, length, take, drop, Result, Ok, Err, refl, sym, ap, subst, ◌∙◌, append_assoc, arith, eqb, Some, None, Option, ◌-◌}
use Rattle.std.proofs.lemmas.Bool.{ltb-false, le-ltb}
use Rattle.std.proofs.lemmas.List.{take_at, drop_at, take-append-drop, length-append, length-take}
use Rattle.std.proofs.lemmas.List.Concat.{flat_map-cons}
use Rattle.std.specs.List.{flat_map, AllByRecursion}
use Rattle.std.specs.Int.{w16, w32}
use Rattle.spec_avro.specs.MismatchKind.{code_of as code_of_kind}
use Rattle.spec_avro.specs.declared.mismatch.Mismatch.{Mismatch}
use Rattle.spec_avro.specs.declared.mismatch.MismatchKind.{MismatchKind}
use Rattle.spec_avro.specs.declared.mismatch.MismatchKind.TheVariants as kinds
use Rattle.spec_machine.specs.declared.entry.Entry.{Entry}
use Rattle.spec_machine.specs.declared.entry.Entry.TheVariants as entries
use Rattle.spec_machine.specs.declared.instr.Instr.{Instr}
use Rattle.spec_machine.specs.Lengths.{total_length}
use Rattle.spec_machine.specs.declared.operation.Operation.{Operation}
use Rattle.spec_machine.specs.declared.operation.Operation.TheVariants as op
use Rattle.spec_machine.specs.Operation.{at_code, code_of, instr_of, operand_of, operation_of, shape_of}
use Rattle.isa.proofs.Operations.{coded, found, same}
use Rattle.avro_loader.specs.ImageReading.{◌>>=◌, Read, place, number_at, operand_at}
use Rattle.spec_machine.specs.ImageSpelling.{short, long, operand}
use Rattle.avro_loader.specs.declared.image_fault.ImageFault.{ImageFault}
use Rattle.avro_loader.specs.declared.image_fault.ImageFault.TheVariants.{Truncated, BadByte, TooLarge}
use Rattle.avro_loader.specs.declared.version.Format.{Format}
use Rattle.spec_machine.specs.declared.version.Version.{Version}
use Rattle.avro_loader.proofs.Spelled.{shorts, longs, OperandFits, operand_takes, operand_again}
use Rattle.avro_loader.proofs.Steps.{bind_ok, unless, ok_is}
use Rattle.avro_loader.proofs.Taking.{IsBytes, IsBytes-drop, IsBytes-rest, Takes, Takes-then, Takes-byte, Reads}
use Rattle.spec_machine.specs.Image.{constant, entry, instr, miss}
use Rattle.avro_loader.specs.Reading.{constants_at, entry_at, instr_at, miss_at, constant_at, kind_at, known}

known_ok : {A : Type 0} (at : ℕ) (o : Option A) (x : A) → known at o ≡ Ok x → o ≡ Some x
known_ok at (Some y) x e = ap Some (ok_is y x e)
known_ok at None x e = absurd cc

-- ---- entries

abbrev pub EntryFits : Entry → Type 0
EntryFits (entries.Position i) = i < 2 ^ 16
EntryFits (entries.Miss m) = m < 2 ^ 16

module _ (f : Format) where
  entry_takes : (bytes : List ℕ) (x : Entry × List ℕ) → IsBytes bytes → entry_at f bytes ≡ Ok x → Takes bytes (entry x.0) x.1
  unfolding entry_at
  entry_takes [] x fits e = absurd cc
  entry_takes (zero ∷ bytes) x fits e =
      let b = bind_ok (number_at w16 bytes) (λ i. Ok (entries.Position i.0, i.1)) x e in
      subst (λ (y : Entry × List ℕ). Takes (0 ∷ bytes) (entry y.0) y.1) (ok_is (entries.Position b.0.0, b.0.1) x b.2)
      (Takes-byte 0 bytes (short b.0.0) b.0.1 (shorts.takes bytes b.0 (IsBytes-rest 0 bytes fits) b.1))
  entry_takes (suc zero ∷ bytes) x fits e =
      let b = bind_ok (number_at w16 bytes) (λ m. Ok (entries.Miss m.0, m.1)) x e in
      subst (λ (y : Entry × List ℕ). Takes (1 ∷ bytes) (entry y.0) y.1) (ok_is (entries.Miss b.0.0, b.0.1) x b.2)
      (Takes-byte 1 bytes (short b.0.0) b.0.1 (shorts.takes bytes b.0 (IsBytes-rest 1 bytes fits) b.1))
  entry_takes (suc (suc b) ∷ bytes) x fits e = absurd cc

  entry_again : (x : Entry) (rest : List ℕ) → EntryFits x → entry_at f (entry x ++ rest) ≡ Ok (x, rest)
  unfolding entry_at
  entry_again (entries.Position i) rest fits = ap (λ (r : Read ℕ). r >>= λ n. Ok (entries.Position n.0, n.1)) (shorts.again i rest fits)
  entry_again (entries.Miss m) rest fits = ap (λ (r : Read ℕ). r >>= λ n. Ok (entries.Miss n.0, n.1)) (shorts.again m rest fits)

  pub entries_read : Reads (entry_at f) entry EntryFits
  entries_read = record { takes = entry_takes; again = entry_again }

-- ---- misses

kind_back : (b : ℕ) (k : MismatchKind) → kind_at b ≡ Some k → code_of_kind k ≡ b
kind_back zero k e = absurd cc
kind_back (suc zero) k e = let is : kinds.NoMatch ≡ k = cc in ap code_of_kind (sym is)
kind_back (suc (suc zero)) k e = let is : kinds.NoBranch ≡ k = cc in ap code_of_kind (sym is)
kind_back (suc (suc (suc zero))) k e = let is : kinds.NoSymbol ≡ k = cc in ap code_of_kind (sym is)
kind_back (suc (suc (suc (suc zero)))) k e = let is : kinds.NoDefault ≡ k = cc in ap code_of_kind (sym is)
kind_back (suc (suc (suc (suc (suc zero))))) k e = let is : kinds.BytesNotText ≡ k = cc in ap code_of_kind (sym is)
kind_back (suc (suc (suc (suc (suc (suc b)))))) k e = absurd cc

kind_forth : (k : MismatchKind) → kind_at (code_of_kind k) ≡ Some k
kind_forth kinds.NoMatch = refl
kind_forth _ = refl

pub record MissFits (m : Mismatch) : Type 0 where
  pub writer : m.writer_node < 2 ^ 16
  pub reader : m.reader_node < 2 ^ 16

abbrev nodes_at : MismatchKind → List ℕ → Read Mismatch
nodes_at kind rest = number_at w16 rest >>= λ writer. number_at w16 writer.1 >>= λ reader. Ok (record { kind = kind; writer_node = writer.0; reader_node = reader.0 }, reader.1)

module _ (f : Format) where
  miss_takes : (bytes : List ℕ) (x : Mismatch × List ℕ) → IsBytes bytes → miss_at f bytes ≡ Ok x → Takes bytes (miss x.0) x.1
  unfolding miss_at
  miss_takes [] x fits e = absurd cc
  miss_takes (b ∷ bytes) x fits e =
      let k = bind_ok (known (place f (b ∷ bytes)) (kind_at b)) (λ kind. nodes_at kind bytes) x e in
      let w = bind_ok (number_at w16 bytes) (λ writer. number_at w16 writer.1 >>= λ reader. Ok (record { kind = k.0; writer_node = writer.0; reader_node = reader.0 }, reader.1)) x k.2 in
      let r = bind_ok (number_at w16 w.0.1) (λ reader. Ok (record { kind = k.0; writer_node = w.0.0; reader_node = reader.0 }, reader.1)) x w.2 in
      let first = shorts.takes bytes w.0 (IsBytes-rest b bytes fits) w.1 in
      let second = shorts.takes w.0.1 r.0 first.rest_fits r.1 in
      let both = Takes-byte b bytes (short w.0.0 ++ short r.0.0) r.0.1 (Takes-then bytes (short w.0.0) w.0.1 (short r.0.0) r.0.1 first second) in
      let coded : code_of_kind k.0 ≡ b = kind_back b k.0 (known_ok (place f (b ∷ bytes)) (kind_at b) k.0 k.1) in
      let made : Mismatch × List ℕ = (record { kind = k.0; writer_node = w.0.0; reader_node = r.0.0 }, r.0.1) in
      subst (λ (y : Mismatch × List ℕ). Takes (b ∷ bytes) (miss y.0) y.1) (ok_is made x r.2)
      (subst (λ (c : ℕ). Takes (b ∷ bytes) (c ∷ (short w.0.0 ++ short r.0.0)) r.0.1) (sym coded) both)

  miss_again : (m : Mismatch) (rest : List ℕ) → MissFits m → miss_at f (miss m ++ rest) ≡ Ok (m, rest)
  unfolding miss_at
  miss_again m rest fits =
      let kind : known (place f (miss m ++ rest)) (kind_at (code_of_kind m.kind)) ≡ Ok m.kind = ap (known (place f (miss m ++ rest))) (kind_forth m.kind) in
      ap (λ (k : Result MismatchKind ImageFault). k >>= λ kind. nodes_at kind (short m.writer_node ++ (short m.reader_node ++ rest))) kind
      ∙ ap (λ (r : Read ℕ). r >>= λ writer. number_at w16 writer.1 >>= λ reader. Ok (record { kind = m.kind; writer_node = writer.0; reader_node = reader.0 }, reader.1)) (shorts.again m.writer_node (short m.reader_node ++ rest) fits.writer)
      ∙ ap (λ (r : Read ℕ). r >>= λ reader. Ok (record { kind = m.kind; writer_node = m.writer_node; reader_node = reader.0 }, reader.1)) (shorts.again m.reader_node rest fits.reader)

  pub misses_read : Reads (miss_at f) miss MissFits
  misses_read = record { takes = miss_takes; again = miss_again }

-- ---- instructions

abbrev pub InstrFits : Version → Instr → Type 0
InstrFits v i = OperandFits v (shape_of (operation_of i)) (operand_of i)

spelled : (v : Version) (o : Operation) (n : ℕ) → instr v (instr_of o n) ≡ code_of o ∷ operand v (shape_of o) n
spelled v op.Bool n = refl
spelled v _ n = refl

module _ (f : Format) where
  instr_takes : (bytes : List ℕ) (x : Instr × List ℕ) → IsBytes bytes → instr_at f bytes ≡ Ok x → Takes bytes (instr f.version x.0) x.1
  unfolding instr_at
  instr_takes [] x fits e = absurd cc
  instr_takes (b ∷ bytes) x fits e =
      let k = bind_ok (known (place f (b ∷ bytes)) (at_code b)) (λ o. operand_at f (shape_of o) bytes >>= λ n. Ok (instr_of o n.0, n.1)) x e in
      let n = bind_ok (operand_at f (shape_of k.0) bytes) (λ n. Ok (instr_of k.0 n.0, n.1)) x k.2 in
      let text = operand f.version (shape_of k.0) n.0.0 in
      let both = Takes-byte b bytes text n.0.1 (operand_takes f (shape_of k.0) bytes n.0 (IsBytes-rest b bytes fits) n.1) in
      let code : code_of k.0 ≡ b = coded b k.0 (known_ok (place f (b ∷ bytes)) (at_code b) k.0 k.1) in
      let is : b ∷ text ≡ instr f.version (instr_of k.0 n.0.0) = ap (λ (c : ℕ). c ∷ text) (sym code) ∙ sym (spelled f.version k.0 n.0.0) in
      subst (λ (y : Instr × List ℕ). Takes (b ∷ bytes) (instr f.version y.0) y.1) (ok_is (instr_of k.0 n.0.0, n.0.1) x n.2)
      (subst (λ (t : List ℕ). Takes (b ∷ bytes) t n.0.1) is both)

  instr_again : (i : Instr) (rest : List ℕ) → InstrFits f.version i → instr_at f (instr f.version i ++ rest) ≡ Ok (i, rest)
  unfolding instr_at
  instr_again i rest fits =
      let o = operation_of i in
      let text = operand f.version (shape_of o) (operand_of i) ++ rest in
      ap (λ (k : Option Operation). known (place f (code_of o ∷ text)) k >>= λ o. operand_at f (shape_of o) text >>= λ n. Ok (instr_of o n.0, n.1)) (found o)
      ∙ ap (λ (r : Read ℕ). r >>= λ n. Ok (instr_of o n.0, n.1)) (operand_again f (shape_of o) (operand_of i) rest fits)
      ∙ ap (λ (j : Instr). Ok (j, rest)) (same i)

  pub instrs_read : Reads (instr_at f) (instr f.version) (InstrFits f.version)
  instrs_read = record { takes = instr_takes; again = instr_again }

-- ---- constants

abbrev cut : Format → ℕ → List ℕ → ℕ × List ℕ → Read (List ℕ)
cut f room bytes n = cond (eqb n.0 0) (Err (BadByte (place f bytes))) (cond (ltb room n.0) (Err (TooLarge (place f bytes))) (cond (ltb (length n.1) n.0) (Err Truncated) (Ok (take n.0 n.1, drop n.0 n.1))))

some_is_not_none : (n : ℕ) → 0 < n → eqb n 0 ≡ false
some_is_not_none n h = grind arith

module _ (f : Format) where
  constant_takes : (room : ℕ) (bytes : List ℕ) (x : List ℕ × List ℕ) → IsBytes bytes → constant_at f room bytes ≡ Ok x → Takes bytes (constant x.0) x.1
  unfolding constant_at
  constant_takes room bytes x fits e =
      let n = bind_ok (number_at w32 bytes) (cut f room bytes) x e in
      let a = unless (eqb n.0.0 0) (BadByte (place f bytes)) (cond (ltb room n.0.0) (Err (TooLarge (place f bytes))) (cond (ltb (length n.0.1) n.0.0) (Err Truncated) (Ok (take n.0.0 n.0.1, drop n.0.0 n.0.1)))) x n.2 in
      let b = unless (ltb room n.0.0) (TooLarge (place f bytes)) (cond (ltb (length n.0.1) n.0.0) (Err Truncated) (Ok (take n.0.0 n.0.1, drop n.0.0 n.0.1))) x a.1 in
      let c = unless (ltb (length n.0.1) n.0.0) Truncated (Ok (take n.0.0 n.0.1, drop n.0.0 n.0.1)) x b.1 in
      let first = longs.takes bytes n.0 fits n.1 in
      let enough : n.0.0 ≤ length n.0.1 = ltb-false _ _ c.0 in
      let len : length (take n.0.0 n.0.1) ≡ n.0.0 = omega (arith, length-take n.0.0 n.0.1) in
      let second : Takes n.0.1 (take n.0.0 n.0.1) (drop n.0.0 n.0.1) = record { parts = sym (take-append-drop n.0.0 n.0.1); rest_fits = IsBytes-drop n.0.0 n.0.1 first.rest_fits } in
      let both = Takes-then bytes (long n.0.0) n.0.1 (take n.0.0 n.0.1) (drop n.0.0 n.0.1) first second in
      let whole : Takes bytes (constant (take n.0.0 n.0.1)) (drop n.0.0 n.0.1) = subst (λ (k : ℕ). Takes bytes (long k ++ take n.0.0 n.0.1) (drop n.0.0 n.0.1)) (sym len) both in
      subst (λ (p : List ℕ × List ℕ). Takes bytes (constant p.0) p.1) (ok_is (take n.0.0 n.0.1, drop n.0.0 n.0.1) x c.1) whole

  constant_again : (room : ℕ) (x : List ℕ) (rest : List ℕ) → 0 < length x → length x ≤ room → room < 2 ^ 32 → constant_at f room (constant x ++ rest) ≡ Ok (x, rest)
  unfolding constant_at
  constant_again room x rest some le small =
      let bytes = constant x ++ rest in
      let enough : ltb (length (x ++ rest)) (length x) ≡ false = le-ltb _ _ (omega (arith, length-append x rest)) in
      ap (λ (r : Read ℕ). r >>= cut f room bytes) (longs.again (length x) (x ++ rest) (omega (arith, le, small)))
      ∙ ap (λ b. cond b (Err (BadByte (place f bytes))) (cond (ltb room (length x)) (Err (TooLarge (place f bytes))) (cond (ltb (length (x ++ rest)) (length x)) (Err Truncated) (Ok (take (length x) (x ++ rest), drop (length x) (x ++ rest)))))) (some_is_not_none (length x) some)
      ∙ ap (λ b. cond b (Err (TooLarge (place f bytes))) (cond (ltb (length (x ++ rest)) (length x)) (Err Truncated) (Ok (take (length x) (x ++ rest), drop (length x) (x ++ rest))))) (le-ltb _ _ le)
      ∙ ap (λ b. cond b (Err Truncated) (Ok (take (length x) (x ++ rest), drop (length x) (x ++ rest)))) enough
      ∙ ap (λ (t : List ℕ). Ok (t, drop (length x) (x ++ rest))) (take_at x rest (length x) refl)
      ∙ ap (λ (t : List ℕ). Ok (x, t)) (drop_at x rest (length x) refl)

  pub constants_take : (room n : ℕ) (bytes : List ℕ) (x : List (List ℕ) × List ℕ) → IsBytes bytes → constants_at f room n bytes ≡ Ok x → Takes bytes (flat_map constant x.0) x.1 × (length x.0 ≡ n)
  unfolding constants_at
  constants_take room zero bytes x fits e =
      subst (λ (y : List (List ℕ) × List ℕ). Takes bytes (flat_map constant y.0) y.1 × (length y.0 ≡ 0)) (ok_is ([], bytes) x e) (record { parts = refl; rest_fits = fits }, refl)
  constants_take room (suc n) bytes x fits e =
      let a = bind_ok (constant_at f room bytes) (λ first. constants_at f (room - length first.0) n first.1 >>= λ others. Ok (first.0 ∷ others.0, others.1)) x e in
      let b = bind_ok (constants_at f (room - length a.0.0) n a.0.1) (λ others. Ok (a.0.0 ∷ others.0, others.1)) x a.2 in
      let first = constant_takes room bytes a.0 fits a.1 in
      let second = constants_take (room - length a.0.0) n a.0.1 b.0 first.rest_fits b.1 in
      let both = Takes-then bytes (constant a.0.0) a.0.1 (flat_map constant b.0.0) b.0.1 first second.0 in
      let made : List (List ℕ) × List ℕ = (a.0.0 ∷ b.0.0, b.0.1) in
      subst (λ (y : List (List ℕ) × List ℕ). Takes bytes (flat_map constant y.0) y.1 × (length y.0 ≡ suc n)) (ok_is made x b.2) (rw flat_map-cons both, ap suc second.1)

  pub constants_again : (room : ℕ) (xs : List (List ℕ)) (rest : List ℕ) → AllByRecursion (λ x. 0 < length x) xs → total_length xs ≤ room → room < 2 ^ 32
      → constants_at f room (length xs) (flat_map constant xs ++ rest) ≡ Ok (xs, rest)
  unfolding constants_at
  constants_again room [] rest some le small = refl
  constants_again room (x ∷ xs) rest some le small =
      let regrouped : flat_map constant (x ∷ xs) ++ rest ≡ constant x ++ (flat_map constant xs ++ rest) = ap (λ (t : List ℕ). t ++ rest) (flat_map-cons constant x xs) ∙ append_assoc (constant x) (flat_map constant xs) rest in
      ap (constants_at f room (suc (length xs))) regrouped
      ∙ ap (λ (r : Read (List ℕ)). r >>= λ first. constants_at f (room - length first.0) (length xs) first.1 >>= λ others. Ok (first.0 ∷ others.0, others.1)) (constant_again room x (flat_map constant xs ++ rest) some.0 (omega (arith, le)) small)
      ∙ ap (λ (r : Read (List (List ℕ))). r >>= λ others. Ok (x ∷ others.0, others.1)) (constants_again (room - length x) xs rest some.1 (omega (arith, le)) (omega (arith, small)))
