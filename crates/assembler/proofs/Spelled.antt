-- What words spell a thing, and that they say it.
use Rattle.std.proofs.Common.{◌≡◌, ◌⊎◌, inl, inr, ℕ, ◌<◌, ◌≤◌, nat_eq, nat_lt, cond, ◌&&◌, Bool, true, false, List, [], ◌∷◌, ◌++◌, length, map, Option, Some, None, Result, refl, ap, ◌∙◌, arith}
use Rattle.std.specs.Prelude.{option_map}
use Rattle.std.specs.Char.{is_ascii_digit}
use Rattle.std.specs.Fmt.{decimal}
use Rattle.std.specs.List.{AllByRecursion, flat_map, list_all}
use Rattle.std.specs.Str.{bytes_eq}
use Rattle.std.proofs.lemmas.Fmt.{digits_decimal}
use Rattle.std.proofs.lemmas.List.Concat.{flat_map-cons}
use Rattle.std.proofs.lemmas.List.Sums.{list_all-from_AllPass}
use Rattle.std.proofs.lemmas.Slice.Eq.{bytes_eq-Decides}
use Rattle.hex.specs.declared.error.FromHexError.{FromHexError}
use Rattle.hex.specs.Hex.{IsBytes, encode_lower, is_hex_digit}
use Rattle.hex.proofs.HexLemmas.{decode_of-encode_lower, decode_of-ok}
use Rattle.spec_avro.specs.MismatchKind as kinds
use Rattle.spec_avro.specs.declared.mismatch.Mismatch.{Mismatch}
use Rattle.spec_avro.specs.declared.mismatch.MismatchKind.{MismatchKind}
use Rattle.spec_avro.specs.declared.mismatch.MismatchKind.TheVariants as kind
use Rattle.spec_machine.specs.declared.entry.Entry.{Entry}
use Rattle.spec_machine.specs.declared.entry.Entry.TheVariants as entries
use Rattle.spec_machine.specs.declared.instr.Instr.{Instr}
use Rattle.spec_machine.specs.declared.instr.Instr.TheVariants as instrs
use Rattle.spec_machine.specs.declared.operation.Operation.{Operation}
use Rattle.spec_machine.specs.declared.operation.Operation.TheVariants as op
use Rattle.spec_machine.specs.declared.operation.Shape.{Shape}
use Rattle.spec_machine.specs.declared.operation.Shape.TheVariants as shapes
use Rattle.spec_machine.specs.Operation.{instr_of, name_of, operand_of, operation_of, shape_of}
use Rattle.isa.proofs.Operations as operations
use Rattle.spec_machine.specs.Listing.{entry}
use Rattle.spec_machine.specs.ListingParts.{◌>>=◌, at_end, bytes_in, constant_in, each_in, entry_in, first_number, instr_in, miss_in, numbered, operand_in, spelled_so}
use Rattle.spec_machine.specs.ListingWords.{kind_named, number_in, operation_named}
use Rattle.assembler.proofs.Fit.{EntryFits, InstrFits, IsLow, MissFits, OperandFits}
use Rattle.assembler.proofs.Joined.{after}
use Rattle.assembler.proofs.Numbers.{model, number_again, tells}
use Rattle.assembler.specs.Laws.Plain.{are_digits}
use Rattle.avro_bytes.specs.Laws.Plain.{both}
use Rattle.assembler.proofs.Parted.{Above, AreWords, above_from_test}

-- ---- numbers

digits_above : (ds : List ℕ) → are_digits ds → Above 32 ds
digits_above [] e = tt
digits_above (d ∷ ds) e = let k = both (is_ascii_digit d) (list_all is_ascii_digit ds) e in (digit_above d k.0, digits_above ds k.1) where
  digit_above : (d : ℕ) → is_ascii_digit d ≡ true → 32 < d
  digit_above d e = let t = tells in let p = t.parts d [] (rw e refl) in omega (arith, p.0)

pub decimal_above : (n : ℕ) → IsLow n → Above 32 (decimal n)
decimal_above n low = digits_above (decimal n) (digits_decimal model n (omega (arith, low)))

pub first_again : (n : ℕ) (ws : List (List ℕ)) → IsLow n → first_number (decimal n ∷ ws) ≡ Some (n, ws)
unfolding first_number
first_again n ws low = ap (λ (o : Option ℕ). o >>= λ m. Some (m, ws)) (number_again n (omega (arith, low)))

-- ---- constants

same_bytes : (xs : List ℕ) → bytes_eq xs xs ≡ true
same_bytes xs = (bytes_eq-Decides xs xs).1 refl

some_bytes : (n : ℕ) → 0 < n → nat_lt 0 n ≡ true
some_bytes n h = grind arith

passed : (b : Bool) (bytes : List ℕ) → b ≡ true → (cond b (Some bytes) None >>= λ y. at_end y []) ≡ Some bytes
passed true bytes e = refl
passed false bytes e = absurd cc

pub constant_again : (bytes : List ℕ) → 0 < length bytes → IsBytes bytes → constant_in (encode_lower bytes ∷ []) ≡ Some bytes
unfolding constant_in bytes_in
constant_again bytes h are =
    ap (λ (r : Result (List ℕ) FromHexError). spelled_so (encode_lower bytes) r >>= λ y. at_end y []) (decode_of-encode_lower bytes are)
    ∙ passed (nat_lt 0 (length bytes) && bytes_eq (encode_lower bytes) (encode_lower bytes)) bytes (rw (some_bytes (length bytes) h) (same_bytes (encode_lower bytes)))

hex_above : (c : ℕ) → is_hex_digit c ≡ true → 32 < c
hex_above c e = grind arith

pub encoded_above : (bytes : List ℕ) → IsBytes bytes → Above 32 (encode_lower bytes)
encoded_above bytes are =
    let k = decode_of-ok (encode_lower bytes) bytes (decode_of-encode_lower bytes are) in
    all (encode_lower bytes) (list_all-from_AllPass is_hex_digit (encode_lower bytes) k.1) where
      all : (xs : List ℕ) → list_all is_hex_digit xs ≡ true → Above 32 xs
      all [] e = tt
      all (x ∷ xs) e = let k = both (is_hex_digit x) (list_all is_hex_digit xs) e in (hex_above x k.0, all xs k.1)

-- ---- entries and addresses

abbrev pub entry_word : Entry → List ℕ
entry_word (entries.Position i) = decimal i
entry_word (entries.Miss m) = 33 ∷ decimal m

pub entry_above : (e : Entry) → EntryFits e → Above 32 (entry_word e)
entry_above (entries.Position i) low = decimal_above i low
entry_above (entries.Miss m) low = (omega arith, decimal_above m low)

pub entry_spelled : (e : Entry) → entry e ≡ 32 ∷ entry_word e
entry_spelled (entries.Position i) = refl
entry_spelled (entries.Miss m) = refl

no_mark : (b : ℕ) → 48 ≤ b → nat_eq b 33 ≡ false
no_mark b h = grind arith

position_again : (w : List ℕ) (i : ℕ) → are_digits w → number_in w ≡ Some i → entry_in w ≡ Some (entries.Position i)
unfolding entry_in number_in
position_again [] i d e = absurd cc
position_again (b ∷ w) i d e =
    let t = tells in
    let p = t.parts b w d in
    rw (no_mark b p.0.0) (ap (option_map entries.Position) e)

pub entry_again : (e : Entry) → EntryFits e → entry_in (entry_word e) ≡ Some e
unfolding entry_in
entry_again (entries.Position i) low = position_again (decimal i) i (digits_decimal model i (omega (arith, low))) (number_again i (omega (arith, low)))
entry_again (entries.Miss m) low = ap (option_map entries.Miss) (number_again m (omega (arith, low)))

module _ {A : Type 0} (said : List ℕ → Option A) (word : A → List ℕ) (spell : A → List ℕ) (F : A → Type 0)
    (again : (x : A) → F x → said (word x) ≡ Some x) (above : (x : A) → F x → Above 32 (word x)) (spelled : (x : A) → spell x ≡ 32 ∷ word x) where
  pub each_again : (xs : List A) → AllByRecursion F xs → each_in said (map word xs) ≡ Some xs
  unfolding each_in
  each_again [] fits = refl
  each_again (x ∷ xs) fits = rw (again x fits.0, each_again xs fits.1) refl

  pub each_above : (xs : List A) → AllByRecursion F xs → AreWords (map word xs)
  each_above [] fits = tt
  each_above (x ∷ xs) fits = (above x fits.0, each_above xs fits.1)

  pub each_spelled : (xs : List A) → flat_map spell xs ≡ after 32 (map word xs)
  each_spelled [] = refl
  each_spelled (x ∷ xs) = flat_map-cons spell x xs ∙ ap (λ (t : List ℕ). t ++ flat_map spell xs) (spelled x) ∙ ap (λ (t : List ℕ). (32 ∷ word x) ++ t) (each_spelled xs)

-- ---- misses

kind_again : (k : MismatchKind) → kind_named (kinds.name_of k) ≡ Some k
unfolding kind_named
kind_again kind.NoMatch = refl
kind_again _ = refl

kind_above : (k : MismatchKind) → list_all (λ b. nat_lt 32 b) (kinds.name_of k) ≡ true
kind_above kind.NoMatch = refl
kind_above _ = refl

abbrev pub miss_words : Mismatch → List (List ℕ)
miss_words m = kinds.name_of m.kind ∷ decimal m.writer_node ∷ decimal m.reader_node ∷ []

pub miss_again : (m : Mismatch) → MissFits m → miss_in (miss_words m) ≡ Some m
unfolding miss_in
miss_again m fits = rw (kind_again m.kind, first_again m.writer_node (decimal m.reader_node ∷ []) fits.writer, first_again m.reader_node [] fits.reader) refl

pub miss_above : (m : Mismatch) → MissFits m → AreWords (miss_words m)
miss_above m fits = (above_from_test 32 (kinds.name_of m.kind) (kind_above m.kind), (decimal_above m.writer_node fits.writer, (decimal_above m.reader_node fits.reader, tt)))

-- ---- instructions

operation_again : (o : Operation) → operation_named (name_of o) ≡ Some o
unfolding operation_named
operation_again op.Bool = refl
operation_again _ = refl

operation_above : (o : Operation) → list_all (λ b. nat_lt 32 b) (name_of o) ≡ true
operation_above op.Bool = refl
operation_above _ = refl

abbrev pub operand_words : Shape → ℕ → List (List ℕ)
operand_words shapes.Nothing n = []
operand_words shapes.Short n = decimal n ∷ []
operand_words shapes.Long n = decimal n ∷ []
operand_words shapes.Address n = decimal n ∷ []

abbrev pub instr_words : Instr → List (List ℕ)
instr_words i = name_of (operation_of i) ∷ operand_words (shape_of (operation_of i)) (operand_of i)

operand_again : (s : Shape) (n : ℕ) → OperandFits s n → (m : ℕ) × (operand_in s (operand_words s n) ≡ Some (m, [])) × ((s ≡ shapes.Nothing) ⊎ (m ≡ n))
operand_again shapes.Nothing n low = (0, refl, inl refl)
operand_again shapes.Short n low = (n, first_again n [] low, inr refl)
operand_again shapes.Long n low = (n, first_again n [] low, inr refl)
operand_again shapes.Address n low = (n, first_again n [] low, inr refl)

ignored : (i : Instr) (m : ℕ) → (shape_of (operation_of i) ≡ shapes.Nothing) ⊎ (m ≡ operand_of i) → instr_of (operation_of i) m ≡ i
ignored i m (inr e) = ap (instr_of (operation_of i)) e ∙ operations.same i
ignored i m (inl e) = bare i m e where
  bare : (i : Instr) (m : ℕ) → shape_of (operation_of i) ≡ shapes.Nothing → instr_of (operation_of i) m ≡ i
  bare (instrs.BytesText n) m e = absurd cc
  bare (instrs.Fixed n) m e = absurd cc
  bare (instrs.Enum n) m e = absurd cc
  bare (instrs.SkipFixed n) m e = absurd cc
  bare (instrs.SkipEnum n) m e = absurd cc
  bare (instrs.Put n) m e = absurd cc
  bare (instrs.Record n) m e = absurd cc
  bare (instrs.Slot n) m e = absurd cc
  bare (instrs.Next n) m e = absurd cc
  bare (instrs.SkipNext n) m e = absurd cc
  bare (instrs.Branch n) m e = absurd cc
  bare (instrs.Miss n) m e = absurd cc
  bare (instrs.Call n) m e = absurd cc
  bare (instrs.Jump n) m e = absurd cc
  bare _ m e = refl

pub instr_again : (i : Instr) → InstrFits i → instr_in (instr_words i) ≡ Some i
unfolding instr_in
instr_again i fits =
    let o = operand_again (shape_of (operation_of i)) (operand_of i) fits in
    rw (operation_again (operation_of i), o.1) (ap (λ (x : Instr). Some x) (ignored i o.0 o.2))

operand_above : (s : Shape) (n : ℕ) → OperandFits s n → AreWords (operand_words s n)
operand_above shapes.Nothing n low = tt
operand_above shapes.Short n low = (decimal_above n low, tt)
operand_above shapes.Long n low = (decimal_above n low, tt)
operand_above shapes.Address n low = (decimal_above n low, tt)

pub instr_above : (i : Instr) → InstrFits i → AreWords (instr_words i)
instr_above i fits = (above_from_test 32 (name_of (operation_of i)) (operation_above (operation_of i)), operand_above (shape_of (operation_of i)) (operand_of i) fits)

-- ---- a number before

pub numbered_again : {A : Type 0} (thing : List (List ℕ) → Option A) (n : ℕ) (ws : List (List ℕ)) (x : A) → IsLow n → thing ws ≡ Some x → numbered thing (decimal n ∷ ws) ≡ Some (n, x)
unfolding numbered
numbered_again thing n ws x low e = rw (first_again n ws low, e) refl
