-- The listing of a program is assembled.
use Rattle.std.proofs.Common.{◌≡◌, ℕ, suc, ◌+◌, ◌<◌, ◌≤◌, nat_lt, nat_le, nat_eq, Bool, true, false, List, [], ◌∷◌, ◌++◌, length, map, Option, Some, None, Result, Ok, Err, refl, sym, ap, subst, ◌∙◌, append_assoc, arith}
use Rattle.std.specs.Prelude.{codes}
use Rattle.std.specs.Fmt.{decimal}
use Rattle.std.specs.List.{AllByRecursion, flat_map}
use Rattle.std.proofs.lemmas.List.{append-nil, length-append}
use Rattle.hex.specs.Hex.{IsBytes, encode_lower}
use Rattle.spec_avro.specs.MismatchKind as kinds
use Rattle.spec_avro.specs.declared.mismatch.Mismatch.{Mismatch}
use Rattle.spec_machine.specs.declared.entry.Entry.{Entry}
use Rattle.spec_machine.specs.declared.instr.Instr.{Instr}
use Rattle.spec_machine.specs.declared.limits.TheConstants.{MOST_CONSTANT_BYTES, MOST_ENTRIES, MOST_INSTRS, MOST_TABLES}
use Rattle.spec_machine.specs.declared.program_error.ProgramError.{ProgramError}
use Rattle.spec_machine.specs.Judging.{judged}
use Rattle.spec_machine.specs.Lengths.{total_length}
use Rattle.spec_machine.specs.Operation.{name_of, operand_of, operation_of, shape_of}
use Rattle.spec_machine.specs.declared.operation.Shape.{Shape}
use Rattle.spec_machine.specs.declared.operation.Shape.TheVariants as shapes
use Rattle.spec_machine.specs.Program.{Program}
use Rattle.spec_machine.specs.Range.{IsProgram}
use Rattle.isa.proofs.Judged.{complete}
use Rattle.spec_machine.specs.declared.listing_fault.AsmError.{AsmError}
use Rattle.spec_machine.specs.declared.listing_fault.AsmFault.{AsmFault}
use Rattle.spec_machine.specs.Assembling.{◌>>=◌, assembled, fits_constant, fits_list, in_range, is_before_code, is_before_jumps, is_before_maps, is_before_misses, nothing, placed, with_constant, with_header, with_instr, with_jumps, with_lines, with_map, with_miss, with_words}
use Rattle.assembler.specs.Assembling.{Gives}
use Rattle.spec_machine.specs.Listing.{constant_line, entry, instr_line, jumps_line, lines_from, listing_of, map_line, miss_line, number, operand}
use Rattle.spec_machine.specs.ListingParts.{constant_in, each_in, entry_in, instr_in, miss_in}
use Rattle.spec_machine.specs.ListingWords.{number_in, parts}
use Rattle.assembler.proofs.Fit.{EntryFits, InstrFits, IsLow, MissFits, program_fits}
use Rattle.assembler.proofs.Joined.{after}
use Rattle.assembler.proofs.Numbers.{model, number_again, tells}
use Rattle.assembler.specs.Laws.Plain.{are_digits}
use Rattle.assembler.proofs.Taken.{ok_is}
use Rattle.std.proofs.lemmas.Fmt.{digits_decimal}
use Rattle.std.specs.Str.{bytes_eq}
use Rattle.assembler.proofs.Parted.{Above, AreWords, above_from_test, line_above, parts_before, same, words_again}
use Rattle.assembler.proofs.Reading.{one_line, under_header}
use Rattle.assembler.proofs.Totals.{total_more}
use Rattle.assembler.proofs.Spelled.{constant_again, decimal_above, each_above, each_again, each_spelled, encoded_above, entry_above, entry_again, entry_spelled, entry_word, instr_above, instr_again, instr_words, miss_above, miss_again, miss_words, numbered_again, operand_words}
use Rattle.isa.specs.Laws.Plain.{le_is, lt_is}

-- ---- one line

-- what the lines of a text make of a draft
abbrev read : ℕ → Program → List ℕ → Result Program AsmFault
read at P text = with_lines at P (parts 10 text)

one_more : (at : ℕ) (P : Program) (w : List ℕ) (ws : List (List ℕ)) (rest : List ℕ) (Q : Program) → Above 32 w → AreWords ws → with_words at P (w ∷ ws) ≡ Ok Q
    → read at P ((w ++ after 32 ws) ++ 10 ∷ rest) ≡ read (at + 1) Q rest
one_more at P w ws rest Q h g e =
    ap (with_lines at P) (parts_before 10 (w ++ after 32 ws) rest (line_above w ws h g))
    ∙ one_line at P (w ++ after 32 ws) rest
    ∙ ap (λ (r : Result Program AsmFault). r >>= λ R. read (at + 1) R rest) (ap (with_words at P) (words_again w ws h g) ∙ e)

-- the text of a line is its words and an LF
line_read : (at : ℕ) (P : Program) (text w : List ℕ) (ws : List (List ℕ)) (rest : List ℕ) (Q : Program) → text ≡ (w ++ after 32 ws) ++ 10 ∷ [] → Above 32 w → AreWords ws → with_words at P (w ∷ ws) ≡ Ok Q
    → read at P (text ++ rest) ≡ read (at + 1) Q rest
line_read at P text w ws rest Q is h g e =
    ap (λ (t : List ℕ). read at P (t ++ rest)) is
    ∙ ap (read at P) (append_assoc (w ++ after 32 ws) (10 ∷ []) rest)
    ∙ one_more at P w ws rest Q h g e

placed_again : {A : Type 0} (at : ℕ) (here : Bool) (next : ℕ) (fits : A → Bool) (x : A) → here ≡ true → fits x ≡ true → placed at here next fits (Some (next, x)) ≡ Ok x
placed_again at here next fits x e h = rw (e, same next, h) refl

-- ---- a section

abbrev put_all : {A : Type 0} → (Program → A → Program) → Program → List A → Program
put_all put P [] = P
put_all put P (x ∷ xs) = put_all put (put P x) xs

abbrev AllGood : {A : Type 0} → (Program → A → Program) → (Program → A → Type 0) → Program → List A → Type 0
AllGood put Good P [] = Unit {0}
AllGood put Good P (x ∷ xs) = Good P x × AllGood put Good (put P x) xs

module _ {A : Type 0} (line : ℕ → A → List ℕ) (size : Program → ℕ) (put : Program → A → Program) (Good : Program → A → Type 0)
    (grows : (P : Program) (x : A) → size (put P x) ≡ suc (size P))
    (step : (at : ℕ) (P : Program) (x : A) (rest : List ℕ) → Good P x → read at P (line (size P) x ++ rest) ≡ read (at + 1) (put P x) rest) where
  section : (at : ℕ) (P : Program) (xs : List A) (rest : List ℕ) → AllGood put Good P xs → (to : ℕ) × (read at P (lines_from line (size P) xs ++ rest) ≡ read to (put_all put P xs) rest)
  section at P [] rest good = (at, refl)
  section at P (x ∷ xs) rest good =
      let others = section (at + 1) (put P x) xs rest good.1 in (
        others.0,
        ap (read at P) (append_assoc (line (size P) x) (lines_from line (suc (size P)) xs) rest)
            ∙ step at P x (lines_from line (suc (size P)) xs ++ rest) good.0
            ∙ ap (λ (k : ℕ). read (at + 1) (put P x) (lines_from line k xs ++ rest)) (sym (grows P x))
            ∙ others.1,
      )

longer : {A : Type 0} (xs : List A) (x : A) → length (xs ++ x ∷ []) ≡ suc (length xs)
longer xs x = omega (arith, length-append xs (x ∷ []))

-- ---- constants

abbrev put_constant : Program → List ℕ → Program
put_constant P x = record P { constants = P.constants ++ x ∷ [] }

record GoodConstant (P : Program) (x : List ℕ) : Type 0 where
  here : is_before_maps P ≡ true
  low : IsLow (length P.constants)
  few : fits_constant P x ≡ true
  some : 0 < length x
  bytes : IsBytes x

constant_shape : (a d h : List ℕ) → (((a ++ (codes " " ++ d)) ++ codes " ") ++ h) ++ 10 ∷ [] ≡ (a ++ (32 ∷ (d ++ (32 ∷ (h ++ []))))) ++ 10 ∷ []
constant_shape a d h = simp (append_assoc, append-nil)

constant_step : (at : ℕ) (P : Program) (x : List ℕ) (rest : List ℕ) → GoodConstant P x → read at P (constant_line (length P.constants) x ++ rest) ≡ read (at + 1) (put_constant P x) rest
unfolding with_words with_constant
constant_step at P x rest good =
    line_read at P (constant_line (length P.constants) x) (codes "const") (decimal (length P.constants) ∷ encode_lower x ∷ []) rest (put_constant P x)
    (constant_shape (codes "const") (decimal (length P.constants)) (encode_lower x))
    (above_from_test 32 (codes "const") refl)
    (decimal_above (length P.constants) good.low, (encoded_above x good.bytes, tt))
    (rw (
      numbered_again constant_in (length P.constants) (encode_lower x ∷ []) x good.low (constant_again x good.some good.bytes),
      placed_again at (is_before_maps P) (length P.constants) (fits_constant P) x good.here good.few,
    ) refl)

abbrev prog : List (List ℕ) → List (List Entry) → List (List ℕ) → List Mismatch → List Instr → Program
prog cs ms js is ks = record { code = ks; constants = cs; maps = ms; jumps = js; misses = is }

constants_good : (cs xs : List (List ℕ)) → length cs + length xs ≤ MOST_TABLES → total_length cs + total_length xs ≤ MOST_CONSTANT_BYTES
    → AllByRecursion (λ x. 0 < length x) xs → AllByRecursion IsBytes xs → AllGood put_constant GoodConstant (prog cs [] [] [] []) xs
constants_good cs [] few short some are = tt
constants_good cs (x ∷ xs) few short some are = (
  record { here = refl; low = omega (arith, few); few = rw (lt_is (length cs) MOST_TABLES (omega (arith, few)), le_is (total_length cs + length x) MOST_CONSTANT_BYTES (omega (arith, short))) refl; some = some.0; bytes = are.0 },
  constants_good (cs ++ x ∷ []) xs (omega (arith, few, longer cs x)) (omega (arith, short, total_more cs x)) some.1 are.1,
)

constants_put : (cs xs : List (List ℕ)) → put_all put_constant (prog cs [] [] [] []) xs ≡ prog (cs ++ xs) [] [] [] []
constants_put cs [] = ap (λ (c : List (List ℕ)). prog c [] [] [] []) (sym (append-nil cs))
constants_put cs (x ∷ xs) = constants_put (cs ++ x ∷ []) xs ∙ ap (λ (c : List (List ℕ)). prog c [] [] [] []) (append_assoc cs (x ∷ []) xs)

-- ---- maps

abbrev put_map : Program → List Entry → Program
put_map P x = record P { maps = P.maps ++ x ∷ [] }

record GoodMap (P : Program) (x : List Entry) : Type 0 where
  here : is_before_jumps P ≡ true
  low : IsLow (length P.maps)
  few : fits_list P.maps x ≡ true
  fits : AllByRecursion EntryFits x

list_shape : (a d f : List ℕ) → ((a ++ (codes " " ++ d)) ++ f) ++ 10 ∷ [] ≡ (a ++ (32 ∷ (d ++ f))) ++ 10 ∷ []
list_shape a d f = simp append_assoc

map_step : (at : ℕ) (P : Program) (x : List Entry) (rest : List ℕ) → GoodMap P x → read at P (map_line (length P.maps) x ++ rest) ≡ read (at + 1) (put_map P x) rest
unfolding with_words with_map
map_step at P x rest good =
    line_read at P (map_line (length P.maps) x) (codes "map") (decimal (length P.maps) ∷ map entry_word x) rest (put_map P x)
    (list_shape (codes "map") (decimal (length P.maps)) (flat_map entry x) ∙ ap (λ (f : List ℕ). (codes "map" ++ (32 ∷ (decimal (length P.maps) ++ f))) ++ 10 ∷ []) (each_spelled entry_in entry_word entry EntryFits entry_again entry_above entry_spelled x))
    (above_from_test 32 (codes "map") refl)
    (decimal_above (length P.maps) good.low, each_above entry_in entry_word entry EntryFits entry_again entry_above entry_spelled x good.fits)
    (rw (
      numbered_again (each_in entry_in) (length P.maps) (map entry_word x) x good.low (each_again entry_in entry_word entry EntryFits entry_again entry_above entry_spelled x good.fits),
      placed_again at (is_before_jumps P) (length P.maps) (fits_list P.maps) x good.here good.few,
    ) refl)

maps_good : (cs : List (List ℕ)) (ms xs : List (List Entry)) → length ms + length xs ≤ MOST_TABLES → AllByRecursion (λ x. length x ≤ MOST_ENTRIES) xs → AllByRecursion (AllByRecursion EntryFits) xs
    → AllGood put_map GoodMap (prog cs ms [] [] []) xs
maps_good cs ms [] few short fits = tt
maps_good cs ms (x ∷ xs) few short fits = (
  record { here = refl; low = omega (arith, few); few = rw (lt_is (length ms) MOST_TABLES (omega (arith, few)), le_is (length x) MOST_ENTRIES short.0) refl; fits = fits.0 },
  maps_good cs (ms ++ x ∷ []) xs (omega (arith, few, longer ms x)) short.1 fits.1,
)

maps_put : (cs : List (List ℕ)) (ms xs : List (List Entry)) → put_all put_map (prog cs ms [] [] []) xs ≡ prog cs (ms ++ xs) [] [] []
maps_put cs ms [] = ap (λ (m : List (List Entry)). prog cs m [] [] []) (sym (append-nil ms))
maps_put cs ms (x ∷ xs) = maps_put cs (ms ++ x ∷ []) xs ∙ ap (λ (m : List (List Entry)). prog cs m [] [] []) (append_assoc ms (x ∷ []) xs)

-- ---- jump tables

abbrev put_jumps : Program → List ℕ → Program
put_jumps P x = record P { jumps = P.jumps ++ x ∷ [] }

record GoodJumps (P : Program) (x : List ℕ) : Type 0 where
  here : is_before_misses P ≡ true
  low : IsLow (length P.jumps)
  few : fits_list P.jumps x ≡ true
  fits : AllByRecursion IsLow x

address_again : (a : ℕ) → IsLow a → number_in (decimal a) ≡ Some a
address_again a low = number_again a (omega (arith, low))

number_spelled : (a : ℕ) → number a ≡ 32 ∷ decimal a
number_spelled a = refl

jumps_step : (at : ℕ) (P : Program) (x : List ℕ) (rest : List ℕ) → GoodJumps P x → read at P (jumps_line (length P.jumps) x ++ rest) ≡ read (at + 1) (put_jumps P x) rest
unfolding with_words with_jumps
jumps_step at P x rest good =
    line_read at P (jumps_line (length P.jumps) x) (codes "jumps") (decimal (length P.jumps) ∷ map decimal x) rest (put_jumps P x)
    (list_shape (codes "jumps") (decimal (length P.jumps)) (flat_map number x) ∙ ap (λ (f : List ℕ). (codes "jumps" ++ (32 ∷ (decimal (length P.jumps) ++ f))) ++ 10 ∷ []) (each_spelled number_in decimal number IsLow address_again decimal_above number_spelled x))
    (above_from_test 32 (codes "jumps") refl)
    (decimal_above (length P.jumps) good.low, each_above number_in decimal number IsLow address_again decimal_above number_spelled x good.fits)
    (rw (
      numbered_again (each_in number_in) (length P.jumps) (map decimal x) x good.low (each_again number_in decimal number IsLow address_again decimal_above number_spelled x good.fits),
      placed_again at (is_before_misses P) (length P.jumps) (fits_list P.jumps) x good.here good.few,
    ) refl)

jumps_good : (cs : List (List ℕ)) (ms : List (List Entry)) (js xs : List (List ℕ)) → length js + length xs ≤ MOST_TABLES → AllByRecursion (λ x. length x ≤ MOST_ENTRIES) xs → AllByRecursion (AllByRecursion IsLow) xs
    → AllGood put_jumps GoodJumps (prog cs ms js [] []) xs
jumps_good cs ms js [] few short fits = tt
jumps_good cs ms js (x ∷ xs) few short fits = (
  record { here = refl; low = omega (arith, few); few = rw (lt_is (length js) MOST_TABLES (omega (arith, few)), le_is (length x) MOST_ENTRIES short.0) refl; fits = fits.0 },
  jumps_good cs ms (js ++ x ∷ []) xs (omega (arith, few, longer js x)) short.1 fits.1,
)

jumps_put : (cs : List (List ℕ)) (ms : List (List Entry)) (js xs : List (List ℕ)) → put_all put_jumps (prog cs ms js [] []) xs ≡ prog cs ms (js ++ xs) [] []
jumps_put cs ms js [] = ap (λ (j : List (List ℕ)). prog cs ms j [] []) (sym (append-nil js))
jumps_put cs ms js (x ∷ xs) = jumps_put cs ms (js ++ x ∷ []) xs ∙ ap (λ (j : List (List ℕ)). prog cs ms j [] []) (append_assoc js (x ∷ []) xs)

-- ---- misses

abbrev put_miss : Program → Mismatch → Program
put_miss P x = record P { misses = P.misses ++ x ∷ [] }

record GoodMiss (P : Program) (x : Mismatch) : Type 0 where
  here : is_before_code P ≡ true
  low : IsLow (length P.misses)
  few : nat_lt (length P.misses) MOST_TABLES ≡ true
  fits : MissFits x

miss_shape : (a d k w r : List ℕ) → (((((a ++ (codes " " ++ d)) ++ codes " ") ++ k) ++ (codes " " ++ w)) ++ (codes " " ++ r)) ++ 10 ∷ []
    ≡ (a ++ (32 ∷ (d ++ (32 ∷ (k ++ (32 ∷ (w ++ (32 ∷ (r ++ []))))))))) ++ 10 ∷ []
miss_shape a d k w r = simp (append_assoc, append-nil)

miss_step : (at : ℕ) (P : Program) (x : Mismatch) (rest : List ℕ) → GoodMiss P x → read at P (miss_line (length P.misses) x ++ rest) ≡ read (at + 1) (put_miss P x) rest
unfolding with_words with_miss
miss_step at P x rest good =
    line_read at P (miss_line (length P.misses) x) (codes "miss") (decimal (length P.misses) ∷ miss_words x) rest (put_miss P x)
    (miss_shape (codes "miss") (decimal (length P.misses)) (kinds.name_of x.kind) (decimal x.writer_node) (decimal x.reader_node))
    (above_from_test 32 (codes "miss") refl)
    (decimal_above (length P.misses) good.low, miss_above x good.fits)
    (rw (
      numbered_again miss_in (length P.misses) (miss_words x) x good.low (miss_again x good.fits),
      placed_again at (is_before_code P) (length P.misses) (λ _. nat_lt (length P.misses) MOST_TABLES) x good.here good.few,
    ) refl)

misses_good : (cs : List (List ℕ)) (ms : List (List Entry)) (js : List (List ℕ)) (is xs : List Mismatch) → length is + length xs ≤ MOST_TABLES → AllByRecursion MissFits xs
    → AllGood put_miss GoodMiss (prog cs ms js is []) xs
misses_good cs ms js is [] few fits = tt
misses_good cs ms js is (x ∷ xs) few fits = (
  record { here = refl; low = omega (arith, few); few = lt_is (length is) MOST_TABLES (omega (arith, few)); fits = fits.0 },
  misses_good cs ms js (is ++ x ∷ []) xs (omega (arith, few, longer is x)) fits.1,
)

misses_put : (cs : List (List ℕ)) (ms : List (List Entry)) (js : List (List ℕ)) (is xs : List Mismatch) → put_all put_miss (prog cs ms js is []) xs ≡ prog cs ms js (is ++ xs) []
misses_put cs ms js is [] = ap (λ (i : List Mismatch). prog cs ms js i []) (sym (append-nil is))
misses_put cs ms js is (x ∷ xs) = misses_put cs ms js (is ++ x ∷ []) xs ∙ ap (λ (i : List Mismatch). prog cs ms js i []) (append_assoc is (x ∷ []) xs)

-- ---- code

abbrev put_instr : Program → Instr → Program
put_instr P x = record P { code = P.code ++ x ∷ [] }

record GoodInstr (P : Program) (x : Instr) : Type 0 where
  low : IsLow (length P.code)
  few : nat_lt (length P.code) MOST_INSTRS ≡ true
  fits : InstrFits x

differs : (d c : ℕ) → d < c → nat_eq d c ≡ false
differs d c h = grind arith

-- a number is none of the words that lines begin with
no_word : (w : List ℕ) (c : ℕ) (cs : List ℕ) → are_digits w → 57 < c → bytes_eq w (c ∷ cs) ≡ false
no_word [] c cs e h = refl
no_word (d ∷ ds) c cs e h = let t = tells in let p = t.parts d ds e in rw (differs d c (omega (arith, p.0, h))) refl

operand_spelled : (s : Shape) (n : ℕ) → operand s n ≡ after 32 (operand_words s n)
operand_spelled shapes.Nothing n = refl
operand_spelled shapes.Short n = ap (λ (t : List ℕ). 32 ∷ t) (sym (append-nil (decimal n)))
operand_spelled shapes.Long n = ap (λ (t : List ℕ). 32 ∷ t) (sym (append-nil (decimal n)))
operand_spelled shapes.Address n = ap (λ (t : List ℕ). 32 ∷ t) (sym (append-nil (decimal n)))

instr_shape : (d k o : List ℕ) → (((d ++ codes " ") ++ k) ++ o) ++ 10 ∷ [] ≡ (d ++ (32 ∷ (k ++ o))) ++ 10 ∷ []
instr_shape d k o = simp append_assoc

instr_step : (at : ℕ) (P : Program) (x : Instr) (rest : List ℕ) → GoodInstr P x → read at P (instr_line (length P.code) x ++ rest) ≡ read (at + 1) (put_instr P x) rest
unfolding with_words with_instr
instr_step at P x rest good =
    let n = length P.code in
    let digits : are_digits (decimal n) = digits_decimal model n (omega (arith, good.low)) in
    let s = shape_of (operation_of x) in
    line_read at P (instr_line n x) (decimal n) (instr_words x) rest (put_instr P x)
    (instr_shape (decimal n) (name_of (operation_of x)) (operand s (operand_of x)) ∙ ap (λ (o : List ℕ). (decimal n ++ (32 ∷ (name_of (operation_of x) ++ o))) ++ 10 ∷ []) (operand_spelled s (operand_of x)))
    (decimal_above n good.low)
    (instr_above x good.fits)
    (rw (
      no_word (decimal n) 99 (codes "onst") digits (omega arith),
      no_word (decimal n) 109 (codes "ap") digits (omega arith),
      no_word (decimal n) 106 (codes "umps") digits (omega arith),
      no_word (decimal n) 109 (codes "iss") digits (omega arith),
      numbered_again instr_in n (instr_words x) x good.low (instr_again x good.fits),
      placed_again at true n (λ _. nat_lt n MOST_INSTRS) x refl good.few,
    ) refl)

code_good : (cs : List (List ℕ)) (ms : List (List Entry)) (js : List (List ℕ)) (is : List Mismatch) (ks xs : List Instr) → length ks + length xs ≤ MOST_INSTRS → AllByRecursion InstrFits xs
    → AllGood put_instr GoodInstr (prog cs ms js is ks) xs
code_good cs ms js is ks [] few fits = tt
code_good cs ms js is ks (x ∷ xs) few fits = (
  record { low = omega (arith, few); few = lt_is (length ks) MOST_INSTRS (omega (arith, few)); fits = fits.0 },
  code_good cs ms js is (ks ++ x ∷ []) xs (omega (arith, few, longer ks x)) fits.1,
)

code_put : (cs : List (List ℕ)) (ms : List (List Entry)) (js : List (List ℕ)) (is : List Mismatch) (ks xs : List Instr) → put_all put_instr (prog cs ms js is ks) xs ≡ prog cs ms js is (ks ++ xs)
code_put cs ms js is ks [] = ap (prog cs ms js is) (sym (append-nil ks))
code_put cs ms js is ks (x ∷ xs) = code_put cs ms js is (ks ++ x ∷ []) xs ∙ ap (prog cs ms js is) (append_assoc ks (x ∷ []) xs)

-- ---- the whole

nothing_left : (at : ℕ) (P : Program) → read at P [] ≡ Ok P
unfolding with_lines parts
nothing_left at P = refl

all_lines : (P : Program) → IsProgram P → AllByRecursion IsBytes P.constants
    → read 2 nothing (lines_from constant_line 0 P.constants ++ (lines_from map_line 0 P.maps ++ (lines_from jumps_line 0 P.jumps ++ (lines_from miss_line 0 P.misses ++ lines_from instr_line 0 P.code)))) ≡ Ok P
all_lines P h are =
    let f = program_fits P h in
    let w = h.within in
    let cs = P.constants in
    let ms = P.maps in
    let js = P.jumps in
    let is = P.misses in
    let ks = P.code in
    let r4 = lines_from instr_line 0 ks in
    let r3 = lines_from miss_line 0 is ++ r4 in
    let r2 = lines_from jumps_line 0 js ++ r3 in
    let r1 = lines_from map_line 0 ms ++ r2 in
    let c = section constant_line (λ Q. length Q.constants) put_constant GoodConstant (λ Q x. longer Q.constants x) constant_step 2 nothing cs r1
    (constants_good [] cs (omega (arith, w.constants)) (omega (arith, w.bytes)) h.constants are) in
    let m = section map_line (λ Q. length Q.maps) put_map GoodMap (λ Q x. longer Q.maps x) map_step c.0 (prog cs [] [] [] []) ms r2
    (maps_good cs [] ms (omega (arith, w.maps.many)) w.maps.each f.maps) in
    let j = section jumps_line (λ Q. length Q.jumps) put_jumps GoodJumps (λ Q x. longer Q.jumps x) jumps_step m.0 (prog cs ms [] [] []) js r3
    (jumps_good cs ms [] js (omega (arith, w.jumps.many)) w.jumps.each f.jumps) in
    let i = section miss_line (λ Q. length Q.misses) put_miss GoodMiss (λ Q x. longer Q.misses x) miss_step j.0 (prog cs ms js [] []) is r4
    (misses_good cs ms js [] is (omega (arith, w.misses)) f.misses) in
    let k = section instr_line (λ Q. length Q.code) put_instr GoodInstr (λ Q x. longer Q.code x) instr_step i.0 (prog cs ms js is []) ks []
    (code_good cs ms js is [] ks (omega (arith, w.code)) f.code) in
    c.1 ∙ ap (λ (Q : Program). read c.0 Q r1) (constants_put [] cs)
    ∙ m.1 ∙ ap (λ (Q : Program). read m.0 Q r2) (maps_put cs [] ms)
    ∙ j.1 ∙ ap (λ (Q : Program). read j.0 Q r3) (jumps_put cs ms [] js)
    ∙ i.1 ∙ ap (λ (Q : Program). read i.0 Q r4) (misses_put cs ms js [] is)
    ∙ ap (read i.0 (prog cs ms js is [])) (sym (append-nil r4))
    ∙ k.1 ∙ ap (λ (Q : Program). read k.0 Q []) (code_put cs ms js is [] ks)
    ∙ nothing_left k.0 P

abbrev judged_by : Program → Option ProgramError → Result Program ProgramError
judged_by P o = elim o [ Some e ↦ Err e | None ↦ Ok P ]

assembled_again : (P : Program) → IsProgram P → AllByRecursion IsBytes P.constants → assembled (listing_of P) ≡ Ok P
unfolding assembled
assembled_again P h are =
    let rest = lines_from constant_line 0 P.constants ++ (lines_from map_line 0 P.maps ++ (lines_from jumps_line 0 P.jumps ++ (lines_from miss_line 0 P.misses ++ lines_from instr_line 0 P.code))) in
    let split = parts_before 10 (codes "avro program 1") rest (above_from_test 10 (codes "avro program 1") refl) in
    let draft : with_header (parts 10 (listing_of P)) ≡ Ok P = under_header (listing_of P) (codes "avro program 1") rest split refl ∙ all_lines P h are in
    ap (λ (r : Result Program AsmFault). r >>= λ D. in_range D (judged D)) draft
    ∙ ap (λ (o : Option ProgramError). in_range P (judged_by P o)) (complete P h)

pub is_only : (text : List ℕ) (r : Result Program AsmError) → Gives (λ P. P) r (assembled text)
    → (P : Program) → IsProgram P → AllByRecursion IsBytes P.constants → text ≡ listing_of P → Gives (λ P. P) r (Ok P)
is_only text r given P h are is = subst (λ (found : Result Program AsmFault). Gives (λ P. P) r found) (ap assembled is ∙ assembled_again P h are) given

pub one_program : (P Q : Program) → IsProgram P → IsProgram Q → AllByRecursion IsBytes P.constants → AllByRecursion IsBytes Q.constants → listing_of P ≡ listing_of Q → P ≡ Q
one_program P Q hP hQ bP bQ same = ok_is P Q (sym (assembled_again P hP bP) ∙ ap assembled same ∙ assembled_again Q hQ bQ)
