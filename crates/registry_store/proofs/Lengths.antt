-- How long a line is.
use Rattle.std.proofs.Common.{◌≡◌, ℕ, ◌+◌, ◌*◌, ◌<◌, ◌≤◌, ◌^◌, List, [], ◌∷◌, ◌++◌, length, ⊎_elim, ap, arith, codes, length-append}
use Rattle.std.specs.Prelude.{decimal, Option, Some, None, IfSome}
use Rattle.std.proofs.lemmas.Bool.{cases_Bool}
use Rattle.std.proofs.lemmas.Fmt.{length-decimal-le}
use Rattle.percent_encoding.proofs.PercentLemmas.{percent_encode-nil, percent_encode_escaped, percent_encode_kept}
use Rattle.percent_encoding.specs.AsciiSet.{should_percent_encode}
use Rattle.percent_encoding.specs.Percent.{percent_encode, percent_encode_byte}
use Rattle.percent_encoding.specs.declared.ascii_set.AsciiSet.{AsciiSet}
use Rattle.registry_store.proofs.Checks.{length-check_of}
use Rattle.registry_store.specs.Line.{body_of, check_of, line_of, readable, subject_word, word}
use Rattle.registry_store.specs.Stored.{LevelSet, Registered}
use Rattle.registry_store.specs.declared.format.TheConstants.{TEXT_ESCAPES, WORD_ESCAPES}

-- a byte becomes at most three
pub length-percent_encode-le : (set : AsciiSet) (bs : List ℕ) → length (percent_encode set bs) ≤ 3 * length bs
unfolding percent_encode_byte
length-percent_encode-le set [] = let e = ap length (percent_encode-nil set) in omega (arith, e)
length-percent_encode-le set (b ∷ bs) =
    let rest = length-percent_encode-le set bs in
    ⊎_elim
    (λ e. let whole = ap length (percent_encode_escaped set b bs e) in omega (arith, whole, rest))
    (λ e. let whole = ap length (percent_encode_kept set b bs e) in omega (arith, whole, rest))
    (cases_Bool (should_percent_encode set b))

length_field : (field rest : List ℕ) → length (field ++ 32 ∷ rest) ≡ length field + length rest + 1
length_field field rest = let e = length-append field (32 ∷ rest) in omega (arith, e)

-- a registration of a subject and a text within the registry's limits fits a line
pub registration_fits : (id : ℕ) (subject text : List ℕ) → id < 2 ^ 32 → length subject ≤ 255 → length text ≤ 262144 → length (line_of (Registered id subject text)) ≤ 1048576
registration_fits id subject text small short fits =
    let body = body_of (Registered id subject text) in
    let digits = length-decimal-le 10 id (omega arith) (omega arith) (omega arith) in
    let a = length-percent_encode-le WORD_ESCAPES subject in
    let b = length-percent_encode-le TEXT_ESCAPES text in
    let e0 = length_field body (check_of body) in
    let e1 = length_field (codes "register") (decimal id ++ 32 ∷ (word subject ++ 32 ∷ readable text)) in
    let e2 = length_field (decimal id) (word subject ++ 32 ∷ readable text) in
    let e3 = length_field (word subject) (readable text) in
    let e4 = length-check_of body in
    omega (arith, digits, a, b, e0, e1, e2, e3, e4)

length-subject_word-le : (subject : Option (List ℕ)) → IfSome subject (λ s. length s ≤ 255) → length (subject_word subject) ≤ 765
length-subject_word-le None short = omega arith
length-subject_word-le (Some subject) short =
    let a = length-percent_encode-le WORD_ESCAPES subject in
    omega (arith, a, short)

-- a level of a subject within the registry's limits fits a line
pub level_fits : (subject : Option (List ℕ)) (level : List ℕ) → IfSome subject (λ s. length s ≤ 255) → length level ≤ 255 → length (line_of (LevelSet subject level)) ≤ 1048576
level_fits subject level short fits =
    let body = body_of (LevelSet subject level) in
    let a = length-subject_word-le subject short in
    let b = length-percent_encode-le WORD_ESCAPES level in
    let e0 = length_field body (check_of body) in
    let e1 = length_field (codes "level") (subject_word subject ++ 32 ∷ word level) in
    let e2 = length_field (subject_word subject) (word level) in
    let e3 = length-check_of body in
    omega (arith, a, b, e0, e1, e2, e3)
