-- Fields without spaces, and lines without newlines.
use Rattle.std.proofs.Common.{◌≡◌, ◌≢◌, ◌∙◌, ℕ, zero, suc, ◌+◌, ◌/◌, ◌%◌, ◌<◌, ◌^◌, Bool, true, not, ◌&&◌, eqb, List, [], ◌∷◌, ◌++◌, length, take, drop, take-append-drop, get_or, All, sym, refl, ap, subst, arith}
use Rattle.std.specs.Prelude.{decimal}
use Rattle.std.proofs.lemmas.Bool.{and_parts, both_ways, eq-eqb, not-true}
use Rattle.std.proofs.lemmas.Fmt.{decimal_by_steps}
use Rattle.std.proofs.lemmas.List.{drop_more}
use Rattle.std.proofs.lemmas.List.Elements.{All-cons, All-head, All-nil, All-push, All-tail}
use Rattle.hex.specs.Hex.{encode_with, lower_digits}
use Rattle.percent_encoding.proofs.PercentLemmas.{All-percent_encode, IsEscapeByte}
use Rattle.percent_encoding.specs.AsciiSet.{should_percent_encode}
use Rattle.percent_encoding.specs.Percent.{percent_encode}
use Rattle.percent_encoding.specs.declared.ascii_set.AsciiSet.{AsciiSet}
use Rattle.registry_store.specs.Line.{check_of}
use Rattle.registry_store.specs.declared.format.TheConstants.{TEXT_ESCAPES, WORD_ESCAPES}

-- the byte is not among them
abbrev pub Lacks : ℕ → List ℕ → Type 0
Lacks b xs = All (λ x. x ≢ b) xs

-- the same as a test
abbrev pub lacks : ℕ → List ℕ → Bool
lacks b [] = true
lacks b (x ∷ xs) = not (eqb x b) && lacks b xs

pub Lacks-from_test : (b : ℕ) (xs : List ℕ) → lacks b xs ≡ true → Lacks b xs
Lacks-from_test b [] h = All-nil (λ x. x ≢ b)
Lacks-from_test b (x ∷ xs) h =
    let parts = and_parts (not (eqb x b)) (lacks b xs) h in
    All-cons (λ y. y ≢ b) x xs (λ e. both_ways (eqb x b) (not-true (eqb x b) parts.0) (eq-eqb x b e)) (Lacks-from_test b xs parts.1)

-- bytes are split at the first separator in one way
pub split_same : (s : ℕ) (a b c d : List ℕ) → Lacks s a → Lacks s c → a ++ s ∷ b ≡ c ++ s ∷ d → (a ≡ c) × (b ≡ d)
split_same s [] b [] d in_a in_c e = (refl, cc)
split_same s [] b (y ∷ c) d in_a in_c e = absurd (All-head (λ x. x ≢ s) y c in_c cc)
split_same s (x ∷ a) b [] d in_a in_c e = absurd (All-head (λ x. x ≢ s) x a in_a cc)
split_same s (x ∷ a) b (y ∷ c) d in_a in_c e =
    let rest = split_same s a b c d (All-tail (λ z. z ≢ s) x a in_a) (All-tail (λ z. z ≢ s) y c in_c) cc in
    (cc, rest.1)

not_escape : (b : ℕ) → b ≢ 37 → b < 48 → IsEscapeByte b → ⊥
not_escape b other low h = grind arith

-- a byte that the set escapes is not in what is written
pub Lacks-percent_encode : (set : AsciiSet) (b : ℕ) (bs : List ℕ) → should_percent_encode set b ≡ true → b ≢ 37 → b < 48 → Lacks b (percent_encode set bs)
Lacks-percent_encode set b bs escaped other low =
    All-percent_encode (λ x. x ≢ b) set bs
    (λ x kept same. both_ways (should_percent_encode set x) kept (ap (should_percent_encode set) same ∙ escaped))
    (λ x digit same. not_escape b other low (subst IsEscapeByte same digit))

pub word_lacks_space : (bs : List ℕ) → Lacks 32 (percent_encode WORD_ESCAPES bs)
unfolding should_percent_encode
word_lacks_space bs = Lacks-percent_encode WORD_ESCAPES 32 bs refl (λ e. omega arith) (omega arith)

pub word_lacks_star : (bs : List ℕ) → Lacks 42 (percent_encode WORD_ESCAPES bs)
unfolding should_percent_encode
word_lacks_star bs = Lacks-percent_encode WORD_ESCAPES 42 bs refl (λ e. omega arith) (omega arith)

pub word_lacks_newline : (bs : List ℕ) → Lacks 10 (percent_encode WORD_ESCAPES bs)
unfolding should_percent_encode
word_lacks_newline bs = Lacks-percent_encode WORD_ESCAPES 10 bs refl (λ e. omega arith) (omega arith)

pub text_lacks_newline : (bs : List ℕ) → Lacks 10 (percent_encode TEXT_ESCAPES bs)
unfolding should_percent_encode
text_lacks_newline bs = Lacks-percent_encode TEXT_ESCAPES 10 bs refl (λ e. omega arith) (omega arith)

-- a decimal number has digits alone
pub decimal_lacks : (b n : ℕ) → b < 48 → n < 2 ^ 64 → Lacks b (decimal n)
decimal_lacks b n low small =
    decimal_by_steps (λ m ds. Lacks b ds)
    (λ m one. All-cons (λ x. x ≢ b) (48 + m) [] (λ e. omega arith) (All-nil (λ x. x ≢ b)))
    (λ m ds more front. All-push (λ x. x ≢ b) ds _ front (λ e. omega arith))
    n small

lacks_at : (b : ℕ) (t : List ℕ) (k : ℕ) → 0 ≢ b → Lacks b t → get_or t k 0 ≢ b
lacks_at b [] k other all = other
lacks_at b (x ∷ t) zero other all = All-head (λ y. y ≢ b) x t all
lacks_at b (x ∷ t) (suc k) other all = lacks_at b t k other (All-tail (λ y. y ≢ b) x t all)

digits_lack : (b : ℕ) (t bs : List ℕ) → 0 ≢ b → Lacks b t → Lacks b (encode_with t bs)
unfolding encode_with
digits_lack b t [] other all = All-nil (λ x. x ≢ b)
digits_lack b t (x ∷ bs) other all =
    let rest = digits_lack b t bs other all in
    All-cons (λ y. y ≢ b) (get_or t (x / 16) 0) (get_or t (x % 16) 0 ∷ encode_with t bs) (lacks_at b t (x / 16) other all)
    (All-cons (λ y. y ≢ b) (get_or t (x % 16) 0) (encode_with t bs) (lacks_at b t (x % 16) other all) rest)

pub check_lacks_newline : (body : List ℕ) → Lacks 10 (check_of body)
unfolding check_of
check_lacks_newline body = digits_lack 10 lower_digits _ (λ e. omega arith) (Lacks-from_test 10 lower_digits refl)

-- ---- the loop that looks for a space

pub found_split : (s : ℕ) (bytes field rest : List ℕ) (at : ℕ) → at < length bytes → get_or bytes at 0 ≡ s → Lacks s (take at bytes) → Lacks s field → bytes ≡ field ++ s ∷ rest → (take at bytes ≡ field) × (drop (at + 1) bytes ≡ rest)
found_split s bytes field rest at within here front lacks e =
    let whole : bytes ≡ take at bytes ++ s ∷ drop (at + 1) bytes =
    sym (take-append-drop at bytes) ∙ ap (λ x. take at bytes ++ x) (drop_more bytes at 0 within ∙ ap (λ b. b ∷ drop (at + 1) bytes) here) in
    split_same s (take at bytes) (drop (at + 1) bytes) field rest front lacks (sym whole ∙ e)

lacks_no_separator : (s : ℕ) (field rest : List ℕ) → Lacks s (field ++ s ∷ rest) → ⊥
lacks_no_separator s [] rest all = All-head (λ x. x ≢ s) s rest all refl
lacks_no_separator s (b ∷ field) rest all = lacks_no_separator s field rest (All-tail (λ x. x ≢ s) b (field ++ s ∷ rest) all)

pub no_split : (s : ℕ) (bytes field rest : List ℕ) → Lacks s bytes → bytes ≡ field ++ s ∷ rest → ⊥
no_split s bytes field rest all e = lacks_no_separator s field rest (subst (Lacks s) e all)
