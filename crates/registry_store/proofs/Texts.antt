-- Texts and their percent-encoding.
use Rattle.std.proofs.Common.{◌≡◌, ℕ, ◌+◌, ◌/◌, ◌%◌, ◌<◌, true, cond, ltb, List, [], ◌∷◌, All, sym, subst, ap, ◌∙◌, ⊎_elim, arith}
use Rattle.std.proofs.lemmas.Bool.{and_parts, cond_both, ltb-true}
use Rattle.std.proofs.lemmas.List.Elements.{All-append, All-cons, All-nil}
use Rattle.std.specs.Str.{IsUtf8}
use lib.Utf8.{encode, encodes, scalar, scalars, scalar_cases}
use Rattle.percent_encoding.proofs.PercentLemmas.{IsByte, round_trip}
use Rattle.percent_encoding.specs.AsciiSet.{contains}
use Rattle.percent_encoding.specs.Percent.{percent_decode, percent_encode}
use Rattle.percent_encoding.specs.declared.ascii_set.AsciiSet.{AsciiSet}

scalar_below : (c : ℕ) → scalar c ≡ true → c < 1114112
scalar_below c h = ⊎_elim (λ low. omega arith) (λ high. omega arith) (scalar_cases c h)

one : (a : ℕ) → a < 256 → All IsByte (a ∷ [])
one a small = All-cons IsByte a [] small (All-nil IsByte)

two : (a b : ℕ) → a < 256 → b < 256 → All IsByte (a ∷ b ∷ [])
two a b small next = All-cons IsByte a (b ∷ []) small (one b next)

three : (a b c : ℕ) → a < 256 → b < 256 → c < 256 → All IsByte (a ∷ b ∷ c ∷ [])
three a b c small next last = All-cons IsByte a (b ∷ c ∷ []) small (two b c next last)

four : (a b c d : ℕ) → a < 256 → b < 256 → c < 256 → d < 256 → All IsByte (a ∷ b ∷ c ∷ d ∷ [])
four a b c d small next third last = All-cons IsByte a (b ∷ c ∷ d ∷ []) small (three b c d next third last)

-- the bytes of a character
encode_small : (c : ℕ) → c < 1114112 → All IsByte (encode c)
unfolding encode
encode_small c below =
    let P : List ℕ → Type 0 = λ x. All IsByte x in
    let n : ℕ = 128 + c % 64 in
    let m : ℕ = 128 + c / 64 % 64 in
    let k : ℕ = 128 + c / 4096 % 64 in
    let twos : List ℕ = (192 + c / 64) ∷ n ∷ [] in
    let threes : List ℕ = (224 + c / 4096) ∷ m ∷ n ∷ [] in
    let fours : List ℕ = (240 + c / 262144) ∷ k ∷ m ∷ n ∷ [] in
    cond_both (ltb c 128) (c ∷ []) (cond (ltb c 2048) twos (cond (ltb c 65536) threes fours)) P
    (λ e. one c (let f = ltb-true c 128 e in omega arith))
    (λ e. cond_both (ltb c 2048) twos (cond (ltb c 65536) threes fours) P
    (λ f. two (192 + c / 64) n (let g = ltb-true c 2048 f in omega arith) (omega arith))
    (λ f. cond_both (ltb c 65536) threes fours P
    (λ g. three (224 + c / 4096) m n (let h = ltb-true c 65536 g in omega arith) (omega arith) (omega arith))
    (λ g. four (240 + c / 262144) k m n (omega arith) (omega arith) (omega arith) (omega arith))))

encodes_small : (cs : List ℕ) → scalars cs ≡ true → All IsByte (encodes cs)
encodes_small [] h = All-nil IsByte
encodes_small (c ∷ cs) h =
    let parts = and_parts (scalar c) (scalars cs) h in
    All-append IsByte (encode c) (encodes cs) (encode_small c (scalar_below c parts.0)) (encodes_small cs parts.1)

-- a text is bytes
pub text_is_bytes : (text : List ℕ) → IsUtf8 text → All IsByte text
text_is_bytes text h = subst (All IsByte) h.1.1 (encodes_small h.0 h.1.0)

-- a text is read back from its percent-encoding
pub decode-encode : (set : AsciiSet) (text : List ℕ) → contains set 37 ≡ true → IsUtf8 text → percent_decode (percent_encode set text) ≡ text
decode-encode set text escapes utf8 = round_trip set text escapes (text_is_bytes text utf8)

-- two texts of one percent-encoding are one text
pub percent_encode_injective : (set : AsciiSet) (a b : List ℕ) → contains set 37 ≡ true → IsUtf8 a → IsUtf8 b → percent_encode set a ≡ percent_encode set b → a ≡ b
percent_encode_injective set a b escapes is_a is_b e =
    sym (decode-encode set a escapes is_a) ∙ ap percent_decode e ∙ decode-encode set b escapes is_b
