-- How the first space parts a line.
use Rattle.std.proofs.Common.{Bor, option_map, ◌≡◌, ℕ, suc, ◌+◌, ◌<◌, nat_eq, cond, Bool, true, false, List, [], ◌∷◌, length, take, drop, Option, Some, None, refl, ap, sym, ◌∙◌, arith}
use Rattle.std.specs.List.{position_or_len, before_first, after_first}
use Rattle.std.specs.Str.{IsUtf8, is_utf8}
use Rattle.std.proofs.lemmas.Bool.{eqb-true}
use Rattle.std.proofs.lemmas.Str.{IsUtf8-from_is_utf8, is_utf8-from_IsUtf8}
use Rattle.spec_machine.specs.ListingWords.{in_front, parts, words}
use Rattle.command_io.specs.Words.{words_left}
use Rattle.spec_lines.specs.Words.{joined, text_in, words_of_text}

abbrev is_space : ℕ → Bool
is_space b = nat_eq b 32

one_more : (n b : ℕ) (line : List ℕ) → (take (1 + n) (b ∷ line) ≡ b ∷ take n line) × (drop (1 + n + 1) (b ∷ line) ≡ drop (n + 1) line)
one_more n b line =
    let e : 1 + n ≡ suc n = omega arith in
    let f : 1 + n + 1 ≡ suc (n + 1) = omega arith in
    (ap (λ (k : ℕ). take k (b ∷ line)) e, ap (λ (k : ℕ). drop k (b ∷ line)) f)

pub first_parts : (line : List ℕ) → position_or_len is_space line < length line
    → words line ≡ before_first is_space line ∷ words (after_first is_space line)
unfolding parts in_front
first_parts [] h = absurd (omega arith)
first_parts (b ∷ line) h = by_test (nat_eq b 32) refl (first_parts line) where
  by_test : (t : Bool) → nat_eq b 32 ≡ t
      → (position_or_len is_space line < length line → words line ≡ before_first is_space line ∷ words (after_first is_space line))
      → words (b ∷ line) ≡ before_first is_space (b ∷ line) ∷ words (after_first is_space (b ∷ line))
  by_test true e later = rw e refl
  by_test false e later =
      let n = position_or_len is_space line in
      let further : 1 + n < length (b ∷ line) = rw e at h in
      let m = one_more n b line in
      rw (e, m.0, m.1) (ap (in_front b) (later (omega (arith, further))))

pub one_part : (line : List ℕ) → position_or_len is_space line ≡ length line → words line ≡ line ∷ []
unfolding parts in_front
one_part [] h = refl
one_part (b ∷ line) h = by_test (nat_eq b 32) refl (one_part line) where
  by_test : (t : Bool) → nat_eq b 32 ≡ t → (position_or_len is_space line ≡ length line → words line ≡ line ∷ [])
      → words (b ∷ line) ≡ (b ∷ line) ∷ []
  by_test true e later = let none : 0 ≡ length (b ∷ line) = rw e at h in absurd (omega arith)
  by_test false e later =
      let further : 1 + position_or_len is_space line ≡ length (b ∷ line) = rw e at h in
      rw e (ap (in_front b) (later (omega (arith, further))))

-- there is a word at least
front_some : (b : ℕ) (ps : List (List ℕ)) → (w : List ℕ) × (ws : List (List ℕ)) × (in_front b ps ≡ w ∷ ws)
unfolding in_front
front_some b [] = (b ∷ [], [], refl)
front_some b (p ∷ ps) = (b ∷ p, ps, refl)

some_word : (line : List ℕ) → (w : List ℕ) × (ws : List (List ℕ)) × (words line ≡ w ∷ ws)
unfolding parts
some_word [] = ([], [], refl)
some_word (b ∷ line) = by_test (nat_eq b 32) refl where
  by_test : (t : Bool) → nat_eq b 32 ≡ t → (w : List ℕ) × (ws : List (List ℕ)) × (words (b ∷ line) ≡ w ∷ ws)
  by_test true e = rw e ([], words line, refl)
  by_test false e = rw e (front_some b (words line))

-- ---- words joined

joined_front : (b : ℕ) (w : List ℕ) (ws : List (List ℕ)) → joined ((b ∷ w) ∷ ws) ≡ b ∷ joined (w ∷ ws)
unfolding joined
joined_front b w [] = refl
joined_front b w (next ∷ ws) = refl

joined_words : (line : List ℕ) → joined (words line) ≡ line
unfolding joined parts in_front
joined_words [] = refl
joined_words (b ∷ line) = by_test (nat_eq b 32) refl (joined_words line) where
  by_test : (t : Bool) → nat_eq b 32 ≡ t → joined (words line) ≡ line → joined (words (b ∷ line)) ≡ b ∷ line
  by_test true e later =
      let s = some_word line in
      let same : joined (s.0 ∷ s.1) ≡ line = rw s.2 at later in
      rw (e, s.2) (ap (λ (ys : List ℕ). 32 ∷ ys) same ∙ ap (λ (n : ℕ). n ∷ line) (sym (eqb-true b 32 e)))
  by_test false e later =
      let s = some_word line in
      let same : joined (s.0 ∷ s.1) ≡ line = rw s.2 at later in
      rw (e, s.2) (joined_front b s.0 s.1 ∙ ap (λ (ys : List ℕ). b ∷ ys) same)

whole_text : (line : List ℕ) → text_in (words line) ≡ Some line
unfolding text_in
whole_text line =
    let s = some_word line in
    let whole = joined_words line in
    let said : joined (s.0 ∷ s.1) ≡ line = rw s.2 at whole in
    rw s.2 (ap Some said)

-- what is left of a line is a text, word by word
pub text_left : (left : Option (Bor (List ℕ))) → text_in (words_left left) ≡ option_map (λ text. text.now) left
unfolding text_in
text_left None = refl
text_left (Some line) = whole_text line.now

-- ---- lines that are text

pub text_words : (line : List ℕ) → IsUtf8 line → words_of_text line ≡ words line
unfolding words_of_text
text_words line h = rw (is_utf8-from_IsUtf8 line h) refl

pub no_words : (line : List ℕ) → (IsUtf8 line → ⊥) → words_of_text line ≡ []
unfolding words_of_text
no_words line h = by_test (is_utf8 line) refl where
  by_test : (t : Bool) → is_utf8 line ≡ t → cond (is_utf8 line) (words line) [] ≡ []
  by_test true e = absurd (h (IsUtf8-from_is_utf8 line e))
  by_test false e = rw e refl
