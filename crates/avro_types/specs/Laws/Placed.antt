-- The index of a text's first occurrence among others, and whether it is one of them.
use Rattle.std.proofs.Common.{◌≡◌, ◌<◌, ℕ, suc, ◌+◌, List, [], ◌∷◌, ◌++◌, length, Bool, true, false, cond, ◌||◌, Option, Some, None, slice_get, refl, sym, ap, subst, ◌∙◌, arith}
use Rattle.std.specs.List.{position_from}
use Rattle.std.specs.Str.{bytes_eq}
use Rattle.std.proofs.lemmas.Option.{slice_get_within}
use Rattle.std.proofs.lemmas.Slice.Eq.{bytes_eq-Decides}
use Rattle.spec_avro.specs.Symbols.{is_used, place_of}
use Rattle.avro_types.specs.Laws.Booleans.{none_some, some_inside}

-- ---- the place of one more

-- the first place, if there is one, and otherwise that of one more
abbrev pub or_last : Bool → ℕ → Option ℕ → Option ℕ
or_last here n None = cond here (Some n) None
or_last here n (Some i) = Some i

or_later : (b here : Bool) (i n : ℕ) (o : Option ℕ) → cond b (Some i) (or_last here n o) ≡ or_last here n (cond b (Some i) o)
or_later true here i n o = refl
or_later false here i n o = refl

pub position-behind : {A : Type 0} (test : A → Bool) (i : ℕ) (xs : List A) (x : A) → position_from test i (xs ++ x ∷ []) ≡ or_last (test x) (i + length xs) (position_from test i xs)
position-behind test i [] x = ap (λ n. cond (test x) (Some n) None) (let z : i ≡ i + 0 = omega arith in z)
position-behind test i (y ∷ xs) x =
    ap (cond (test y) (Some i)) (position-behind test (i + 1) xs x ∙ ap (λ n. or_last (test x) n (position_from test (i + 1) xs)) (let z : i + 1 + length xs ≡ i + suc (length xs) = omega arith in z))
    ∙ or_later (test y) (test x) i (i + suc (length xs)) (position_from test (i + 1) xs)

pub last_not : (n : ℕ) (o : Option ℕ) → or_last false n o ≡ o
last_not n None = refl
last_not n (Some i) = refl

-- ---- the index of a text among others

pub place-behind : (text : List ℕ) (texts : List (List ℕ)) (s : List ℕ) → place_of text (texts ++ s ∷ []) ≡ or_last (bytes_eq s text) (length texts) (place_of text texts)
place-behind text texts s = position-behind (λ other. bytes_eq other text) 0 texts s ∙ ap (λ n. or_last (bytes_eq s text) n (place_of text texts)) (let z : 0 + length texts ≡ length texts = omega arith in z)

placed : (text : List ℕ) (i : ℕ) (texts : List (List ℕ)) (n : ℕ) → position_from (λ other. bytes_eq other text) i texts ≡ Some n → (j : ℕ) × (n ≡ i + j) × (slice_get texts j ≡ Some text)
placed text i [] n e = absurd (let no : ⊥ = cc in no)
placed text i (s ∷ texts) n e = at (bytes_eq s text) refl e (placed text (i + 1) texts n)
  where
    at : (b : Bool) → bytes_eq s text ≡ b → cond b (Some i) (position_from (λ other. bytes_eq other text) (i + 1) texts) ≡ Some n
        → (position_from (λ other. bytes_eq other text) (i + 1) texts ≡ Some n → (j : ℕ) × (n ≡ i + 1 + j) × (slice_get texts j ≡ Some text)) → (j : ℕ) × (n ≡ i + j) × (slice_get (s ∷ texts) j ≡ Some text)
    at true t e later = (0, sym (some_inside i n e) ∙ (let z : i ≡ i + 0 = omega arith in z), ap Some ((bytes_eq-Decides s text).0 t))
    at false t e later = let k = later e in (suc k.0, omega (arith, k.1), k.2)

-- the text at that index is the one that was looked for
pub place-some : (text : List ℕ) (texts : List (List ℕ)) (n : ℕ) → place_of text texts ≡ Some n → slice_get texts n ≡ Some text
place-some text texts n e =
    let k = placed text 0 texts n e in
    subst (λ j. slice_get texts j ≡ Some text) (let z : k.0 ≡ n = omega (arith, k.1) in z) k.2

pub place-within : (s : List ℕ) (xs : List (List ℕ)) (n : ℕ) → place_of s xs ≡ Some n → n < length xs
place-within s xs n e = slice_get_within xs n s (place-some s xs n e)

unnumbered : (text : List ℕ) (i : ℕ) (texts : List (List ℕ)) → is_used text texts ≡ false → position_from (λ other. bytes_eq other text) i texts ≡ None
unnumbered text i [] e = refl
unnumbered text i (s ∷ texts) e = at (bytes_eq s text) e (unnumbered text (i + 1) texts)
  where
    at : (b : Bool) → (b || is_used text texts) ≡ false → (is_used text texts ≡ false → position_from (λ other. bytes_eq other text) (i + 1) texts ≡ None) → cond b (Some i) (position_from (λ other. bytes_eq other text) (i + 1) texts) ≡ None
    at true e later = absurd (let no : ⊥ = cc in no)
    at false e later = later e

pub place-none : (text : List ℕ) (texts : List (List ℕ)) → is_used text texts ≡ false → place_of text texts ≡ None
place-none text texts e = unnumbered text 0 texts e

numbered : (text : List ℕ) (i : ℕ) (texts : List (List ℕ)) → position_from (λ other. bytes_eq other text) i texts ≡ None → is_used text texts ≡ false
numbered text i [] e = refl
numbered text i (s ∷ texts) e = at (bytes_eq s text) e (numbered text (i + 1) texts)
  where
    at : (b : Bool) → cond b (Some i) (position_from (λ other. bytes_eq other text) (i + 1) texts) ≡ None → (position_from (λ other. bytes_eq other text) (i + 1) texts ≡ None → is_used text texts ≡ false) → (b || is_used text texts) ≡ false
    at true e later = absurd (let no : ⊥ = cc in no)
    at false e later = later e

pub none-used : (text : List ℕ) (texts : List (List ℕ)) → place_of text texts ≡ None → is_used text texts ≡ false
none-used text texts e = numbered text 0 texts e

-- it is one of them
pub used-at : (s : List ℕ) (texts : List (List ℕ)) (n : ℕ) → place_of s texts ≡ Some n → is_used s texts ≡ true
used-at s texts n e = at (is_used s texts) refl
  where
    at : (b : Bool) → is_used s texts ≡ b → b ≡ true
    at true t = refl
    at false t = absurd (none_some n (sym (place-none s texts t) ∙ e))

-- one more text
pub used-push : (name : List ℕ) (before : List (List ℕ)) (s : List ℕ) → is_used name (before ++ s ∷ []) ≡ (bytes_eq s name || is_used name before)
used-push name [] s = refl
used-push name (x ∷ before) s = ap (λ b. bytes_eq x name || b) (used-push name before s) ∙ swap (bytes_eq x name) (bytes_eq s name) (is_used name before)
  where
    swap : (a b c : Bool) → (a || (b || c)) ≡ (b || (a || c))
    swap true true c = refl
    swap true false c = refl
    swap false true c = refl
    swap false false c = refl

-- a new text has the last index
pub named-last : (same : Bool) (o : Option ℕ) (n : ℕ) → (same ≡ true → o ≡ None) → cond same (Some n) o ≡ or_last same n o
named-last true o n new = sym (ap (or_last true n) (new refl))
named-last false o n new = sym (last_not n o)
