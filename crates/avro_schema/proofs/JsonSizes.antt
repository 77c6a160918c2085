-- No string that a JSON text spells is longer than the text, and the text has no more tokens than bytes, but for the
-- one of a fault.
use Rattle.std.proofs.Common.{ℕ, suc, ◌+◌, ◌≤◌, List, [], ◌∷◌, length, Bool, true, false, cond, ◌&&◌, ◌==◌, nat_lt, Option, Some, None, option_and_then, arith, length-append}
use Rattle.std.specs.List.{AllByRecursion}
use Rattle.std.specs.Char.{encode_utf8}
use Rattle.json.specs.Token.{Token, begin_object, end_object, begin_array, end_array, key, string, number, boolean, null, bad}
use Rattle.json.specs.Text.{code_unit, short_escape, is_high_surrogate, is_low_surrogate, surrogate_pair, Within, plain, after_backslash, after_u, after_high, prepend, content}
use Rattle.json.specs.Word.{word, head, number_before, after_number}
use Rattle.json.specs.Lex.{Lexeme, token, comma, colon, Class, quote, backslash, operator, space, other, class, operator_lexeme, string_token, Mode, between, in_word, in_string, in_escape, lex_byte, lex, Place, fresh, after_value, after_comma, after_key, begins_colon, may_begin, may_close, if_allowed, place_token, punctuate, tokens}

-- ---- the content of a string is no longer than what spells it

abbrev AtMost : ℕ → Option (List ℕ) → Type 0
AtMost n None = Unit {0}
AtMost n (Some s) = length s ≤ n

either : (n : ℕ) (b : Bool) (x y : Option (List ℕ)) → AtMost n x → AtMost n y → AtMost n (cond b x y)
either n true x y f g = f
either n false x y f g = g

then : (n : ℕ) (f : ℕ → Option (List ℕ)) (o : Option ℕ) → ((u : ℕ) → AtMost n (f u)) → AtMost n (option_and_then f o)
then n f None h = tt
then n f (Some u) h = h u

more : (n m : ℕ) (r : Option (List ℕ)) → AtMost m r → m ≤ n → AtMost n r
more n m None h le = tt
more n m (Some s) h le = omega arith

longer : (n m : ℕ) (a : List ℕ) (r : Option (List ℕ)) → AtMost m r → length a + m ≤ n → AtMost n (prepend a r)
longer n m a None h le = tt
longer n m a (Some s) h le = omega (arith, length-append a s)

length-encode : (u : ℕ) → length (encode_utf8 u) ≤ 4
unfolding encode_utf8
length-encode u = grind arith

content-within : (w : Within) (xs : List ℕ) → AtMost (length xs) (content w xs)
unfolding content
content-within plain [] = tt
content-within plain (x ∷ xs) =
    let n = length (x ∷ xs) in
    either n (x == 34) _ _ (omega arith) (either n (x == 92) _ _ (more n _ _ (content-within after_backslash xs) (omega arith)) (either n (nat_lt x 32) _ _ tt (longer n _ (x ∷ []) _ (content-within plain xs) (omega arith))))
content-within after_backslash [] = tt
content-within after_backslash (x ∷ xs) =
    let n = length (x ∷ xs) in
    either n (x == 117) _ _ (more n _ _ (content-within after_u xs) (omega arith)) (then n _ (short_escape x) (λ c. longer n _ (c ∷ []) _ (content-within plain xs) (omega arith)))
content-within after_u [] = tt
content-within after_u (a ∷ []) = tt
content-within after_u (a ∷ b ∷ []) = tt
content-within after_u (a ∷ b ∷ c ∷ []) = tt
content-within after_u (a ∷ b ∷ c ∷ d ∷ xs) =
    let n = length (a ∷ b ∷ c ∷ d ∷ xs) in
    then n _ (code_unit a b c d) (λ u. either n (is_high_surrogate u) _ _ (more n _ _ (content-within (after_high u) xs) (omega arith))
    (either n (is_low_surrogate u) _ _ tt (longer n _ (encode_utf8 u) _ (content-within plain xs) (omega (arith, length-encode u)))))
content-within (after_high h) [] = tt
content-within (after_high h) (s ∷ []) = tt
content-within (after_high h) (s ∷ u ∷ []) = tt
content-within (after_high h) (s ∷ u ∷ a ∷ []) = tt
content-within (after_high h) (s ∷ u ∷ a ∷ b ∷ []) = tt
content-within (after_high h) (s ∷ u ∷ a ∷ b ∷ c ∷ []) = tt
content-within (after_high h) (s ∷ u ∷ a ∷ b ∷ c ∷ d ∷ xs) =
    let n = length (s ∷ u ∷ a ∷ b ∷ c ∷ d ∷ xs) in
    either n ((s == 92) && (u == 117)) _ _ (then n _ (code_unit a b c d) (λ l. either n (is_low_surrogate l) _ _
    (longer n _ (encode_utf8 (surrogate_pair h l)) _ (content-within plain xs) (omega (arith, length-encode (surrogate_pair h l)))) tt)) tt

-- ---- lexemes

-- a key or a string is no longer than that
abbrev TokenWithin : ℕ → Token → Type 0
TokenWithin most (key s) = length s ≤ most
TokenWithin most (string s) = length s ≤ most
TokenWithin most _ = Unit {0}

abbrev LexemeWithin : ℕ → Lexeme → Type 0
LexemeWithin most (token t) = TokenWithin most t
LexemeWithin most _ = Unit {0}

abbrev AreWithin : ℕ → List Token → Type 0
AreWithin most ts = AllByRecursion (TokenWithin most) ts

abbrev LexemesWithin : ℕ → List Lexeme → Type 0
LexemesWithin most ls = AllByRecursion (LexemeWithin most) ls

-- ---- how many there are

byte-few : (m : Mode) (c : Class) (x : ℕ) (xs : List ℕ) (k : Mode → List Lexeme) (n : ℕ) → ((next : Mode) → length (k next) ≤ n) → length (lex_byte m c x xs k) ≤ suc n
byte-few between quote x xs k n h = omega (arith, h in_string)
byte-few between backslash x xs k n h = omega (arith, h in_word)
byte-few between operator x xs k n h = omega (arith, h between)
byte-few between space x xs k n h = omega (arith, h between)
byte-few between other x xs k n h = omega (arith, h in_word)
byte-few in_word quote x xs k n h = omega (arith, h in_word)
byte-few in_word backslash x xs k n h = omega (arith, h in_word)
byte-few in_word operator x xs k n h = omega (arith, h between)
byte-few in_word space x xs k n h = omega (arith, h between)
byte-few in_word other x xs k n h = omega (arith, h in_word)
byte-few in_string quote x xs k n h = omega (arith, h between)
byte-few in_string backslash x xs k n h = omega (arith, h in_escape)
byte-few in_string operator x xs k n h = omega (arith, h in_string)
byte-few in_string space x xs k n h = omega (arith, h in_string)
byte-few in_string other x xs k n h = omega (arith, h in_string)
byte-few in_escape c x xs k n h = omega (arith, h in_string)

lex-few : (m : Mode) (xs : List ℕ) → length (lex m xs) ≤ length xs
unfolding lex
lex-few m [] = omega arith
lex-few m (x ∷ xs) = byte-few m (class x) x xs (λ next. lex next xs) (length xs) (λ next. lex-few next xs)

allowed-few : (b : Bool) (t : Token) (k : Place → List Token) (next : Place) (n : ℕ) → ((p : Place) → length (k p) ≤ suc n) → length (if_allowed b t k next) ≤ suc (suc n)
allowed-few true t k next n h = omega (arith, h next)
allowed-few false t k next n h = omega arith

place-few : (p : Place) (t : Token) (b : Bool) (k : Place → List Token) (n : ℕ) → ((next : Place) → length (k next) ≤ suc n) → length (place_token p t b k) ≤ suc (suc n)
place-few p begin_object b k n h = allowed-few (may_begin p) begin_object k fresh n h
place-few p end_object b k n h = allowed-few (may_close p) end_object k after_value n h
place-few p begin_array b k n h = allowed-few (may_begin p) begin_array k fresh n h
place-few p end_array b k n h = allowed-few (may_close p) end_array k after_value n h
place-few p (key s) b k n h = omega arith
place-few p (string s) true k n h = allowed-few (may_begin p) (key s) k after_key n h
place-few p (string s) false k n h = allowed-few (may_begin p) (string s) k after_value n h
place-few p (number s) b k n h = allowed-few (may_begin p) (number s) k after_value n h
place-few p (boolean v) b k n h = allowed-few (may_begin p) (boolean v) k after_value n h
place-few p null b k n h = allowed-few (may_begin p) null k after_value n h
place-few p bad b k n h = omega arith

punctuate-few : (p : Place) (ls : List Lexeme) → length (punctuate p ls) ≤ suc (length ls)
unfolding punctuate
punctuate-few fresh [] = omega arith
punctuate-few after_value [] = omega arith
punctuate-few after_comma [] = omega arith
punctuate-few after_key [] = omega arith
punctuate-few fresh (token t ∷ ls) = place-few fresh t (begins_colon ls) (λ next. punctuate next ls) (length ls) (λ next. punctuate-few next ls)
punctuate-few after_value (token t ∷ ls) = place-few after_value t (begins_colon ls) (λ next. punctuate next ls) (length ls) (λ next. punctuate-few next ls)
punctuate-few after_comma (token t ∷ ls) = place-few after_comma t (begins_colon ls) (λ next. punctuate next ls) (length ls) (λ next. punctuate-few next ls)
punctuate-few after_key (token t ∷ ls) = place-few after_key t (begins_colon ls) (λ next. punctuate next ls) (length ls) (λ next. punctuate-few next ls)
punctuate-few fresh (comma ∷ ls) = omega arith
punctuate-few after_value (comma ∷ ls) = omega (arith, punctuate-few after_comma ls)
punctuate-few after_comma (comma ∷ ls) = omega arith
punctuate-few after_key (comma ∷ ls) = omega arith
punctuate-few fresh (colon ∷ ls) = omega arith
punctuate-few after_value (colon ∷ ls) = omega arith
punctuate-few after_comma (colon ∷ ls) = omega arith
punctuate-few after_key (colon ∷ ls) = omega (arith, punctuate-few fresh ls)

module _ (most : ℕ) where
  one_of : (b : Bool) (t u : Token) → TokenWithin most t → TokenWithin most u → TokenWithin most (cond b t u)
  one_of true t u f g = f
  one_of false t u f g = g

  string_token-within : (n : ℕ) (o : Option (List ℕ)) → AtMost n o → n ≤ most → TokenWithin most (string_token o)
  string_token-within n None h le = tt
  string_token-within n (Some s) h le = omega arith

  number-within : (t : List ℕ) (o : Option (List ℕ)) → TokenWithin most (number_before t o)
  number-within t None = tt
  number-within t (Some rest) = one_of _ (number _) bad tt tt

  word-within : (t : List ℕ) → TokenWithin most (word t)
  unfolding word
  word-within t =
      one_of (head t == 116) _ _ (one_of _ (boolean true) bad tt tt)
      (one_of (head t == 102) _ _ (one_of _ (boolean false) bad tt tt) (one_of (head t == 110) _ _ (one_of _ null bad tt tt) (number-within t (after_number t))))

  one_lexeme : (b : Bool) (t u : Lexeme) → LexemeWithin most t → LexemeWithin most u → LexemeWithin most (cond b t u)
  one_lexeme true t u f g = f
  one_lexeme false t u f g = g

  operator-within : (x : ℕ) → LexemeWithin most (operator_lexeme x)
  operator-within x =
      one_lexeme (x == 123) _ _ tt (one_lexeme (x == 125) _ _ tt (one_lexeme (x == 91) _ _ tt (one_lexeme (x == 93) _ _ tt (one_lexeme (x == 44) comma colon tt tt))))

  lex_byte-within : (m : Mode) (c : Class) (x : ℕ) (xs : List ℕ) (k : Mode → List Lexeme) → length xs ≤ most → ((next : Mode) → LexemesWithin most (k next)) → LexemesWithin most (lex_byte m c x xs k)
  lex_byte-within between quote x xs k le h = (string_token-within (length xs) (content plain xs) (content-within plain xs) le, h in_string)
  lex_byte-within between backslash x xs k le h = (tt, h in_word)
  lex_byte-within between operator x xs k le h = (operator-within x, h between)
  lex_byte-within between space x xs k le h = h between
  lex_byte-within between other x xs k le h = (word-within (x ∷ xs), h in_word)
  lex_byte-within in_word quote x xs k le h = h in_word
  lex_byte-within in_word backslash x xs k le h = h in_word
  lex_byte-within in_word operator x xs k le h = (operator-within x, h between)
  lex_byte-within in_word space x xs k le h = h between
  lex_byte-within in_word other x xs k le h = h in_word
  lex_byte-within in_string quote x xs k le h = h between
  lex_byte-within in_string backslash x xs k le h = h in_escape
  lex_byte-within in_string operator x xs k le h = h in_string
  lex_byte-within in_string space x xs k le h = h in_string
  lex_byte-within in_string other x xs k le h = h in_string
  lex_byte-within in_escape c x xs k le h = h in_string

  lex-within : (m : Mode) (xs : List ℕ) → length xs ≤ most → LexemesWithin most (lex m xs)
  unfolding lex
  lex-within m [] le = tt
  lex-within m (x ∷ xs) le = lex_byte-within m (class x) x xs (λ next. lex next xs) (omega arith) (λ next. lex-within next xs (omega arith))

  -- ---- commas and colons

  if_allowed-within : (b : Bool) (t : Token) (k : Place → List Token) (next : Place) → TokenWithin most t → ((p : Place) → AreWithin most (k p)) → AreWithin most (if_allowed b t k next)
  if_allowed-within true t k next h f = (h, f next)
  if_allowed-within false t k next h f = (tt, tt)

  place_token-within : (p : Place) (t : Token) (b : Bool) (k : Place → List Token) → TokenWithin most t → ((next : Place) → AreWithin most (k next)) → AreWithin most (place_token p t b k)
  place_token-within p begin_object b k h f = if_allowed-within (may_begin p) begin_object k fresh tt f
  place_token-within p end_object b k h f = if_allowed-within (may_close p) end_object k after_value tt f
  place_token-within p begin_array b k h f = if_allowed-within (may_begin p) begin_array k fresh tt f
  place_token-within p end_array b k h f = if_allowed-within (may_close p) end_array k after_value tt f
  place_token-within p (key s) b k h f = (tt, tt)
  place_token-within p (string s) true k h f = if_allowed-within (may_begin p) (key s) k after_key h f
  place_token-within p (string s) false k h f = if_allowed-within (may_begin p) (string s) k after_value h f
  place_token-within p (number s) b k h f = if_allowed-within (may_begin p) (number s) k after_value tt f
  place_token-within p (boolean v) b k h f = if_allowed-within (may_begin p) (boolean v) k after_value tt f
  place_token-within p null b k h f = if_allowed-within (may_begin p) null k after_value tt f
  place_token-within p bad b k h f = (tt, tt)

  punctuate-within : (p : Place) (ls : List Lexeme) → LexemesWithin most ls → AreWithin most (punctuate p ls)
  unfolding punctuate
  punctuate-within fresh [] h = tt
  punctuate-within after_value [] h = tt
  punctuate-within after_comma [] h = (tt, tt)
  punctuate-within after_key [] h = (tt, tt)
  punctuate-within fresh (token t ∷ ls) h = place_token-within fresh t (begins_colon ls) (λ next. punctuate next ls) h.0 (λ next. punctuate-within next ls h.1)
  punctuate-within after_value (token t ∷ ls) h = place_token-within after_value t (begins_colon ls) (λ next. punctuate next ls) h.0 (λ next. punctuate-within next ls h.1)
  punctuate-within after_comma (token t ∷ ls) h = place_token-within after_comma t (begins_colon ls) (λ next. punctuate next ls) h.0 (λ next. punctuate-within next ls h.1)
  punctuate-within after_key (token t ∷ ls) h = place_token-within after_key t (begins_colon ls) (λ next. punctuate next ls) h.0 (λ next. punctuate-within next ls h.1)
  punctuate-within fresh (comma ∷ ls) h = (tt, tt)
  punctuate-within after_value (comma ∷ ls) h = punctuate-within after_comma ls h.1
  punctuate-within after_comma (comma ∷ ls) h = (tt, tt)
  punctuate-within after_key (comma ∷ ls) h = (tt, tt)
  punctuate-within fresh (colon ∷ ls) h = (tt, tt)
  punctuate-within after_value (colon ∷ ls) h = (tt, tt)
  punctuate-within after_comma (colon ∷ ls) h = (tt, tt)
  punctuate-within after_key (colon ∷ ls) h = punctuate-within fresh ls h.1

  -- so is each token of a list, and at most `most` tokens come after it
  abbrev pub TokensWithin : List Token → Type 0
  TokensWithin [] = Unit {0}
  TokensWithin (t ∷ ts) = (TokenWithin most t × (length ts ≤ most)) × TokensWithin ts

  each-behind : (ts : List Token) → AreWithin most ts → length ts ≤ suc most → TokensWithin ts
  each-behind [] h le = tt
  each-behind (t ∷ ts) h le = ((h.0, omega arith), each-behind ts h.1 (omega arith))

  pub tokens-within : (text : List ℕ) → length text ≤ most → TokensWithin (tokens text)
  tokens-within text le =
      each-behind (tokens text) (punctuate-within fresh (lex between text) (lex-within between text le)) (omega (arith, lex-few between text, punctuate-few fresh (lex between text), le))
