-- A value by its first token.
use Rattle.std.proofs.Common.{◌≡◌, ◌≢◌, ℕ, ◌-◌, ◌<◌, List, [], ◌∷◌, length, Bor, Bool, IfSome, Option, Some, None, option_map, is_some, true, false, zero, suc, refl, sym, ap, subst, ◌∙◌}
use Rattle.std.proofs.lemmas.Bool.{false≢true}
use Rattle.json.specs.Token as tokens
use Rattle.json.specs.Token.{Token}
use Rattle.json.specs.Json as json
use Rattle.json.specs.Json.{if_last, parse_map, items, members, value}
use Rattle.json.specs.Reads.{token_of}
use Rattle.json.specs.declared.token.Token as rust
use Rattle.json.specs.declared.token.Token.TheVariants as variants
use Rattle.json.proofs.Grammar.{value_is, value-begin_array, value-begin_object}
use Rattle.serde_json.specs.Data.{Data, Num, array, boolean, number, object, Items, Members, no_members}
use Rattle.serde_json.specs.Find.{as_object}
use Rattle.serde_json.specs.Read.{of_json, of_items, of_members, converted, number_of}
use Rattle.gateway_bodies.specs.Members.{kept}
use Rattle.gateway_bodies.proofs.Turns.{converted-array, converted-object}

-- the value of these tokens
abbrev pub read_at : ℕ → List Token → Option (Data × List Token)
read_at depth ts = converted of_json (value depth ts)

some_number : (o : Option Num) (r : List Token) → is_some o ≡ true → (d : Data) × (option_map {U = Data × List Token} (λ b. (b, r)) (option_map number o) ≡ Some (d, r))
some_number None r e = absurd (false≢true e)
some_number (Some n) r e = (number n, refl)

no_number : (o : Option Num) (r : List Token) → is_some o ≡ false → option_map {U = Data × List Token} (λ b. (b, r)) (option_map number o) ≡ None
no_number None r e = refl
no_number (Some n) r e = absurd (false≢true (sym e))

pub mapped_read : {A B : Type 0} (f : A → B) (o : Option (A × List Token)) (a : A) (r : List Token) → o ≡ Some (a, r) → parse_map f o ≡ Some (f a, r)
mapped_read f o a r e = ap (parse_map f) e

pub mapped_refused : {A B : Type 0} (f : A → B) (o : Option (A × List Token)) → o ≡ None → parse_map f o ≡ None
mapped_refused f o e = ap (parse_map f) e

module _ (depth : ℕ) (ts : List Token) where
  pub string_read : (s : List ℕ) → read_at depth (tokens.string s ∷ ts) ≡ Some (Data.string s, ts)
  string_read s = ap (converted of_json) (value_is depth _)

  pub boolean_read : (b : Bool) → read_at depth (tokens.boolean b ∷ ts) ≡ Some (boolean b, ts)
  boolean_read b = ap (converted of_json) (value_is depth _)

  pub null_read : read_at depth (tokens.null ∷ ts) ≡ Some (Data.null, ts)
  null_read = ap (converted of_json) (value_is depth _)

  pub number_read : (s : List ℕ) → is_some (number_of s) ≡ true → (d : Data) × (read_at depth (tokens.number s ∷ ts) ≡ Some (d, ts))
  number_read s e = let n = some_number (number_of s) ts e in (n.0, ap (converted of_json) (value_is depth _) ∙ n.1)

  pub number_refused : (s : List ℕ) → is_some (number_of s) ≡ false → read_at depth (tokens.number s ∷ ts) ≡ None
  number_refused s e = ap (converted of_json) (value_is depth _) ∙ no_number (number_of s) ts e

  pub end_object_refused : read_at depth (tokens.end_object ∷ ts) ≡ None
  end_object_refused = ap (converted of_json) (value_is depth _)

  pub end_array_refused : read_at depth (tokens.end_array ∷ ts) ≡ None
  end_array_refused = ap (converted of_json) (value_is depth _)

  pub key_refused_as_value : (s : List ℕ) → read_at depth (tokens.key s ∷ ts) ≡ None
  key_refused_as_value s = ap (converted of_json) (value_is depth _)

  pub bad_refused : read_at depth (tokens.bad ∷ ts) ≡ None
  bad_refused = ap (converted of_json) (value_is depth _)

  pub array_opened : 0 < depth → read_at depth (tokens.begin_array ∷ ts) ≡ parse_map array (converted of_items (items (value (depth - 1)) (length ts) ts))
  array_opened some = ap (converted of_json) (value-begin_array depth ts some) ∙ converted-array (items (value (depth - 1)) (length ts) ts)

  pub object_opened : 0 < depth → read_at depth (tokens.begin_object ∷ ts)
      ≡ parse_map object (converted (λ ms. of_members ms no_members) (members (value (depth - 1)) (length ts) ts))
  object_opened some = ap (converted of_json) (value-begin_object depth ts some) ∙ converted-object (members (value (depth - 1)) (length ts) ts)

pub array_too_deep : (depth : ℕ) (ts : List Token) → depth ≡ 0 → read_at depth (tokens.begin_array ∷ ts) ≡ None
unfolding value
array_too_deep depth ts none = ap (λ n. read_at n (tokens.begin_array ∷ ts)) none

pub object_too_deep : (depth : ℕ) (ts : List Token) → depth ≡ 0 → read_at depth (tokens.begin_object ∷ ts) ≡ None
unfolding value
object_too_deep depth ts none = ap (λ n. read_at n (tokens.begin_object ∷ ts)) none

pub nothing_refused : (depth : ℕ) → read_at depth [] ≡ None
nothing_refused depth = ap (converted of_json) (value_is depth [])

-- the value of a token that is known
pub at_token : (depth : ℕ) (ts : List Token) (t u : rust.Token) → t ≡ u → read_at depth (token_of t ∷ ts) ≡ read_at depth (token_of u ∷ ts)
at_token depth ts t u e = ap (λ k. read_at depth (token_of k ∷ ts)) e

-- for a proof by cases: of what was read nothing is kept
abbrev IsOther : Option (Data × List Token) → Type 0
IsOther None = Unit {0}
IsOther (Some (d, rest)) = boolean false ≡ kept d

other_number : (o : Option Num) (r : List Token) → IsOther (option_map {U = Data × List Token} (λ b. (b, r)) (option_map number o))
other_number None r = tt
other_number (Some n) r = refl

other_members : (o : Option Members) (r : List Token) → IsOther (option_map {U = Data × List Token} (λ b. (b, r)) (option_map object o))
other_members None r = tt
other_members (Some ms) r = refl

other_object : (o : Option (json.Members × List Token)) → IsOther (converted of_json (parse_map json.object o))
other_object None = tt
other_object (Some p) = other_members (of_members p.0 no_members) p.1

other_opened : (depth : ℕ) (ts : List Token) → IsOther (read_at depth (tokens.begin_object ∷ ts))
unfolding value
other_opened zero ts = tt
other_opened (suc d) ts = other_object (members (value d) (length ts) ts)

other_at : (depth : ℕ) (ts : List Token) (t : rust.Token) → (t ≢ variants.Null) → ((s : Bor (List ℕ)) → t ≢ variants.String s) → (t ≢ variants.BeginArray)
    → IsOther (read_at depth (token_of t ∷ ts))
other_at depth ts variants.BeginObject no_null no_text no_array = other_opened depth ts
other_at depth ts variants.EndObject no_null no_text no_array = subst IsOther (sym (end_object_refused depth ts)) tt
other_at depth ts variants.BeginArray no_null no_text no_array = absurd (no_array refl)
other_at depth ts variants.EndArray no_null no_text no_array = subst IsOther (sym (end_array_refused depth ts)) tt
other_at depth ts (variants.Key s) no_null no_text no_array = subst IsOther (sym (key_refused_as_value depth ts s.now)) tt
other_at depth ts (variants.String s) no_null no_text no_array = absurd (no_text s refl)
other_at depth ts (variants.Number s) no_null no_text no_array =
    subst (λ o. IsOther (converted of_json o)) (sym (value_is depth (tokens.number s.now ∷ ts))) (other_number (number_of s.now) ts)
other_at depth ts (variants.Bool b) no_null no_text no_array = subst IsOther (sym (boolean_read depth ts b)) refl
other_at depth ts variants.Null no_null no_text no_array = absurd (no_null refl)
other_at depth ts variants.Bad no_null no_text no_array = subst IsOther (sym (bad_refused depth ts)) tt

-- of a value that begins with another token nothing is kept
pub other_value : (depth : ℕ) (ts r : List Token) (t : rust.Token) (d : Data) → (t ≢ variants.Null) → ((s : Bor (List ℕ)) → t ≢ variants.String s)
    → (t ≢ variants.BeginArray) → read_at depth (token_of t ∷ ts) ≡ Some (d, r) → boolean false ≡ kept d
other_value depth ts r t d no_null no_text no_array is = subst IsOther is (other_at depth ts t no_null no_text no_array)

-- for a proof by cases: what was read is no object
abbrev pub IsNoObject : Option (Data × List Token) → Type 0
IsNoObject o = IfSome o (λ p. as_object p.0 ≡ None)

number_is_no_object : (o : Option Num) (r : List Token) → IsNoObject (option_map {U = Data × List Token} (λ b. (b, r)) (option_map number o))
number_is_no_object None r = tt
number_is_no_object (Some n) r = refl

items_are_no_object : (o : Option Items) (r : List Token) → IsNoObject (option_map {U = Data × List Token} (λ b. (b, r)) (option_map array o))
items_are_no_object None r = tt
items_are_no_object (Some ds) r = refl

array_is_no_object : (o : Option (json.Items × List Token)) → IsNoObject (converted of_json (parse_map json.array o))
array_is_no_object None = tt
array_is_no_object (Some p) = items_are_no_object (of_items p.0) p.1

opened_array : (depth : ℕ) (ts : List Token) → IsNoObject (read_at depth (tokens.begin_array ∷ ts))
unfolding value
opened_array zero ts = tt
opened_array (suc d) ts = array_is_no_object (items (value d) (length ts) ts)

-- a value that begins with another token is no object
pub no_object_at : (depth : ℕ) (ts : List Token) (t : rust.Token) → (t ≢ variants.BeginObject) → IsNoObject (read_at depth (token_of t ∷ ts))
no_object_at depth ts variants.BeginObject other = absurd (other refl)
no_object_at depth ts variants.EndObject other = subst IsNoObject (sym (end_object_refused depth ts)) tt
no_object_at depth ts variants.BeginArray other = opened_array depth ts
no_object_at depth ts variants.EndArray other = subst IsNoObject (sym (end_array_refused depth ts)) tt
no_object_at depth ts (variants.Key s) other = subst IsNoObject (sym (key_refused_as_value depth ts s.now)) tt
no_object_at depth ts (variants.String s) other = subst IsNoObject (sym (string_read depth ts s.now)) refl
no_object_at depth ts (variants.Number s) other =
    subst (λ o. IsNoObject (converted of_json o)) (sym (value_is depth (tokens.number s.now ∷ ts))) (number_is_no_object (number_of s.now) ts)
no_object_at depth ts (variants.Bool b) other = subst IsNoObject (sym (boolean_read depth ts b)) refl
no_object_at depth ts variants.Null other = subst IsNoObject (sym (null_read depth ts)) refl
no_object_at depth ts variants.Bad other = subst IsNoObject (sym (bad_refused depth ts)) tt

pub nothing_is_no_object : (o : Option (Data × List Token)) → o ≡ None → IsNoObject o
nothing_is_no_object o e = subst IsNoObject (sym e) tt
