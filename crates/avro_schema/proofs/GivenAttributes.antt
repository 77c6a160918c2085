-- Attributes: what the relation says, and what the walk computes.
use Rattle.avro_schema_names.proofs.SymbolPlaces.{place_at}
use Rattle.std.proofs.Common.{◌≡◌, ℕ, suc, ◌+◌, List, [], ◌∷◌, length, Bool, true, false, ◌&&◌, cond, Option, Some, None, Result, Ok, Err, refl, sym, ap, subst, ◌∙◌, arith, slice_get}
use Rattle.std.specs.Prelude.{nat_le}
use Rattle.std.specs.Option.{ok_or}
use Rattle.std.specs.List.{AllByRecursion, IsDistinct, list_all, position_from}
use Rattle.std.specs.Str.{bytes_eq}
use Rattle.std.proofs.lemmas.Bool.{le-leb, leb-true}
use Rattle.std.proofs.lemmas.Slice.Eq.{bytes_eq-Decides}
use Rattle.serde_json.specs.Data.{Data, unsigned, negative, float, null, boolean, number, string, array, object, Items, no_items, item}
use Rattle.spec_avro.specs.declared.limits.TheConstants.{MOST_FIXED, MOST_SYMBOLS}
use Rattle.spec_schema.specs.declared.schema_error.SchemaError.{SchemaError}
use Rattle.spec_schema.specs.declared.schema_error.SchemaError.TheVariants.{BadName, BadSymbols, TooLarge}
use Rattle.spec_schema.specs.Aliases.{alias_texts, field_aliases, full_aliases, type_aliases}
use Rattle.spec_schema.specs.Attributes.{symbols_of, default_symbol, size_of, texts_in}
use Rattle.spec_schema.specs.Steps.{◌>>=◌, require}
use Rattle.spec_avro.specs.FullNames.{is_full_name, is_name}
use Rattle.spec_avro.specs.Symbols.{are_distinct, are_new}
use Rattle.avro_types.specs.Laws.Booleans.{both, some_inside, none_some}
use Rattle.spec_schema.specs.Given.{AreFieldAliases, AreTypeAliases, ListsAliases, no_aliases, aliases_of, IsDefaultSymbol, IsSize, IsSymbols, a_size, no_default, the_symbol, texts}
use Rattle.avro_schema.proofs.Apart.{distinct-new, new-distinct}
use Rattle.avro_schema.proofs.Told.{Told}

-- ---- sizes

pub size_is : {v : Option Data} {n : ℕ} → IsSize v n → size_of v ≡ Ok n
size_is (a_size {n = n} le) = rw (le-leb n MOST_FIXED le) refl

size_at : (n : ℕ) (b : Bool) → nat_le n MOST_FIXED ≡ b → Told (IsSize (Some (number (unsigned n)))) (require b TooLarge >>= λ _. Ok n)
size_at n true e = a_size (leb-true n MOST_FIXED e)
size_at n false e = tt

pub size_told : (v : Option Data) → Told (IsSize v) (size_of v)
size_told None = tt
size_told (Some null) = tt
size_told (Some (boolean b)) = tt
size_told (Some (number (unsigned n))) = size_at n (nat_le n MOST_FIXED) refl
size_told (Some (number (negative z))) = tt
size_told (Some (number (float x))) = tt
size_told (Some (string s)) = tt
size_told (Some (array ds)) = tt
size_told (Some (object ms)) = tt

-- ---- symbols

module _ (rule : List ℕ → Bool) where
  all_by : (ss : List (List ℕ)) → AllByRecursion (λ s. rule s ≡ true) ss → list_all rule ss ≡ true
  all_by [] h = refl
  all_by (s ∷ ss) h = rw (h.0, all_by ss h.1) refl

  by_all : (ss : List (List ℕ)) → list_all rule ss ≡ true → AllByRecursion (λ s. rule s ≡ true) ss
  by_all [] h = tt
  by_all (s ∷ ss) h = let k = both (rule s) _ h in (k.0, by_all ss k.1)

texts_are : (ss : List (List ℕ)) → texts_in (texts ss) ≡ Ok ss
texts_are [] = refl
texts_are (s ∷ ss) = rw (texts_are ss) refl

pub symbols_are : (v : Option Data) (ss : List (List ℕ)) → IsSymbols v ss → symbols_of v ≡ Ok ss
unfolding symbols_of
symbols_are v ss h = rw (h.is, texts_are ss, all_by is_name ss h.by_rule, distinct-new ss h.distinct, le-leb (length ss) MOST_SYMBOLS h.few) refl

texts_told : (ds : Items) → Told (λ ss. ds ≡ texts ss) (texts_in ds)
texts_told no_items = refl
texts_told (item (string s) ds) = on (texts_in ds) (texts_told ds)
  where
    on : (r : Result (List (List ℕ)) SchemaError) → Told (λ ss. ds ≡ texts ss) r → Told (λ ss. item (string s) ds ≡ texts ss) (r >>= λ ss. Ok (s ∷ ss))
    on (Ok ss) e = ap (λ x. item (string s) x) e
    on (Err e) h = tt
texts_told (item null ds) = tt
texts_told (item (boolean b) ds) = tt
texts_told (item (number n) ds) = tt
texts_told (item (array es) ds) = tt
texts_told (item (object ms) ds) = tt

checked : (v : Option Data) (ss : List (List ℕ)) → v ≡ Some (array (texts ss)) → (a b c : Bool) → list_all is_name ss ≡ a → are_new [] ss ≡ b → nat_le (length ss) MOST_SYMBOLS ≡ c
    → Told (IsSymbols v) (require (a && b) BadSymbols >>= λ _. require c TooLarge >>= λ _. Ok ss)
checked v ss is true true true x y z = record { is = is; by_rule = by_all is_name ss x; distinct = new-distinct ss y; few = leb-true (length ss) MOST_SYMBOLS z }
checked v ss is true true false x y z = tt
checked v ss is true false c x y z = tt
checked v ss is false b c x y z = tt

pub symbols_told : (v : Option Data) → Told (IsSymbols v) (symbols_of v)
unfolding symbols_of
symbols_told None = tt
symbols_told (Some (array ds)) = on (texts_in ds) (texts_told ds)
  where
    on : (r : Result (List (List ℕ)) SchemaError) → Told (λ ss. ds ≡ texts ss) r
        → Told (IsSymbols (Some (array ds))) (r >>= λ ss. require (list_all is_name ss && are_distinct ss) BadSymbols >>= λ _. require (nat_le (length ss) MOST_SYMBOLS) TooLarge >>= λ _. Ok ss)
    on (Ok ss) e = checked (Some (array ds)) ss (ap (λ x. Some (array x)) e) (list_all is_name ss) (are_new [] ss) (nat_le (length ss) MOST_SYMBOLS) refl refl refl
    on (Err x) h = tt
symbols_told (Some null) = tt
symbols_told (Some (boolean b)) = tt
symbols_told (Some (number n)) = tt
symbols_told (Some (string s)) = tt
symbols_told (Some (object ms)) = tt

-- ---- the default symbol

abbrev StandsFrom : ℕ → List (List ℕ) → ℕ → List ℕ → Type 0
StandsFrom i ss n s = (j : ℕ) × (n ≡ i + j) × (slice_get ss j ≡ Some s)

stands_at : (i : ℕ) (x : List ℕ) (ss : List (List ℕ)) (n : ℕ) (s : List ℕ) (b : Bool) → bytes_eq x s ≡ b → (position_from (λ o. bytes_eq o s) (i + 1) ss ≡ Some n → StandsFrom (i + 1) ss n s)
    → cond b (Some i) (position_from (λ o. bytes_eq o s) (i + 1) ss) ≡ Some n → StandsFrom i (x ∷ ss) n s
stands_at i x ss n s true e rest h = (0, sym (some_inside i n h) ∙ (let z : i ≡ i + 0 = omega arith in z), ap Some ((bytes_eq-Decides x s).0 e))
stands_at i x ss n s false e rest h = let k = rest h in (suc k.0, omega (arith, k.1), k.2)

stands : (i : ℕ) (ss : List (List ℕ)) (n : ℕ) (s : List ℕ) → position_from (λ o. bytes_eq o s) i ss ≡ Some n → StandsFrom i ss n s
stands i [] n s h = absurd (none_some n h)
stands i (x ∷ ss) n s h = stands_at i x ss n s (bytes_eq x s) refl (stands (i + 1) ss n s) h

pub default_is : {ss : List (List ℕ)} {v : Option Data} {o : Option ℕ} → IsDefaultSymbol ss v o → IsDistinct bytes_eq ss → default_symbol ss v ≡ Ok o
default_is no_default d = refl
default_is (the_symbol {s = s} {n = n} e) d =
    rw (place_at _ n s d e) refl

default_at : (ss : List (List ℕ)) (s : List ℕ) (o : Option ℕ) → position_from (λ o. bytes_eq o s) 0 ss ≡ o → Told (IsDefaultSymbol ss (Some (string s))) (ok_or o BadSymbols >>= λ n. Ok (Some n))
default_at ss s None e = tt
default_at ss s (Some n) e =
    let k = stands 0 ss n s e in
    let same : k.0 ≡ n = omega (arith, k.1) in
    the_symbol (subst (λ m. slice_get ss m ≡ Some s) same k.2)

pub default_told : (ss : List (List ℕ)) (v : Option Data) → Told (IsDefaultSymbol ss v) (default_symbol ss v)
default_told ss None = no_default
default_told ss (Some (string s)) = default_at ss s (position_from (λ o. bytes_eq o s) 0 ss) refl
default_told ss (Some null) = tt
default_told ss (Some (boolean b)) = tt
default_told ss (Some (number n)) = tt
default_told ss (Some (array ds)) = tt
default_told ss (Some (object ms)) = tt

-- ---- aliases

written_is : {v : Option Data} {ss : List (List ℕ)} → ListsAliases v ss → alias_texts v ≡ Ok ss
written_is no_aliases = refl
written_is (aliases_of {ss = ss}) = texts_are ss

written_told : (v : Option Data) → Told (ListsAliases v) (alias_texts v)
written_told None = no_aliases
written_told (Some (array ds)) = on (texts_in ds) (texts_told ds)
  where
    on : (r : Result (List (List ℕ)) SchemaError) → Told (λ ss. ds ≡ texts ss) r → Told (ListsAliases (Some (array ds))) r
    on (Ok ss) e = subst (λ x. ListsAliases (Some (array x)) ss) (sym e) aliases_of
    on (Err x) h = tt
written_told (Some null) = tt
written_told (Some (boolean b)) = tt
written_told (Some (number n)) = tt
written_told (Some (string s)) = tt
written_told (Some (object ms)) = tt

pub type_aliases_are : (v : Option Data) (full : List ℕ) (aliases : List (List ℕ)) → AreTypeAliases v full aliases → type_aliases full v ≡ Ok aliases
unfolding type_aliases
type_aliases_are v full aliases h = rw (written_is h.lists, h.means, all_by is_full_name aliases h.by_rule) refl

pub field_aliases_are : (v : Option Data) (aliases : List (List ℕ)) → AreFieldAliases v aliases → field_aliases v ≡ Ok aliases
unfolding field_aliases
field_aliases_are v aliases h = rw (written_is h.lists, all_by is_name aliases h.by_rule) refl

pub type_aliases_told : (v : Option Data) (full : List ℕ) → Told (AreTypeAliases v full) (type_aliases full v)
unfolding type_aliases
type_aliases_told v full = on (alias_texts v) (written_told v)
  where
    ruled : (ss : List (List ℕ)) → ListsAliases v ss → (b : Bool) → list_all is_full_name (full_aliases full ss) ≡ b → Told (AreTypeAliases v full) (require b BadName >>= λ _. Ok (full_aliases full ss))
    ruled ss h true e = record { written = ss; lists = h; means = refl; by_rule = by_all is_full_name (full_aliases full ss) e }
    ruled ss h false e = tt

    on : (r : Result (List (List ℕ)) SchemaError) → Told (ListsAliases v) r → Told (AreTypeAliases v full) (r >>= λ ss. require (list_all is_full_name (full_aliases full ss)) BadName >>= λ _. Ok (full_aliases full ss))
    on (Ok ss) h = ruled ss h (list_all is_full_name (full_aliases full ss)) refl
    on (Err x) h = tt

pub field_aliases_told : (v : Option Data) → Told (AreFieldAliases v) (field_aliases v)
unfolding field_aliases
field_aliases_told v = on (alias_texts v) (written_told v)
  where
    ruled : (ss : List (List ℕ)) → ListsAliases v ss → (b : Bool) → list_all is_name ss ≡ b → Told (AreFieldAliases v) (require b BadName >>= λ _. Ok ss)
    ruled ss h true e = record { lists = h; by_rule = by_all is_name ss e }
    ruled ss h false e = tt

    on : (r : Result (List (List ℕ)) SchemaError) → Told (ListsAliases v) r → Told (AreFieldAliases v) (r >>= λ ss. require (list_all is_name ss) BadName >>= λ _. Ok ss)
    on (Ok ss) h = ruled ss h (list_all is_name ss) refl
    on (Err x) h = tt
