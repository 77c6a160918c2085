-- Texts one after another: which are listed, and whether each is new.
use Rattle.std.proofs.Common.{◌≡◌, ℕ, ◌+◌, ◌<◌, List, [], ◌∷◌, ◌++◌, length, map, drop, get_or, Some, ◌&&◌, Result, Ok, Err, refl, sym, ap, ◌∙◌, add-one, string_bytes, String, Global, append_assoc}
use Rattle.std.specs.List.{list_all}
use Rattle.std.proofs.Math.Seq.{drop-cons}
use Rattle.serde_json.specs.View.{view, items_view}
use Rattle.serde_json.specs.declared.value.Value.{Value}
use Rattle.spec_schema.specs.declared.schema_error.SchemaError.{SchemaError}
use Rattle.spec_schema.specs.Attributes.{texts_in}
use Rattle.spec_schema.specs.Steps.{◌>>=◌}
use Rattle.spec_avro.specs.FullNames.{is_name}
use Rattle.spec_schema.specs.Names.{text_of}
use Rattle.avro_types.specs.Laws.Plain.{names}

-- ---- texts that a value lists

-- what is listed, after what was listed before
abbrev pub listed : List (List ℕ) → Result (List (List ℕ)) SchemaError → Result (List (List ℕ)) SchemaError
listed front (Ok ss) = Ok (front ++ ss)
listed front (Err e) = Err e

one_more : (front : List (List ℕ)) (s : List ℕ) (r : Result (List (List ℕ)) SchemaError) → listed front (r >>= λ ss. Ok (s ∷ ss)) ≡ listed (front ++ s ∷ []) r
one_more front s (Ok ss) = ap (λ xs. Ok xs) (sym (append_assoc front (s ∷ []) ss))
one_more front s (Err e) = refl

module _ (vs : List Value) (i : ℕ) (v : Value) (lt : i < length vs) (is : v ≡ get_or vs i v) (front : List (List ℕ)) where
  here : drop i vs ≡ v ∷ drop (i + 1) vs
  here = drop-cons vs i v lt ∙ rw (← is, add-one i)

  pub texts-on : (s : List ℕ) → text_of (Some (view v)) ≡ Ok s → listed front (texts_in (items_view (drop i vs))) ≡ listed (front ++ s ∷ []) (texts_in (items_view (drop (i + 1) vs)))
  texts-on s e = rw (here, e) (one_more front s (texts_in (items_view (drop (i + 1) vs))))

  pub texts-fail : (e : SchemaError) → text_of (Some (view v)) ≡ Err e → listed front (texts_in (items_view (drop i vs))) ≡ Err e
  texts-fail e is_err = rw (here, is_err) refl

pub all_names : (ts : List (String Global)) → list_all is_name (map string_bytes ts) ≡ list_all (λ s. is_name (string_bytes s)) ts
all_names [] = refl
all_names (t ∷ ts) = ap (λ b. is_name (string_bytes t) && b) (all_names ts)
