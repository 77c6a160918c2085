-- The first of a list, and of what is left of it.
use Rattle.std.proofs.Common.{◌≡◌, ◌<◌, ◌≤◌, ◌+◌, ◌∙◌, ℕ, List, ◌∷◌, length, drop, get_or, map, Bool, true, false, Some, None, refl, add-one}
use Rattle.std.specs.List.{position_from}
use Rattle.std.proofs.Math.Seq.{drop-cons}
use Rattle.std.proofs.Math.ListN.{drop_of_length-le}
use Rattle.avro_schema_names.specs.declared.draft.Draft as rust
use Rattle.spec_schema.specs.Draft.{Draft}
use Rattle.avro_schema_names.specs.Draft.{draft_of, drafts_of}
use Rattle.avro_schema_faults.specs.DefaultPlaces.{bad_field, first_bad}

rest-is : {A : Type 0} (xs : List A) (i : ℕ) (x : A) → i < length xs → x ≡ get_or xs i x → drop i xs ≡ x ∷ drop (i + 1) xs
rest-is xs i x lt is = drop-cons xs i x lt ∙ rw (← is, add-one i)

module _ {A B : Type 0} (f : A → B) (t : B → Bool) (xs : List A) (i : ℕ) where
  pub position-hit : (x : A) → i < length xs → x ≡ get_or xs i x → t (f x) ≡ true → position_from t i (map f (drop i xs)) ≡ Some i
  position-hit x lt is holds = rw (rest-is xs i x lt is, holds) refl

  pub position-miss : (x : A) → i < length xs → x ≡ get_or xs i x → t (f x) ≡ false → position_from t i (map f (drop i xs)) ≡ position_from t (i + 1) (map f (drop (i + 1) xs))
  position-miss x lt is fails = rw (rest-is xs i x lt is, fails) refl

  pub position-end : length xs ≤ i → position_from t i (map f (drop i xs)) ≡ None
  position-end le = rw (drop_of_length-le xs le) refl

module _ (ds : List Draft) (xs : List rust.Draft) (i : ℕ) where
  pub first-hit : (x : rust.Draft) (j : ℕ) → i < length xs → x ≡ get_or xs i x → bad_field ds (draft_of x) ≡ Some j → first_bad ds i (drafts_of (drop i xs)) ≡ Some (record { node = i; position = j })
  first-hit x j lt is bad = rw (rest-is xs i x lt is, bad) refl

  pub first-miss : (x : rust.Draft) → i < length xs → x ≡ get_or xs i x → bad_field ds (draft_of x) ≡ None → first_bad ds i (drafts_of (drop i xs)) ≡ first_bad ds (i + 1) (drafts_of (drop (i + 1) xs))
  first-miss x lt is good = rw (rest-is xs i x lt is, good) refl

  pub first-end : length xs ≤ i → first_bad ds i (drafts_of (drop i xs)) ≡ None
  first-end le = rw (drop_of_length-le xs le) refl
