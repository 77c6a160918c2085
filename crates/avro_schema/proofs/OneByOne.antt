-- What comes of some values one after another, or the fault where one of them gives nothing.
use Rattle.std.proofs.Common.{◌≡◌, ℕ, ◌+◌, ◌<◌, length, drop, get_or, add-one, List, [], ◌∷◌, ◌++◌, Option, Some, None, option_map, option_and_then, Ok, Err, refl, ap, ◌∙◌}
use Rattle.std.specs.Option.{ok_or}
use Rattle.std.proofs.Math.Seq.{drop-cons}
use Rattle.spec_schema.specs.declared.schema_error.SchemaError.{SchemaError}
use Rattle.spec_schema.specs.declared.schema_error.SchemaError.TheVariants.{BadDefault}

-- the rest begins with the value at its place
pub next : {A : Type 0} (xs : List A) (i : ℕ) (x : A) → i < length xs → x ≡ get_or xs i x → drop i xs ≡ x ∷ drop (i + 1) xs
next xs i x lt is = drop-cons xs i x lt ∙ rw (← is, add-one i)

-- what was read, before what comes of the rest
abbrev pub before : {R L : Type 0} → (R → L → L) → List R → L → L
before put [] l = l
before put (r ∷ rs) l = put r (before put rs l)

before-push : {R L : Type 0} (put : R → L → L) (front : List R) (r : R) (l : L) → before put front (put r l) ≡ before put (front ++ r ∷ []) l
before-push put [] r l = refl
before-push put (s ∷ front) r l = ap (put s) (before-push put front r l)

option-push : {R L : Type 0} (put : R → L → L) (front : List R) (r : R) (o : Option L) → option_map (before put front) (option_map (put r) o) ≡ option_map (before put (front ++ r ∷ [])) o
option-push put front r None = refl
option-push put front r (Some l) = ap Some (before-push put front r l)

pub told-Ok : {E : Type 0} (o : Option E) (d : E) → ok_or o BadDefault ≡ Ok d → o ≡ Some d
told-Ok None d e = cc
told-Ok (Some x) d e = cc

pub told-Err : {E : Type 0} (o : Option E) (e : SchemaError) → ok_or o BadDefault ≡ Err e → (o ≡ None) × (BadDefault ≡ e)
told-Err None e h = (refl, cc)
told-Err (Some x) e h = absurd (let no : ⊥ = cc in no)

module _ {A E L R : Type 0} (f : A → Option E) (cons : A → E → L → L) (read : List A → Option L) (put : R → L → L)
    (steps : (a : A) (rest : List A) → read (a ∷ rest) ≡ option_and_then (λ d. option_map (cons a d) (read rest)) (f a)) where
  pub one-on : (front : List R) (a : A) (rest : List A) (r : R) (d : E) → cons a d ≡ put r → ok_or (f a) BadDefault ≡ Ok d
      → option_map (before put front) (read (a ∷ rest)) ≡ option_map (before put (front ++ r ∷ [])) (read rest)
  one-on front a rest r d same told = rw (steps a rest, told-Ok (f a) d told, same) (option-push put front r (read rest))

  pub one-fails : (front : List R) (a : A) (rest : List A) (e : SchemaError) → ok_or (f a) BadDefault ≡ Err e
      → ok_or (option_map (before put front) (read (a ∷ rest))) BadDefault ≡ Err e
  one-fails front a rest e told = let p = told-Err (f a) e told in rw (steps a rest, p.0) (ap Err p.1)
