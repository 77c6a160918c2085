-- The rule for names, by a text's first byte and the rest; a name among those of fields.
use Rattle.std.proofs.Common.{◌≡◌, ℕ, ◌<◌, ◌≤◌, List, [], ◌∷◌, length, get_or, drop, true, false, ◌&&◌, refl, sym, arith, Option, Some, None, option_map, is_some, is_none}
use Rattle.std.specs.List.{list_all}
use Rattle.spec_avro.specs.FullNames.{is_letter, is_letter_or_digit, is_name}

pub name-empty : (s : List ℕ) → length s < 1 → false ≡ is_name s
unfolding is_name
name-empty [] lt = refl
name-empty (c ∷ cs) lt = absurd (omega arith)

pub name-starts : (s : List ℕ) → 1 ≤ length s → is_name s ≡ (is_letter (get_or s 0 0) && list_all is_letter_or_digit (drop 1 s))
unfolding is_name
name-starts [] le = absurd (omega arith)
name-starts (c ∷ cs) le = refl

-- ---- an attribute that is there, and one that is not

pub none-some : {A B : Type 0} (f : A → B) (o : Option A) → is_some o ≡ true → is_none (option_map f o) ≡ false
none-some f None e = sym e
none-some f (Some a) e = refl
