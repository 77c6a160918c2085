-- A full name, part by part.
use Rattle.std.proofs.Common.{◌≡◌, ◌+◌, ◌<◌, ℕ, List, [], ◌∷◌, length, Bool, true, false, cond, not, ◌&&◌, refl, ap, ◌∙◌, arith, suc}
use Rattle.std.specs.List.{list_all, slice_split, onto_first, position_or_len, before_first, after_first}
use Rattle.std.proofs.lemmas.List.Splits.{slice_split_first}
use Rattle.spec_avro.specs.FullNames.{is_dot, is_name, is_full_name}
use Rattle.avro_types.specs.Laws.Booleans.{and_true}

one_at : (b : Bool) (x : ℕ) (xs : List ℕ) (r : List (List ℕ)) (n len : ℕ) → cond (not b) (1 + n) 0 ≡ suc len → (n ≡ len → r ≡ xs ∷ []) → cond b ([] ∷ r) (onto_first x r) ≡ (x ∷ xs) ∷ []
one_at true x xs r n len e h = absurd (omega (arith, e))
one_at false x xs r n len e h = ap (onto_first x) (h (omega (arith, e)))

one_part : (p : ℕ → Bool) (xs : List ℕ) → position_or_len p xs ≡ length xs → slice_split p xs ≡ xs ∷ []
one_part p [] e = refl
one_part p (x ∷ xs) e = one_at (p x) x xs (slice_split p xs) (position_or_len p xs) (length xs) e (one_part p xs)

-- with no dot it is one name
pub full_single : (s : List ℕ) → position_or_len is_dot s ≡ length s → is_full_name s ≡ is_name s
full_single s e = ap (λ parts. list_all is_name parts) (one_part is_dot s e) ∙ and_true (is_name s)

-- with a dot, a name and a further full name
pub full_parts : (s front back : List ℕ) → (front ≡ before_first is_dot s) × (back ≡ after_first is_dot s) × (position_or_len is_dot s < length s) → is_full_name s ≡ (is_name front && is_full_name back)
full_parts s front back h = rw (slice_split_first is_dot s 0 h.2, ← h.0, ← h.1) refl
