-- Names and whole numbers hold no float.
use Rattle.std.proofs.Common.{◌≡◌, ℕ, List, [], ◌∷◌, map, false, refl}
use Rattle.serde_json.specs.Written.{has_float, items_have_float}
use Rattle.serde_json.specs.View.{items_of}
use Rattle.serde_json.specs.Data.{string}
use Rattle.spec_service.specs.Replies.{names_data, numbers_data, whole}

no_float_in_names : (names : List (List ℕ)) → items_have_float (items_of (map string names)) ≡ false
no_float_in_names [] = refl
no_float_in_names (n ∷ ns) = no_float_in_names ns

no_float_in_numbers : (numbers : List ℕ) → items_have_float (items_of (map whole numbers)) ≡ false
no_float_in_numbers [] = refl
no_float_in_numbers (n ∷ ns) = no_float_in_numbers ns

pub names_have_no_float : (names : List (List ℕ)) → has_float (names_data names) ≡ false
names_have_no_float names = no_float_in_names names

pub numbers_have_no_float : (numbers : List ℕ) → has_float (numbers_data numbers) ≡ false
numbers_have_no_float numbers = no_float_in_numbers numbers
