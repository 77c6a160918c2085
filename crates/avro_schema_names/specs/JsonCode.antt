-- Values of JSON as ghost values, one to one, so that a proof can tell two of them apart.
use Rattle.std.specs.Prelude.{◌≡◌, ◌⊎◌, ℕ, ℤ, List, Float, refl}
use Rattle.std.specs.Coded.{Coded, code_by, coded_bool, coded_list, coded_ℕ, coded_ℤ, coded⊎}
use Rattle.std.proofs.Common.{ap}
use mathlib.Core.Logic.{inl, inr}
use base.Stored.{Gv, gnil, gnum, gcons, coded_float}
use Rattle.serde_json.specs.Data.{Num, unsigned, negative, float, Data, null, boolean, number, string, array, object, Items, no_items, item, Members, no_members, member}

-- ---- numbers

abbrev num_parts : Num → ℕ ⊎ (ℤ ⊎ Float)
num_parts (unsigned n) = inl n
num_parts (negative n) = inr (inl n)
num_parts (float x) = inr (inr x)

abbrev num_of_parts : ℕ ⊎ (ℤ ⊎ Float) → Num
num_of_parts (inl n) = unsigned n
num_of_parts (inr (inl n)) = negative n
num_of_parts (inr (inr x)) = float x

num_same : (n : Num) → num_of_parts (num_parts n) ≡ n
num_same (unsigned n) = refl
num_same (negative n) = refl
num_same (float x) = refl

abbrev num_coded : Coded Num
num_coded = code_by (ℕ ⊎ (ℤ ⊎ Float)) (coded⊎ coded_ℕ (coded⊎ coded_ℤ coded_float)) num_parts num_of_parts num_same

abbrev text_coded : Coded (List ℕ)
text_coded = coded_list coded_ℕ

-- ---- values

mutual
  pub code_json : Data → Gv
  code_json null = gcons (gnum 0) gnil
  code_json (boolean b) = gcons (gnum 1) (coded_bool.code b)
  code_json (number n) = gcons (gnum 2) (num_coded.code n)
  code_json (string s) = gcons (gnum 3) (text_coded.code s)
  code_json (array ds) = gcons (gnum 4) (code_items ds)
  code_json (object ms) = gcons (gnum 5) (code_members ms)

  code_items : Items → Gv
  code_items no_items = gnil
  code_items (item d ds) = gcons (code_json d) (code_items ds)

  code_members : Members → Gv
  code_members no_members = gnil
  code_members (member k d ms) = gcons (text_coded.code k) (gcons (code_json d) (code_members ms))

abbrev first : Gv → Gv
first (gcons a b) = a
first g = g

abbrev rest : Gv → Gv
rest (gcons a b) = b
rest g = g

mutual
  unfolding code_json code_items code_members

  pub json_apart : (x y : Data) → code_json x ≡ code_json y → x ≡ y
  json_apart null null e = refl
  json_apart (boolean a) (boolean b) e = ap boolean (coded_bool.inj a b (ap rest e))
  json_apart (number a) (number b) e = ap number (num_coded.inj a b (ap rest e))
  json_apart (string a) (string b) e = ap string (text_coded.inj a b (ap rest e))
  json_apart (array a) (array b) e = ap array (items_apart a b (ap rest e))
  json_apart (object a) (object b) e = ap object (members_apart a b (ap rest e))
  json_apart _ _ e = absurd (let no : ⊥ = cc in no)

  items_apart : (x y : Items) → code_items x ≡ code_items y → x ≡ y
  items_apart no_items no_items e = refl
  items_apart (item a xs) (item b ys) e = λ i. item (json_apart a b (ap first e) i) (items_apart xs ys (ap rest e) i)
  items_apart _ _ e = absurd (let no : ⊥ = cc in no)

  members_apart : (x y : Members) → code_members x ≡ code_members y → x ≡ y
  members_apart no_members no_members e = refl
  members_apart (member k a xs) (member l b ys) e =
      λ i. member (text_coded.inj k l (ap first e) i) (json_apart a b (ap (λ g. first (rest g)) e) i)
      (members_apart xs ys (ap (λ g. rest (rest g)) e) i)
  members_apart _ _ e = absurd (let no : ⊥ = cc in no)

abbrev pub json_coded : Coded Data
json_coded = record { code = code_json; inj = json_apart }
