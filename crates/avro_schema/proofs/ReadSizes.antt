-- No text in a value is longer than the JSON text that reads as it, and no array or object has more parts.
use Rattle.std.proofs.Common.{◌≡◌, ℕ, zero, suc, ◌+◌, ◌≤◌, List, [], ◌∷◌, length, Option, Some, None, option_map, option_and_then, subst, arith}
use Rattle.std.specs.Ordering.{nat_cmp, match_ordering}
use Rattle.std.specs.Cmp.Lexicographic.{slice_cmp}
use Rattle.std.specs.declared.cmp.Ordering.{Ordering}
use Rattle.std.specs.declared.cmp.Ordering.TheVariants.{Less, Equal, Greater}
use Rattle.json.specs.Token.{Token}
use Rattle.json.specs.Lex.{tokens}
use Rattle.json.specs.Json as json
use Rattle.json.specs.Json.{Json, Parse, parse_map, after_end_array, read_key, items_step, members_step, items, members, value_with, value, if_last}
use Rattle.serde_json.specs.Data.{Data, null, boolean, number, string, array, object, Items, no_items, item, Members, no_members, member, put}
use Rattle.serde_json.specs.Read.{number_of, of_json, of_items, of_members, max_depth, read}
use Rattle.avro_schema.proofs.DefaultsRead.{map-inv, then-inv}
use Rattle.avro_schema.proofs.JsonSizes.{TokensWithin, tokens-within}

abbrev pub items_in : Items → ℕ
items_in no_items = 0
items_in (item d ds) = suc (items_in ds)

abbrev pub members_in : Members → ℕ
members_in no_members = 0
members_in (member k d ms) = suc (members_in ms)

-- no string or key is longer than that, and no array or object has more parts
abbrev mutual
  pub HasDataWithin : ℕ → Data → Type 0
  HasDataWithin most null = Unit {0}
  HasDataWithin most (boolean b) = Unit {0}
  HasDataWithin most (number n) = Unit {0}
  HasDataWithin most (string s) = length s ≤ most
  HasDataWithin most (array ds) = (items_in ds ≤ most) × HaveItemsWithin most ds
  HasDataWithin most (object ms) = (members_in ms ≤ most) × HaveMembersWithin most ms

  pub HaveItemsWithin : ℕ → Items → Type 0
  HaveItemsWithin most no_items = Unit {0}
  HaveItemsWithin most (item d ds) = HasDataWithin most d × HaveItemsWithin most ds

  pub HaveMembersWithin : ℕ → Members → Type 0
  HaveMembersWithin most no_members = Unit {0}
  HaveMembersWithin most (member k d ms) = (length k ≤ most) × HasDataWithin most d × HaveMembersWithin most ms

-- how many items and members the grammar gives
abbrev json_items_in : json.Items → ℕ
json_items_in json.no_items = 0
json_items_in (json.item j js) = suc (json_items_in js)

abbrev json_members_in : json.Members → ℕ
json_members_in json.no_members = 0
json_members_in (json.member k j ms) = suc (json_members_in ms)

abbrev mutual
  IsWithin : ℕ → Json → Type 0
  IsWithin most json.null = Unit {0}
  IsWithin most (json.boolean b) = Unit {0}
  IsWithin most (json.number s) = Unit {0}
  IsWithin most (json.string s) = length s ≤ most
  IsWithin most (json.array js) = (json_items_in js ≤ most) × AreItemsWithin most js
  IsWithin most (json.object ms) = (json_members_in ms ≤ most) × AreMembersWithin most ms

  AreItemsWithin : ℕ → json.Items → Type 0
  AreItemsWithin most json.no_items = Unit {0}
  AreItemsWithin most (json.item j js) = IsWithin most j × AreItemsWithin most js

  AreMembersWithin : ℕ → json.Members → Type 0
  AreMembersWithin most json.no_members = Unit {0}
  AreMembersWithin most (json.member k j ms) = (length k ≤ most) × IsWithin most j × AreMembersWithin most ms

module _ (most : ℕ) where
  -- ---- the grammar

  -- what was read is so, and what is left is within
  abbrev Leaves : {A : Type 0} → (A → Type 0) → Option (A × List Token) → Type 0
  Leaves P None = Unit {0}
  Leaves P (Some p) = P p.0 × TokensWithin most p.1

  abbrev Keeps : {A : Type 0} → (A → Type 0) → Parse A → Type 0
  Keeps P parse = (ts : List Token) → TokensWithin most ts → Leaves P (parse ts)

  -- so where no more tokens than that are left
  abbrev KeepsFew : {A : Type 0} → (A → Type 0) → Parse A → Type 0
  KeepsFew P parse = (ts : List Token) → TokensWithin most ts → length ts ≤ most → Leaves P (parse ts)

  abbrev FewItems : ℕ → json.Items → Type 0
  FewItems n js = (json_items_in js ≤ n) × AreItemsWithin most js

  abbrev FewMembers : ℕ → json.Members → Type 0
  FewMembers n ms = (json_members_in ms ≤ n) × AreMembersWithin most ms

  leaves-more : {A : Type 0} (P Q : A → Type 0) → ((a : A) → P a → Q a) → (r : Option (A × List Token)) → Leaves P r → Leaves Q r
  leaves-more P Q f None h = tt
  leaves-more P Q f (Some p) h = (f p.0 h.0, h.1)

  map-leaves : {A B : Type 0} (P : A → Type 0) (Q : B → Type 0) (f : A → B) → ((a : A) → P a → Q (f a)) → (r : Option (A × List Token)) → Leaves P r → Leaves Q (parse_map f r)
  map-leaves P Q f g None h = tt
  map-leaves P Q f g (Some p) h = (g p.0 h.0, h.1)

  then-leaves : {A B : Type 0} (P : A → Type 0) (Q : B → Type 0) (f : A × List Token → Option (B × List Token)) → ((p : A × List Token) → P p.0 → TokensWithin most p.1 → Leaves Q (f p)) → (r : Option (A × List Token)) → Leaves P r → Leaves Q (option_and_then f r)
  then-leaves P Q f g None h = tt
  then-leaves P Q f g (Some p) h = g p h.0 h.1

  abbrev LeavesTokens : Option (List Token) → Type 0
  LeavesTokens None = Unit {0}
  LeavesTokens (Some ts) = TokensWithin most ts

  end_array-within : (ts : List Token) → TokensWithin most ts → LeavesTokens (after_end_array ts)
  end_array-within [] h = tt
  end_array-within (Token.begin_object ∷ ts) h = tt
  end_array-within (Token.end_object ∷ ts) h = tt
  end_array-within (Token.begin_array ∷ ts) h = tt
  end_array-within (Token.end_array ∷ ts) h = h.1
  end_array-within (Token.key s ∷ ts) h = tt
  end_array-within (Token.string s ∷ ts) h = tt
  end_array-within (Token.number s ∷ ts) h = tt
  end_array-within (Token.boolean b ∷ ts) h = tt
  end_array-within (Token.null ∷ ts) h = tt
  end_array-within (Token.bad ∷ ts) h = tt

  abbrev KeyWithin : Option (List ℕ) → Type 0
  KeyWithin None = Unit {0}
  KeyWithin (Some k) = length k ≤ most

  key-within : Keeps KeyWithin read_key
  key-within [] h = tt
  key-within (Token.begin_object ∷ ts) h = tt
  key-within (Token.end_object ∷ ts) h = (tt, h.1)
  key-within (Token.begin_array ∷ ts) h = tt
  key-within (Token.end_array ∷ ts) h = tt
  key-within (Token.key s ∷ ts) h = (h.0.0, h.1)
  key-within (Token.string s ∷ ts) h = tt
  key-within (Token.number s ∷ ts) h = tt
  key-within (Token.boolean b ∷ ts) h = tt
  key-within (Token.null ∷ ts) h = tt
  key-within (Token.bad ∷ ts) h = tt

  items_step-within : (p : Parse Json) (rest : Parse json.Items) (n : ℕ) → Keeps (IsWithin most) p → Keeps (FewItems n) rest → (ts : List Token) → TokensWithin most ts → (o : Option (List Token)) → LeavesTokens o → Leaves (FewItems (suc n)) (items_step p rest ts o)
  items_step-within p rest n f g ts h (Some left) k = ((omega arith, tt), k)
  items_step-within p rest n f g ts h None k =
      then-leaves (IsWithin most) (FewItems (suc n)) (λ q. parse_map (json.item q.0) (rest q.1)) (λ q one others. map-leaves (FewItems n) (FewItems (suc n)) (json.item q.0) (λ js all. (omega (arith, all.0), (one, all.1))) (rest q.1) (g q.1 others)) (p ts) (f ts h)

  items-within : (p : Parse Json) → Keeps (IsWithin most) p → (n : ℕ) → Keeps (FewItems n) (items p n)
  unfolding items
  items-within p f zero ts h = tt
  items-within p f (suc n) ts h = items_step-within p (items p n) n f (items-within p f n) ts h (after_end_array ts) (end_array-within ts h)

  members_step-within : (p : Parse Json) (rest : Parse json.Members) (n : ℕ) → Keeps (IsWithin most) p → Keeps (FewMembers n) rest → (o : Option (List ℕ)) → KeyWithin o → Keeps (FewMembers (suc n)) (members_step p rest o)
  members_step-within p rest n f g None k ts h = ((omega arith, tt), h)
  members_step-within p rest n f g (Some key) k ts h =
      then-leaves (IsWithin most) (FewMembers (suc n)) (λ q. parse_map (json.member key q.0) (rest q.1)) (λ q one others. map-leaves (FewMembers n) (FewMembers (suc n)) (json.member key q.0) (λ ms all. (omega (arith, all.0), (k, one, all.1))) (rest q.1) (g q.1 others)) (p ts) (f ts h)

  members-within : (p : Parse Json) → Keeps (IsWithin most) p → (n : ℕ) → Keeps (FewMembers n) (members p n)
  unfolding members
  members-within p f zero ts h = tt
  members-within p f (suc n) ts h = then-leaves KeyWithin (FewMembers (suc n)) (λ q. members_step p (members p n) q.0 q.1) (λ q k others. members_step-within p (members p n) n f (members-within p f n) q.0 k q.1 others) (read_key ts) (key-within ts h)

  value_with-within : (a : Parse json.Items) (o : Parse json.Members) → KeepsFew (FewItems most) a → KeepsFew (FewMembers most) o → Keeps (IsWithin most) (value_with a o)
  value_with-within a o f g [] h = tt
  value_with-within a o f g (Token.begin_object ∷ ts) h = map-leaves (FewMembers most) (IsWithin most) json.object (λ ms all. all) (o ts) (g ts h.1 h.0.1)
  value_with-within a o f g (Token.end_object ∷ ts) h = tt
  value_with-within a o f g (Token.begin_array ∷ ts) h = map-leaves (FewItems most) (IsWithin most) json.array (λ js all. all) (a ts) (f ts h.1 h.0.1)
  value_with-within a o f g (Token.end_array ∷ ts) h = tt
  value_with-within a o f g (Token.key s ∷ ts) h = tt
  value_with-within a o f g (Token.string s ∷ ts) h = (h.0.0, h.1)
  value_with-within a o f g (Token.number s ∷ ts) h = (tt, h.1)
  value_with-within a o f g (Token.boolean b ∷ ts) h = (tt, h.1)
  value_with-within a o f g (Token.null ∷ ts) h = (tt, h.1)
  value_with-within a o f g (Token.bad ∷ ts) h = tt

  value-within : (depth : ℕ) → Keeps (IsWithin most) (value depth)
  unfolding value
  value-within zero = value_with-within (λ ts. None) (λ ts. None) (λ ts h le. tt) (λ ts h le. tt)
  value-within (suc depth) = value_with-within (λ ts. items (value depth) (length ts) ts) (λ ts. members (value depth) (length ts) ts)
      (λ ts h le. leaves-more (FewItems (length ts)) (FewItems most) (λ js few. (omega (arith, few.0, le), few.1)) (items (value depth) (length ts) ts) (items-within (value depth) (value-within depth) (length ts) ts h))
      (λ ts h le. leaves-more (FewMembers (length ts)) (FewMembers most) (λ ms few. (omega (arith, few.0, le), few.1)) (members (value depth) (length ts) ts) (members-within (value depth) (value-within depth) (length ts) ts h))

  -- ---- the data

  abbrev FoundFew : ℕ → Members → Type 0
  FoundFew n ms = (members_in ms ≤ n) × HaveMembersWithin most ms

  found-put : (o : Ordering) (n : ℕ) (a b c : Members) → FoundFew n a → FoundFew n b → FoundFew n c → FoundFew n (match_ordering o a b c)
  found-put Less n a b c f g h = f
  found-put Equal n a b c f g h = g
  found-put Greater n a b c f g h = h

  put-within : (k : List ℕ) (d : Data) (ms : Members) → length k ≤ most → HasDataWithin most d → HaveMembersWithin most ms → FoundFew (suc (members_in ms)) (put k d ms)
  put-within k d no_members le h all = (omega arith, (le, h, tt))
  put-within k d (member l e ms) le h all =
      let behind = put-within k d ms le h all.2 in
      found-put (slice_cmp nat_cmp k l) (suc (suc (members_in ms))) (member k d (member l e ms)) (member l d ms) (member l e (put k d ms)) (omega arith, (le, h, all)) (omega arith, (all.0, h, all.2)) (omega (arith, behind.0), (all.0, all.1, behind.1))

  mutual
    json-within : (j : Json) (d : Data) → IsWithin most j → of_json j ≡ Some d → HasDataWithin most d
    json-within json.null d h e = subst (HasDataWithin most) (let same : null ≡ d = cc in same) tt
    json-within (json.boolean b) d h e = subst (HasDataWithin most) (let same : boolean b ≡ d = cc in same) tt
    json-within (json.number s) d h e = let p = map-inv number (number_of s) d e in rw p.2 tt
    json-within (json.string s) d h e = subst (HasDataWithin most) (let same : string s ≡ d = cc in same) h
    json-within (json.array js) d h e =
        let p = map-inv array (of_items js) d e in
        let all = json_items-within js p.0 h.1 p.1 in
        let few : items_in p.0 ≤ most = omega (arith, all.0, h.0) in
        rw p.2 (few, all.1)
    json-within (json.object ms) d h e =
        let p = map-inv object (of_members ms no_members) d e in
        let all = json_members-within ms no_members p.0 h.1 tt p.1 in
        let few : members_in p.0 ≤ most = omega (arith, all.0, h.0) in
        rw p.2 (few, all.1)

    json_items-within : (js : json.Items) (ds : Items) → AreItemsWithin most js → of_items js ≡ Some ds → (items_in ds ≤ json_items_in js) × HaveItemsWithin most ds
    json_items-within json.no_items ds h e = subst (λ (ds : Items). (items_in ds ≤ 0) × HaveItemsWithin most ds) (let same : no_items ≡ ds = cc in same) (omega arith, tt)
    json_items-within (json.item j js) ds h e =
        let p = then-inv (λ d. option_map (item d) (of_items js)) (of_json j) ds e in
        let q = map-inv (item p.0) (of_items js) ds p.2 in
        let others = json_items-within js q.0 h.1 q.1 in
        rw q.2 (omega (arith, others.0), (json-within j p.0 h.0 p.1, others.1))

    json_members-within : (ms : json.Members) (found all : Members) → AreMembersWithin most ms → HaveMembersWithin most found → of_members ms found ≡ Some all → FoundFew (json_members_in ms + members_in found) all
    json_members-within json.no_members found all h f e = subst (FoundFew (json_members_in json.no_members + members_in found)) (let same : found ≡ all = cc in same) (omega arith, f)
    json_members-within (json.member k j ms) found all h f e =
        let p = then-inv (λ d. of_members ms (put k d found)) (of_json j) all e in
        let now = put-within k p.0 found h.0 (json-within j p.0 h.1 p.1) f in
        let whole = json_members-within ms (put k p.0 found) all h.2 now.1 p.2 in
        (omega (arith, now.0, whole.0), whole.1)

  -- ---- a whole text

  last-within : (j : Json) (ts : List Token) (k : Json) → IsWithin most j → if_last j ts ≡ Some k → IsWithin most k
  last-within j [] k h e = subst (IsWithin most) (let same : j ≡ k = cc in same) h
  last-within j (t ∷ ts) k h e = absurd (let no : ⊥ = cc in no)

  whole-within : (r : Option (Json × List Token)) (j : Json) → Leaves (IsWithin most) r → option_and_then (λ p. if_last p.0 p.1) r ≡ Some j → IsWithin most j
  whole-within None j h e = absurd (let no : ⊥ = cc in no)
  whole-within (Some p) j h e = last-within p.0 p.1 j h.0 e

  pub read-within : (text : List ℕ) (d : Data) → read text ≡ Some d → length text ≤ most → HasDataWithin most d
  read-within text d e le =
      let p = then-inv of_json (option_and_then (λ p. if_last p.0 p.1) (value max_depth (tokens text))) d e in
      json-within p.0 d (whole-within (value max_depth (tokens text)) p.0 (value-within max_depth (tokens text) (tokens-within most text le)) p.1) p.2
