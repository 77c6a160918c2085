-- The texts and keys of a value are UTF-8.
use Rattle.std.proofs.Common.{List, [], ◌∷◌, map, String, Global, subst, sym}
use Rattle.std.specs.Str.{IsUtf8}
use Rattle.std.proofs.lemmas.Str.{IsUtf8-string_bytes}
use Rattle.serde_json.specs.Data.{Data, null, boolean, number, string, array, object, Items, no_items, item, Members, no_members, member}
use Rattle.serde_json.specs.View.{view, view_step, items_of, members_of}
use Rattle.serde_json.specs.declared.value.Value.{Value, map-Value}
use Rattle.serde_json.specs.declared.value.Value.TheOpen.{Value-F}
use Rattle.serde_json.specs.declared.value.Value.TheFolds.{fold-roll-Value, ind-Value}

abbrev mutual
  pub HasUtf8 : Data → Type 0
  HasUtf8 null = Unit {0}
  HasUtf8 (boolean b) = Unit {0}
  HasUtf8 (number n) = Unit {0}
  HasUtf8 (string s) = IsUtf8 s
  HasUtf8 (array ds) = ItemsHaveUtf8 ds
  HasUtf8 (object ms) = MembersHaveUtf8 ms

  pub ItemsHaveUtf8 : Items → Type 0
  ItemsHaveUtf8 no_items = Unit {0}
  ItemsHaveUtf8 (item d ds) = HasUtf8 d × ItemsHaveUtf8 ds

  pub MembersHaveUtf8 : Members → Type 0
  MembersHaveUtf8 no_members = Unit {0}
  MembersHaveUtf8 (member k d ms) = IsUtf8 k × HasUtf8 d × MembersHaveUtf8 ms

abbrev ViewHasUtf8 : Value → Type 0
ViewHasUtf8 v = HasUtf8 (view v)

-- a value, with the law of it beside
abbrev Known : Type 0
Known = (v : Value) × ViewHasUtf8 v

items-utf8 : (vs : List Known) → ItemsHaveUtf8 (items_of (map view (map (λ (e : Known). e.0) vs)))
items-utf8 [] = tt
items-utf8 (e ∷ vs) = (e.1, items-utf8 vs)

members-utf8 : (ms : List (String Global × Known)) → MembersHaveUtf8 (members_of (map (λ (m : String Global × Value). (m.0, view m.1)) (map (λ (m : String Global × Known). (m.0, m.1.0)) ms)))
members-utf8 [] = tt
members-utf8 (m ∷ ms) = (IsUtf8-string_bytes m.0, m.1.1, members-utf8 ms)

layer-utf8 : (y : Value-F Known) → HasUtf8 (view_step (map-Value Value Data view (map-Value Known Value (λ (e : Known). e.0) y)))
layer-utf8 Value-F.Null = tt
layer-utf8 (Value-F.Bool b) = tt
layer-utf8 (Value-F.Number n) = tt
layer-utf8 (Value-F.String s) = IsUtf8-string_bytes s
layer-utf8 (Value-F.Array vs) = items-utf8 vs.items
layer-utf8 (Value-F.Object ms) = members-utf8 ms.entries

pub view-has-utf8 : (v : Value) → HasUtf8 (view v)
view-has-utf8 = ind-Value ViewHasUtf8 (λ x y is. subst HasUtf8 (sym (fold-roll-Value Data view_step x)) (subst (λ z. HasUtf8 (view_step (map-Value Value Data view z))) is (layer-utf8 y)))
