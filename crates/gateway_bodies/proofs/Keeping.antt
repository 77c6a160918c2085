-- What is kept of members and of items.
use Rattle.std.proofs.Common.{◌≡◌, ℕ, zero, suc, List, Option, Some, None, option_map, option_and_then, bytes_eq, true, false, true≢false, refl, sym, ap, subst, ◌∙◌}
use Rattle.json.specs.Token.{Token}
use Rattle.json.specs.Json as json
use Rattle.json.specs.Json.{Parse, parse_map, after_end_array, items, items_step}
use Rattle.serde_json.specs.Data.{Data, array, boolean, object, Items, no_items, item, Members, put}
use Rattle.serde_json.specs.Read.{of_json, of_items, converted}
use Rattle.serde_json.proofs.Views.{get_member-put, get_member-put_other}
use Rattle.gateway_bodies.specs.Members.{IsMember, data_of, kept}
use Rattle.gateway_bodies.specs.declared.kept.Kept.{Kept}

-- the value of a key that was put
pub member_put : (key : List ℕ) (all : Members) (d : Data) (value : Kept) → data_of value ≡ kept d → IsMember key (object (put key d all)) (Some value)
member_put key all d value e = ap Some e ∙ ap (option_map kept) (sym (get_member-put key d all))

-- the value of another key
pub member_stays : (key other : List ℕ) (all : Members) (d : Data) (value : Option Kept) → (key ≡ other → ⊥) → IsMember key (object all) value
    → IsMember key (object (put other d all)) value
member_stays key other all d value apart is = is ∙ ap (option_map kept) (sym (get_member-put_other key other d all apart))

-- where the key that was put is known: it is that key, or another one
pub key_put : (key here : List ℕ) (all : Members) (d : Data) (value : Kept) → key ≡ here → data_of value ≡ kept d
    → IsMember here (object (put key d all)) (Some value)
key_put key here all d value is e =
    let P : List ℕ → Type 0 = λ k. IsMember k (object (put key d all)) (Some value) in
    subst P is (member_put key all d value e)

pub key_stays : (key here there : List ℕ) (all : Members) (d : Data) (value : Option Kept) → key ≡ here → bytes_eq here here ≡ true
    → bytes_eq here there ≡ false → IsMember there (object all) value → IsMember there (object (put key d all)) value
key_stays key here there all d value is same apart member =
    member_stays there key all d value (λ e. true≢false (sym same ∙ ap (bytes_eq here) (sym (e ∙ is)) ∙ apart)) member

-- for a proof by cases: what was read is no empty array
abbrev HasItems : Option (Items × List Token) → Type 0
HasItems None = Unit {0}
HasItems (Some (no_items, rest)) = ⊥
HasItems (Some (item d ds, rest)) = Unit {0}

with_first : (d : Data) (r : List Token) (more : Option Items) → HasItems (option_map {U = Items × List Token} (λ ds. (ds, r)) (option_map (item d) more))
with_first d r None = tt
with_first d r (Some ds) = tt

has_first : (first : Option Data) (r : List Token) (more : Option Items)
    → HasItems (option_map {U = Items × List Token} (λ ds. (ds, r)) (option_and_then (λ d. option_map (item d) more) first))
has_first None r more = tt
has_first (Some d) r more = with_first d r more

has_item : (j : json.Json) (o : Option (json.Items × List Token)) → HasItems (converted of_items (parse_map (json.item j) o))
has_item j None = tt
has_item j (Some p) = has_first (of_json j) p.1 (of_items p.0)

has_items : (more : Parse json.Items) (o : Option (json.Json × List Token))
    → HasItems (converted of_items (option_and_then (λ q. parse_map (json.item q.0) (more q.1)) o))
has_items more None = tt
has_items more (Some q) = has_item q.0 (more q.1)

items_have_one : (p : Parse json.Json) (n : ℕ) (ts : List Token) → after_end_array ts ≡ None → HasItems (converted of_items (items p n ts))
unfolding items
items_have_one p zero ts going = tt
items_have_one p (suc n) ts going =
    let P : Option (List Token) → Type 0 = λ o. HasItems (converted of_items (items_step p (items p n) ts o)) in
    subst P (sym going) (has_items (items p n) (p ts))

other_array : (ds : Items) (r : List Token) → HasItems (Some (ds, r)) → boolean false ≡ kept (array ds)
other_array no_items r has = absurd has
other_array (item d ds) r has = refl

-- an array that does not end at once has items
pub array_has_items : (p : Parse json.Json) (n : ℕ) (ts r : List Token) (ds : Items) → after_end_array ts ≡ None
    → converted of_items (items p n ts) ≡ Some (ds, r) → boolean false ≡ kept (array ds)
array_has_items p n ts r ds going is = other_array ds r (subst HasItems is (items_have_one p n ts going))
