-- What the steps of `can_read` answer: the pairs that a pair leads to as a list, and whether it is bad.
use Rattle.std.specs.Prelude.{◌≡◌, ℕ, Bool, true, false, ◌||◌, List, [], ◌∷◌, ◌++◌, map, Option, Some, None, if◌then◌else◌, is_none, is_some, option_to_list, slice_get, ◌⊎◌}
use Rattle.spec_avro.specs.Node.{Node, EnumNode, UnionNode}
use Rattle.spec_avro.specs.declared.place.Destination.{Destination}
use Rattle.spec_avro.specs.declared.place.Destination.TheVariants.{Straight, IntoMember, Nowhere, Unmatched}
use Rattle.spec_avro.specs.Matching.{both_items, both_values, place}
use Rattle.spec_avro.specs.Options.{given}
use Rattle.spec_avro.specs.Partners.{routes}
use Rattle.spec_avro.specs.declared.place.Route.{Route}
use Rattle.spec_avro.specs.Resolution.{field_lists, lacking, symbol_in}
use Rattle.spec_avro.specs.Safety.{Pair}

abbrev pub Among : Pair → List Pair → Type 0
Among q [] = ⊥
Among q (p ∷ ps) = (q ≡ p) ⊎ Among q ps

-- ---- the pairs that a pair leads to

-- the nodes of the fields that have partners, and theirs
abbrev pub partner_pairs : List Route → List Pair
partner_pairs [] = []
partner_pairs (r ∷ routes) = given r.partner (partner_pairs routes) (λ p. (r.node, p.node) ∷ partner_pairs routes)

-- items, values and fields of two nodes
abbrev pub part_pairs : Option Node → Option Node → List Pair
part_pairs w r =
    option_to_list (both_items w r) ++ option_to_list (both_values w r)
    ++ given (field_lists w r) [] (λ p. partner_pairs (routes p.0 p.1))

-- where a datum goes straight into the reader's node, its parts; where it goes into a branch, that branch
abbrev pub placed_pairs : Destination → Option Node → Option Node → ℕ → List Pair
placed_pairs Straight wk rk w = part_pairs wk rk
placed_pairs (IntoMember position node) wk rk w = (w, node) ∷ []
placed_pairs Nowhere wk rk w = []
placed_pairs Unmatched wk rk w = []

-- each branch of a writer's union goes where the union goes
abbrev pub pairs_from : Destination → Option Node → Option Node → ℕ → ℕ → List Pair
pairs_from place (Some (UnionNode members)) rk w r = map (λ m. (m, r)) members
pairs_from place wk rk w r = placed_pairs place wk rk w

-- ---- the pairs that mismatch whatever the datum, or for some symbol

abbrev pub some_missing : List (List ℕ) → Option ℕ → List (List ℕ) → Bool
some_missing theirs default [] = false
some_missing theirs default (symbol ∷ symbols) =
    is_none (symbol_in theirs default symbol) || some_missing theirs default symbols

abbrev pub lacks_symbol : Option Node → Option Node → Bool
lacks_symbol (Some (EnumNode name symbols default)) (Some (EnumNode other theirs fallback)) =
    some_missing theirs fallback symbols
lacks_symbol _ _ = false

abbrev pub lacks_field : Option Node → Option Node → Bool
lacks_field w r = given (field_lists w r) false (λ p. is_some (lacking p.0 p.1))

abbrev pub placed_badly : Destination → Option Node → Option Node → Bool
placed_badly Straight wk rk = lacks_field wk rk || lacks_symbol wk rk
placed_badly (IntoMember position node) wk rk = false
placed_badly Nowhere wk rk = true
placed_badly Unmatched wk rk = true

abbrev pub bad_from : Destination → Option Node → Option Node → Bool
bad_from place (Some (UnionNode members)) rk = false
bad_from place wk rk = placed_badly place wk rk

-- ---- both at once

-- nothing where a pair is bad, and else the pairs that it leads to
abbrev pub unless : Bool → List Pair → Option (List Pair)
unless bad pairs = if bad then None else Some pairs

-- the parts of two nodes that match
abbrev pub part_steps : Option Node → Option Node → Option (List Pair)
part_steps w r = unless (lacks_field w r || lacks_symbol w r) (part_pairs w r)

module _ (W R : List Node) where
  unfoldable pub next_pairs : Pair → List Pair
  next_pairs p = pairs_from (place W R p.0 p.1) (slice_get W p.0) (slice_get R p.1) p.0 p.1

  unfoldable pub is_bad : Pair → Bool
  is_bad p = bad_from (place W R p.0 p.1) (slice_get W p.0) (slice_get R p.1)
