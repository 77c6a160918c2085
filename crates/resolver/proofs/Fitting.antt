-- Which nodes of the reader match a node of the writer, where that is no union.
use Rattle.std.proofs.Common.{◌≡◌, ℕ, Bool, true, false, ◌==◌, ◌&&◌, ◌||◌, List, Option, Some, refl, sym, ap, ◌∙◌, ◌⊎◌, inl, inr, slice_get, length, arith}
use Rattle.std.proofs.lemmas.Bool.Decides.{nat_tests}
use Rattle.spec_avro.specs.Node.{Node, Names, FieldNode, NullNode, BooleanNode, IntNode, LongNode, BytesNode, TextNode, FixedNode, EnumNode, ArrayNode, MapNode, UnionNode, RecordNode}
use Rattle.spec_avro.specs.WellFormed.{is_union}
use Rattle.spec_avro.specs.Matching.{both_match, have_matching_names, matches, matches_within}

-- what a reader's node is that matches a writer's
abbrev pub Fits : Node → Option Node → Type 0
Fits NullNode o = o ≡ Some NullNode
Fits BooleanNode o = o ≡ Some BooleanNode
Fits IntNode o = (o ≡ Some IntNode) ⊎ (o ≡ Some LongNode)
Fits LongNode o = o ≡ Some LongNode
Fits BytesNode o = (o ≡ Some BytesNode) ⊎ (o ≡ Some TextNode)
Fits TextNode o = (o ≡ Some TextNode) ⊎ (o ≡ Some BytesNode)
Fits (FixedNode name size) o = (other : Names) × (o ≡ Some (FixedNode other size))
Fits (EnumNode name symbols default) o = (other : Names) × (theirs : List (List ℕ)) × (fallback : Option ℕ) × (o ≡ Some (EnumNode other theirs fallback))
Fits (ArrayNode item) o = (other : ℕ) × (o ≡ Some (ArrayNode other))
Fits (MapNode value) o = (other : ℕ) × (o ≡ Some (MapNode other))
Fits (UnionNode members) o = Unit {0}
Fits (RecordNode name fields) o = (other : Names) × (theirs : List FieldNode) × (o ≡ Some (RecordNode other theirs))

or_false : (b : Bool) → (b || false || false) ≡ true → b ≡ true
or_false true e = refl
or_false false e = e

same_size : (b : Bool) (size most : ℕ) → (b && size == most) ≡ true → size ≡ most
same_size true size most e = grind (arith, nat_tests, e)
same_size false size most e = cc

pub fits : (go : ℕ → ℕ → Bool) (k : Node) (o : Option Node) → both_match go (Some k) o ≡ true → is_union o ≡ false → Fits k o
fits go NullNode (Some NullNode) h u = refl
fits go BooleanNode (Some BooleanNode) h u = refl
fits go IntNode (Some IntNode) h u = inl refl
fits go IntNode (Some LongNode) h u = inr refl
fits go LongNode (Some LongNode) h u = refl
fits go BytesNode (Some BytesNode) h u = inl refl
fits go BytesNode (Some TextNode) h u = inr refl
fits go TextNode (Some TextNode) h u = inl refl
fits go TextNode (Some BytesNode) h u = inr refl
fits go (FixedNode n size) (Some (FixedNode m z)) h u = (m, ap (λ (x : ℕ). Some (FixedNode m x)) (sym (same_size (have_matching_names n m) size z (or_false (have_matching_names n m && size == z) h))))
fits go (EnumNode n symbols default) (Some (EnumNode m y o)) h u = (m, y, o, refl)
fits go (ArrayNode i) (Some (ArrayNode j)) h u = (j, refl)
fits go (MapNode i) (Some (MapNode j)) h u = (j, refl)
fits go (UnionNode members) o h u = tt
fits go (RecordNode n fields) (Some (RecordNode m gs)) h u = (m, gs, refl)
fits go k (Some (UnionNode ms)) h u = absurd cc
fits go k o h u = absurd cc

pub is_a_union : (o : Option Node) → is_union o ≡ true → (ms : List ℕ) × (o ≡ Some (UnionNode ms))
is_a_union (Some (UnionNode ms)) e = (ms, refl)
is_a_union o e = absurd cc

pub node_fits : (W R : List Node) (w r : ℕ) (k : Node) → slice_get W w ≡ Some k → matches W R w r ≡ true → is_union (slice_get R r) ≡ false → Fits k (slice_get R r)
unfolding matches_within
node_fits W R w r k at h u = fits (matches_within W R (length W)) k (slice_get R r) (sym (ap (λ (o : Option Node). both_match (matches_within W R (length W)) o (slice_get R r)) at) ∙ h) u
