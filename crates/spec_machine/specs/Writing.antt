-- X(w, r): the code that reads a datum of the writer's node w and writes what the reader's node r makes of it. This
-- project's own.
use Rattle.std.specs.Prelude.{ℕ, zero, suc, pos, Bool, true, false, List, [], ◌∷◌, ◌++◌, length, map, Option, Some, None, if◌then◌else◌, slice_get}
use Rattle.spec_avro.specs.Shortest.{shortest}
use Rattle.spec_avro.specs.Node.{Node, FieldNode, NullNode, BooleanNode, IntNode, LongNode, BytesNode, TextNode, FixedNode, EnumNode, ArrayNode, MapNode, UnionNode, RecordNode}
use Rattle.spec_avro.specs.Writing.{written}
use Rattle.spec_avro.specs.declared.mismatch.MismatchKind.TheVariants as kinds
use Rattle.spec_avro.specs.declared.place.Route.{Route}
use Rattle.spec_avro.specs.declared.place.Destination.{Destination}
use Rattle.spec_avro.specs.declared.place.Destination.TheVariants.{Straight, IntoMember, Nowhere, Unmatched}
use Rattle.spec_avro.specs.Matching.{both_items, both_values, place}
use Rattle.spec_avro.specs.Options.{given}
use Rattle.spec_avro.specs.Partners.{has_partner, routes}
use Rattle.spec_avro.specs.Resolution.{symbol_for, field_lists, lacking}
use Rattle.spec_machine.specs.declared.instr.Instr.TheVariants as op
use Rattle.spec_machine.specs.Statements.{Statement, Op, Put, Miss, BytesText, Enum, Call, Lost, Target, To, Lacks, Section, Main, Write, Skip, branched, looped, miss}
use Rattle.spec_machine.specs.Skipping.{K, skip_routine}

-- what a symbol becomes: its position with the reader, or a miss
abbrev pub target : ℕ → ℕ → Option Node → List ℕ → Target
target w r reader symbol = given (symbol_for reader symbol) (Lacks (miss kinds.NoSymbol w r)) To

abbrev pub is_text : Option Node → Bool
is_text (Some TextNode) = true
is_text _ = false

-- ---- defaults: SLOT j and PUT for each of the reader's fields without a partner, whose default's written form is
-- not empty

abbrev pub put_in : ℕ → List ℕ → List Statement
put_in j [] = []
put_in j (b ∷ bytes) = Op (op.Slot j) ∷ Put (b ∷ bytes) ∷ []

abbrev pub default_bytes : List Route → ℕ → FieldNode → List ℕ
default_bytes routes j g = if has_partner j routes then [] else given g.default [] written

abbrev pub defaults_code : List Route → ℕ → List FieldNode → List Statement
defaults_code routes j [] = []
defaults_code routes j (g ∷ fields) = put_in j (default_bytes routes j g) ++ defaults_code routes (suc j) fields

module _ (W R : List Node) where
  -- records: where a default is missing MISS NoDefault and K(w), and else CALL of the routine of (w, r)
  abbrev pub record_code : ℕ → ℕ → Option FieldNode → List Statement
  record_code w r (Some g) = Miss (miss kinds.NoDefault w g.node) ∷ K W w
  record_code w r None = Call (Write w r) ∷ []

  -- nodes that match, neither a union
  abbrev pub straight_node : (ℕ → ℕ → List Statement) → ℕ → ℕ → Option Node → Option Node → List Statement
  straight_node X w r (Some NullNode) reader = []
  straight_node X w r (Some BooleanNode) reader = Op op.Bool ∷ []
  straight_node X w r (Some IntNode) reader = Op op.Int ∷ []
  straight_node X w r (Some LongNode) reader = Op op.Long ∷ []
  straight_node X w r (Some BytesNode) reader =
      (if is_text reader then BytesText (miss kinds.BytesNotText w r) else Op op.Bytes) ∷ []
  straight_node X w r (Some TextNode) reader = Op op.Text ∷ []
  straight_node X w r (Some (FixedNode names size)) reader = Op (op.Fixed size) ∷ []
  straight_node X w r (Some (EnumNode names symbols default)) reader = Enum (map (target w r reader) symbols) ∷ []
  straight_node X w r (Some (ArrayNode item)) reader =
      given (both_items (Some (ArrayNode item)) reader) (Lost ∷ []) (λ p. Op op.Blocks ∷ looped op.Next (X p.0 p.1))
  straight_node X w r (Some (MapNode value)) reader =
      given (both_values (Some (MapNode value)) reader) (Lost ∷ [])
      (λ p. Op op.Blocks ∷ looped op.Next (Op op.Text ∷ X p.0 p.1))
  straight_node X w r (Some (RecordNode names fields)) reader =
      given (field_lists (Some (RecordNode names fields)) reader) (Lost ∷ []) (λ p. record_code w r (lacking p.0 p.1))
  straight_node X w r (Some (UnionNode members)) reader = Lost ∷ []
  straight_node X w r None reader = Lost ∷ []

  -- r is a union: where member j is the first that matches, PUT of its position and X(w, j); where none matches, MISS
  -- NoBranch and K(w); no union and no match: MISS NoMatch and K(w)
  abbrev pub placed_node : (ℕ → ℕ → List Statement) → ℕ → ℕ → Destination → List Statement
  placed_node X w r (IntoMember j member) =
      Put (shortest (pos j)) ∷ straight_node X w member (slice_get W w) (slice_get R member)
  placed_node X w r Nowhere = Miss (miss kinds.NoBranch w r) ∷ K W w
  placed_node X w r Unmatched = Miss (miss kinds.NoMatch w r) ∷ K W w
  placed_node X w r Straight = straight_node X w r (slice_get W w) (slice_get R r)

  -- w is a union: BRANCH t and X(member, r) for each member; this goes first
  abbrev pub write_node : (ℕ → ℕ → List Statement) → ℕ → ℕ → Option Node → List Statement
  write_node X w r (Some (UnionNode members)) = branched (map (λ member. X member r) members)
  write_node X w r _ = placed_node X w r (place W R w r)

  -- arrays, maps and unions of the writer hold each other at most n deep
  unfoldable pub write_within : ℕ → ℕ → ℕ → List Statement
  write_within zero w r = Lost ∷ []
  write_within (suc n) w r = write_node (write_within n) w r (slice_get W w)

  abbrev pub X : ℕ → ℕ → List Statement
  X w r = write_within (suc (length W)) w r

  -- ---- routines

  -- for each of w's fields, in order: SLOT j and X where the partner is r's field j, else K
  abbrev pub field_code : Route → List Statement
  field_code route = given route.partner (K W route.node) (λ p. Op (op.Slot p.position) ∷ X route.node p.node)

  abbrev pub fields_code : List Route → List Statement
  fields_code [] = []
  fields_code (route ∷ routes) = field_code route ++ fields_code routes

  -- RECORD with the number of r's fields, the fields, the defaults, ENDREC and RET
  abbrev pub write_routine : List FieldNode → List FieldNode → List Statement
  write_routine fs gs =
      Op (op.Record (length gs)) ∷ (fields_code (routes fs gs)
      ++ (defaults_code (routes fs gs) 0 gs ++ Op op.EndRecord ∷ Op op.Return ∷ []))

  unfoldable pub section : Section → List Statement
  section Main = X 0 0 ++ Op op.Halt ∷ []
  section (Write w r) = given (field_lists (slice_get W w) (slice_get R r)) (Lost ∷ []) (λ p. write_routine p.0 p.1)
  section (Skip w) = skip_routine W (slice_get W w)
