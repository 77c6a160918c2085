-- What resolution makes of a datum (Avro 1.11, "Schema Resolution").
use Rattle.std.specs.Prelude.{ℕ, suc, Bool, not, ◌&&◌, List, [], ◌∷◌, map, Option, Some, None, is_none, Result, Ok, Err, if◌then◌else◌, slice_get, slice_set}
use Rattle.std.specs.Str.{is_utf8}
use Rattle.spec_avro.specs.Node.{Node, FieldNode, LongNode, BytesNode, TextNode, EnumNode, UnionNode, RecordNode}
use Rattle.spec_avro.specs.Symbols.{place_of}
use Rattle.spec_avro.specs.Datum.{Datum, Data, Pairs, NullDatum, BooleanDatum, IntDatum, LongDatum, BytesDatum, TextDatum, FixedDatum, EnumDatum, ArrayDatum, MapDatum, UnionDatum, RecordDatum, no_more, more, no_pairs, pair}
use Rattle.spec_avro.specs.declared.place.Destination.{Destination}
use Rattle.spec_avro.specs.declared.place.Destination.TheVariants.{Straight, IntoMember, Nowhere, Unmatched}
use Rattle.spec_avro.specs.declared.mismatch.Mismatch.{Mismatch}
use Rattle.spec_avro.specs.declared.mismatch.MismatchKind.{MismatchKind}
use Rattle.spec_avro.specs.declared.mismatch.MismatchKind.TheVariants.{NoMatch, NoBranch, NoSymbol, NoDefault, BytesNotText}
use Rattle.spec_avro.specs.Matching.{both_items, both_values, place}
use Rattle.spec_avro.specs.Options.{given, or_else}
use Rattle.spec_avro.specs.Partners.{has_partner, routes}
use Rattle.spec_avro.specs.declared.place.Route.{Route}

-- a value of the reader, or the first mismatch
abbrev pub Resolved : Type 0 → Type 0
Resolved A = Result A Mismatch

infixl 10 ◌>>=◌
abbrev pub ◌>>=◌ : {A B : Type 0} → Resolved A → (A → Resolved B) → Resolved B
(Ok a) >>= f = f a
(Err m) >>= f = Err m

abbrev pub mismatch : {A : Type 0} → MismatchKind → ℕ → ℕ → Resolved A
mismatch kind w r = Err (record { kind = kind; writer_node = w; reader_node = r })

-- the value in its place
abbrev pub placed : Destination → ℕ → ℕ → (ℕ → Resolved Datum) → Resolved Datum
placed Straight w r value = value r
placed (IntoMember position node) w r value = value node >>= λ e. Ok (UnionDatum position e)
placed Nowhere w r value = mismatch NoBranch w r
placed Unmatched w r value = mismatch NoMatch w r

-- "int is promotable to long"
abbrev pub int_for : Option Node → Datum → Datum
int_for (Some LongNode) (IntDatum n) = LongDatum n
int_for _ d = d

-- "string is promotable to bytes"
abbrev pub text_for : Option Node → List ℕ → Datum
text_for (Some BytesNode) text = BytesDatum text
text_for _ text = TextDatum text

-- "bytes is promotable to string", where they are UTF-8 (this project's own rule)
abbrev pub bytes_for : Option Node → ℕ → ℕ → List ℕ → Resolved Datum
bytes_for (Some TextNode) w r bytes = if is_utf8 bytes then Ok (TextDatum bytes) else mismatch BytesNotText w r
bytes_for _ w r bytes = Ok (BytesDatum bytes)

-- ---- enums: "if the writer's symbol is not present in the reader's enum and the reader has a default value, then
-- that value is used, otherwise an error is signalled"

-- the position of a symbol among others, or else the default
abbrev pub symbol_in : List (List ℕ) → Option ℕ → List ℕ → Option ℕ
symbol_in symbols default symbol = or_else (place_of symbol symbols) default

-- the symbol of a position in an enum
abbrev pub symbol_at : Option Node → ℕ → Option (List ℕ)
symbol_at (Some (EnumNode name symbols default)) n = slice_get symbols n
symbol_at _ n = None

-- the position of a symbol in an enum, or else its default
abbrev pub symbol_for : Option Node → List ℕ → Option ℕ
symbol_for (Some (EnumNode name symbols default)) symbol = symbol_in symbols default symbol
symbol_for _ symbol = None

-- ---- unions

-- the node of the branch at that position
abbrev pub member_at : Option Node → ℕ → Option ℕ
member_at (Some (UnionNode members)) n = slice_get members n
member_at _ n = None

-- ---- records

-- the fields of two records
abbrev pub field_lists : Option Node → Option Node → Option (List FieldNode × List FieldNode)
field_lists (Some (RecordNode n fs)) (Some (RecordNode m gs)) = Some (fs, gs)
field_lists _ _ = None

-- a reader's field with neither a partner nor a default
abbrev pub lacks : List Route → ℕ → FieldNode → Bool
lacks routes j g = not (has_partner j routes) && is_none g.default

-- the first such field, from a position on
abbrev pub lacking_from : List Route → ℕ → List FieldNode → Option FieldNode
lacking_from routes j [] = None
lacking_from routes j (g ∷ rs) = if lacks routes j g then Some g else lacking_from routes (suc j) rs

abbrev pub lacking : List FieldNode → List FieldNode → Option FieldNode
lacking ws rs = lacking_from (routes ws rs) 0 rs

-- "if the reader's record schema has a field with no default value, and writer's schema does not have a field with
-- the same name, an error is signalled": before its fields
abbrev pub unless_lacking : Option FieldNode → ℕ → Resolved Datum → Resolved Datum
unless_lacking None w value = value
unless_lacking (Some g) w value = mismatch NoDefault w g.node

-- a slot for each of the reader's fields, for what comes from its partner
abbrev pub Slots : Type 0
Slots = List (Option Datum)

abbrev pub no_slots : List FieldNode → Slots
no_slots rs = map (λ g. None) rs

-- the reader's fields in the reader's order, what came or else the default: "if the reader's record schema has a
-- field that contains a default value, .. then the reader should use the default value from its field"
abbrev pub filled : List FieldNode → Slots → Data
filled [] slots = no_more
filled (g ∷ rs) [] = no_more
filled (g ∷ rs) (slot ∷ slots) = given (or_else slot g.default) (filled rs slots) (λ d. more d (filled rs slots))

module _ (W R : List Node) where
  unfoldable mutual
    -- a datum of the writer's node, for the reader's node
    pub resolved : ℕ → ℕ → Datum → Resolved Datum
    resolved w r NullDatum = placed (place W R w r) w r (λ node. Ok NullDatum)
    resolved w r (BooleanDatum b) = placed (place W R w r) w r (λ node. Ok (BooleanDatum b))
    resolved w r (IntDatum n) = placed (place W R w r) w r (λ node. Ok (int_for (slice_get R node) (IntDatum n)))
    resolved w r (LongDatum n) = placed (place W R w r) w r (λ node. Ok (LongDatum n))
    resolved w r (BytesDatum bytes) = placed (place W R w r) w r (λ node. bytes_for (slice_get R node) w node bytes)
    resolved w r (TextDatum text) = placed (place W R w r) w r (λ node. Ok (text_for (slice_get R node) text))
    resolved w r (FixedDatum bytes) = placed (place W R w r) w r (λ node. Ok (FixedDatum bytes))
    resolved w r (EnumDatum n) = placed (place W R w r) w r (λ node.
        given (symbol_at (slice_get W w) n) (mismatch NoMatch w node) (λ symbol.
        given (symbol_for (slice_get R node) symbol) (mismatch NoSymbol w node) (λ m. Ok (EnumDatum m))))
    resolved w r (ArrayDatum ds) = placed (place W R w r) w r (λ node.
        given (both_items (slice_get W w) (slice_get R node)) (mismatch NoMatch w node) (λ p.
        resolved_items p.0 p.1 ds >>= λ es. Ok (ArrayDatum es)))
    resolved w r (MapDatum ps) = placed (place W R w r) w r (λ node.
        given (both_values (slice_get W w) (slice_get R node)) (mismatch NoMatch w node) (λ p.
        resolved_values p.0 p.1 ps >>= λ qs. Ok (MapDatum qs)))
    resolved w r (RecordDatum ds) = placed (place W R w r) w r (λ node.
        given (field_lists (slice_get W w) (slice_get R node)) (mismatch NoMatch w node) (λ p.
        unless_lacking (lacking p.0 p.1) w
        (resolved_fields (no_slots p.1) (routes p.0 p.1) ds >>= λ slots. Ok (RecordDatum (filled p.1 slots)))))
    -- the writer's union goes first: "the selected writer's schema" is resolved, whose place is its own
    resolved w r (UnionDatum n d) =
        given (member_at (slice_get W w) n) (mismatch NoMatch w r) (λ member. resolved member r d)

    -- items, one after another
    pub resolved_items : ℕ → ℕ → Data → Resolved Data
    resolved_items w r no_more = Ok no_more
    resolved_items w r (more d ds) = resolved w r d >>= λ e. resolved_items w r ds >>= λ es. Ok (more e es)

    -- values, each under its key
    pub resolved_values : ℕ → ℕ → Pairs → Resolved Pairs
    resolved_values w r no_pairs = Ok no_pairs
    resolved_values w r (pair key d ps) = resolved w r d >>= λ e. resolved_values w r ps >>= λ qs. Ok (pair key e qs)

    -- the writer's fields in the writer's order, each into its partner's slot; one without a partner is dropped: "if
    -- the writer's record contains a field with a name not present in the reader's record, the writer's value for
    -- that field is ignored"
    pub resolved_fields : Slots → List Route → Data → Resolved Slots
    resolved_fields slots [] ds = Ok slots
    resolved_fields slots (r ∷ routes) no_more = Ok slots
    resolved_fields slots (r ∷ routes) (more d ds) =
        given r.partner (resolved_fields slots routes ds) (λ p.
        resolved r.node p.node d >>= λ e. resolved_fields (slice_set slots p.position (Some e)) routes ds)
