-- What is read where there is no union, and the bytes of what resolution makes of it.
use Rattle.std.proofs.Common.{◌≡◌, ℕ, Bool, true, false, cond, List, ◌++◌, Option, Some, None, Ok, Err, refl, sym, ap, slice_get, pos, ℤ}
use Rattle.spec_avro.specs.declared.meter.Meter.{Meter}
use Rattle.spec_decoding.specs.Decoding.{Complete}
use Rattle.spec_decoding.specs.Opening.{opened_record}
use Rattle.spec_avro.specs.Shortest.{shortest}
use Rattle.spec_avro.specs.Written.{after_length}
use Rattle.avro_bytes.specs.Laws.Binds.{complete_is, then_complete}
use Rattle.spec_avro.specs.Datum.{Datum, Data, IntDatum, TextDatum, UnionDatum, RecordDatum}
use Rattle.spec_avro.specs.Node.{Node, Names, FieldNode, NullNode, BooleanNode, IntNode, LongNode, BytesNode, TextNode, FixedNode, EnumNode, ArrayNode, MapNode, UnionNode, RecordNode}
use Rattle.spec_avro.specs.WellFormed.{is_union}
use Rattle.avro_datum.specs.Decoding.{Decoder, closed_record, fields_at, plain_at, record_at}
use Rattle.spec_avro.specs.Writing.{written}
use Rattle.avro_datum.specs.Laws.Parts.{inside_complete, mapped}
use Rattle.spec_avro.specs.declared.mismatch.MismatchKind.TheVariants as kinds
use Rattle.resolver.specs.Laws.Placed.{is_union_datum}
use Rattle.spec_avro.specs.Resolution.{Resolved, ◌>>=◌, bytes_for, int_for, lacking, mismatch, text_for}
use Rattle.resolver.specs.Steps.{inside}
use Rattle.spec_machine.specs.Statements.{miss as why_not}
use Rattle.spec_machine.specs.Writing.{is_text}
use Rattle.program_correctness.proofs.Effects.{bytes_of}

pub record_read : (decoder : Decoder) (fields : List FieldNode) (at to : ℕ) (m n : Meter) (d : Datum) → record_at decoder fields at m ≡ Complete d to n → (ds : Data) × (d ≡ RecordDatum ds)
record_read decoder fields at to m n d e =
    let i = inside_complete (opened_record at m) _ d to n e in
    let t = then_complete (fields_at decoder fields at i.0) (closed_record m.depth) d to n i.2 in
    (t.first, sym (complete_is t.next_is).0)

pub no_union_read : (decoder : Decoder) (p : List ℕ) (o : Option Node) (at to : ℕ) (m n : Meter) (d : Datum) → is_union o ≡ false → plain_at decoder p o at m ≡ Complete d to n → is_union_datum d ≡ false
no_union_read decoder p None at to m n d u e = absurd cc
no_union_read decoder p (Some NullNode) at to m n d u e = ap is_union_datum (sym (complete_is e).0)
no_union_read decoder p (Some BooleanNode) at to m n d u e = ap is_union_datum (mapped _ _ d to n e).2
no_union_read decoder p (Some IntNode) at to m n d u e = ap is_union_datum (mapped _ _ d to n e).2
no_union_read decoder p (Some LongNode) at to m n d u e = ap is_union_datum (mapped _ _ d to n e).2
no_union_read decoder p (Some BytesNode) at to m n d u e = ap is_union_datum (mapped _ _ d to n e).2
no_union_read decoder p (Some TextNode) at to m n d u e = ap is_union_datum (mapped _ _ d to n e).2
no_union_read decoder p (Some (FixedNode names size)) at to m n d u e = ap is_union_datum (mapped _ _ d to n e).2
no_union_read decoder p (Some (EnumNode names symbols default)) at to m n d u e = ap is_union_datum (mapped _ _ d to n e).2
no_union_read decoder p (Some (ArrayNode item)) at to m n d u e = ap is_union_datum (mapped _ _ d to n e).2
no_union_read decoder p (Some (MapNode value)) at to m n d u e = ap is_union_datum (mapped _ _ d to n e).2
no_union_read decoder p (Some (UnionNode members)) at to m n d u e = absurd cc
no_union_read decoder p (Some (RecordNode names fields)) at to m n d u e = ap is_union_datum (record_read decoder fields at to m n d e).1

-- ---- bytes

-- a value in its member
pub into_bytes : (j : ℕ) (res : Resolved Datum) → (bytes_of res >>= λ y. Ok (shortest (pos j) ++ y)) ≡ bytes_of (res >>= λ e. Ok (UnionDatum j e))
unfolding written
into_bytes j (Ok e) = refl
into_bytes j (Err m) = refl

-- an int's bytes are the same where it is read as a long
pub int_bytes : (o : Option Node) (n : ℤ) → written (int_for o (IntDatum n)) ≡ shortest n
unfolding written
int_bytes None n = refl
int_bytes (Some NullNode) n = refl
int_bytes (Some BooleanNode) n = refl
int_bytes (Some IntNode) n = refl
int_bytes (Some LongNode) n = refl
int_bytes (Some BytesNode) n = refl
int_bytes (Some TextNode) n = refl
int_bytes (Some (FixedNode names size)) n = refl
int_bytes (Some (EnumNode names symbols default)) n = refl
int_bytes (Some (ArrayNode item)) n = refl
int_bytes (Some (MapNode value)) n = refl
int_bytes (Some (UnionNode members)) n = refl
int_bytes (Some (RecordNode names fields)) n = refl

-- a text's bytes are the same where it is read as bytes
pub text_bytes : (o : Option Node) (text : List ℕ) → written (text_for o text) ≡ after_length text
unfolding written
text_bytes None text = refl
text_bytes (Some NullNode) text = refl
text_bytes (Some BooleanNode) text = refl
text_bytes (Some IntNode) text = refl
text_bytes (Some LongNode) text = refl
text_bytes (Some BytesNode) text = refl
text_bytes (Some TextNode) text = refl
text_bytes (Some (FixedNode names size)) text = refl
text_bytes (Some (EnumNode names symbols default)) text = refl
text_bytes (Some (ArrayNode item)) text = refl
text_bytes (Some (MapNode value)) text = refl
text_bytes (Some (UnionNode members)) text = refl
text_bytes (Some (RecordNode names fields)) text = refl

-- bytes that stay bytes
pub plain_bytes : (o : Option Node) (w r : ℕ) (b : List ℕ) → is_text o ≡ false → bytes_of (bytes_for o w r b) ≡ Ok (after_length b)
unfolding written
plain_bytes None w r b h = refl
plain_bytes (Some NullNode) w r b h = refl
plain_bytes (Some BooleanNode) w r b h = refl
plain_bytes (Some IntNode) w r b h = refl
plain_bytes (Some LongNode) w r b h = refl
plain_bytes (Some BytesNode) w r b h = refl
plain_bytes (Some TextNode) w r b h = absurd cc
plain_bytes (Some (FixedNode names size)) w r b h = refl
plain_bytes (Some (EnumNode names symbols default)) w r b h = refl
plain_bytes (Some (ArrayNode item)) w r b h = refl
plain_bytes (Some (MapNode value)) w r b h = refl
plain_bytes (Some (UnionNode members)) w r b h = refl
plain_bytes (Some (RecordNode names fields)) w r b h = refl

-- bytes that are to be a text
pub checked_bytes : (w r : ℕ) (b : List ℕ) (ok : Bool) → bytes_of (cond ok (Ok (TextDatum b)) (mismatch kinds.BytesNotText w r)) ≡ cond ok (Ok (after_length b)) (Err (why_not kinds.BytesNotText w r))
unfolding written
checked_bytes w r b true = refl
checked_bytes w r b false = refl

-- a record that lacks a default
pub lacking_bytes : (W R : List Node) (w r : ℕ) (names others : Names) (fs gs : List FieldNode) (g : FieldNode) (ds : Data) → slice_get W w ≡ Some (RecordNode names fs) → slice_get R r ≡ Some (RecordNode others gs) → lacking fs gs ≡ Some g → bytes_of (inside W R w r (RecordDatum ds)) ≡ Err (why_not kinds.NoDefault w g.node)
unfolding inside
lacking_bytes W R w r names others fs gs g ds n k lacks = rw (n, k, lacks) refl

pub same_fields : (n m : Names) (fs gs : List FieldNode) (o : Option Node) → o ≡ Some (RecordNode n fs) → o ≡ Some (RecordNode m gs) → fs ≡ gs
same_fields n m fs gs o a b = cc
