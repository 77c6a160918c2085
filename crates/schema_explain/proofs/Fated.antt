-- Data become what the fates of their pairs say.
use Rattle.std.proofs.Common.{◌≡◌, ℕ, Bool, true, false, cond, List, length, ℤ, slice_get, Option, Some, Ok, refl, sym, ap, subst, ◌∙◌}
use Rattle.std.specs.Str.{is_utf8}
use Rattle.spec_avro.specs.Node.{Node, NullNode, BooleanNode, IntNode, LongNode, BytesNode, TextNode, FixedNode, EnumNode, ArrayNode, MapNode, UnionNode, RecordNode}
use Rattle.spec_avro.specs.WellFormed.{is_union, IsWellFormed}
use Rattle.spec_avro.specs.Datum.{Datum, NullDatum, BooleanDatum, IntDatum, LongDatum, BytesDatum, TextDatum, FixedDatum, EnumDatum, ArrayDatum, MapDatum, UnionDatum, RecordDatum}
use Rattle.spec_avro.specs.declared.mismatch.MismatchKind.{MismatchKind}
use Rattle.spec_avro.specs.declared.mismatch.MismatchKind.TheVariants.{NoMatch, NoBranch, BytesNotText}
use Rattle.spec_avro.specs.declared.place.Destination.{Destination}
use Rattle.spec_avro.specs.declared.place.Destination.TheVariants.{Straight, IntoMember, Nowhere, Unmatched}
use Rattle.spec_avro.specs.Matching.{matches, place, place_at}
use Rattle.resolver.proofs.Fitting.{is_a_union, node_fits}
use Rattle.resolver.proofs.Members.{never_else, no_union_at}
use Rattle.spec_avro.specs.Resolution.{Resolved, ◌>>=◌, bytes_for, int_for, mismatch, placed, resolved, text_for}
use Rattle.schema_explain.specs.Arrivals.{arrival, fate_in, placed_at}
use Rattle.schema_explain.specs.Becoming.{BecomesAsFated, FatesAreMet, promoted}
use Rattle.schema_explain.specs.declared.line.Fate.{Fate}
use Rattle.schema_explain.specs.declared.line.Fate.TheVariants.{Copied, Promoted, PromotedIfText, Parts}
use Rattle.schema_explain.proofs.Arriving.{arrival_at_place, arrival_of_union, branch_straight}
use Rattle.schema_explain.proofs.GoodParts.{never_mismatched}
use Rattle.resolver.specs.Laws.Plain.{straight_if}

-- what a fate says of the value that a datum has in a node of the reader
pub record Says (f : Fate) (w node : ℕ) (d : Datum) (v : Resolved Datum) : Type 0 where
  pub copied : f ≡ Copied → v ≡ Ok d
  pub promotes : f ≡ Promoted → v ≡ Ok (promoted d)
  pub if_text : (bytes : List ℕ) → d ≡ BytesDatum bytes → f ≡ PromotedIfText → v ≡ cond (is_utf8 bytes) (Ok (TextDatum bytes)) (mismatch BytesNotText w node)

text_there : (b : Bool) (position w node : ℕ) (bytes : List ℕ) → (cond b (Ok (TextDatum bytes)) (mismatch BytesNotText w node) >>= λ e. Ok (UnionDatum position e)) ≡ cond b (Ok (UnionDatum position (TextDatum bytes))) (mismatch BytesNotText w node)
text_there true position w node bytes = refl
text_there false position w node bytes = refl

-- parts are explained by themselves
of_parts : (f : Fate) (w node : ℕ) (d : Datum) (v : Resolved Datum) → f ≡ Parts → Says f w node d v
of_parts f w node d v e = record { copied = λ c. absurd (let clash : Parts ≡ Copied = sym e ∙ c in cc); promotes = λ c. absurd (let clash : Parts ≡ Promoted = sym e ∙ c in cc); if_text = λ bytes is c. absurd (let clash : Parts ≡ PromotedIfText = sym e ∙ c in cc) }

always_copied : (w node : ℕ) (d : Datum) → Says Copied w node d (Ok d)
always_copied w node d = record { copied = λ c. refl; promotes = λ c. absurd cc; if_text = λ bytes is c. absurd cc }

int_says : (o : Option Node) (w node : ℕ) (n : ℤ) → Says (fate_in (Some IntNode) o) w node (IntDatum n) (Ok (int_for o (IntDatum n)))
int_says (Some LongNode) w node n = record { copied = λ c. absurd cc; promotes = λ c. refl; if_text = λ bytes is c. absurd cc }
int_says o w node n = always_copied w node (IntDatum n)

text_says : (o : Option Node) (w node : ℕ) (text : List ℕ) → Says (fate_in (Some TextNode) o) w node (TextDatum text) (Ok (text_for o text))
text_says (Some BytesNode) w node text = record { copied = λ c. absurd cc; promotes = λ c. refl; if_text = λ bytes is c. absurd cc }
text_says o w node text = always_copied w node (TextDatum text)

bytes_same : (a b : List ℕ) → BytesDatum a ≡ BytesDatum b → a ≡ b
bytes_same a b e = cc

bytes_says : (o : Option Node) (w node : ℕ) (bytes : List ℕ) → Says (fate_in (Some BytesNode) o) w node (BytesDatum bytes) (bytes_for o w node bytes)
bytes_says (Some TextNode) w node bytes = record {
  copied = λ c. absurd cc;
  promotes = λ c. absurd cc;
  if_text = λ other is c. ap (λ (x : List ℕ). cond (is_utf8 x) (Ok (TextDatum x)) (mismatch BytesNotText w node)) (bytes_same bytes other is);
}
bytes_says o w node bytes = always_copied w node (BytesDatum bytes)

module _ (W R : List Node) (formed : IsWellFormed R) where
  no_union : (w r : ℕ) → place W R w r ≡ Straight → is_union (slice_get R r) ≡ false
  no_union w r e = by_union (is_union (slice_get R r)) refl where
    by_union : (b : Bool) → is_union (slice_get R r) ≡ b → b ≡ false
    by_union false is = refl
    by_union true is = let u = is_a_union (slice_get R r) is in absurd (never_else (matches W R w) 0 u.0 Straight (sym (ap (λ (o : Option Node). place_at (matches W R w) o r) u.1) ∙ e) refl)

  matched : (w r : ℕ) → place W R w r ≡ Straight → matches W R w r ≡ true
  matched w r e = straight_if (matches W R w r) (sym (no_union_at (matches W R w) (slice_get R r) r (no_union w r e)) ∙ e)

  -- a datum of a node that is no union, by its place
  module _ (w r : ℕ) (k : Node) (d : Datum) (value : ℕ → Resolved Datum) (at : slice_get W w ≡ Some k) (plain : is_union (Some k) ≡ false)
      (is : resolved W R w r d ≡ placed (place W R w r) w r value)
      (each : (node : ℕ) → place W R w node ≡ Straight → Says (fate_in (Some k) (slice_get R node)) w node d (value node)) where
    u : is_union (slice_get W w) ≡ false
    u = ap is_union at ∙ plain

    arrives : (x : Destination) → place W R w r ≡ x → arrival W R w r ≡ placed_at R x (Some k) r
    arrives x e = arrival_at_place W R w r x u e ∙ ap (λ (o : Option Node). placed_at R x o r) at

    made : (x : Destination) → place W R w r ≡ x → resolved W R w r d ≡ placed x w r value
    made x e = is ∙ ap (λ (y : Destination). placed y w r value) e

    met : (x : Destination) → place W R w r ≡ x → BecomesAsFated W R w r d (placed_at R x (Some k) r)
    met Straight e =
        let s = each r e in
        record {
          copied = λ c. made Straight e ∙ s.copied c;
          promotes = λ c. made Straight e ∙ s.promotes c;
          if_text = λ bytes b c. made Straight e ∙ s.if_text bytes b c;
          mismatches = λ kind c. absurd (never_mismatched (Some k) (slice_get R r) kind c);
        }
    met (IntoMember position node) e =
        let s = each node (branch_straight W R formed w r position node e) in
        record {
          copied = λ c. made (IntoMember position node) e ∙ ap (λ (v : Resolved Datum). v >>= λ x. Ok (UnionDatum position x)) (s.copied c);
          promotes = λ c. made (IntoMember position node) e ∙ ap (λ (v : Resolved Datum). v >>= λ x. Ok (UnionDatum position x)) (s.promotes c);
          if_text = λ bytes b c. made (IntoMember position node) e ∙ ap (λ (v : Resolved Datum). v >>= λ x. Ok (UnionDatum position x)) (s.if_text bytes b c) ∙ text_there (is_utf8 bytes) position w node bytes;
          mismatches = λ kind c. absurd (never_mismatched (Some k) (slice_get R node) kind c);
        }
    met Nowhere e = record {
      copied = λ c. absurd cc;
      promotes = λ c. absurd cc;
      if_text = λ bytes b c. absurd cc;
      mismatches = λ kind c. made Nowhere e ∙ ap (λ (x : MismatchKind). mismatch {A = Datum} x w r) (let same : NoBranch ≡ kind = cc in same);
    }
    met Unmatched e = record {
      copied = λ c. absurd cc;
      promotes = λ c. absurd cc;
      if_text = λ bytes b c. absurd cc;
      mismatches = λ kind c. made Unmatched e ∙ ap (λ (x : MismatchKind). mismatch {A = Datum} x w r) (let same : NoMatch ≡ kind = cc in same);
    }

    pub placed_met : BecomesAsFated W R w r d (arrival W R w r)
    placed_met = subst (BecomesAsFated W R w r d) (sym (arrives (place W R w r) refl)) (met (place W R w r) refl)

  union_met : (w r : ℕ) (d : Datum) (members : List ℕ) → slice_get W w ≡ Some (UnionNode members) → BecomesAsFated W R w r d (arrival W R w r)
  union_met w r d members at = subst (BecomesAsFated W R w r d) (sym (arrival_of_union W R w r members at)) (record { copied = λ c. absurd cc; promotes = λ c. absurd cc; if_text = λ bytes b c. absurd cc; mismatches = λ kind c. absurd cc })

  pub fates_are_met : FatesAreMet W R
  unfolding resolved
  fates_are_met w r NullDatum is = placed_met w r NullNode NullDatum (λ node. Ok NullDatum) is refl refl (λ node s. always_copied w node NullDatum)
  fates_are_met w r (BooleanDatum b) is = placed_met w r BooleanNode (BooleanDatum b) (λ node. Ok (BooleanDatum b)) is refl refl (λ node s. always_copied w node (BooleanDatum b))
  fates_are_met w r (IntDatum n) is = placed_met w r IntNode (IntDatum n) (λ node. Ok (int_for (slice_get R node) (IntDatum n))) is.0 refl refl (λ node s. int_says (slice_get R node) w node n)
  fates_are_met w r (LongDatum n) is = placed_met w r LongNode (LongDatum n) (λ node. Ok (LongDatum n)) is.0 refl refl (λ node s. always_copied w node (LongDatum n))
  fates_are_met w r (BytesDatum bytes) is = placed_met w r BytesNode (BytesDatum bytes) (λ node. bytes_for (slice_get R node) w node bytes) is refl refl (λ node s. bytes_says (slice_get R node) w node bytes)
  fates_are_met w r (TextDatum text) is = placed_met w r TextNode (TextDatum text) (λ node. Ok (text_for (slice_get R node) text)) is.0 refl refl (λ node s. text_says (slice_get R node) w node text)
  fates_are_met w r (FixedDatum bytes) is = placed_met w r (FixedNode is.0 (length bytes)) (FixedDatum bytes) (λ node. Ok (FixedDatum bytes)) is.1 refl refl (λ node s. always_copied w node (FixedDatum bytes))
  fates_are_met w r (EnumDatum n) is = placed_met w r (EnumNode is.0 is.1 is.2) (EnumDatum n) _ is.3 refl refl (λ node s.
      let f = node_fits W R w node (EnumNode is.0 is.1 is.2) is.3 (matched w node s) (no_union w node s) in
      of_parts _ w node (EnumDatum n) _ (ap (fate_in (Some (EnumNode is.0 is.1 is.2))) f.3))
  fates_are_met w r (ArrayDatum ds) is = placed_met w r (ArrayNode is.0) (ArrayDatum ds) _ is.1 refl refl (λ node s.
      let f = node_fits W R w node (ArrayNode is.0) is.1 (matched w node s) (no_union w node s) in
      of_parts _ w node (ArrayDatum ds) _ (ap (fate_in (Some (ArrayNode is.0))) f.1))
  fates_are_met w r (MapDatum ps) is = placed_met w r (MapNode is.0) (MapDatum ps) _ is.1 refl refl (λ node s.
      let f = node_fits W R w node (MapNode is.0) is.1 (matched w node s) (no_union w node s) in
      of_parts _ w node (MapDatum ps) _ (ap (fate_in (Some (MapNode is.0))) f.1))
  fates_are_met w r (RecordDatum ds) is = placed_met w r (RecordNode is.0 is.1) (RecordDatum ds) _ is.2 refl refl (λ node s.
      let f = node_fits W R w node (RecordNode is.0 is.1) is.2 (matched w node s) (no_union w node s) in
      of_parts _ w node (RecordDatum ds) _ (ap (fate_in (Some (RecordNode is.0 is.1))) f.2))
  fates_are_met w r (UnionDatum n d) is = union_met w r (UnionDatum n d) is.0 is.1
