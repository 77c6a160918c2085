-- Each bad pair that is reached has a line with a mismatch.
use Rattle.std.proofs.Common.{◌≡◌, ℕ, ◌+◌, Bool, true, false, cond, List, [], ◌∷◌, slice_get, Option, Some, None, sym, ap, subst, ◌∙◌, arith}
use Rattle.std.specs.List.{AllByRecursion}
use Rattle.spec_avro.specs.Node.{Node, FieldNode}
use Rattle.spec_avro.specs.WellFormed.{IsWellFormed, is_union}
use Rattle.spec_avro.specs.declared.mismatch.MismatchKind.{MismatchKind}
use Rattle.spec_avro.specs.declared.mismatch.MismatchKind.TheVariants.{NoMatch, NoBranch, NoDefault, NoSymbol}
use Rattle.spec_avro.specs.Matching.{place}
use Rattle.spec_avro.specs.Options.{given}
use Rattle.spec_avro.specs.Partners.{PartnersAreApart, routes}
use Rattle.spec_avro.specs.declared.place.Destination.TheVariants.{Nowhere, Unmatched}
use Rattle.spec_avro.specs.Resolution.{field_lists, lacking, lacks, symbol_at, symbol_for}
use Rattle.spec_avro.specs.Safety.{GoesStraight, IsBad, Pair, Reached, is_enum, no_branch, no_default, no_match, no_symbol}
use Rattle.schema_explain.specs.Arrivals.{fate_in, straight}
use Rattle.schema_explain.specs.Explanation.{roots}
use Rattle.schema_explain.specs.Lines as claims
use Rattle.schema_explain.specs.Lines.{EachBadPairHasALine, HasMismatchAt, IsLineOf, SomeLine}
use Rattle.schema_explain.specs.Parts.{absent_line, dropped, due, field_entries, source, symbol_line}
use Rattle.schema_explain.specs.declared.arrivals.Arrival.{Arrival}
use Rattle.schema_explain.specs.declared.entries.Entry.TheVariants.{Ready, Due}
use Rattle.schema_explain.specs.declared.entries.Whole.{Whole}
use Rattle.schema_explain.specs.declared.line.Fate.TheVariants.{Default, Mismatch}
use Rattle.schema_explain.specs.declared.line.Line.{Line}
use Rattle.schema_explain.specs.declared.line.Part.TheVariants.{Field}
use Rattle.schema_explain.proofs.Arriving.{arrival_at_place, arrival_straight}
use Rattle.schema_explain.proofs.Complete.{Complete, ShownEntry, complete}
use Rattle.schema_explain.proofs.Finding.{all_front, field_there, fields_are_parts, fields_have_parts}
use Rattle.schema_explain.proofs.Lacking.{enums_have_parts, lacking_one, lacks_default, lacks_partner, missing_there, no_source}
use Rattle.schema_explain.proofs.Whole.{explained_at, map_lines, reached_line, reached_shown}

module _ (W R : List Node) (formed : IsWellFormed W) (reader_formed : IsWellFormed R) (apart : PartnersAreApart) (lines : List Line) (c : Complete W R (Due roots ∷ []) [] lines) where
  -- the line of the pair itself, where it mismatches whatever the datum
  pub record IsLineWith (kind : MismatchKind) (w r : ℕ) (line : Line) : Type 0 where
    pub writer : line.writer ≡ Some w
    pub reader : line.reader ≡ Some r
    pub fate : line.fate ≡ Mismatch kind

  pub unmatched_line : (w r : ℕ) → Reached W R (w, r) → is_union (slice_get W w) ≡ false → place W R w r ≡ Unmatched → SomeLine (IsLineWith NoMatch w r) lines
  unmatched_line w r reach u is =
      let to = arrival_at_place W R w r Unmatched u is in
      map_lines (IsLineOf W R (w, r)) (IsLineWith NoMatch w r) lines
      (λ line l. record { writer = l.writer; reader = l.reader ∙ ap (λ (a : Arrival). Some a.node) to; fate = l.fate ∙ ap (λ (a : Arrival). a.fate) to })
      (reached_line W R formed reader_formed apart lines c (w, r) reach)

  pub nowhere_line : (w r : ℕ) → Reached W R (w, r) → is_union (slice_get W w) ≡ false → place W R w r ≡ Nowhere → SomeLine (IsLineWith NoBranch w r) lines
  nowhere_line w r reach u is =
      let to = arrival_at_place W R w r Nowhere u is in
      map_lines (IsLineOf W R (w, r)) (IsLineWith NoBranch w r) lines
      (λ line l. record { writer = l.writer; reader = l.reader ∙ ap (λ (a : Arrival). Some a.node) to; fate = l.fate ∙ ap (λ (a : Arrival). a.fate) to })
      (reached_line W R formed reader_formed apart lines c (w, r) reach)

  -- the line of the first field that lacks
  pub record HasAbsentLine (w r : ℕ) (ws rs : List FieldNode) (g : FieldNode) : Type 0 where
    pub depth : ℕ
    pub k : ℕ
    pub at : slice_get rs k ≡ Some g
    pub lacking : lacks (routes ws rs) (0 + k) g ≡ true
    pub line : SomeLine (λ l. l ≡ absent_line (record { depth = depth; writer = w; reader = r }) (0 + k) g) lines

  pub lacking_line : (w r : ℕ) (ws rs : List FieldNode) (g : FieldNode) → Reached W R (w, r) → GoesStraight W R w r → field_lists (slice_get W w) (slice_get R r) ≡ Some (ws, rs) → lacking ws rs ≡ Some g → HasAbsentLine w r ws rs g
  lacking_line w r ws rs g reach s lists lack =
      let shown = reached_shown W R formed reader_formed apart lines c (w, r) reach in
      let a = explained_at W R formed reader_formed apart lines c (w, r) (straight r (fate_in (slice_get W w) (slice_get R r))) (arrival_straight W R w r s) (fields_have_parts (slice_get W w) (slice_get R r) ws rs lists) shown in
      let whole : Whole = record { depth = a.depth; writer = w; reader = r } in
      let P = ShownEntry W R lines c.final in
      let f = lacking_one (routes ws rs) 0 rs g lack in
      let all = subst (AllByRecursion P) (fields_are_parts whole (slice_get W w) (slice_get R r) ws rs lists) a.parts in
      let there = field_there P whole (routes ws rs) 0 f.k rs g f.at (all_front P (field_entries whole (routes ws rs) 0 rs) (dropped whole 0 (routes ws rs)) all) in
      let none : source (0 + f.k) 0 (routes ws rs) ≡ None = no_source (0 + f.k) 0 (routes ws rs) (lacks_partner (routes ws rs) (0 + f.k) g f.lacking) in
      record {
        depth = a.depth;
        k = f.k;
        at = f.at;
        lacking = f.lacking;
        line = subst (λ (o : Option (ℕ × ℕ)). P (given o (Ready (absent_line whole (0 + f.k) g)) (λ s. due whole (Field (Some s.0) (Some (0 + f.k))) s.1 g.node))) none there;
      }

  -- the line of a symbol that is missing
  pub missing_line : (w r i : ℕ) (symbol : List ℕ) → Reached W R (w, r) → GoesStraight W R w r → symbol_at (slice_get W w) i ≡ Some symbol → is_enum (slice_get R r) ≡ true → symbol_for (slice_get R r) symbol ≡ None
      → (depth : ℕ) × SomeLine (λ l. l ≡ symbol_line (record { depth = depth; writer = w; reader = r }) i (Mismatch NoSymbol)) lines
  missing_line w r i symbol reach s at is none =
      let shown = reached_shown W R formed reader_formed apart lines c (w, r) reach in
      let a = explained_at W R formed reader_formed apart lines c (w, r) (straight r (fate_in (slice_get W w) (slice_get R r))) (arrival_straight W R w r s) (enums_have_parts (slice_get W w) (slice_get R r) i symbol at is) shown in
      let whole : Whole = record { depth = a.depth; writer = w; reader = r } in
      (a.depth, missing_there (ShownEntry W R lines c.final) whole (slice_get W w) (slice_get R r) i symbol at is none a.parts)

  bad_line : (p : Pair) → Reached W R p → IsBad W R p → SomeLine (HasMismatchAt W R p) lines
  bad_line p reach (no_match {w = w} {r = r} u is) =
      map_lines (IsLineWith NoMatch w r) (HasMismatchAt W R (w, r)) lines (λ line l. record { kind = NoMatch; fate = l.fate; at = claims.no_match l.writer l.reader }) (unmatched_line w r reach u is)
  bad_line p reach (no_branch {w = w} {r = r} u is) =
      map_lines (IsLineWith NoBranch w r) (HasMismatchAt W R (w, r)) lines (λ line l. record { kind = NoBranch; fate = l.fate; at = claims.no_branch l.writer l.reader }) (nowhere_line w r reach u is)
  bad_line p reach (no_default {w = w} {r = r} ws rs g s lists lack) =
      let f = lacking_line w r ws rs g reach s lists lack in
      let first : 0 + f.k ≡ f.k = omega arith in
      let undefaulted = lacks_default (routes ws rs) (0 + f.k) g f.lacking in
      map_lines (λ l. l ≡ absent_line (record { depth = f.depth; writer = w; reader = r }) (0 + f.k) g) (HasMismatchAt W R (w, r)) lines (λ l same. record {
        kind = NoDefault;
        fate = ap (λ (l : Line). l.fate) same ∙ ap (λ (b : Bool). cond b (Mismatch NoDefault) Default) undefaulted;
        at = claims.no_default f.k ws rs g lists f.at (ap (λ (n : ℕ). lacks (routes ws rs) n g) (sym first) ∙ f.lacking) (ap (λ (l : Line). l.part) same ∙ ap (λ (n : ℕ). Field None (Some n)) first) (ap (λ (l : Line). l.writer) same ∙ ap (λ (b : Bool). cond b (Some w) None) undefaulted) (ap (λ (l : Line). l.reader) same);
      }) f.line
  bad_line p reach (no_symbol {w = w} {r = r} i symbol s at is none) =
      let f = missing_line w r i symbol reach s at is none in
      map_lines (λ l. l ≡ symbol_line (record { depth = f.0; writer = w; reader = r }) i (Mismatch NoSymbol)) (HasMismatchAt W R (w, r)) lines (λ l same. record {
        kind = NoSymbol;
        fate = ap (λ (l : Line). l.fate) same;
        at = claims.no_symbol i symbol at none (ap (λ (l : Line). l.part) same) (ap (λ (l : Line). l.writer) same) (ap (λ (l : Line). l.reader) same);
      }) f.1

pub each_bad_has_a_line : (W R : List Node) → IsWellFormed W → IsWellFormed R → PartnersAreApart → EachBadPairHasALine W R
each_bad_has_a_line W R formed reader_formed apart lines p is reach bad = bad_line W R formed reader_formed apart lines (complete W R (Due roots ∷ []) [] lines is) p reach bad
