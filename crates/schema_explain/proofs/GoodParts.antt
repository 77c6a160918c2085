-- The parts of a pair that is reached are reached, and their mismatches are at it.
use Rattle.std.proofs.Common.{◌≡◌, ℕ, suc, ◌+◌, Bool, true, false, cond, not, ◌&&◌, List, [], ◌∷◌, ◌++◌, slice_get, is_none, Option, Some, None, refl, sym, ap, subst, ◌∙◌, arith}
use Rattle.std.specs.List.{AllByRecursion}
use Rattle.spec_avro.specs.Node.{Node, Names, FieldNode, IntNode, LongNode, BytesNode, TextNode, EnumNode, ArrayNode, MapNode, UnionNode, RecordNode}
use Rattle.spec_avro.specs.Symbols.{place_of}
use Rattle.spec_avro.specs.WellFormed.{is_union}
use Rattle.spec_avro.specs.declared.mismatch.MismatchKind.{MismatchKind}
use Rattle.spec_avro.specs.declared.mismatch.MismatchKind.TheVariants.{NoDefault, NoSymbol}
use Rattle.spec_avro.specs.Matching.{both_items, both_values}
use Rattle.spec_avro.specs.Options.{given, or_else}
use Rattle.spec_avro.specs.Partners.{partners, routes}
use Rattle.spec_avro.specs.declared.place.Route.{Route}
use Rattle.spec_avro.specs.Resolution.{field_lists, lacks, symbol_at, symbol_for, symbol_in}
use Rattle.spec_avro.specs.Safety.{GoesStraight, Reached, is_enum, no_default, no_symbol, step, to_field, to_items, to_member, to_values}
use Rattle.schema_explain.specs.Arrivals.{fate_in}
use Rattle.schema_explain.specs.Lines as claims
use Rattle.schema_explain.specs.Lines.{IsAtBadPair, MismatchesAreAtBadPairs}
use Rattle.schema_explain.specs.Parts.{absent_line, branch_entries, dropped, dropped_line, due, field_entries, field_entry, parts_of, source, symbol_entries, symbol_fate, symbol_line}
use Rattle.schema_explain.specs.declared.entries.Entry.{Entry}
use Rattle.schema_explain.specs.declared.entries.Entry.TheVariants.{Ready, Due}
use Rattle.schema_explain.specs.declared.entries.Whole.{Whole}
use Rattle.schema_explain.specs.declared.line.Fate.TheVariants.{Copied, Default, Mismatch}
use Rattle.schema_explain.specs.declared.line.Line.{Line}
use Rattle.schema_explain.specs.declared.line.Part.TheVariants.{Field, Symbol}
use Rattle.schema_explain.proofs.Finding.{route_partner, source_is}
use Rattle.schema_explain.proofs.Lacking.{lacking_some, no_partner}

pub some_same : {A : Type 0} (a b : A) → Some a ≡ Some b → a ≡ b
some_same a b e = cc

pub kind_same : (x y : MismatchKind) → Mismatch x ≡ Mismatch y → x ≡ y
kind_same x y e = cc

-- what goes straight does not mismatch
pub never_mismatched : (w r : Option Node) (kind : MismatchKind) → fate_in w r ≡ Mismatch kind → ⊥
never_mismatched (Some IntNode) (Some LongNode) kind e = cc
never_mismatched (Some TextNode) (Some BytesNode) kind e = cc
never_mismatched (Some BytesNode) (Some TextNode) kind e = cc
never_mismatched (Some (ArrayNode i)) (Some (ArrayNode j)) kind e = cc
never_mismatched (Some (MapNode i)) (Some (MapNode j)) kind e = cc
never_mismatched (Some (EnumNode n symbols default)) (Some (EnumNode m theirs fallback)) kind e = cc
never_mismatched (Some (RecordNode n fs)) (Some (RecordNode m gs)) kind e = cc
never_mismatched w r kind e = cc

-- a symbol's mismatch
missing_if : (theirs : List (List ℕ)) (default : Option ℕ) (symbol : List ℕ) (kind : MismatchKind) → symbol_fate theirs default symbol ≡ Mismatch kind → (symbol_in theirs default symbol ≡ None) × (NoSymbol ≡ kind)
missing_if theirs default symbol kind e = by_place (place_of symbol theirs) default e where
  by_place : (o d : Option ℕ) → given o (given d (Mismatch NoSymbol) (λ n. Default)) (λ n. Copied) ≡ Mismatch kind → (or_else o d ≡ None) × (NoSymbol ≡ kind)
  by_place None None e = (refl, (let same : NoSymbol ≡ kind = cc in same))
  by_place None (Some n) e = absurd cc
  by_place (Some n) d e = absurd cc

-- a field's mismatch
absent_if : (b : Bool) (kind : MismatchKind) → cond b (Mismatch NoDefault) Default ≡ Mismatch kind → (b ≡ true) × (NoDefault ≡ kind)
absent_if true kind e = (refl, (let same : NoDefault ≡ kind = cc in same))
absent_if false kind e = absurd cc

module _ (W R : List Node) where
  abbrev pub GoodLine : Line → Type 0
  GoodLine line = (kind : MismatchKind) → line.fate ≡ Mismatch kind → IsAtBadPair W R kind line

  abbrev pub Good : Entry → Type 0
  Good (Ready line) = GoodLine line
  Good (Due t) = Reached W R (t.writer, t.reader)

  pub good_both : (es fs : List Entry) → AllByRecursion Good es → AllByRecursion Good fs → AllByRecursion Good (es ++ fs)
  good_both [] fs a b = b
  good_both (e ∷ es) fs a b = (a.0, good_both es fs a.1 b)

  -- ---- the parts of a pair that is reached

  branches_good : (whole : Whole) (i : ℕ) (ms : List ℕ) → ((k m : ℕ) → slice_get ms k ≡ Some m → Reached W R (m, whole.reader)) → AllByRecursion Good (branch_entries whole i ms)
  branches_good whole i [] each = tt
  branches_good whole i (m ∷ ms) each = (each 0 m refl, branches_good whole (suc i) ms (λ k n at. each (suc k) n at))

  symbols_good : (whole : Whole) (theirs : List (List ℕ)) (default : Option ℕ) (i : ℕ) (symbols : List (List ℕ))
      → ((k : ℕ) (symbol : List ℕ) → slice_get symbols k ≡ Some symbol → GoodLine (symbol_line whole (i + k) (symbol_fate theirs default symbol)))
      → AllByRecursion Good (symbol_entries whole theirs default i symbols)
  symbols_good whole theirs default i [] each = tt
  symbols_good whole theirs default i (s ∷ ss) each = (
    subst (λ (n : ℕ). GoodLine (symbol_line whole n (symbol_fate theirs default s))) (let none : i + 0 ≡ i = omega arith in none) (each 0 s refl),
    symbols_good whole theirs default (suc i) ss (λ k symbol at. subst (λ (n : ℕ). GoodLine (symbol_line whole n (symbol_fate theirs default symbol))) (let next : i + suc k ≡ suc i + k = omega arith in next) (each (suc k) symbol at)),
  )

  fields_good : (whole : Whole) (rs : List Route) (j : ℕ) (gs : List FieldNode)
      → ((k : ℕ) (g : FieldNode) → slice_get gs k ≡ Some g → Good (field_entry whole rs (j + k) g))
      → AllByRecursion Good (field_entries whole rs j gs)
  fields_good whole rs j [] each = tt
  fields_good whole rs j (g ∷ gs) each = (
    subst (λ (n : ℕ). Good (field_entry whole rs n g)) (let none : j + 0 ≡ j = omega arith in none) (each 0 g refl),
    fields_good whole rs (suc j) gs (λ k f at. subst (λ (n : ℕ). Good (field_entry whole rs n f)) (let next : j + suc k ≡ suc j + k = omega arith in next) (each (suc k) f at)),
  )

  dropped_good : (whole : Whole) (i : ℕ) (rs : List Route) → AllByRecursion Good (dropped whole i rs)
  dropped_good whole i [] = tt
  dropped_good whole i (r ∷ rs) = by_test (is_none r.partner) (dropped_good whole (suc i) rs) where
    by_test : (b : Bool) → AllByRecursion Good (dropped whole (suc i) rs) → AllByRecursion Good (cond b (Ready (dropped_line whole i r.node) ∷ dropped whole (suc i) rs) (dropped whole (suc i) rs))
    by_test true h = ((λ kind e. absurd cc), h)
    by_test false h = h

  module _ (depth w r : ℕ) (reach : Reached W R (w, r)) (goes : is_union (slice_get W w) ≡ false → GoesStraight W R w r) where
    abbrev whole : Whole
    whole = record { depth = depth; writer = w; reader = r }

    symbol_good : (n m : Names) (symbols theirs : List (List ℕ)) (default fallback : Option ℕ) → slice_get W w ≡ Some (EnumNode n symbols default) → slice_get R r ≡ Some (EnumNode m theirs fallback)
        → (k : ℕ) (symbol : List ℕ) → slice_get symbols k ≡ Some symbol → GoodLine (symbol_line whole (0 + k) (symbol_fate theirs fallback symbol))
    symbol_good n m symbols theirs default fallback ours other k symbol at kind e =
        let missing = missing_if theirs fallback symbol kind e in
        let there : symbol_at (slice_get W w) k ≡ Some symbol = ap (λ (o : Option Node). symbol_at o k) ours ∙ at in
        let none : symbol_for (slice_get R r) symbol ≡ None = ap (λ (o : Option Node). symbol_for o symbol) other ∙ missing.0 in
        let first : 0 + k ≡ k = omega arith in
        record {
          pair = (w, r);
          reached = reach;
          bad = no_symbol k symbol (goes (ap is_union ours)) there (ap is_enum other) none;
          at = subst (λ (x : MismatchKind). claims.IsMismatchAt W R x (w, r) (symbol_line whole (0 + k) (symbol_fate theirs fallback symbol))) missing.1 (claims.no_symbol k symbol there none (ap Symbol first) refl refl);
        }

    field_good : (n m : Names) (ws rs : List FieldNode) → slice_get W w ≡ Some (RecordNode n ws) → slice_get R r ≡ Some (RecordNode m rs)
        → (k : ℕ) (g : FieldNode) → slice_get rs k ≡ Some g → Good (field_entry whole (routes ws rs) (0 + k) g)
    field_good n m ws rs ours other k g at = by_source (source (0 + k) 0 (routes ws rs)) refl where
      lists : field_lists (slice_get W w) (slice_get R r) ≡ Some (ws, rs)
      lists = ap (λ (o : Option Node). field_lists o (slice_get R r)) ours ∙ ap (λ (o : Option Node). field_lists (Some (RecordNode n ws)) o) other

      first : 0 + k ≡ k
      first = omega arith

      none_by : is_none g.default ≡ true → source (0 + k) 0 (routes ws rs) ≡ None → lacks (routes ws rs) (0 + k) g ≡ true
      none_by d e = ap (λ (b : Bool). not b && is_none g.default) (no_partner (0 + k) 0 (routes ws rs) e) ∙ d

      by_source : (o : Option (ℕ × ℕ)) → source (0 + k) 0 (routes ws rs) ≡ o → Good (given o (Ready (absent_line whole (0 + k) g)) (λ s. due whole (Field (Some s.0) (Some (0 + k))) s.1 g.node))
      by_source None e = λ kind is.
          let absent = absent_if (is_none g.default) kind is in
          let lacking_here = none_by absent.0 e in
          let some = lacking_some (routes ws rs) 0 k rs g at lacking_here in
          record {
            pair = (w, r);
            reached = reach;
            bad = no_default ws rs some.0 (goes (ap is_union ours)) lists some.1;
            at = subst (λ (x : MismatchKind). claims.IsMismatchAt W R x (w, r) (absent_line whole (0 + k) g)) absent.1
                (claims.no_default k ws rs g lists at (ap (λ (x : ℕ). lacks (routes ws rs) x g) (sym first) ∙ lacking_here) (ap (λ (x : ℕ). Field None (Some x)) first) (ap (λ (b : Bool). cond b (Some w) None) absent.0) refl);
          }
      by_source (Some s) e =
          let f = source_is (0 + k) 0 (routes ws rs) s e in
          let its = route_partner rs ws (partners ws rs) f.k f.route f.partner f.at f.has in
          let here : slice_get rs f.partner.position ≡ Some g = ap (slice_get rs) (f.there ∙ first) ∙ at in
          let field_is : its.field ≡ g = some_same its.field g (sym its.is ∙ here) in
          let from : s ≡ (0 + f.k, f.route.node) = some_same s (0 + f.k, f.route.node) f.same in
          let there = step (w, r) (f.route.node, f.partner.node) reach (to_field f.k ws rs f.route f.partner (goes (ap is_union ours)) lists f.at f.has) in
          subst (λ (x : ℕ). Reached W R (x, g.node)) (ap (λ (p : ℕ × ℕ). p.1) (sym from)) (subst (λ (x : ℕ). Reached W R (f.route.node, x)) (its.node ∙ ap (λ (x : FieldNode). x.node) field_is) there)

    parts_by : (o p : Option Node) → slice_get W w ≡ o → slice_get R r ≡ p → AllByRecursion Good (parts_of whole o p)
    parts_by (Some (UnionNode ms)) p at is = branches_good whole 0 ms (λ k m there. step (w, r) (m, r) reach (to_member k ms at there))
    parts_by (Some (ArrayNode i)) (Some (ArrayNode j)) at is = (step (w, r) (i, j) reach (to_items (goes (ap is_union at)) (ap (λ (o : Option Node). both_items o (slice_get R r)) at ∙ ap (λ (o : Option Node). both_items (Some (ArrayNode i)) o) is)), tt)
    parts_by (Some (MapNode i)) (Some (MapNode j)) at is = (step (w, r) (i, j) reach (to_values (goes (ap is_union at)) (ap (λ (o : Option Node). both_values o (slice_get R r)) at ∙ ap (λ (o : Option Node). both_values (Some (MapNode i)) o) is)), tt)
    parts_by (Some (EnumNode n symbols default)) (Some (EnumNode m theirs fallback)) at is = symbols_good whole theirs fallback 0 symbols (symbol_good n m symbols theirs default fallback at is)
    parts_by (Some (RecordNode n fs)) (Some (RecordNode m gs)) at is =
        good_both (field_entries whole (routes fs gs) 0 gs) (dropped whole 0 (routes fs gs)) (fields_good whole (routes fs gs) 0 gs (field_good n m fs gs at is)) (dropped_good whole 0 (routes fs gs))
    parts_by o p at is = tt

    pub parts_good : AllByRecursion Good (parts_of whole (slice_get W w) (slice_get R r))
    parts_good = parts_by (slice_get W w) (slice_get R r) refl refl
