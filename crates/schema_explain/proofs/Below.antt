-- The parts of a pair are of nodes of both schemas, no deeper than their whole says.
use Rattle.std.proofs.Common.{◌≡◌, ℕ, suc, ◌<◌, ◌≤◌, Bool, true, false, cond, List, [], ◌∷◌, ◌++◌, length, is_none, Option, Some, None, IfSome, Result, Ok, Err, IfOk, sym, subst, arith}
use Rattle.std.specs.Global.{Vec}
use Rattle.std.specs.declared.alloc.AllocError.{AllocError}
use Rattle.std.specs.List.{AllByRecursion}
use Rattle.spec_avro.specs.Node.{Node, FieldNode}
use Rattle.spec_avro.specs.WellFormed.{FieldsBelow, IsMember}
use Rattle.spec_avro.specs.Options.{given}
use Rattle.resolver.specs.Partners.{AreRoutes}
use Rattle.spec_avro.specs.Partners.{goes_to, routes}
use Rattle.spec_avro.specs.declared.place.Route.{Route}
use Rattle.resolver.proofs.Within.{routes_within}
use Rattle.schema_explain.specs.Bounds.{AreBelow, HasNodesOf, IsBelow}
use Rattle.schema_explain.specs.Parts.{absent_line, branch_entries, dropped, dropped_line, due, field_entries, record_entries, source, symbol_entries}
use Rattle.schema_explain.specs.declared.entries.Entry.{Entry}
use Rattle.schema_explain.specs.declared.entries.Entry.TheVariants.{Ready, Due}
use Rattle.schema_explain.specs.declared.entries.Whole.{Whole}
use Rattle.schema_explain.specs.declared.line.Line.{Line}
use Rattle.schema_explain.specs.declared.line.Part.TheVariants.{Field}

-- what holds of entries that a vector is, holds of the vector's
pub of_items : (P : List Entry → Type 0) (es : List Entry) (res : Result (Vec Entry) AllocError) → IfOk res (λ v. v.items ≡ es) → P es → IfOk res (λ v. P v.items)
of_items P es (Ok v) e h = subst P (sym e) h
of_items P es (Err x) e h = tt

module _ (W R : List Node) where
  pub below_both : (depth : ℕ) (es fs : List Entry) → AreBelow W R depth es → AreBelow W R depth fs → AreBelow W R depth (es ++ fs)
  below_both depth [] fs a b = b
  below_both depth (e ∷ es) fs a b = (a.0, below_both depth es fs a.1 b)

  pub lines_within : (lines : List Line) (line : Line) → AllByRecursion (HasNodesOf W R) lines → HasNodesOf W R line → AllByRecursion (HasNodesOf W R) (lines ++ line ∷ [])
  lines_within [] line a h = (h, tt)
  lines_within (l ∷ lines) line a h = (a.0, lines_within lines line a.1 h)

  one_deeper : (depth more : ℕ) (e : Entry) → depth ≤ more → IsBelow W R depth e → IsBelow W R more e
  one_deeper depth more (Ready line) le h = h
  one_deeper depth more (Due t) le h = (h.0, h.1, omega (arith, le, h.2))

  pub below_more : (depth more : ℕ) (es : List Entry) → depth ≤ more → AreBelow W R depth es → AreBelow W R more es
  below_more depth more [] le h = tt
  below_more depth more (e ∷ es) le h = (one_deeper depth more e le h.0, below_more depth more es le h.1)

  module _ (whole : Whole) where
    pub branches_below : (own i : ℕ) (ms : List ℕ) → AllByRecursion (IsMember W own) ms → whole.reader < length R → AreBelow W R whole.depth (branch_entries whole i ms)
    branches_below own i [] all lt = tt
    branches_below own i (m ∷ ms) all lt = ((all.0.below, lt, omega arith), branches_below own (suc i) ms all.1 lt)

    pub symbols_below : whole.writer < length W → whole.reader < length R → (theirs : List (List ℕ)) (default : Option ℕ) (i : ℕ) (symbols : List (List ℕ)) → AreBelow W R whole.depth (symbol_entries whole theirs default i symbols)
    symbols_below w r theirs default i [] = tt
    symbols_below w r theirs default i (s ∷ ss) = (record { writer = w; reader = r }, symbols_below w r theirs default (suc i) ss)

    source_below : (places j i : ℕ) (rs : List Route) → AreRoutes (length W) (length R) places rs → IfSome (source j i rs) (λ s. s.1 < length W)
    source_below places j i [] a = tt
    source_below places j i (r ∷ rs) a = by_test (goes_to j r) (source_below places j (suc i) rs a.1) where
      by_test : (b : Bool) → IfSome (source j (suc i) rs) (λ s. s.1 < length W) → IfSome (cond b (Some (i, r.node)) (source j (suc i) rs)) (λ s. s.1 < length W)
      by_test true h = a.0.node
      by_test false h = h

    absent_below : (b : Bool) → whole.writer < length W → IfSome (cond b (Some whole.writer) None) (λ w. w < length W)
    absent_below true w = w
    absent_below false w = tt

    entry_below : whole.writer < length W → (rs : List Route) (j : ℕ) (g : FieldNode) (o : Option (ℕ × ℕ)) → IfSome o (λ s. s.1 < length W) → g.node < length R → IsBelow W R whole.depth (given o (Ready (absent_line whole j g)) (λ s. due whole (Field (Some s.0) (Some j)) s.1 g.node))
    entry_below w rs j g None h lt = record { writer = absent_below (is_none g.default) w; reader = lt }
    entry_below w rs j g (Some s) h lt = (h, lt, omega arith)

    fields_below : whole.writer < length W → (places : ℕ) (rs : List Route) (j : ℕ) (gs : List FieldNode) → AreRoutes (length W) (length R) places rs → FieldsBelow (length R) gs → AreBelow W R whole.depth (field_entries whole rs j gs)
    fields_below w places rs j [] a b = tt
    fields_below w places rs j (g ∷ gs) a b = (entry_below w rs j g (source j 0 rs) (source_below places j 0 rs a) b.0, fields_below w places rs (suc j) gs a b.1)

    dropped_below : (places i : ℕ) (rs : List Route) → AreRoutes (length W) (length R) places rs → AreBelow W R whole.depth (dropped whole i rs)
    dropped_below places i [] a = tt
    dropped_below places i (r ∷ rs) a = by_test (is_none r.partner) (dropped_below places (suc i) rs a.1) where
      by_test : (b : Bool) → AreBelow W R whole.depth (dropped whole (suc i) rs) → AreBelow W R whole.depth (cond b (Ready (dropped_line whole i r.node) ∷ dropped whole (suc i) rs) (dropped whole (suc i) rs))
      by_test true h = (record { writer = a.0.node; reader = tt }, h)
      by_test false h = h

    pub record_below : whole.writer < length W → (fs gs : List FieldNode) → FieldsBelow (length W) fs → FieldsBelow (length R) gs → AreBelow W R whole.depth (record_entries whole (routes fs gs) gs)
    record_below w fs gs a b =
        let within = routes_within (length W) (length R) fs gs a b in
        below_both whole.depth (field_entries whole (routes fs gs) 0 gs) (dropped whole 0 (routes fs gs))
        (fields_below w (length gs) (routes fs gs) 0 gs within b)
        (dropped_below (length gs) 0 (routes fs gs) within)
