-- A pair has no more parts than an enum may have symbols.
use Rattle.std.proofs.Common.{◌≡◌, ℕ, suc, ◌+◌, ◌≤◌, Bool, true, false, cond, List, [], ◌∷◌, length, is_none, Option, refl, ap, arith}
use Rattle.std.proofs.lemmas.List.{length-append}
use Rattle.spec_avro.specs.Node.{FieldNode}
use Rattle.spec_avro.specs.Partners.{partners, routes, routes_to}
use Rattle.spec_avro.specs.declared.place.Route.{Route}
use Rattle.schema_explain.specs.Parts.{branch_entries, dropped, dropped_line, field_entries, record_entries, symbol_entries}
use Rattle.schema_explain.specs.declared.entries.Entry.TheVariants.{Ready}
use Rattle.schema_explain.specs.declared.entries.Whole.{Whole}

few_routes : (rs fs : List FieldNode) (ps : List (Option ℕ)) → length (routes_to rs fs ps) ≤ length fs
few_routes rs [] ps = omega arith
few_routes rs (f ∷ fs) [] = omega arith
few_routes rs (f ∷ fs) (p ∷ ps) = omega (arith, few_routes rs fs ps)

module _ (whole : Whole) where
  pub length-branches : (i : ℕ) (ms : List ℕ) → length (branch_entries whole i ms) ≡ length ms
  length-branches i [] = refl
  length-branches i (m ∷ ms) = ap suc (length-branches (suc i) ms)

  pub length-symbols : (theirs : List (List ℕ)) (default : Option ℕ) (i : ℕ) (symbols : List (List ℕ)) → length (symbol_entries whole theirs default i symbols) ≡ length symbols
  length-symbols theirs default i [] = refl
  length-symbols theirs default i (s ∷ ss) = ap suc (length-symbols theirs default (suc i) ss)

  length-fields : (rs : List Route) (j : ℕ) (gs : List FieldNode) → length (field_entries whole rs j gs) ≡ length gs
  length-fields rs j [] = refl
  length-fields rs j (g ∷ gs) = ap suc (length-fields rs (suc j) gs)

  few_dropped : (i : ℕ) (rs : List Route) → length (dropped whole i rs) ≤ length rs
  few_dropped i [] = omega arith
  few_dropped i (r ∷ rs) = by_test (is_none r.partner) (few_dropped (suc i) rs) where
    by_test : (b : Bool) → length (dropped whole (suc i) rs) ≤ length rs → length (cond b (Ready (dropped_line whole i r.node) ∷ dropped whole (suc i) rs) (dropped whole (suc i) rs)) ≤ suc (length rs)
    by_test true h = omega (arith, h)
    by_test false h = omega (arith, h)

  pub few_fields : (fs gs : List FieldNode) → length (record_entries whole (routes fs gs) gs) ≤ length gs + length fs
  few_fields fs gs = omega (arith, length-append (field_entries whole (routes fs gs) 0 gs) (dropped whole 0 (routes fs gs)), length-fields (routes fs gs) 0 gs, few_dropped 0 (routes fs gs), few_routes gs fs (partners fs gs))
