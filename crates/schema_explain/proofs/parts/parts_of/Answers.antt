-- Nodes name nodes of their schema, and have no more parts than the limits say.
use Rattle.std.proofs.Common.{◌≤◌, length, map, string_bytes, arith}
use Rattle.avro_types.specs.Node.{fields_of}
use Rattle.schema_explain.specs.Bounds.{AreBelow, MOST_PARTS}
use Rattle.schema_explain.proofs.Below.{branches_below, of_items, record_below, symbols_below}
use Rattle.schema_explain.proofs.Few.{few_fields, length-branches, length-symbols}
use Rattle.schema_explain.proofs.parts.parts_of.Goals as goal

pub returns-in-Union-default-clause-below : goal.returns-in-Union-default-clause-below
returns-in-Union-default-clause-below c =
    let formed = rw c.in-Union-default.is-0 at c.kind.ensures.well_formed in
    of_items (AreBelow c.args.w.now c.args.r.now c.args.whole.depth) _ c.branch_entries.result (rw c.deref.ensures.value at c.branch_entries.ensures)
    (branches_below _ _ c.args.whole c.args.whole.writer 0 c.in-Union-default.members.items formed.0 c.requires.reader)

pub returns-in-Union-default-clause-few : goal.returns-in-Union-default-clause-few
returns-in-Union-default-clause-few c =
    let formed = rw c.in-Union-default.is-0 at c.kind.ensures.well_formed in
    of_items (λ es. length es ≤ MOST_PARTS) _ c.branch_entries.result (rw c.deref.ensures.value at c.branch_entries.ensures)
    (omega (arith, formed.1, length-branches c.args.whole 0 c.in-Union-default.members.items))

pub returns-in-Enum-Enum-clause-below : goal.returns-in-Enum-Enum-clause-below
returns-in-Enum-Enum-clause-below c =
    of_items (AreBelow c.args.w.now c.args.r.now c.args.whole.depth) _ c.symbol_entries.result c.symbol_entries.ensures (symbols_below _ _ c.args.whole c.requires.writer c.requires.reader _ _ 0 _)

pub returns-in-Enum-Enum-clause-few : goal.returns-in-Enum-Enum-clause-few
returns-in-Enum-Enum-clause-few c =
    let formed = rw c.in-Enum-Enum.is-0 at c.kind.ensures.well_formed in
    let length_is = length-symbols c.args.whole c.in-Enum-Enum.theirs c.in-Enum-Enum.default 0 (map string_bytes c.as_slice.result.now) in
    let few : length (map string_bytes c.as_slice.result.now) ≤ MOST_PARTS = rw c.as_slice.ensures formed.1 in
    of_items (λ es. length es ≤ MOST_PARTS) _ c.symbol_entries.result c.symbol_entries.ensures (omega (arith, few, length_is))

pub returns-in-Record-Record-clause-below : goal.returns-in-Record-Record-clause-below
returns-in-Record-Record-clause-below c =
    let ws = (rw c.in-Record-Record.is-0 at c.kind.ensures.well_formed).0 in
    let rs = (rw c.in-Record-Record.is-1 at c.kind-2.ensures.well_formed).0 in
    of_items (AreBelow c.args.w.now c.args.r.now c.args.whole.depth) _ c.record_entries.result (rw (c.deref-in-Record-Record.ensures.value, c.deref-in-Record-Record-2.ensures.value) at c.record_entries.ensures)
    (record_below _ _ c.args.whole c.requires.writer (fields_of c.in-Record-Record.ws.items) (fields_of c.in-Record-Record.rs.items) ws rs)

pub returns-in-Record-Record-clause-few : goal.returns-in-Record-Record-clause-few
returns-in-Record-Record-clause-few c =
    let ws = (rw c.in-Record-Record.is-0 at c.kind.ensures.well_formed).2 in
    let rs = (rw c.in-Record-Record.is-1 at c.kind-2.ensures.well_formed).2 in
    of_items (λ es. length es ≤ MOST_PARTS) _ c.record_entries.result (rw (c.deref-in-Record-Record.ensures.value, c.deref-in-Record-Record-2.ensures.value) at c.record_entries.ensures)
    (omega (arith, ws, rs, few_fields c.args.whole (fields_of c.in-Record-Record.ws.items) (fields_of c.in-Record-Record.rs.items)))
