-- A mark for each field that a route so far goes to.
use Rattle.std.proofs.Common.{◌≡◌, ◌<◌, ℕ, false, length, take, slice_index_or}
use Rattle.spec_avro.specs.Partners.{has_partner}
use Rattle.schema_check.proofs.fields.have_partners.Given as goal

abbrev pub invariant-loop-route : goal.invariant-loop-route
invariant-loop-route l = record {
  len : length l.marks.items ≡ length l.rs;
  mark : (j : ℕ) → j < length l.rs → slice_index_or l.marks.items j false ≡ has_partner j (take l.route-index l.routes);
}
