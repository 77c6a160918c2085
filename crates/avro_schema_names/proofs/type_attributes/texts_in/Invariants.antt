use Rattle.std.proofs.Common.{◌≡◌, drop}
use Rattle.serde_json.specs.View.{items_view}
use Rattle.spec_schema.specs.Attributes.{texts_in}
use Rattle.avro_schema_names.proofs.Texts.{listed}
use Rattle.avro_types.specs.Laws.Plain.{names}
use Rattle.avro_schema_names.proofs.type_attributes.texts_in.Given as goal

abbrev pub invariant-loop-item : goal.invariant-loop-item
invariant-loop-item l = listed (names l.texts.items) (texts_in (items_view (drop l.item-index l.items))) ≡ texts_in (items_view l.items)
