use Rattle.std.specs.declared.alloc.AllocError.{AllocError}
use Rattle.serde_json.specs.View.{view}
use Rattle.avro_schema_faults.proofs.LeadingToField.{leads-to-field}
use Rattle.avro_schema_faults.proofs.seeking.lead_to_field.Goals as goal

pub returns : goal.returns
returns c = leads-to-field AllocError c.in_ok-seek.field-0 (view c.args.value.now) c.args.node c.args.position c.args.trail.now.items c.seek.new.trail.items c.push.new.self.items c.push-2.new.self.items c.in_ok-seek.ensures c.in_ok-push.ensures.items c.in_ok-push-2.ensures.items
