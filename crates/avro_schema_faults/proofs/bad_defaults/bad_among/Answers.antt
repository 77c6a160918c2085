use Rattle.std.proofs.Common.{◌∙◌, arith, sym}
use Rattle.avro_schema_names.specs.Draft.{draft_field_of, drafts_of}
use Rattle.avro_schema_faults.specs.DefaultPlaces.{is_bad}
use Rattle.avro_schema_faults.proofs.FirstOfRest.{position-end, position-hit, position-miss}
use Rattle.avro_schema_faults.proofs.bad_defaults.bad_among.Goals as goal

pub returns-then-branch : goal.returns-then-branch
returns-then-branch c = sym (position-hit draft_field_of (is_bad (drafts_of c.args.drafts.now)) c.args.fields.now c.loop-i.i c.index-fields-i.result (omega arith) c.index-fields-i.is (sym c.in_ok-is_bad.ensures ∙ c.if-branch.true)) ∙ c.loop-i.invariant

pub loop-i-preserved : goal.loop-i-preserved
loop-i-preserved c = sym (position-miss draft_field_of (is_bad (drafts_of c.args.drafts.now)) c.args.fields.now c.loop-i.i c.index-fields-i.result (omega arith) c.index-fields-i.is (sym c.in_ok-is_bad.ensures ∙ c.if-branch.false)) ∙ c.loop-i.invariant

pub returns : goal.returns
returns c = sym (position-end draft_field_of (is_bad (drafts_of c.args.drafts.now)) c.args.fields.now c.loop-i.i (omega arith)) ∙ c.loop-i.invariant
