use Rattle.std.proofs.Common.{◌∙◌, arith, sym}
use Rattle.avro_schema_names.specs.Draft.{drafts_of}
use Rattle.avro_schema_faults.proofs.FirstOfRest.{first-end, first-hit, first-miss}
use Rattle.avro_schema_faults.proofs.bad_defaults.first_bad.Goals as goal

pub returns-in-Some : goal.returns-in-Some
returns-in-Some c = sym (first-hit (drafts_of c.args.drafts.now) c.args.drafts.now c.loop-node.node c.index-drafts-node.result c.in-Some.position (omega arith) c.index-drafts-node.is (sym c.in_ok-position.ensures ∙ c.in-Some.is)) ∙ c.loop-node.invariant

pub loop-node-preserved : goal.loop-node-preserved
loop-node-preserved c = sym (first-miss (drafts_of c.args.drafts.now) c.args.drafts.now c.loop-node.node c.index-drafts-node.result (omega arith) c.index-drafts-node.is (sym c.in_ok-position.ensures ∙ c.in_default.is)) ∙ c.loop-node.invariant

pub returns : goal.returns
returns c = sym (first-end (drafts_of c.args.drafts.now) c.args.drafts.now c.loop-node.node (omega arith)) ∙ c.loop-node.invariant
