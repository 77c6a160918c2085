use Rattle.std.proofs.Common.{List, ℕ, Vec, sym, subst, ap, ◌∙◌}
use Rattle.std.specs.declared.alloc.Global.{Global}
use Rattle.std.proofs.lemmas.Result.{IfOk-weaker}
use Rattle.spec_avro.specs.Node.{Node}
use Rattle.avro_schema_paths.specs.declared.step.Step.{Step}
use Rattle.schema_report.specs.Listing.{node_lines}
use Rattle.schema_report.specs.Reports.{AnswersNodes, listed}
use Rattle.schema_report.specs.declared.report.Verdict.TheVariants.{Yes}
use Rattle.schema_report.proofs.Refused.{refused_nodes}
use Rattle.schema_report.proofs.asking.nodes_report.Goals as goal

pub returns-in-Err : goal.returns-in-Err
returns-in-Err c = IfOk-weaker c.refused.result _ _ (λ report is. refused_nodes c.args.line.now c.in-Err.refusal c.in-Err.ensures.bad report is) c.refused.ensures

pub returns : goal.returns
returns c =
    let nodes = c.in-Ok.read.schema.nodes in
    let paths = c.in-Ok.read.paths.items in
    let text = c.in_ok-text.ensures ∙ ap (λ (ns : List Node). node_lines ns 0 c.deref.result.now) c.nodes.ensures
    ∙ ap (λ (ps : List (Vec Step Global)). node_lines nodes 0 ps) c.deref.ensures.value in
    subst (λ (t : List ℕ). AnswersNodes c.args.line.now t Yes) (sym text)
    (listed nodes paths (record { schema = c.in-Ok.ensures.schema; value = _; reads = c.in-Ok.ensures.value; are = c.in-Ok.ensures.paths }))
