use Rattle.std.proofs.lemmas.Result.{IfOk-weaker}
use Rattle.schema_report.proofs.Answering.{is_checked, side_is}
use Rattle.schema_report.proofs.Refused.{refused_first, refused_second}
use Rattle.schema_report.proofs.asking.check_report.Goals as goal

pub returns-in-Err : goal.returns-in-Err
returns-in-Err c =
    IfOk-weaker c.refused.result _ _ (λ report is. refused_first c.args.level c.args.first.now c.args.second.now c.in-Err.refusal c.in-Err.ensures.bad report is) c.refused.ensures

pub returns-in-Err-read_schema : goal.returns-in-Err-read_schema
returns-in-Err-read_schema c =
    IfOk-weaker c.refused-in-Err-read_schema.result _ _ (λ report is.
    refused_second c.args.level c.args.first.now c.args.second.now _ c.in-Err-read_schema.refusal c.in-Ok.ensures.schema c.in-Err-read_schema.ensures.bad report is) c.refused-in-Err-read_schema.ensures

pub returns : goal.returns
returns c =
    IfOk-weaker c.checked.result _ _ (is_checked c.args.level c.args.first.now c.args.second.now c.side_of.result c.side_of-2.result _ _ c.in_ok-is_safe.is_safe c.new-lines.ensures.bytes
    (side_is c.args.first.now c.side_of.result _ _ c.side_of.ensures.nodes c.side_of.ensures.paths
    (record { schema = c.in-Ok.ensures.schema; value = _; reads = c.in-Ok.ensures.value; are = c.in-Ok.ensures.paths }))
    (side_is c.args.second.now c.side_of-2.result _ _ c.side_of-2.ensures.nodes c.side_of-2.ensures.paths
    (record { schema = c.in-Ok-read_schema.ensures.schema; value = _; reads = c.in-Ok-read_schema.ensures.value; are = c.in-Ok-read_schema.ensures.paths }))
    c.in_ok-is_safe.ensures) c.checked.ensures
