use Rattle.std.proofs.Common.{List, Option, refl, sym, ap, ◌∙◌, arith}
use Rattle.std.proofs.lemmas.Result.{err_from_is_err_and}
use Rattle.std.specs.Option.{ok_or}
use Rattle.spec_schema.specs.declared.schema_error.SchemaError.TheVariants.{BadDefault}
use Rattle.spec_avro.specs.Datum.{Datum}
use Rattle.avro_schema_names.specs.Draft.{drafts_of}
use Rattle.avro_schema.proofs.Finished.{node_read, nodes_read, nodes_read-steps, row_of, row-on, row-fails, row-ends}
use Rattle.avro_schema.proofs.finishing.all_defaults.Goals as goal

pub returns-in_err-own : goal.returns-in_err-own
returns-in_err-own c =
    let p = err_from_is_err_and c.from_residual.result c.from_residual.ensures.1 in
    let l = c.loop-draft in
    let ds = drafts_of c.args.drafts.now in
    rw (p.1, p.2) (λ known. ap (λ (o : Option (List (List (Option Datum)))). ok_or o BadDefault) (sym l.invariant)
    ∙ row-fails (node_read ds) row_of (nodes_read ds) refl (nodes_read-steps ds) c.args.drafts.now l.draft-index c.draft-item.result (omega arith) c.draft-item.is l.all.items _ (c.in_err-own.ensures known))

pub loop-draft-preserved : goal.loop-draft-preserved
loop-draft-preserved c =
    let l = c.loop-draft in
    let ds = drafts_of c.args.drafts.now in
    rw c.in_ok-push.ensures.items (sym (row-on (node_read ds) row_of (nodes_read ds) refl (nodes_read-steps ds) c.args.drafts.now l.draft-index c.draft-item.result (omega arith) c.draft-item.is l.all.items c.in_ok-own.own c.in_ok-own.ensures) ∙ l.invariant)

pub returns : goal.returns
returns c =
    let l = c.loop-draft in
    let ds = drafts_of c.args.drafts.now in
    ap (λ (o : Option (List (List (Option Datum)))). ok_or o BadDefault) (sym l.invariant ∙ row-ends (node_read ds) row_of (nodes_read ds) refl (nodes_read-steps ds) c.args.drafts.now l.draft-index (omega arith) l.all.items)
