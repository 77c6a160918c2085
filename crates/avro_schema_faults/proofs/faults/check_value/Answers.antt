use Rattle.std.proofs.Common.{◌∙◌, sym}
use Rattle.std.proofs.lemmas.Result.{err_from_is_err_and}
use Rattle.serde_json.specs.View.{view}
use Rattle.avro_schema.proofs.WholeNodes.{walked_few}
use Rattle.avro_schema.proofs.NamespaceKept.{null-enclosing}
use Rattle.avro_schema_faults.proofs.Found.{all-read, default-failed, walk-failed}
use Rattle.avro_schema_faults.proofs.faults.check_value.Goals as goal

pub walk-requires : goal.walk-requires
walk-requires c = record { known = rw (c.in_ok-drafts.ensures, c.in_ok-enclosing.ensures.text, c.in_ok-enclosing.ensures.number) null-enclosing }

pub returns-in_err-walk : goal.returns-in_err-walk
returns-in_err-walk c =
    let p = err_from_is_err_and c.from_residual-in_err-walk.result c.from_residual-in_err-walk.ensures.1 in
    rw (p.1, p.2) (λ known. walk-failed (view c.args.value.now) _ c.args.trail.now.items _ c.requires
    (rw (c.in_ok-enclosing.ensures.text, c.in_ok-drafts.ensures) at (c.in_err-walk.ensures.nodes known))
    (rw (c.in_ok-enclosing.ensures.text, c.in_ok-drafts.ensures) at (c.in_err-walk.ensures.place known)))

pub first_bad-requires : goal.first_bad-requires
first_bad-requires c = rw c.as_slice.ensures (walked_few (view c.args.value.now) _ _ (rw (c.in_ok-enclosing.ensures.text, c.in_ok-drafts.ensures) at c.in_ok-walk.ensures.nodes))

pub returns-in-None : goal.returns-in-None
returns-in-None c =
    let ran = rw (c.in_ok-enclosing.ensures.text, c.in_ok-drafts.ensures) at c.in_ok-walk.ensures.nodes in
    all-read (view c.args.value.now) _ _ ran (rw c.as_slice.ensures at (sym c.in_ok-first_bad.ensures ∙ c.in-None.is))

pub returns : goal.returns
returns c =
    let ran = rw (c.in_ok-enclosing.ensures.text, c.in_ok-drafts.ensures) at c.in_ok-walk.ensures.nodes in
    let bad = rw c.as_slice.ensures at (sym c.in_ok-first_bad.ensures ∙ c.in-Some.is) in
    λ known. default-failed (view c.args.value.now) _ _ c.in-Some.field.node c.in-Some.field.position c.walk.new.trail.items _ ran bad (c.in_ok-walk.ensures.place ∙ c.requires) c.in_ok-lead_to_field-in-Some.ensures
