use Rattle.std.proofs.Common.{◌∙◌, refl}
use Rattle.std.proofs.lemmas.Result.{err_from_is_err_and}
use Rattle.serde_json.specs.View.{view}
use Rattle.avro_schema.proofs.Declared.{declared-is, finished-ok, finished-err, some-defaults}
use Rattle.avro_schema.proofs.DraftsConform.{walked-conform}
use Rattle.avro_schema.proofs.NamespaceKept.{null-enclosing}
use Rattle.avro_schema.proofs.WholeNodes.{walked_few}
use Rattle.avro_schema.proofs.schema.kinds_in.Goals as goal

pub returns-in_err-walk : goal.returns-in_err-walk
returns-in_err-walk c =
    let p = err_from_is_err_and c.from_residual-in_err-walk.result c.from_residual-in_err-walk.ensures.1 in
    rw (p.1, p.2) (record { declared = λ known. declared-is (view c.args.value.now) ∙ rw (rw (c.in_ok-enclosing.ensures.text, c.in_ok-drafts.ensures) at (c.in_err-walk.ensures known)) refl; defaults = tt })

pub all_defaults-requires : goal.all_defaults-requires
all_defaults-requires c = rw c.as_slice.ensures (walked_few (view c.args.value.now) _ _ (rw (c.in_ok-enclosing.ensures.text, c.in_ok-drafts.ensures) at c.in_ok-walk.ensures))

pub returns-in_err-defaults : goal.returns-in_err-defaults
returns-in_err-defaults c =
    let p = err_from_is_err_and c.from_residual-in_err-defaults.result c.from_residual-in_err-defaults.ensures.1 in
    let ran = rw (c.in_ok-enclosing.ensures.text, c.in_ok-drafts.ensures) at c.in_ok-walk.ensures in
    rw (p.1, p.2) (record { declared = λ known. declared-is (view c.args.value.now) ∙ rw ran (finished-err _ _ (rw c.as_slice.ensures at (c.in_err-defaults.ensures known))); defaults = tt })

pub returns-clause-declared : goal.returns-clause-declared
returns-clause-declared c =
    let ran = rw (c.in_ok-enclosing.ensures.text, c.in_ok-drafts.ensures) at c.in_ok-walk.ensures in
    declared-is (view c.args.value.now) ∙ rw (ran, c.in_ok-nodes_with.ensures, c.into_nodes.ensures) (finished-ok _ _ (rw c.as_slice.ensures at c.in_ok-defaults.ensures))

pub returns-clause-defaults : goal.returns-clause-defaults
returns-clause-defaults c =
    let ran = rw (c.in_ok-enclosing.ensures.text, c.in_ok-drafts.ensures) at c.in_ok-walk.ensures in
    let read = rw c.as_slice.ensures at c.in_ok-defaults.ensures in
    rw c.in_ok-nodes_with.ensures (walked-conform (view c.args.value.now) _ c.into_nodes.result.items _ (rw (← c.into_nodes.ensures) at ran) (some-defaults _ _ (rw (← c.into_nodes.ensures) at read)))

pub walk-requires : goal.walk-requires
walk-requires c = record { known = rw (c.in_ok-drafts.ensures, c.in_ok-enclosing.ensures.text, c.in_ok-enclosing.ensures.number) null-enclosing }
