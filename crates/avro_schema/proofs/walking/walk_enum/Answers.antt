use Rattle.std.proofs.Common.{arith, ◌∙◌, ◌≡◌, ◌<◌, length, refl}
use Rattle.std.specs.Arc.{arc_str_bytes}
use Rattle.std.proofs.lemmas.Result.{err_from_is_err_and}
use Rattle.spec_avro.specs.declared.limits.TheConstants.{MOST_NODES}
use Rattle.avro_schema.proofs.Records.{run-enum}
use Rattle.avro_schema.proofs.Runs.{run-no_room, run-one}
use Rattle.avro_schema.proofs.walking.walk_enum.Goals as goal

pub returns-in_err-node : goal.returns-in_err-node
returns-in_err-node c =
    let p = err_from_is_err_and c.from_residual.result c.from_residual.ensures.1 in
    rw (p.1, p.2, c.in_err-node.ensures.full) (λ _. run-no_room _ (arc_str_bytes c.args.enclosing.now.text) c.args.drafts.now c.in_err-node.ensures.none)

pub returns-in_err-new : goal.returns-in_err-new
returns-in_err-new c =
    let p = err_from_is_err_and c.from_residual-in_err-new.result c.from_residual-in_err-new.ensures.1 in
    let room : length c.args.drafts.now < MOST_NODES = omega (arith, c.in_ok-node.ensures.node, c.in_ok-node.ensures.room) in
    rw (p.1, p.2) (λ known. run-enum _ _ _ (arc_str_bytes c.args.enclosing.now.text) c.args.drafts.now room _ _ ∙ rw (c.in_err-new.ensures.names known) refl)

pub returns-in_err-symbols : goal.returns-in_err-symbols
returns-in_err-symbols c =
    let p = err_from_is_err_and c.from_residual-in_err-symbols.result c.from_residual-in_err-symbols.ensures.1 in
    let room : length c.args.drafts.now < MOST_NODES = omega (arith, c.in_ok-node.ensures.node, c.in_ok-node.ensures.room) in
    rw (p.1, p.2) (λ known. run-enum _ _ _ (arc_str_bytes c.args.enclosing.now.text) c.args.drafts.now room _ _ ∙ rw (c.in_ok-new.ensures.names, ← c.get.ensures, c.in_err-symbols.ensures.symbols known) refl)

pub returns-in_err-default : goal.returns-in_err-default
returns-in_err-default c =
    let p = err_from_is_err_and c.from_residual-in_err-default.result c.from_residual-in_err-default.ensures.1 in
    let room : length c.args.drafts.now < MOST_NODES = omega (arith, c.in_ok-node.ensures.node, c.in_ok-node.ensures.room) in
    rw (p.1, p.2) (λ known. run-enum _ _ _ (arc_str_bytes c.args.enclosing.now.text) c.args.drafts.now room _ _ ∙ rw (c.in_ok-new.ensures.names, ← c.get.ensures, c.in_ok-symbols.ensures.symbols, ← c.get-2.ensures, c.in_err-default.ensures.told known) refl)

pub returns : goal.returns
returns c =
    let room : length c.args.drafts.now < MOST_NODES = omega (arith, c.in_ok-node.ensures.node, c.in_ok-node.ensures.room) in
    let n : c.in_ok-node.node ≡ length c.args.drafts.now = c.in_ok-node.ensures.node in
    rw (n, c.in_ok-define.ensures.nodes, c.in_ok-copy.ensures)
    (run-enum _ _ _ (arc_str_bytes c.args.enclosing.now.text) c.args.drafts.now room _ _ ∙ rw (c.in_ok-new.ensures.names, ← c.get.ensures, c.in_ok-symbols.ensures.symbols, ← c.get-2.ensures, c.in_ok-default.ensures.told) (run-one _ (arc_str_bytes c.args.enclosing.now.text) c.args.drafts.now))
