-- Each entry has a path of its node, and each node has an entry.
use Rattle.std.proofs.Common.{◌<◌, ℕ, [], length, subst}
use Rattle.std.proofs.lemmas.Result.{IfOk-weaker}
use Rattle.serde_json.specs.View.{view}
use Rattle.avro_schema_paths.specs.Places.{Places}
use Rattle.avro_schema_paths.specs.ByNumber.{AreByNumber}
use Rattle.avro_schema_paths.proofs.ByNumber.{among_new, path_new, paths_filled}
use Rattle.avro_schema_paths.proofs.paths.paths_of.Goals as goal

pub returns : goal.returns
returns c =
    let nodes = c.args.nodes.now in
    let value = view c.args.value.now in
    let entries = c.add_places.new.out.items in
    let none = c.new-entries.result.items in
    let has_path = λ (k : ℕ) (lt : k < length nodes). c.each_node_has_path.ensures value nodes c.requires k lt in
    IfOk-weaker c.by_number.result _ _ (λ paths b. paths_filled nodes value entries paths.items
    (subst (λ (n : ℕ). AreByNumber entries n paths.items) c.len.ensures b)
    (λ m q a. path_new (Places nodes value 0 [] []) none entries m q c.in_ok-add_places.ensures c.new-entries.ensures.items a)
    (λ k lt. (let q = has_path k lt in (q.0, among_new (Places nodes value 0 [] []) none entries k q.0 c.in_ok-add_places.ensures c.new-entries.ensures.items q.1)))) c.by_number.ensures
