use Rattle.std.proofs.Common.{◌∙◌, ap, sym, option_map, refl}
use Rattle.std.specs.Arc.{arc_str_bytes}
use Rattle.avro_schema.specs.Contract.{run}
use Rattle.avro_types.specs.Node.{node_of}
use Rattle.spec_schema.specs.Walk.{named}
use Rattle.avro_schema_faults.proofs.types.walk_text.Goals as goal

pub returns-then-is_left_out : goal.returns-then-is_left_out
unfolding named run
returns-then-is_left_out c = λ _. rw (← c.of_text-word.ensures, ← c.is_left_out.ensures, c.if-is_left_out.true) refl

pub returns-in-Some : goal.returns-in-Some
unfolding named
returns-in-Some c =
    let leaf = sym c.leaf_of.ensures ∙ ap (λ k. option_map node_of k) c.in-Some.is in
    rw (← c.of_text-word.ensures, ← c.is_left_out.ensures, c.if-is_left_out.false, leaf) (c.walk_leaf.ensures (arc_str_bytes c.args.enclosing.now.text))

pub returns-in-None : goal.returns-in-None
unfolding named
returns-in-None c =
    let leaf = sym c.leaf_of.ensures ∙ ap (λ k. option_map node_of k) c.in-None.is in
    rw (← c.of_text-word.ensures, ← c.is_left_out.ensures, c.if-is_left_out.false, leaf) c.walk_reference.ensures
