-- A primitive type's name is the node; another word declares nothing.
use Rattle.std.proofs.Common.{◌≡◌, ◌∙◌, sym, true, false, is_some}
use Rattle.spec_schema.specs.Word.{leaf_of, word_of}
use Rattle.avro_schema_paths.specs.Adds.{IsThis}
use Rattle.avro_schema_paths.proofs.Inverting.{word_only, word_there}
use Rattle.avro_schema_paths.proofs.Adding.{on_ok, adds_none, adds_same}
use Rattle.avro_schema_paths.proofs.placing.add_word.Goals as goal

pub returns-then-is_leaf : goal.returns-then-is_leaf
returns-then-is_leaf c =
    let yes : is_some (leaf_of (word_of c.args.text.now)) ≡ true = sym c.is_leaf.ensures ∙ c.if-is_leaf.true in
    on_ok c.add_node.result (λ t. adds_same (IsThis c.args.node c.args.place.now.outer.now) _ c.args.out.now.items c.add_node.new.out.items (word_there c.args.nodes.now c.args.text.now c.args.node c.args.place.now.outer.now c.args.place.now.path.now yes) (λ m q p. (word_only c.args.nodes.now c.args.text.now c.args.node c.args.place.now.outer.now c.args.place.now.path.now m q p).1) t) c.add_node.ensures

pub returns : goal.returns
returns c =
    let no : is_some (leaf_of (word_of c.args.text.now)) ≡ false = sym c.is_leaf.ensures ∙ c.if-is_leaf.false in
    adds_none _ c.args.out.now.items (λ m q p. absurd (let clash : true ≡ false = sym (word_only c.args.nodes.now c.args.text.now c.args.node c.args.place.now.outer.now c.args.place.now.path.now m q p).0 ∙ no in cc))
