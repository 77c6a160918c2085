use Rattle.std.specs.Arc.{arc_str_bytes}
use Rattle.avro_types.proofs.AliasPlaces.{found-on}
use Rattle.avro_types.proofs.aliases.Aliases.of_texts.Goals as goal

pub loop-text-preserved : goal.loop-text-preserved
loop-text-preserved c =
    found-on (arc_str_bytes c.args.namespace) c.args.texts.items c.loop-text.text-index c.text-item.result (rw (← c.deref-text-items.ensures.value) c.loop-text-test.true) (rw (← c.deref-text-items.ensures.value) c.text-item.is) c.loop-text.relative c.put.new.relative c.loop-text.qualified c.put.new.qualified c.loop-text.invariant
    (λ space last undotted. rw (← c.deref.ensures) (c.in_ok-put.ensures (arc_str_bytes c.args.namespace) space last undotted))
