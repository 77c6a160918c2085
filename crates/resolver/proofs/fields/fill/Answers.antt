-- A slot more is filled, and after the last all is done.
use Rattle.std.proofs.Common.{rules, inl, inr, ap, sym, ◌∙◌, option_map}
use Rattle.avro_types.specs.Datum.{datum_of}
use Rattle.resolver.proofs.Filled.{filled_end, filled_on}
use Rattle.resolver.proofs.fields.fill.Goals as goal

pub loop-field-preserved-in-Continue-branch-2 : goal.loop-field-preserved-in-Continue-branch-2
loop-field-preserved-in-Continue-branch-2 c = record {
  so_far = filled_on c.loop-field.data.items _ _ _ c.loop-field.invariant.so_far c.in-Some.field.now _ c.in-Some.slot _ c.in-Some-value.datum _ c.in-Some.ensures.steps.0 c.in-Some.ensures.steps.1.0 (ap (option_map datum_of) (sym c.in-Some-value.is) ∙ c.in_ok-value.ensures) c.in_ok-push.ensures.items;
  len = search rules;
}

pub returns : goal.returns
returns c = filled_end c.loop-field.data.items _ _ _ c.loop-field.invariant.so_far (elim c.in-None.ensures.steps [ inl a ↦ inl a.1.0 | inr b ↦ inr (sym c.loop-field.invariant.len ∙ b.1.0) ])
