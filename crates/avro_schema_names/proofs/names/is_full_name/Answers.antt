use Rattle.std.proofs.Common.{rules, ◌≡◌, sym, ◌∙◌, ap, lit<, refl}
use Rattle.spec_avro.specs.FullNames.{is_name, is_full_name}
use Rattle.avro_schema_names.proofs.DottedNames.{full_single, full_parts}
use Rattle.avro_schema_names.proofs.names.is_full_name.Goals as goal

pub returns-then-not-is_name : goal.returns-then-not-is_name
returns-then-not-is_name c =
    let parts = full_parts c.loop-part.rest.now c.in-Some.part.now c.in-Some.more.now (c.in-Some.ensures.byte (lit< tt) (λ w o f. f)) in
    sym (sym c.loop-part.invariant.1 ∙ parts ∙ rw (← c.as_bytes.ensures.value, ← c.is_name.ensures, c.if-not-is_name.true) refl)

pub loop-part-preserved : goal.loop-part-preserved
loop-part-preserved c =
    let parts = full_parts c.loop-part.rest.now c.in-Some.part.now c.in-Some.more.now (c.in-Some.ensures.byte (lit< tt) (λ w o f. f)) in
    let same : is_full_name c.loop-part.rest.now ≡ is_full_name c.in-Some.more.now = parts ∙ rw (← c.as_bytes.ensures.value, ← c.is_name.ensures, c.if-not-is_name.false) refl in
    (search rules, sym same ∙ c.loop-part.invariant.1)

pub returns : goal.returns
returns c = c.is_name-2.ensures ∙ ap is_name c.as_bytes-2.ensures.value ∙ sym (full_single c.loop-part.rest.now (c.in_default.ensures.byte (lit< tt) (λ w o f. f))) ∙ c.loop-part.invariant.1
