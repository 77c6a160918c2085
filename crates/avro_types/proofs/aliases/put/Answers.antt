use Rattle.std.proofs.Common.{true, sym, ◌∙◌, string_bytes, subst}
use Rattle.std.specs.BTreeSet as set
use Rattle.std.specs.Ordering.{nat_cmp}
use Rattle.std.specs.Cmp.Lexicographic.{slice_cmp}
use Rattle.std.specs.String.{string_cmp}
use Rattle.avro_types.specs.Laws.Dots.{none-undotted}
use Rattle.avro_types.proofs.AliasPlaces.{has-front, put-alone, put-behind, put-nothing}
use Rattle.avro_types.proofs.aliases.put.Goals as goal

pub returns-in_default : goal.returns-in_default
returns-in_default c = λ own.
    put-alone own c.args.text.now c.args.relative.now c.insert.new.self c.args.qualified.now (none-undotted c.args.text.now c.in_default.ensures.cases)
    (subst (λ s. set.UpdatesBy string_cmp (λ k. slice_cmp nat_cmp s (string_bytes k)) c.args.relative.now c.insert.new.self true) c.in_ok-from_str.ensures.ok c.in_ok-insert.ensures.updates)

pub returns-then-is_empty : goal.returns-then-is_empty
returns-then-is_empty c = λ own.
    put-nothing own c.args.text.now c.in-Some.namespace.now c.in-Some.last.now c.in-Some.ensures.cases c.args.relative.now c.args.qualified.now (sym c.is_empty.ensures ∙ c.if-is_empty.true)

pub returns : goal.returns
returns c = λ own.
    put-behind own c.args.text.now c.in-Some.namespace.now c.in-Some.last.now c.in-Some.ensures.cases c.args.relative.now c.args.qualified.now c.put_qualified.new.qualified
    (has-front own c.args.text.now c.in-Some.namespace.now c.in-Some.last.now c.in-Some.ensures.cases c.args.relative.now c.args.qualified.now (sym c.is_empty.ensures ∙ c.if-is_empty.false))
    c.in_ok-put_qualified.ensures
