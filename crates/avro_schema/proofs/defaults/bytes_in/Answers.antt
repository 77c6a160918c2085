use Rattle.std.proofs.Common.{ℕ, ◌≤◌, List, Option, length, sym, ap, ◌∙◌, arith}
use Rattle.std.specs.Option.{ok_or}
use Rattle.std.specs.Str.{chars}
use Rattle.std.proofs.lemmas.Iterator.{YieldsList-from_chars}
use Rattle.std.proofs.lemmas.Iterator.Consumers.{YieldsList-turn, YieldsList-end}
use Rattle.std.proofs.lemmas.List.{length_push}
use Rattle.spec_schema.specs.declared.schema_error.SchemaError.TheVariants.{BadDefault}
use Rattle.avro_schema.proofs.DefaultValues.{bytes-on, bytes-fail, bytes-end}
use Rattle.avro_schema.proofs.defaults.bytes_in.Goals as goal

pub returns-in_default : goal.returns-in_default
returns-in_default c =
    let t = YieldsList-turn (YieldsList-from_chars c.args.text.now c.utf8.text cc) c.loop-c.yielded _ c.loop-c.yielded_by _ _ c.in-Some.c c.in-Some.is c.next.ensures.steps in
    let big : 256 ≤ c.in-Some.c = omega (arith, c.in_default.ensures) in
    λ _. ap (λ (o : Option (List ℕ)). ok_or o BadDefault) (sym c.loop-c.invariant ∙ bytes-fail _ _ c.in-Some.c t.0 t.1 c.loop-c.bytes.items big)

pub loop-c-preserved : goal.loop-c-preserved
loop-c-preserved c =
    let t = YieldsList-turn (YieldsList-from_chars c.args.text.now c.utf8.text cc) c.loop-c.yielded _ c.loop-c.yielded_by _ _ c.in-Some.c c.in-Some.is c.next.ensures.steps in
    rw (length_push c.loop-c.yielded c.in-Some.c, c.in_ok-push.ensures.items, c.in-Ok.ensures.1)
    (sym (bytes-on _ _ c.in-Some.c t.0 t.1 c.loop-c.bytes.items c.in-Ok.ensures.0) ∙ c.loop-c.invariant)

pub returns : goal.returns
returns c =
    let t = YieldsList-end (YieldsList-from_chars c.args.text.now c.utf8.text cc) c.loop-c.yielded _ c.loop-c.yielded_by _ _ c.in-None.is c.next.ensures.steps in
    ap (λ (o : Option (List ℕ)). ok_or o BadDefault) (sym c.loop-c.invariant ∙ bytes-end (chars c.args.text.now) (length c.loop-c.yielded) (omega (arith, t.1)) c.loop-c.bytes.items)
