use Rattle.std.proofs.Common.{◌≡◌, ◌∙◌, ap, subst, sym, arith, string_bytes}
use Rattle.std.proofs.lemmas.Bool.{false≢true}
use Rattle.std.proofs.lemmas.Grind.{common_steps}
use Rattle.std.specs.Str.{IsUtf8}
use Rattle.percent_encoding.specs.Percent.{percent_decode}
use Rattle.registry_store.proofs.Texts.{decode-encode}
use Rattle.registry_store.proofs.reading.read_text.Goals as goal

pub returns-in-Ok-clause-reads : goal.returns-in-Ok-clause-reads
returns-in-Ok-clause-reads c = λ set text has_percent utf8 e.
    let decoded : string_bytes c.in-Ok.text ≡ percent_decode c.args.field.now = grind (arith, common_steps) in
    decoded ∙ ap percent_decode e ∙ decode-encode set text has_percent utf8

pub returns-clause-reads : goal.returns-clause-reads
returns-clause-reads c = λ set text has_percent utf8 e.
    let decoded : c.append_to.new.out.items ≡ percent_decode c.args.field.now = grind (arith, common_steps) in
    let same = decoded ∙ ap percent_decode e ∙ decode-encode set text has_percent utf8 in
    absurd (false≢true (c.in-Err.ensures.succeeds (subst IsUtf8 (sym same) utf8)))
