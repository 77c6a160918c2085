use Rattle.std.proofs.Common.{◌∙◌, ap, sym}
use Rattle.std.proofs.lemmas.Bool.{false≢true}
use Rattle.std.proofs.lemmas.Bool.Decides.{Decides-eqb}
use Rattle.std.proofs.lemmas.Result.{err_from_is_err_and}
use Rattle.std.proofs.lemmas.Slice.Eq.{slice_eq-Decides}
use Rattle.registry_store.proofs.Bodies.{body_from_line}
use Rattle.registry_store.specs.Line.{body_of}
use Rattle.registry_store.proofs.reading.parse.Goals as goal

pub returns-in_err-command-clause-bad_line : goal.returns-in_err-command-clause-bad_line
returns-in_err-command-clause-bad_line c = λ bad.
    let p = err_from_is_err_and c.from_residual.result c.from_residual.ensures.1 in (
      (c.in-Some.body.now, c.in-Some.ensures.found),
      λ stored may e.
          let reads = c.in_err-command.ensures.reads stored may (body_from_line c.args.line.now c.in-Some.body.now stored c.in-Some.ensures.found e) in
          absurd (cc (p.1, p.2, bad, reads)),
    )

pub returns-else-eq-clause-bad_line : goal.returns-else-eq-clause-bad_line
returns-else-eq-clause-bad_line c = λ bad. (
  (c.in-Some.body.now, c.in-Some.ensures.found),
  λ stored may e.
      let body = body_from_line c.args.line.now c.in-Some.body.now stored c.in-Some.ensures.found e in
      let reads = c.in_ok-command.ensures.reads stored may body in
      let same = c.as_bytes.ensures.value ∙ c.in_ok-written.ensures ∙ ap body_of reads ∙ sym body in
      false≢true (sym c.if-eq.false ∙ (slice_eq-Decides Decides-eqb _ _ _ c.eq.ensures).1 same),
)
