-- A text that is parsed, and bytes that are no text.
use Rattle.schema_report.proofs.SchemaLines.{no_text, parsed, refused}
use Rattle.schema_report.proofs.reading.schema_of_line.Goals as goal

pub returns-in-Ok-clause-ok : goal.returns-in-Ok-clause-ok
returns-in-Ok-clause-ok c =
    let text = c.in-Ok.ensures.cases in
    parsed c.parse.result c.in-Ok.text.now c.args.line.now text.0 text.1 c.parse.ensures.schema

pub returns-in-Ok-clause-err : goal.returns-in-Ok-clause-err
returns-in-Ok-clause-err c =
    let text = c.in-Ok.ensures.cases in
    refused c.parse.result c.in-Ok.text.now c.args.line.now text.0 text.1 c.parse.ensures.schema

pub returns-in-Err-clause-err : goal.returns-in-Err-clause-err
returns-in-Err-clause-err c = λ _. no_text c.args.line.now c.in-Err.ensures.cases.0
