-- A quote at the beginning, and one at the end.
use Rattle.std.proofs.Common.{◌≡◌, ◌++◌, ◌∷◌, [], arith}
use Rattle.std.proofs.lemmas.Str.Pattern.{strip_prefix_char, strip_suffix_char}
use Rattle.schema_report.proofs.Quoting.{after_quote, before_quote, begins}
use Rattle.schema_report.proofs.report.unquoted.Goals as goal

pub returns-in_err-strip_prefix : goal.returns-in_err-strip_prefix
returns-in_err-strip_prefix c = λ inner e.
    absurd (begins 34 c.args.text.now (inner ++ (34 ∷ [])) c.strip_prefix.result c.in_err-strip_prefix.was
    (strip_prefix_char 34 c.args.text.now c.strip_prefix.result c.strip_prefix.ensures.cases (omega arith)) e)

pub returns : goal.returns
returns c = λ inner e.
    let rest = c.in_ok-strip_prefix.field-0 in
    let after = after_quote 34 c.args.text.now c.strip_prefix.result rest c.in_ok-strip_prefix.was
    (strip_prefix_char 34 c.args.text.now c.strip_prefix.result c.strip_prefix.ensures.cases (omega arith)) in
    let same : rest.now ≡ inner ++ (34 ∷ []) = cc in
    before_quote 34 rest.now inner c.strip_suffix.result same
    (strip_suffix_char 34 rest.now c.strip_suffix.result c.strip_suffix.ensures.cases (omega arith))
