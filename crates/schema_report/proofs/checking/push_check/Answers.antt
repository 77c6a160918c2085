use Rattle.std.proofs.Common.{◌++◌, ◌∙◌, ap, List, string_bytes, sym}
use Rattle.schema_check.specs.declared.checking.BadPair.{BadPair}
use Rattle.schema_report.specs.Checking.{bad_lines}
use Rattle.schema_report.proofs.Appending.{empty_is, is_empty_of}
use Rattle.schema_report.proofs.checking.push_check.Goals as goal

pub returns : goal.returns
returns c =
    let bad = c.in_ok-check.check.bad.items in
    let safe = c.in_ok-check.ensures.check.found.bad_pairs.safe in
    record {
      check = c.in_ok-check.check;
      is = c.in_ok-check.ensures.check;
      lines = c.in_ok-push_all.ensures
          ∙ ap (λ (bs : List BadPair). string_bytes c.args.output.now ++ bad_lines c.args.before.now c.args.writer.now c.args.reader.now bs) c.as_slice-bad.ensures.value;
      safe = (λ empty. safe.0 (sym c.as_slice-bad.ensures.value ∙ empty_is _ c.is_empty.result c.is_empty.ensures empty), λ is_safe. is_empty_of _ c.is_empty.result c.is_empty.ensures (c.as_slice-bad.ensures.value ∙ safe.1 is_safe));
    }
