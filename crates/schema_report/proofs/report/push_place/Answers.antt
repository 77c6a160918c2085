use Rattle.std.proofs.Common.{◌++◌, ◌∙◌, ap, append_assoc, List, ℕ, Ok, Option, string_bytes, sym, subst}
use Rattle.avro_schema_faults.specs.Places.{Finds, IsFaultOf}
use Rattle.avro_schema_faults.specs.declared.faults.Fault.{Fault}
use Rattle.std.specs.declared.alloc.AllocError.{AllocError}
use Rattle.avro_schema_paths.specs.Places.{Path}
use Rattle.schema_report.specs.Faults.{place_text, word_of}
use Rattle.schema_report.proofs.Placing.{no_text_place, placed}
use Rattle.schema_report.proofs.report.push_place.Goals as goal

pub returns-in_default : goal.returns-in_default
returns-in_default c = no_text_place c.args.line.now c.args.error (string_bytes c.args.output.now) c.in_default.ensures.cases.0 c.requires

pub returns : goal.returns
returns c =
    let old = string_bytes c.args.output.now in
    let line = c.args.line.now in
    let fault = c.in-Some.fault in
    let is : IsFaultOf c.in-Ok.text.now fault = subst (λ (o : Option Fault). Finds {E = AllocError} (Ok o) c.in-Ok.text.now) c.in-Some.is c.in_ok-fault.ensures in
    let place = c.deref-3.ensures ∙ c.in_ok-place.ensures ∙ ap (λ (p : Path). place_text p) c.deref.ensures.value in
    let word = c.deref-4.ensures ∙ c.in_ok-word.ensures ∙ (λ i. word_of (c.in-Ok.ensures.cases.0 i) (c.deref-2.ensures.value i)) in
    placed line c.args.error old _ (sym c.has_place.ensures ∙ c.if-not-has_place.false) (record {
      fault = fault;
      is = subst (λ (t : List ℕ). IsFaultOf t fault) c.in-Ok.ensures.cases.0 is;
      text = c.in_ok-push_str-2.ensures.bytes
          ∙ (λ i. (c.in_ok-push_str.ensures.bytes ∙ ap (λ (x : List ℕ). old ++ x) place) i ++ word i)
          ∙ append_assoc old (place_text fault.path.items) (word_of line fault.path.items);
    })
