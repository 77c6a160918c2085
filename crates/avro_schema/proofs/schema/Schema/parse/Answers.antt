use Rattle.std.proofs.Common.{◌≡◌, ◌∙◌, sym, ap, arith, Some, Ok, string_bytes}
use Rattle.std.proofs.lemmas.Result.{err_from_is_err_and}
use Rattle.serde_json.specs.Read.{read}
use Rattle.serde_json.specs.View.{view}
use Rattle.spec_avro.specs.declared.limits.TheConstants.{MOST_TEXT}
use Rattle.spec_schema.specs.Schema.{nodes_in_read}
use Rattle.avro_schema.proofs.Declared.{too-large, small, no-json, some-json, a-float, walked}
use Rattle.avro_schema.proofs.DeclaredSizes.{declared-within}
use Rattle.avro_schema.proofs.ReadSizes.{read-within}
use Rattle.avro_schema.proofs.WholeNodes.{declared-well_formed}
use Rattle.avro_schema.proofs.schema.Schema.parse.Goals as goal

pub returns-then-text-gt-MOST_TEXT-clause-schema : goal.returns-then-text-gt-MOST_TEXT-clause-schema
returns-then-text-gt-MOST_TEXT-clause-schema c = λ _. too-large c.args.text.now (omega arith)

pub returns-in_err-value-clause-schema : goal.returns-in_err-value-clause-schema
returns-in_err-value-clause-schema c =
    let p = err_from_is_err_and c.from_residual.result c.from_residual.ensures.1 in
    rw (p.1, p.2) (λ known. small c.args.text.now (omega arith) ∙ no-json (read c.args.text.now) _ (c.in_err-value.ensures.value known))

pub returns-then-has_float-clause-schema : goal.returns-then-has_float-clause-schema
returns-then-has_float-clause-schema c =
    let is = some-json (read c.args.text.now) (view c.in_ok-value.value) c.in_ok-value.ensures.value in
    λ _. small c.args.text.now (omega arith) ∙ a-float c.args.text.now (view c.in_ok-value.value) is c.if-has_float.ensures

pub returns-in_err-kinds-clause-schema : goal.returns-in_err-kinds-clause-schema
returns-in_err-kinds-clause-schema c =
    let p = err_from_is_err_and c.from_residual-in_err-kinds.result c.from_residual-in_err-kinds.ensures.1 in
    let is = some-json (read c.args.text.now) (view c.in_ok-value.value) c.in_ok-value.ensures.value in
    rw (p.1, p.2) (λ known. small c.args.text.now (omega arith) ∙ walked c.args.text.now (view c.in_ok-value.value) is c.if-has_float.ensures ∙ c.in_err-kinds.ensures.declared known)

pub of_parts-requires : goal.of_parts-requires
of_parts-requires c =
    let back : read (string_bytes c.in_ok-text.text) ≡ Some (view c.in_ok-value.value) = c.in_ok-text.ensures.reads_back c.in_ok-value.ensures.nests in
    record {
      value = view c.in_ok-value.value;
      is_compact = record { reads = back; compact = c.in_ok-text.ensures.text (sym c.if-has_float.ensures) };
      gives = sym (ap nodes_in_read back) ∙ walked (string_bytes c.in_ok-text.text) (view c.in_ok-value.value) back c.if-has_float.ensures ∙ c.in_ok-kinds.ensures.declared ∙ ap Ok (sym c.new.ensures);
    }

pub new-requires : goal.new-requires
new-requires c =
    let is = some-json (read c.args.text.now) (view c.in_ok-value.value) c.in_ok-value.ensures.value in
    let short = read-within MOST_TEXT c.args.text.now (view c.in_ok-value.value) is (omega arith) in
    record {
      well_formed = declared-well_formed c.args.text.now _ (walked c.args.text.now (view c.in_ok-value.value) is c.if-has_float.ensures ∙ c.in_ok-kinds.ensures.declared);
      defaults_conform = c.in_ok-kinds.ensures.defaults;
      defaults_are_short = declared-within MOST_TEXT (view c.in_ok-value.value) _ c.in_ok-kinds.ensures.declared short;
    }

pub returns-clause-schema : goal.returns-clause-schema
returns-clause-schema c =
    let is = some-json (read c.args.text.now) (view c.in_ok-value.value) c.in_ok-value.ensures.value in
    rw c.in_ok-of_parts.ensures (
      small c.args.text.now (omega arith) ∙ walked c.args.text.now (view c.in_ok-value.value) is c.if-has_float.ensures ∙ c.in_ok-kinds.ensures.declared ∙ ap Ok (sym c.new.ensures),
      view c.in_ok-value.value,
      is,
      c.in_ok-text.ensures.text (sym c.if-has_float.ensures),
    )
