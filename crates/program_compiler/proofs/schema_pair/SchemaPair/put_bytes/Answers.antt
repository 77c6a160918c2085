-- The statement goes by whether the reader has a string.
use Rattle.std.proofs.Common.{◌≡◌, ◌++◌, [], ◌∷◌, ap, ◌∙◌, rules, Some, true, false}
use Rattle.std.specs.Prelude.{slice_get}
use Rattle.std.proofs.lemmas.Result.{on_ok_weaker}
use Rattle.avro_types.specs.Node.{node_of}
use Rattle.spec_machine.specs.Statements.{BytesText}
use Rattle.spec_machine.specs.Writing.{is_text}
use Rattle.program_ir.specs.Statements.{statements_in}
use Rattle.program_compiler.proofs.schema_pair.SchemaPair.put_bytes.Goals as goal

pub returns-in-Text : goal.returns-in-Text
returns-in-Text c =
    let text : is_text (slice_get c.args.self.now.reader.now c.args.rn) ≡ true = ap is_text (c.kind.ensures.kind ∙ ap (λ k. Some (node_of k)) c.in-Text.is) in
    on_ok_weaker c.put.result (λ h W R. rw text (h W R ∙ ap (λ m. statements_in W R c.args.statements.now.items ++ BytesText m ∷ []) c.miss.ensures)) c.put.ensures

pub returns-in_default : goal.returns-in_default
returns-in_default c =
    let text : is_text (slice_get c.args.self.now.reader.now c.args.rn) ≡ false = search rules in
    on_ok_weaker c.put-in_default.result (λ h W R. rw text (h W R)) c.put-in_default.ensures
