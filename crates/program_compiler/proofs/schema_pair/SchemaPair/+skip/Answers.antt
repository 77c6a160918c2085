-- The statements of each kind of node.
use Rattle.std.proofs.Common.{rules, [], ap, sym, ◌∙◌, refl, append-nil, ◌++◌}
use Rattle.std.specs.Prelude.{Some}
use Rattle.std.proofs.lemmas.Result.{on_ok_weaker}
use Rattle.avro_types.specs.Node.{node_of}
use Rattle.spec_machine.specs.Statements.{branched}
use Rattle.program_ir.specs.Statements.{statements_in}
use Rattle.program_compiler.proofs.Steps.{body_is, key_then, looped_after, skip_more, skip_none}
use Rattle.program_compiler.proofs.schema_pair.SchemaPair.+skip.Goals as goal

pub skip_within-returns-then-levels-eq0 : goal.skip_within-returns-then-levels-eq0
skip_within-returns-then-levels-eq0 t c = on_ok_weaker c.put.result (λ h. skip_none _ _ _ _ _ c.if-levels-eq0.true (h c.args.self.now.writer.now c.args.self.now.reader.now)) c.put.ensures

pub skip_within-returns-in-Null : goal.skip_within-returns-in-Null
skip_within-returns-in-Null t c = skip_more c.args.self.now.writer.now c.args.levels c.args.n _ _ _ [] c.if-levels-eq0.false (c.kind.ensures.kind ∙ ap (λ k. Some (node_of k)) c.in-Null.is) refl (sym (append-nil _))

pub skip_within-returns-in-Boolean : goal.skip_within-returns-in-Boolean
skip_within-returns-in-Boolean t c = on_ok_weaker c.put-in-Boolean.result (λ h. skip_more _ _ _ _ _ _ _ c.if-levels-eq0.false (c.kind.ensures.kind ∙ ap (λ k. Some (node_of k)) c.in-Boolean.is) refl (h c.args.self.now.writer.now c.args.self.now.reader.now)) c.put-in-Boolean.ensures

pub skip_within-returns-in-Int : goal.skip_within-returns-in-Int
skip_within-returns-in-Int t c = on_ok_weaker c.put-in-Int.result (λ h. skip_more _ _ _ _ _ _ _ c.if-levels-eq0.false (c.kind.ensures.kind ∙ ap (λ k. Some (node_of k)) c.in-Int.is) refl (h c.args.self.now.writer.now c.args.self.now.reader.now)) c.put-in-Int.ensures

pub skip_within-returns-in-Long : goal.skip_within-returns-in-Long
skip_within-returns-in-Long t c = on_ok_weaker c.put-in-Long.result (λ h. skip_more _ _ _ _ _ _ _ c.if-levels-eq0.false (c.kind.ensures.kind ∙ ap (λ k. Some (node_of k)) c.in-Long.is) refl (h c.args.self.now.writer.now c.args.self.now.reader.now)) c.put-in-Long.ensures

pub skip_within-returns-in-Bytes : goal.skip_within-returns-in-Bytes
skip_within-returns-in-Bytes t c = on_ok_weaker c.put-in-Bytes.result (λ h. skip_more _ _ _ _ _ _ _ c.if-levels-eq0.false (c.kind.ensures.kind ∙ ap (λ k. Some (node_of k)) c.in-Bytes.is) refl (h c.args.self.now.writer.now c.args.self.now.reader.now)) c.put-in-Bytes.ensures

pub skip_within-returns-in-Text : goal.skip_within-returns-in-Text
skip_within-returns-in-Text t c = on_ok_weaker c.put-in-Text.result (λ h. skip_more _ _ _ _ _ _ _ c.if-levels-eq0.false (c.kind.ensures.kind ∙ ap (λ k. Some (node_of k)) c.in-Text.is) refl (h c.args.self.now.writer.now c.args.self.now.reader.now)) c.put-in-Text.ensures

pub skip_within-returns-in-Fixed : goal.skip_within-returns-in-Fixed
skip_within-returns-in-Fixed t c = on_ok_weaker c.put-in-Fixed.result (λ h. skip_more _ _ _ _ _ _ _ c.if-levels-eq0.false (c.kind.ensures.kind ∙ ap (λ k. Some (node_of k)) c.in-Fixed.is) refl (h c.args.self.now.writer.now c.args.self.now.reader.now)) c.put-in-Fixed.ensures

pub skip_within-returns-in-Enum : goal.skip_within-returns-in-Enum
skip_within-returns-in-Enum t c = on_ok_weaker c.put-in-Enum.result (λ h. skip_more _ _ _ _ _ _ _ c.if-levels-eq0.false (c.kind.ensures.kind ∙ ap (λ k. Some (node_of k)) c.in-Enum.is) (search rules) (h c.args.self.now.writer.now c.args.self.now.reader.now)) c.put-in-Enum.ensures

pub skip_within-returns-in-Record : goal.skip_within-returns-in-Record
skip_within-returns-in-Record t c = on_ok_weaker c.put-in-Record.result (λ h. skip_more _ _ _ _ _ _ _ c.if-levels-eq0.false (c.kind.ensures.kind ∙ ap (λ k. Some (node_of k)) c.in-Record.is) refl (h c.args.self.now.writer.now c.args.self.now.reader.now)) c.put-in-Record.ensures

pub skip_within-returns-in_ok-skip_within-in-Array : goal.skip_within-returns-in_ok-skip_within-in-Array
skip_within-returns-in_ok-skip_within-in-Array t c =
    let W = c.args.self.now.writer.now in
    let R = c.args.self.now.reader.now in
    on_ok_weaker c.put_loop.result (λ h. skip_more _ _ _ _ _ _ _ c.if-levels-eq0.false (c.kind.ensures.kind ∙ ap (λ k. Some (node_of k)) c.in-Array.is) refl (looped_after _ _ _ _ _ _ _ (c.in_ok-put-in-Array.ensures W R) (body_is W R c.new-body.result.items _ _ c.new-body.ensures.items c.in_ok-skip_within-in-Array.ensures) (h W R))) c.put_loop.ensures

pub skip_within-returns-in_ok-skip_within-in-Map : goal.skip_within-returns-in_ok-skip_within-in-Map
skip_within-returns-in_ok-skip_within-in-Map t c =
    let W = c.args.self.now.writer.now in
    let R = c.args.self.now.reader.now in
    on_ok_weaker c.put_loop-in-Map.result (λ h. skip_more _ _ _ _ _ _ _ c.if-levels-eq0.false (c.kind.ensures.kind ∙ ap (λ k. Some (node_of k)) c.in-Map.is) refl (looped_after _ _ _ _ _ _ _ (c.in_ok-put-in-Map.ensures W R) (key_then W R c.new-body-in-Map.result.items _ _ _ _ c.new-body-in-Map.ensures.items (c.in_ok-put-in-Map-2.ensures W R) c.in_ok-skip_within-in-Map.ensures) (h W R))) c.put_loop-in-Map.ensures

pub skip_within-returns-in_ok-parts-in-Union : goal.skip_within-returns-in_ok-parts-in-Union
skip_within-returns-in_ok-parts-in-Union t c =
    let W = c.args.self.now.writer.now in
    let R = c.args.self.now.reader.now in
    let parts = rw c.deref.ensures.value at c.in_ok-parts-in-Union.ensures in
    on_ok_weaker c.put_branched.result (λ h. skip_more W c.args.levels c.args.n _ (statements_in W R c.args.statements.now.items) _ _ c.if-levels-eq0.false (c.kind.ensures.kind ∙ ap (λ k. Some (node_of k)) c.in-Union.is) refl (h W R ∙ ap (λ ps. statements_in W R c.args.statements.now.items ++ branched ps) parts)) c.put_branched.ensures
