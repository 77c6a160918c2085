-- The statements of each kind of node, in each place.
use Rattle.std.proofs.Common.{◌-◌, ◌++◌, [], ◌∷◌, ap, ◌∙◌, refl, map}
use Rattle.std.specs.Prelude.{slice_get, Some}
use Rattle.std.proofs.lemmas.Result.{on_ok_weaker}
use Rattle.avro_types.specs.Node.{node_of}
use Rattle.spec_machine.specs.Statements.{Enum, Miss, branched}
use Rattle.spec_machine.specs.Writing.{target, write_within}
use Rattle.program_ir.specs.Statements.{statements_in, symbols_of}
use Rattle.program_compiler.proofs.Steps.{body_is, key_then, looped_after, write_more, write_none}
use Rattle.program_ir.proofs.Appended.{two}
use Rattle.program_compiler.proofs.WriteSteps.{no_union, parts_none, parts_some, placed_more, straight_more}
use Rattle.program_compiler.proofs.schema_pair.SchemaPair.+write.Goals as goal

pub straight-returns-in-Boolean-clause-statements : goal.straight-returns-in-Boolean-clause-statements
straight-returns-in-Boolean-clause-statements t c = on_ok_weaker c.put.result (λ h. straight_more c.args.self.now.writer.now c.args.self.now.reader.now (write_within c.args.self.now.writer.now c.args.self.now.reader.now c.args.steps) c.args.wn c.args.rn (slice_get c.args.self.now.reader.now c.args.rn) _ (statements_in c.args.self.now.writer.now c.args.self.now.reader.now c.args.statements.now.items) _ _ (c.kind.ensures.kind ∙ ap (λ k. Some (node_of k)) c.in-Boolean.is) refl (h c.args.self.now.writer.now c.args.self.now.reader.now)) c.put.ensures

pub straight-returns-in-Int-clause-statements : goal.straight-returns-in-Int-clause-statements
straight-returns-in-Int-clause-statements t c = on_ok_weaker c.put-in-Int.result (λ h. straight_more c.args.self.now.writer.now c.args.self.now.reader.now (write_within c.args.self.now.writer.now c.args.self.now.reader.now c.args.steps) c.args.wn c.args.rn (slice_get c.args.self.now.reader.now c.args.rn) _ (statements_in c.args.self.now.writer.now c.args.self.now.reader.now c.args.statements.now.items) _ _ (c.kind.ensures.kind ∙ ap (λ k. Some (node_of k)) c.in-Int.is) refl (h c.args.self.now.writer.now c.args.self.now.reader.now)) c.put-in-Int.ensures

pub straight-returns-in-Long-clause-statements : goal.straight-returns-in-Long-clause-statements
straight-returns-in-Long-clause-statements t c = on_ok_weaker c.put-in-Long.result (λ h. straight_more c.args.self.now.writer.now c.args.self.now.reader.now (write_within c.args.self.now.writer.now c.args.self.now.reader.now c.args.steps) c.args.wn c.args.rn (slice_get c.args.self.now.reader.now c.args.rn) _ (statements_in c.args.self.now.writer.now c.args.self.now.reader.now c.args.statements.now.items) _ _ (c.kind.ensures.kind ∙ ap (λ k. Some (node_of k)) c.in-Long.is) refl (h c.args.self.now.writer.now c.args.self.now.reader.now)) c.put-in-Long.ensures

pub straight-returns-in-Text-clause-statements : goal.straight-returns-in-Text-clause-statements
straight-returns-in-Text-clause-statements t c = on_ok_weaker c.put-in-Text.result (λ h. straight_more c.args.self.now.writer.now c.args.self.now.reader.now (write_within c.args.self.now.writer.now c.args.self.now.reader.now c.args.steps) c.args.wn c.args.rn (slice_get c.args.self.now.reader.now c.args.rn) _ (statements_in c.args.self.now.writer.now c.args.self.now.reader.now c.args.statements.now.items) _ _ (c.kind.ensures.kind ∙ ap (λ k. Some (node_of k)) c.in-Text.is) refl (h c.args.self.now.writer.now c.args.self.now.reader.now)) c.put-in-Text.ensures

pub straight-returns-in-Fixed-clause-statements : goal.straight-returns-in-Fixed-clause-statements
straight-returns-in-Fixed-clause-statements t c = on_ok_weaker c.put-in-Fixed.result (λ h. straight_more c.args.self.now.writer.now c.args.self.now.reader.now (write_within c.args.self.now.writer.now c.args.self.now.reader.now c.args.steps) c.args.wn c.args.rn (slice_get c.args.self.now.reader.now c.args.rn) _ (statements_in c.args.self.now.writer.now c.args.self.now.reader.now c.args.statements.now.items) _ _ (c.kind.ensures.kind ∙ ap (λ k. Some (node_of k)) c.in-Fixed.is) refl (h c.args.self.now.writer.now c.args.self.now.reader.now)) c.put-in-Fixed.ensures

pub straight-returns-in-Enum-clause-statements : goal.straight-returns-in-Enum-clause-statements
straight-returns-in-Enum-clause-statements t c =
    let at = c.kind.ensures.kind ∙ ap (λ k. Some (node_of k)) c.in-Enum.is in
    let old = statements_in c.args.self.now.writer.now c.args.self.now.reader.now c.args.statements.now.items in
    on_ok_weaker c.put-in-Enum.result (λ h. straight_more c.args.self.now.writer.now c.args.self.now.reader.now (write_within c.args.self.now.writer.now c.args.self.now.reader.now c.args.steps) c.args.wn c.args.rn (slice_get c.args.self.now.reader.now c.args.rn) _ old _ _ at refl (h c.args.self.now.writer.now c.args.self.now.reader.now ∙ ap (λ x. old ++ Enum (map (target c.args.wn c.args.rn (slice_get c.args.self.now.reader.now c.args.rn)) (symbols_of x)) ∷ []) at)) c.put-in-Enum.ensures

pub straight-returns-in-Union-clause-statements : goal.straight-returns-in-Union-clause-statements
straight-returns-in-Union-clause-statements t c = on_ok_weaker c.put-in-Union.result (λ h. straight_more c.args.self.now.writer.now c.args.self.now.reader.now (write_within c.args.self.now.writer.now c.args.self.now.reader.now c.args.steps) c.args.wn c.args.rn (slice_get c.args.self.now.reader.now c.args.rn) _ (statements_in c.args.self.now.writer.now c.args.self.now.reader.now c.args.statements.now.items) _ _ (c.kind.ensures.kind ∙ ap (λ k. Some (node_of k)) c.in-Union.is) refl (h c.args.self.now.writer.now c.args.self.now.reader.now)) c.put-in-Union.ensures

pub straight-returns-in-Bytes-clause-statements : goal.straight-returns-in-Bytes-clause-statements
straight-returns-in-Bytes-clause-statements t c = on_ok_weaker c.put_bytes.result (λ h. straight_more c.args.self.now.writer.now c.args.self.now.reader.now (write_within c.args.self.now.writer.now c.args.self.now.reader.now c.args.steps) c.args.wn c.args.rn (slice_get c.args.self.now.reader.now c.args.rn) _ (statements_in c.args.self.now.writer.now c.args.self.now.reader.now c.args.statements.now.items) _ _ (c.kind.ensures.kind ∙ ap (λ k. Some (node_of k)) c.in-Bytes.is) refl (h c.args.self.now.writer.now c.args.self.now.reader.now)) c.put_bytes.ensures

pub items-returns-in_default-clause-statements : goal.items-returns-in_default-clause-statements
items-returns-in_default-clause-statements t c = on_ok_weaker c.put.result (λ h. parts_none _ _ _ _ c.in_default.is (h c.args.self.now.writer.now c.args.self.now.reader.now)) c.put.ensures

pub values-returns-in_default-clause-statements : goal.values-returns-in_default-clause-statements
values-returns-in_default-clause-statements t c = on_ok_weaker c.put.result (λ h. parts_none _ _ _ _ c.in_default.is (h c.args.self.now.writer.now c.args.self.now.reader.now)) c.put.ensures

pub items-returns-clause-statements : goal.items-returns-clause-statements
items-returns-clause-statements t c =
    let W = c.args.self.now.writer.now in
    let R = c.args.self.now.reader.now in
    on_ok_weaker c.put_loop.result (λ h. parts_some _ _ _ _ _ _ c.in-Some.is refl (looped_after _ _ _ _ _ _ _ (c.in_ok-put.ensures W R) (body_is W R c.new-body.result.items _ _ c.new-body.ensures.items c.in_ok-write_within.ensures.statements) (h W R))) c.put_loop.ensures

pub values-returns-clause-statements : goal.values-returns-clause-statements
values-returns-clause-statements t c =
    let W = c.args.self.now.writer.now in
    let R = c.args.self.now.reader.now in
    on_ok_weaker c.put_loop.result (λ h. parts_some _ _ _ _ _ _ c.in-Some.is refl (looped_after _ _ _ _ _ _ _ (c.in_ok-put-2.ensures W R) (key_then W R c.new-body.result.items _ _ _ _ c.new-body.ensures.items (c.in_ok-put.ensures W R) c.in_ok-write_within.ensures.statements) (h W R))) c.put_loop.ensures

pub placed-returns-in_ok-put-in-IntoMember-clause-statements : goal.placed-returns-in_ok-put-in-IntoMember-clause-statements
placed-returns-in_ok-put-in-IntoMember-clause-statements t c =
    let W = c.args.self.now.writer.now in
    let R = c.args.self.now.reader.now in
    on_ok_weaker c.straight-in-IntoMember.result (λ h. placed_more c.args.self.now.writer.now c.args.self.now.reader.now (write_within c.args.self.now.writer.now c.args.self.now.reader.now c.args.steps) c.args.wn c.args.rn _ _ (statements_in c.args.self.now.writer.now c.args.self.now.reader.now c.args.statements.now.items) _ _ c.in_ok-place_of.ensures.place c.in-IntoMember.is refl (two (statements_in c.args.self.now.writer.now c.args.self.now.reader.now c.args.statements.now.items) _ _ _ _ (c.in_ok-put-in-IntoMember.ensures W R) h)) c.straight-in-IntoMember.ensures.statements

pub placed-returns-in_ok-put-in-Nowhere-clause-statements : goal.placed-returns-in_ok-put-in-Nowhere-clause-statements
placed-returns-in_ok-put-in-Nowhere-clause-statements t c =
    let W = c.args.self.now.writer.now in
    let R = c.args.self.now.reader.now in
    on_ok_weaker c.skip.result (λ h. placed_more c.args.self.now.writer.now c.args.self.now.reader.now (write_within c.args.self.now.writer.now c.args.self.now.reader.now c.args.steps) c.args.wn c.args.rn _ _ (statements_in c.args.self.now.writer.now c.args.self.now.reader.now c.args.statements.now.items) _ _ c.in_ok-place_of.ensures.place c.in-Nowhere.is refl (two (statements_in c.args.self.now.writer.now c.args.self.now.reader.now c.args.statements.now.items) _ _ _ _ (c.in_ok-put-in-Nowhere.ensures W R ∙ ap (λ m. statements_in W R c.args.statements.now.items ++ Miss m ∷ []) c.miss.ensures) h)) c.skip.ensures

pub placed-returns-in_ok-put-in-Unmatched-clause-statements : goal.placed-returns-in_ok-put-in-Unmatched-clause-statements
placed-returns-in_ok-put-in-Unmatched-clause-statements t c =
    let W = c.args.self.now.writer.now in
    let R = c.args.self.now.reader.now in
    on_ok_weaker c.skip-in-Unmatched.result (λ h. placed_more c.args.self.now.writer.now c.args.self.now.reader.now (write_within c.args.self.now.writer.now c.args.self.now.reader.now c.args.steps) c.args.wn c.args.rn _ _ (statements_in c.args.self.now.writer.now c.args.self.now.reader.now c.args.statements.now.items) _ _ c.in_ok-place_of.ensures.place c.in-Unmatched.is refl (two (statements_in c.args.self.now.writer.now c.args.self.now.reader.now c.args.statements.now.items) _ _ _ _ (c.in_ok-put-in-Unmatched.ensures W R ∙ ap (λ m. statements_in W R c.args.statements.now.items ++ Miss m ∷ []) c.miss-in-Unmatched.ensures) h)) c.skip-in-Unmatched.ensures

pub write_within-returns-then-levels-eq0-clause-statements : goal.write_within-returns-then-levels-eq0-clause-statements
write_within-returns-then-levels-eq0-clause-statements t c = on_ok_weaker c.put.result (λ h. write_none _ _ _ _ _ _ _ c.if-levels-eq0.true (h c.args.self.now.writer.now c.args.self.now.reader.now)) c.put.ensures

pub write_within-returns-in_default-clause-statements : goal.write_within-returns-in_default-clause-statements
write_within-returns-in_default-clause-statements t c =
    on_ok_weaker c.placed.result (λ h. write_more c.args.self.now.writer.now c.args.self.now.reader.now c.args.levels c.args.wn c.args.rn _ (statements_in c.args.self.now.writer.now c.args.self.now.reader.now c.args.statements.now.items) _ _ c.if-levels-eq0.false c.kind.ensures.kind (no_union c.args.self.now.writer.now c.args.self.now.reader.now (write_within c.args.self.now.writer.now c.args.self.now.reader.now (c.args.levels - 1)) c.args.wn c.args.rn c.kind.result.now c.in_default.not-Union) h) c.placed.ensures.statements

pub write_within-returns-in_ok-parts-in-Union-clause-statements : goal.write_within-returns-in_ok-parts-in-Union-clause-statements
write_within-returns-in_ok-parts-in-Union-clause-statements t c =
    let W = c.args.self.now.writer.now in
    let R = c.args.self.now.reader.now in
    let parts = rw c.deref.ensures.value at c.in_ok-parts-in-Union.ensures.parts in
    on_ok_weaker c.put_branched.result (λ h. write_more W R c.args.levels c.args.wn c.args.rn _ (statements_in W R c.args.statements.now.items) _ _ c.if-levels-eq0.false (c.kind.ensures.kind ∙ ap (λ k. Some (node_of k)) c.in-Union.is) refl (h W R ∙ ap (λ ps. statements_in W R c.args.statements.now.items ++ branched ps) parts)) c.put_branched.ensures
