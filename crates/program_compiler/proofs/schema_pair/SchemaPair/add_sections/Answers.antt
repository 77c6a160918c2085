-- A round for each section, and none left.
use Rattle.std.proofs.Common.{◌≡◌, ◌++◌, ◌∙◌, ap, arith, length, rules}
use Rattle.std.specs.Vec.{vec_len}
use Rattle.spec_machine.specs.Numbering.{adding, calls_of, named_in, same_section}
use Rattle.program_ir.specs.Statements.{statements_in, section_of}
use Rattle.program_compiler.proofs.Walked.{all_walked, fewer_left, too_many, walked_init, walked_on}
use Rattle.program_compiler.proofs.schema_pair.SchemaPair.add_sections.Goals as goal

pub loop-next-init : goal.loop-next-init
loop-next-init c = record {
  known = c.requires.known;
  walked = walked_init c.args.self.now.writer.now c.args.self.now.reader.now c.args.starts.now.items c.args.sections.now c.args.statements.now.items c.requires.starts c.requires.sections c.requires.statements;
}

pub returns-then-len-ge-MOST_INSTRS : goal.returns-then-len-ge-MOST_INSTRS
returns-then-len-ge-MOST_INSTRS c =
    let starts : vec_len c.loop-next.starts ≡ length c.loop-next.starts.items = search rules in
    let statements : vec_len c.loop-next.statements ≡ length c.loop-next.statements.items = search rules in
    too_many c.args.self.now.writer.now c.args.self.now.reader.now c.loop-next.starts.items c.len.result c.len-in-Some.result c.loop-next.sections c.loop-next.statements.items (section_of c.in-Some.next) c.loop-next.invariant.walked (c.len.ensures ∙ starts) c.in-Some.ensures (c.len-in-Some.ensures ∙ statements) c.if-len-ge-MOST_INSTRS.true

pub loop-next-smaller : goal.loop-next-smaller
loop-next-smaller c =
    let statements : vec_len c.loop-next.statements ≡ length c.loop-next.statements.items = search rules in
    fewer_left c.args.self.now.writer.now c.args.self.now.reader.now c.loop-next.starts.items c.push.new.self.items c.len-in-Some-2.result c.loop-next.sections c.loop-next.statements.items c.loop-next.invariant.walked (c.len-in-Some-2.ensures ∙ statements) (omega (arith, c.len-in-Some-2.ensures, c.len-in-Some.ensures, c.if-len-ge-MOST_INSTRS.false)) c.in_ok-push.ensures.items

pub loop-next-preserved : goal.loop-next-preserved
loop-next-preserved c =
    let starts : vec_len c.loop-next.starts ≡ length c.loop-next.starts.items = search rules in
    let statements : vec_len c.loop-next.statements ≡ length c.loop-next.statements.items = search rules in
    record {
      known = c.in_ok-code.ensures.known;
      walked =
          walked_on c.args.self.now.writer.now c.args.self.now.reader.now c.loop-next.starts.items c.push.new.self.items c.len.result c.len-in-Some-2.result c.loop-next.sections c.note_calls.new.sections c.loop-next.statements.items (statements_in c.args.self.now.writer.now c.args.self.now.reader.now c.put_all.new.statements.items) (section_of c.in-Some.next) c.loop-next.invariant.walked (c.len.ensures ∙ starts) c.in-Some.ensures (c.len-in-Some-2.ensures ∙ statements) (omega (arith, c.len-in-Some-2.ensures, c.len-in-Some.ensures, c.if-len-ge-MOST_INSTRS.false)) c.in_ok-push.ensures.items
          (c.in_ok-note_calls.ensures c.args.self.now.writer.now c.args.self.now.reader.now ∙ ap (λ ls. adding same_section c.loop-next.sections (named_in calls_of (statements_in c.args.self.now.writer.now c.args.self.now.reader.now ls))) c.deref.ensures.value ∙ ap (λ ls. adding same_section c.loop-next.sections (named_in calls_of ls)) c.in_ok-code.ensures.statements)
          (c.in_ok-put_all.ensures c.args.self.now.writer.now c.args.self.now.reader.now ∙ ap (λ ls. statements_in c.args.self.now.writer.now c.args.self.now.reader.now c.loop-next.statements.items ++ ls) c.in_ok-code.ensures.statements);
    }

pub returns : goal.returns
returns c =
    let starts : vec_len c.loop-next.starts ≡ length c.loop-next.starts.items = search rules in
    all_walked c.args.self.now.writer.now c.args.self.now.reader.now c.loop-next.starts.items c.len.result c.loop-next.sections c.loop-next.statements.items c.loop-next.invariant.walked (c.len.ensures ∙ starts) c.in_default.ensures
