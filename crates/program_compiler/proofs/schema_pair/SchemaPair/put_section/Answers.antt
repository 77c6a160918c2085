-- Each section, of nodes that there are or not.
use Rattle.std.proofs.Common.{◌≤◌, ◌++◌, ap, sym, ◌∙◌, length, arith}
use Rattle.std.proofs.lemmas.Result.{on_ok_weaker}
use Rattle.spec_machine.specs.Writing.{section}
use Rattle.program_ir.specs.Statements.{statements_in, section_of}
use Rattle.program_ir.proofs.Appended.{two}
use Rattle.program_compiler.proofs.SectionSteps.{main_more, no_node, no_reader_node, no_writer_node, skip_section, write_section}
use Rattle.program_compiler.proofs.schema_pair.SchemaPair.put_section.Goals as goal

pub returns-in_ok-write-in-Main-clause-statements : goal.returns-in_ok-write-in-Main-clause-statements
returns-in_ok-write-in-Main-clause-statements c =
    let W = c.args.self.now.writer.now in
    let R = c.args.self.now.reader.now in
    let old = statements_in W R c.args.statements.now.items in
    on_ok_weaker c.put.result (λ h. main_more W R old _ (two old _ _ _ _ c.in_ok-write-in-Main.ensures.statements (h W R)) ∙ ap (λ p. old ++ section W R (section_of p)) (sym c.in-Main.is)) c.put.ensures

pub returns-then-wn-len-clause-statements : goal.returns-then-wn-len-clause-statements
returns-then-wn-len-clause-statements c =
    let W = c.args.self.now.writer.now in
    let R = c.args.self.now.reader.now in
    let old = statements_in W R c.args.statements.now.items in
    let le : length W ≤ c.in-Write.wn = omega (arith, c.len.ensures, c.if-wn-len.true) in
    on_ok_weaker c.put-then-wn-len.result (λ h. no_writer_node W R old _ c.in-Write.wn c.in-Write.rn le (h W R) ∙ ap (λ p. old ++ section W R (section_of p)) (sym c.in-Write.is)) c.put-then-wn-len.ensures

pub returns-then-rn-len-clause-statements : goal.returns-then-rn-len-clause-statements
returns-then-rn-len-clause-statements c =
    let W = c.args.self.now.writer.now in
    let R = c.args.self.now.reader.now in
    let old = statements_in W R c.args.statements.now.items in
    let le : length R ≤ c.in-Write.rn = omega (arith, c.len-in-Write.ensures, c.if-rn-len.true) in
    on_ok_weaker c.put-then-rn-len.result (λ h. no_reader_node W R old _ c.in-Write.wn c.in-Write.rn le (h W R) ∙ ap (λ p. old ++ section W R (section_of p)) (sym c.in-Write.is)) c.put-then-rn-len.ensures

pub returns-else-rn-len-clause-statements : goal.returns-else-rn-len-clause-statements
returns-else-rn-len-clause-statements c =
    let W = c.args.self.now.writer.now in
    let R = c.args.self.now.reader.now in
    let old = statements_in W R c.args.statements.now.items in
    on_ok_weaker c.put_routine.result (λ h. write_section W R old _ c.in-Write.wn c.in-Write.rn h ∙ ap (λ p. old ++ section W R (section_of p)) (sym c.in-Write.is)) c.put_routine.ensures.statements

pub returns-then-wn-len-2-clause-statements : goal.returns-then-wn-len-2-clause-statements
returns-then-wn-len-2-clause-statements c =
    let W = c.args.self.now.writer.now in
    let R = c.args.self.now.reader.now in
    let old = statements_in W R c.args.statements.now.items in
    let le : length W ≤ c.in-Skip.wn = omega (arith, c.len-in-Skip.ensures, c.if-wn-len-2.true) in
    on_ok_weaker c.put-then-wn-len-2.result (λ h. no_node W R old _ c.in-Skip.wn le (h W R) ∙ ap (λ p. old ++ section W R (section_of p)) (sym c.in-Skip.is)) c.put-then-wn-len-2.ensures

pub returns-else-wn-len-2-clause-statements : goal.returns-else-wn-len-2-clause-statements
returns-else-wn-len-2-clause-statements c =
    let W = c.args.self.now.writer.now in
    let R = c.args.self.now.reader.now in
    let old = statements_in W R c.args.statements.now.items in
    on_ok_weaker c.put_skip_routine.result (λ h. skip_section W R old _ c.in-Skip.wn h ∙ ap (λ p. old ++ section W R (section_of p)) (sym c.in-Skip.is)) c.put_skip_routine.ensures
