-- One statement more, one that has no instruction, and none left.
use Rattle.std.proofs.Common.{◌≡◌, ◌∙◌, ◌++◌, ◌∷◌, [], sym, ap, subst, append-nil, rules, arith}
use Rattle.std.proofs.Math.ListN.{drop_of_length-le}
use Rattle.std.specs.Prelude.{Err}
use Rattle.spec_machine.specs.Numbering.{code_from, constants_of, linked}
use Rattle.program_ir.specs.Statements.{statement_of, statements_in}
use Rattle.program_compiler.specs.Walking.{start_at}
use Rattle.program_compiler.specs.Parts.{LinksAll, LinksTo}
use Rattle.program_compiler.proofs.Linked.{code_on, none_linked}
use Rattle.program_compiler.proofs.linking.link.Goals as goal

pub returns : goal.returns
returns c = λ W.
    let R = c.args.reader.now in
    let starts = start_at c.args.tables.now.section_statements.now in
    let cs = c.args.tables.now.constants.now in
    let ms = c.args.tables.now.misses.now in
    let code = c.loop-pc.code.items in
    let statements = c.statements-statements.result.now in
    sym (append-nil code)
    ∙ ap (λ ls. code ++ code_from starts cs ms c.loop-pc.pc c.loop-pc.counts.maps c.loop-pc.counts.jumps (statements_in W R ls)) (sym (drop_of_length-le statements c.loop-pc-test.false))
    ∙ c.loop-pc.invariant.code W
    ∙ ap (λ ls. code_from starts cs ms 0 0 0 (statements_in W R ls)) c.statements-statements.ensures

pub returns-in-Err : goal.returns-in-Err
returns-in-Err c = λ W.
    let R = c.args.reader.now in
    let starts = start_at c.args.tables.now.section_statements.now in
    let cs = c.args.tables.now.constants.now in
    let ms = c.args.tables.now.misses.now in
    let statements = c.statements-statements.result.now in
    let statement = c.index-statements-pc.result in
    let m = c.loop-pc.counts.maps in
    let j = c.loop-pc.counts.jumps in
    let none = subst (LinksTo (constants_of (statement_of W R statement)) (linked starts cs ms c.loop-pc.pc m j (statement_of W R statement))) c.in-Err.is (c.linked.ensures W) in
    subst (λ ls. LinksAll (statements_in W R ls) (code_from starts cs ms 0 0 0 (statements_in W R ls)) (Err c.in-Err.error)) c.statements-statements.ensures
    (none_linked W R starts cs ms statements c.loop-pc.pc statement c.loop-pc-test.true c.index-statements-pc.is m j _ _ c.in-Err.error none (c.loop-pc.invariant.code W))

pub loop-pc-preserved : goal.loop-pc-preserved
loop-pc-preserved c =
    let R = c.args.reader.now in
    let starts = start_at c.args.tables.now.section_statements.now in
    let cs = c.args.tables.now.constants.now in
    let ms = c.args.tables.now.misses.now in
    let statements = c.statements-statements.result.now in
    let statement = c.index-statements-pc.result in
    let pc = c.loop-pc.pc in
    let m = c.loop-pc.counts.maps in
    let j = c.loop-pc.counts.jumps in
    let more = c.counted-counts.ensures.more in
    let few = c.loop-pc.invariant.maps in
    let few_jumps = c.loop-pc.invariant.jumps in
    let more_maps = more.0 in
    let more_jumps = more.1 in
    let items : c.push.new.self.items ≡ c.loop-pc.code.items ++ c.in-Ok.instr ∷ [] = search rules in
    record {
      code = λ W. code_on W R starts cs ms statements pc statement c.loop-pc-test.true c.index-statements-pc.is m j _ _ c.in-Ok.instr _ _ _ (subst (LinksTo (constants_of (statement_of W R statement)) (linked starts cs ms pc m j (statement_of W R statement))) c.in-Ok.is (c.linked.ensures W)) (c.counted-counts.ensures.maps W R) (c.counted-counts.ensures.jumps W R pc) items (c.loop-pc.invariant.code W);
      maps = omega (arith, few, more_maps);
      jumps = omega (arith, few_jumps, more_jumps);
    }
