-- Each statement with its number.
use Rattle.std.proofs.Common.{◌≡◌, ◌-◌, [], subst, rules}
use Rattle.program_ir.specs.declared.statements.Statement.TheVariants as statements
use Rattle.program_compiler.specs.Walking.{start_at}
use Rattle.program_compiler.specs.Parts.{Narrows}
use Rattle.program_compiler.proofs.Linked.{statement_linked}
use Rattle.program_compiler.proofs.linking.linked.Goals as goal

pub returns-in-Miss : goal.returns-in-Miss
returns-in-Miss c = λ W. statement_linked W c.args.r.now (start_at c.args.tables.now.section_statements.now) c.args.tables.now.constants.now c.args.tables.now.misses.now c.args.pc c.args.counts.maps c.args.counts.jumps _ (statements.Miss c.in-Miss.miss) _ c.in-Miss.is (c.of_number.ensures [] _ (subst (Narrows c.operand.result) c.number_of.ensures c.operand.ensures))

pub returns-in-BytesText : goal.returns-in-BytesText
returns-in-BytesText c = λ W. statement_linked W c.args.r.now (start_at c.args.tables.now.section_statements.now) c.args.tables.now.constants.now c.args.tables.now.misses.now c.args.pc c.args.counts.maps c.args.counts.jumps _ (statements.BytesText c.in-BytesText.miss) _ c.in-BytesText.is (c.of_number-in-BytesText.ensures [] _ (subst (Narrows c.operand-in-BytesText.result) c.number_of-in-BytesText.ensures c.operand-in-BytesText.ensures))

pub returns-in-Enum : goal.returns-in-Enum
returns-in-Enum c = λ W. statement_linked W c.args.r.now (start_at c.args.tables.now.section_statements.now) c.args.tables.now.constants.now c.args.tables.now.misses.now c.args.pc c.args.counts.maps c.args.counts.jumps _ (statements.Enum c.in-Enum.writer c.in-Enum.reader) _ c.in-Enum.is (c.of_number-in-Enum.ensures [] _ (c.operand-in-Enum.ensures))

pub returns-in-Call : goal.returns-in-Call
returns-in-Call c = λ W. statement_linked W c.args.r.now (start_at c.args.tables.now.section_statements.now) c.args.tables.now.constants.now c.args.tables.now.misses.now c.args.pc c.args.counts.maps c.args.counts.jumps _ (statements.Call c.in-Call.section) _ c.in-Call.is (c.of_number-in-Call.ensures [] _ (subst (Narrows c.operand-in-Call.result) c.start_of.ensures c.operand-in-Call.ensures))

pub returns-in-Ahead : goal.returns-in-Ahead
returns-in-Ahead c = λ W. statement_linked W c.args.r.now (start_at c.args.tables.now.section_statements.now) c.args.tables.now.constants.now c.args.tables.now.misses.now c.args.pc c.args.counts.maps c.args.counts.jumps _ (statements.Ahead c.in-Ahead.go c.in-Ahead.far) _ c.in-Ahead.is (c.of_number-in-Ahead.ensures [] _ (c.ahead.ensures))

pub returns-in-Back : goal.returns-in-Back
returns-in-Back c = λ W. statement_linked W c.args.r.now (start_at c.args.tables.now.section_statements.now) c.args.tables.now.constants.now c.args.tables.now.misses.now c.args.pc c.args.counts.maps c.args.counts.jumps _ (statements.Back c.in-Back.far) _ c.in-Back.is (c.of_number-in-Back.ensures [] _ ((let e : c.saturating_sub.result ≡ c.args.pc - c.in-Back.far = search rules in subst (Narrows c.operand-in-Back.result) e c.operand-in-Back.ensures)))

pub returns-in-Branch : goal.returns-in-Branch
returns-in-Branch c = λ W. statement_linked W c.args.r.now (start_at c.args.tables.now.section_statements.now) c.args.tables.now.constants.now c.args.tables.now.misses.now c.args.pc c.args.counts.maps c.args.counts.jumps _ (statements.Branch c.in-Branch.field-0) _ c.in-Branch.is (c.of_number-in-Branch.ensures [] _ (c.operand-in-Branch.ensures))
