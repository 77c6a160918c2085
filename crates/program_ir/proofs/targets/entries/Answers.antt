-- The number of the miss is one of 32 bits, and none left.
use Rattle.std.proofs.Common.{◌≤◌, ◌∙◌, ◌++◌, sym, ap, subst, map, append-nil, length, arith}
use Rattle.std.specs.Prelude.{slice_get, string_bytes}
use Rattle.std.proofs.Math.ListN.{drop_of_length-le}
use Rattle.spec_avro.specs.declared.mismatch.MismatchKind.TheVariants as kinds
use Rattle.spec_machine.specs.Statements.{miss}
use Rattle.spec_machine.specs.Numbering.{entry_of, same_miss}
use Rattle.spec_machine.specs.Writing.{target}
use Rattle.spec_avro.specs.Resolution.{symbol_for as position_of_symbol}
use Rattle.program_ir.specs.Tables.{entry_at}
use Rattle.program_ir.proofs.Tables.{entry_is, map_twice, mapped_on, number_at_most}
use Rattle.program_ir.proofs.targets.entries.Goals as goal

pub overflow_cast-lacking : goal.overflow_cast-lacking
overflow_cast-lacking c =
    let le = subst (λ n. n ≤ length c.args.misses.now) (sym c.number_of-lacking.ensures) (number_at_most same_miss (miss kinds.NoSymbol c.args.writer_node c.args.reader_node) c.args.misses.now) in
    let few = c.requires in
    omega (arith, le, few)

pub loop-position-preserved : goal.loop-position-preserved
loop-position-preserved c =
    let reader = slice_get c.args.reader.now c.args.reader_node in
    let G = entry_of c.args.misses.now in
    let F = target c.args.writer_node c.args.reader_node reader in
    let text = ap (λ t. entry_at c.number_of-lacking.result (position_of_symbol reader t)) c.as_str.ensures.value in
    let is = c.entry_for.ensures ∙ text ∙ entry_is c.args.misses.now c.args.writer_node c.args.reader_node reader (string_bytes c.index-symbols-position.result) c.number_of-lacking.result c.number_of-lacking.ensures in
    rw c.in_ok-push.ensures.items (mapped_on (λ t. G (F (string_bytes t))) c.args.symbols.now c.loop-position.position c.index-symbols-position.result c.loop-position.entries.items c.entry_for.result _
    c.loop-position-test.true c.index-symbols-position.is is c.loop-position.invariant)

pub returns : goal.returns
returns c =
    let texts = c.args.symbols.now in
    let G = entry_of c.args.misses.now in
    let F = target c.args.writer_node c.args.reader_node (slice_get c.args.reader.now c.args.reader_node) in
    let old = c.loop-position.entries.items in
    sym (append-nil old)
    ∙ ap (λ l. old ++ map (λ t. G (F (string_bytes t))) l) (sym (drop_of_length-le texts c.loop-position-test.false))
    ∙ c.loop-position.invariant
    ∙ map_twice G (λ t. F (string_bytes t)) texts
    ∙ ap (map G) (map_twice F string_bytes texts)
