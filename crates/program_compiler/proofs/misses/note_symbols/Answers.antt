-- None left.
use Rattle.std.proofs.Common.{◌∙◌, sym, ap, map}
use Rattle.std.specs.Prelude.{slice_get, string_bytes}
use Rattle.std.proofs.Math.ListN.{drop_of_length-le}
use Rattle.spec_machine.specs.Numbering.{adding, lacked, same_miss}
use Rattle.spec_machine.specs.Writing.{target}
use Rattle.program_ir.proofs.Tables.{map_twice}
use Rattle.program_compiler.proofs.misses.note_symbols.Goals as goal

pub returns : goal.returns
returns c =
    let texts = c.symbols-texts.result.now in
    let F = target c.args.writer c.args.reader (slice_get c.args.r.now c.args.reader) in
    ap (λ l. adding same_miss c.loop-position.misses (lacked (map (λ t. F (string_bytes t)) l))) (sym (drop_of_length-le texts c.loop-position-test.false))
    ∙ c.loop-position.invariant
    ∙ ap (λ ts. adding same_miss c.args.misses.now (lacked ts)) (map_twice F string_bytes texts ∙ ap (map F) c.symbols-texts.ensures)
