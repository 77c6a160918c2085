-- The map of a pair that came before is taken once more, and another is one more.
use Rattle.std.proofs.Common.{◌≡◌, ◌∙◌, ◌∷◌, ◌++◌, [], ap, rules, map}
use Rattle.std.proofs.lemmas.Option.{get_or_from_slice_get, slice_get_within}
use Rattle.std.proofs.lemmas.Result.{on_ok_weaker}
use Rattle.spec_machine.specs.Numbering.{entry_of}
use Rattle.program_ir.specs.Statements.{targets_of}
use Rattle.program_compiler.proofs.Sharing.{shared_again, shared_on}
use Rattle.program_compiler.proofs.maps.MapRow.push_enums.Goals as goal

pub push_again-requires : goal.push_again-requires
push_again-requires c =
    let there = c.requires.shared (c.args.writer, c.args.reader) c.in-Some.number (search rules) in
    slice_get_within c.args.self.now.maps c.in-Some.number _ there

pub returns-in-Some-clause-pushed : goal.returns-in-Some-clause-pushed
returns-in-Some-clause-pushed c =
    let there = c.requires.shared (c.args.writer, c.args.reader) c.in-Some.number (search rules) in
    on_ok_weaker c.push_again.result (λ h. h ∙ ap (λ x. c.args.self.now.maps ++ x ∷ []) (get_or_from_slice_get c.args.self.now.maps c.in-Some.number _ [] there)) c.push_again.ensures.pushed

pub returns-in-Some-clause-shared : goal.returns-in-Some-clause-shared
returns-in-Some-clause-shared c =
    on_ok_weaker c.push_again.result (λ h. shared_again c.args.schemas.now.writer.now c.args.schemas.now.reader.now c.args.misses.now c.args.self.now.numbers c.args.self.now.maps c.push_again.new.self _ c.requires.shared h) c.push_again.ensures.pushed

pub returns-clause-shared : goal.returns-clause-shared
returns-clause-shared c =
    let pushed : c.push.new.self ≡ c.args.self.now.maps ++ map (entry_of c.args.misses.now) (targets_of c.args.schemas.now.writer.now c.args.schemas.now.reader.now c.args.writer c.args.reader) ∷ [] = search rules in
    shared_on c.args.schemas.now.writer.now c.args.schemas.now.reader.now c.args.misses.now c.args.self.now.numbers c.insert.new.self c.args.self.now.maps c.push.new.self (c.args.writer, c.args.reader) c.len-number.result c.requires.shared c.len-number.ensures pushed c.in_ok-insert.ensures.updates.0
