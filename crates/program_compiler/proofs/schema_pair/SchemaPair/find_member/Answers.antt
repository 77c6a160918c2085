-- The first of the candidates is found by its position.
use Rattle.std.proofs.Common.{◌≡◌, ◌∙◌, ◌≤◌, ◌&&◌, ℕ, Bool, List, None, Option, ap, cond, get_or, length, sym, take}
use Rattle.std.specs.List.{position_from}
use Rattle.std.proofs.lemmas.List.{take_all}
use Rattle.spec_avro.specs.Matching.{matches}
use Rattle.program_compiler.specs.Members.{least}
use Rattle.program_compiler.specs.NamedTypes.{is_among}
use Rattle.program_compiler.proofs.FirstMember.{first_at, first_none, first_of_none, first_on}
use Rattle.program_compiler.proofs.schema_pair.SchemaPair.find_member.Goals as goal

pub loop-candidate-init : goal.loop-candidate-init
loop-candidate-init c = first_of_none (matches c.args.self.now.writer.now c.args.self.now.reader.now c.args.writer_node) 0 c.args.members.now

pub loop-candidate-preserved : goal.loop-candidate-preserved
loop-candidate-preserved c =
    let match = matches c.args.self.now.writer.now c.args.self.now.reader.now c.args.writer_node in
    let candidates = c.args.candidates.now in
    let k = c.loop-candidate.candidate-index in
    let node = get_or candidates k 0 in
    let own = position_from (λ m. is_among m (take k candidates) && match m) 0 c.args.members.now in
    c.least-first.ensures
    ∙ ap (λ o. least o c.matching_position.result) c.loop-candidate.invariant
    ∙ ap (least own) (c.matching_position.ensures ∙ ap (λ o. cond (match node) o None) (c.requires.positions node))
    ∙ sym (first_on match candidates k 0 c.args.members.now c.loop-candidate-test.true)

found : (match : ℕ → Bool) (candidates members : List ℕ) (k : ℕ) (first : Option ℕ) → length candidates ≤ k → first ≡ position_from (λ m. is_among m (take k candidates) && match m) 0 members
    → position_from (λ m. is_among m candidates && match m) 0 members ≡ first
found match candidates members k first end is = ap (λ l. position_from (λ m. is_among m l && match m) 0 members) (sym (take_all k candidates end)) ∙ sym is

pub bounds-members-position : goal.bounds-members-position
bounds-members-position c =
    let match = matches c.args.self.now.writer.now c.args.self.now.reader.now c.args.writer_node in
    let candidates = c.args.candidates.now in
    (first_at (λ m. is_among m candidates && match m) c.args.members.now c.in-Some.position
    (found match candidates c.args.members.now c.loop-candidate.candidate-index c.loop-candidate.first c.loop-candidate-test.false c.loop-candidate.invariant ∙ c.in-Some.is)).0

pub returns-in-Some-clause-place : goal.returns-in-Some-clause-place
returns-in-Some-clause-place c =
    let match = matches c.args.self.now.writer.now c.args.self.now.reader.now c.args.writer_node in
    let candidates = c.args.candidates.now in
    sym (first_at (λ m. is_among m candidates && match m) c.args.members.now c.in-Some.position
    (found match candidates c.args.members.now c.loop-candidate.candidate-index c.loop-candidate.first c.loop-candidate-test.false c.loop-candidate.invariant ∙ c.in-Some.is)).1

pub returns-in-None-clause-place : goal.returns-in-None-clause-place
returns-in-None-clause-place c =
    let match = matches c.args.self.now.writer.now c.args.self.now.reader.now c.args.writer_node in
    let candidates = c.args.candidates.now in
    sym (first_none (λ m. is_among m candidates && match m) 0 c.args.members.now
    (found match candidates c.args.members.now c.loop-candidate.candidate-index c.loop-candidate.first c.loop-candidate-test.false c.loop-candidate.invariant ∙ c.in-None.is))
