-- The candidates are the nodes that have the writer's unqualified name.
use Rattle.std.proofs.Common.{◌≡◌, ◌∙◌, ℕ, List, Option, Some, ap, subst, sym, true, false}
use Rattle.std.specs.Prelude.{IfSome, slice_get}
use Rattle.spec_avro.specs.FullNames.{unqualified}
use Rattle.spec_avro.specs.Node.{Node, UnionNode}
use Rattle.spec_avro.specs.Symbols.{is_used}
use Rattle.spec_avro.specs.WellFormed.{is_union}
use Rattle.spec_avro.specs.Matches.{Matches}
use Rattle.spec_avro.specs.Matching.{matches, place_at}
use Rattle.resolver.proofs.Members.{member_no_union, members_below}
use Rattle.program_compiler.specs.NamedTypes.{AreTypesOf, is_among, nodes_under, unqualified_names}
use Rattle.program_compiler.specs.declared.named_types.NamedTypes.{NamedTypes}
use Rattle.program_compiler.proofs.Named.{among_candidates, candidates_below}
use Rattle.program_compiler.proofs.known.Known.place_by_name.Goals as goal

named : (R : List Node) (known : Option NamedTypes) (types : NamedTypes) (candidates last full : List ℕ) → IfSome known (AreTypesOf R) → known ≡ Some types → candidates ≡ nodes_under types.nodes last → last ≡ unqualified full
    → (m : ℕ) → is_among m candidates ≡ is_used (unqualified full) (unqualified_names (slice_get R m))
named R known types candidates last full are is under own m =
    let each : AreTypesOf R types = subst (λ o. IfSome o (AreTypesOf R)) is are in
    ap (is_among m) (under ∙ ap (nodes_under types.nodes) own) ∙ each (unqualified full) m

pub find_member-requires-clause-members : goal.find_member-requires-clause-members
find_member-requires-clause-members c = members_below c.args.pair.now.reader.now c.args.rn c.args.members.now (c.is_well_formed-2.ensures.each c.args.rn (UnionNode c.args.members.now) c.requires.union).0

pub find_member-requires-clause-candidates : goal.find_member-requires-clause-candidates
find_member-requires-clause-candidates c =
    let R = c.args.pair.now.reader.now in
    let candidates = c.of_name-candidates.result.now in
    candidates_below R (unqualified c.args.name.now) candidates
    (named R c.args.self.now.types c.in-Some-Some.types candidates c.last.result.now c.args.name.now c.requires.known.types c.in-Some-Some.is-0 c.of_name-candidates.ensures c.last.ensures)

pub returns-clause-place : goal.returns-clause-place
returns-clause-place c =
    let W = c.args.pair.now.writer.now in
    let R = c.args.pair.now.reader.now in
    let w = c.args.wn in
    let members = c.args.members.now in
    let candidates = c.of_name-candidates.result.now in
    let holds : (m : ℕ) → matches W R w m ≡ true → Matches W R w m = λ m match. (c.matches_by_rule.ensures.relation W R w m c.is_well_formed.ensures).0 match in
    let apart : (i m : ℕ) → slice_get members i ≡ Some m → is_union (slice_get R m) ≡ false = λ i m at. member_no_union R c.is_well_formed-2.ensures c.args.rn members i m c.requires.union at in
    c.find_member.ensures.place
    ∙ among_candidates W R w members candidates c.args.name.now c.requires.name apart holds
    (named R c.args.self.now.types c.in-Some-Some.types candidates c.last.result.now c.args.name.now c.requires.known.types c.in-Some-Some.is-0 c.of_name-candidates.ensures c.last.ensures)
    ∙ sym (ap (λ o. place_at (matches W R w) o c.args.rn) c.requires.union)
