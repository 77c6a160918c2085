use Rattle.std.proofs.Common.{◌≡◌, not, refl, ap, ◌∙◌}
use Rattle.avro_schema_names.specs.Draft.{draft_of}
use Rattle.spec_schema.specs.Head.{head_of, heads_of, head_at}
use Rattle.avro_schema_names.specs.Head.{is_named_head}
use Rattle.avro_schema_names.proofs.MemberHeads.{any_mapped, head_here}
use Rattle.avro_schema_names.proofs.NamedMembers.{member-apart, named-kept, named-pushed, unnamed-none}
use Rattle.avro_schema_names.proofs.unions.is_apart.Goals as goal

pub returns-in_ok-insert-in-None-clause-apart : goal.returns-in_ok-insert-in-None-clause-apart
returns-in_ok-insert-in-None-clause-apart c =
    let d = c.args.drafts.now in
    let here : head_at (heads_of d) c.args.member ≡ head_of (draft_of c.in-Some.draft.now) =
    rw c.as_slice-nodes.ensures at (head_here c.as_slice-nodes.result.now c.args.member c.in-Some.draft.now c.in-Some.ensures.lookup.3.0 c.in-Some.ensures.lookup.1) in
    let named = ap is_named_head here ∙ c.in-None.ensures in
    c.in_ok-insert-in-None.ensures.added ∙ member-apart (heads_of d) c.names_are_apart.ensures.once c.args.member named c.args.named.now c.args.others.now c.requires

pub returns-in_ok-insert-in-None-clause-named : goal.returns-in_ok-insert-in-None-clause-named
returns-in_ok-insert-in-None-clause-named c =
    let d = c.args.drafts.now in
    let here : head_at (heads_of d) c.args.member ≡ head_of (draft_of c.in-Some.draft.now) =
    rw c.as_slice-nodes.ensures at (head_here c.as_slice-nodes.result.now c.args.member c.in-Some.draft.now c.in-Some.ensures.lookup.3.0 c.in-Some.ensures.lookup.1) in
    let named = ap is_named_head here ∙ c.in-None.ensures in
    named-pushed (heads_of d) c.args.member c.args.named.now c.args.others.now c.requires c.insert.new.self named c.in_ok-insert-in-None.ensures.updates

pub returns-then-not-is_union-clause-apart : goal.returns-then-not-is_union-clause-apart
returns-then-not-is_union-clause-apart c =
    let d = c.args.drafts.now in
    let here : head_at (heads_of d) c.args.member ≡ head_of (draft_of c.in-Some.draft.now) =
    rw c.as_slice-nodes.ensures at (head_here c.as_slice-nodes.result.now c.args.member c.in-Some.draft.now c.in-Some.ensures.lookup.3.0 c.in-Some.ensures.lookup.1) in
    let seen = here ∙ c.in-Some-unnamed_type.ensures in
    rw (seen, any_mapped _ _ c.args.others.now, ← c.is_union.ensures, c.if-not-is_union.true) (ap not (rw c.as_slice-nodes.ensures at c.has_type.ensures))

pub returns-then-not-is_union-clause-named : goal.returns-then-not-is_union-clause-named
returns-then-not-is_union-clause-named c =
    let d = c.args.drafts.now in
    let here : head_at (heads_of d) c.args.member ≡ head_of (draft_of c.in-Some.draft.now) =
    rw c.as_slice-nodes.ensures at (head_here c.as_slice-nodes.result.now c.args.member c.in-Some.draft.now c.in-Some.ensures.lookup.3.0 c.in-Some.ensures.lookup.1) in
    let seen = here ∙ c.in-Some-unnamed_type.ensures in
    let none = ap is_named_head seen ∙ unnamed-none c.in-Some-unnamed_type.one in
    named-kept (heads_of d) c.args.member c.args.named.now c.args.others.now c.requires none

pub returns-else-not-is_union-clause-apart : goal.returns-else-not-is_union-clause-apart
returns-else-not-is_union-clause-apart c =
    let d = c.args.drafts.now in
    let here : head_at (heads_of d) c.args.member ≡ head_of (draft_of c.in-Some.draft.now) =
    rw c.as_slice-nodes.ensures at (head_here c.as_slice-nodes.result.now c.args.member c.in-Some.draft.now c.in-Some.ensures.lookup.3.0 c.in-Some.ensures.lookup.1) in
    let seen = here ∙ c.in-Some-unnamed_type.ensures in
    rw (seen, any_mapped _ _ c.args.others.now, ← c.is_union.ensures, c.if-not-is_union.false) refl

pub returns-else-not-is_union-clause-named : goal.returns-else-not-is_union-clause-named
returns-else-not-is_union-clause-named c =
    let d = c.args.drafts.now in
    let here : head_at (heads_of d) c.args.member ≡ head_of (draft_of c.in-Some.draft.now) =
    rw c.as_slice-nodes.ensures at (head_here c.as_slice-nodes.result.now c.args.member c.in-Some.draft.now c.in-Some.ensures.lookup.3.0 c.in-Some.ensures.lookup.1) in
    let seen = here ∙ c.in-Some-unnamed_type.ensures in
    let none = ap is_named_head seen ∙ unnamed-none c.in-Some-unnamed_type.one in
    named-kept (heads_of d) c.args.member c.args.named.now c.args.others.now c.requires none
