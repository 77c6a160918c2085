use Rattle.std.proofs.Common.{◌≡◌, take}
use Rattle.spec_schema.specs.Head.{heads_of}
use Rattle.avro_schema_names.specs.Unnamed.{AreNamedMembers}
use Rattle.avro_schema_names.proofs.MemberHeads.{apart_from}
use Rattle.avro_schema_names.proofs.unions.are_apart.Given as goal

abbrev pub invariant-loop-position : goal.invariant-loop-position
invariant-loop-position l =
    AreNamedMembers l.named (take l.position l.members) (heads_of l.drafts)
    × (apart_from (heads_of l.drafts) l.members l.position ≡ apart_from (heads_of l.drafts) l.members 0)
