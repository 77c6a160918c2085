use Rattle.avro_schema_names.proofs.MemberHeads.{head_here}
use Rattle.avro_schema_names.proofs.unions.is_of_type.Goals as goal

pub returns : goal.returns
returns c = rw (head_here c.args.drafts.now c.args.member c.index-drafts-member.result c.if-member-drafts.false c.index-drafts-member.is) c.is_same_type.ensures
