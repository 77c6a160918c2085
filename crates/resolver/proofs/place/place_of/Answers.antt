-- Members are nodes of their schema.

use Rattle.resolver.proofs.Members.{members_below}
use Rattle.resolver.proofs.place.place_of.Goals as goal

pub first_member-requires : goal.first_member-requires
first_member-requires c =
    let formed = rw c.in-Union.is at c.kind.ensures.well_formed in
    record {
      writer = c.requires.writer;
      members = rw c.deref.ensures.value (members_below _ c.args.reader_node c.in-Union.members.items formed.0);
      few = rw c.deref.ensures.value formed.1;
    }
