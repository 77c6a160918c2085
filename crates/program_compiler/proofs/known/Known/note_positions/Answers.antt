-- The positions of one union more.
use Rattle.spec_avro.specs.Node.{UnionNode}
use Rattle.program_compiler.proofs.Kept.{placed_on}
use Rattle.program_compiler.proofs.known.Known.note_positions.Goals as goal

pub returns : goal.returns
returns c = λ W known. record {
  lacking = known.lacking;
  types = known.types;
  positions = placed_on c.args.r.now c.args.self.now.positions c.insert.new.self c.args.rn c.in_ok-positions.positions c.args.members.now known.positions c.requires c.in_ok-positions.ensures c.in_ok-insert.ensures.updates.0;
}

pub positions_of-requires : goal.positions_of-requires
positions_of-requires c = (c.is_well_formed.ensures.each c.args.rn (UnionNode c.args.members.now) c.requires).1
