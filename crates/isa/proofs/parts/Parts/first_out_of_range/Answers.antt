use Rattle.std.proofs.Common.{refl}
use Rattle.isa.proofs.parts.Parts.first_out_of_range.Goals as goal

pub returns : goal.returns
returns c = rw (c.or-3.ensures, c.or-2.ensures, c.or.ensures, c.entry_out_of_range.ensures, c.address_out_of_range.ensures, c.miss_out_of_range.ensures, c.instr_out_of_range.ensures, c.sizes-sizes.ensures) refl
