use Rattle.std.proofs.Common.{◌≤◌, length, refl, arith}
use Rattle.std.proofs.lemmas.Bool.Decides.{nat_tests}
use Rattle.isa.specs.Program.{program_of}
use Rattle.assembler.proofs.Totals.{one_constant}
use Rattle.assembler.proofs.draft.Draft.push_constant.Goals as goal

pub invariant_of-self-2 : goal.invariant_of-self-2
invariant_of-self-2 c =
    let added = c.in_ok-push_list.ensures.added in
    let room : length c.args.bytes.now ≤ c.self.inside.room = grind (arith, nat_tests, added.1) in
    one_constant (program_of c.self.inside.parts) c.self.inside.room (length c.args.bytes.now) c.args.bytes.now c.push_list.new.table c.self.invariant
    added.0 room refl added.2
