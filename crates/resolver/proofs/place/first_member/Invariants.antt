-- No member so far matches.
use Rattle.std.proofs.Common.{◌≡◌, drop}
use Rattle.spec_avro.specs.Matching.{first_member, matches}
use Rattle.resolver.proofs.place.first_member.Given as goal

abbrev pub invariant-loop-position : goal.invariant-loop-position
invariant-loop-position l =
    let match = matches l.w l.r l.wn in
    first_member match l.position (drop l.position l.members) ≡ first_member match 0 l.members
