-- The addresses so far, before those that are left, are all of them.
use Rattle.std.proofs.Common.{◌≡◌, ◌+◌, ◌++◌, drop, map}
use Rattle.program_compiler.proofs.addresses.all_ahead.Given as goal

abbrev pub invariant-loop-index : goal.invariant-loop-index
invariant-loop-index l = l.addresses.items ++ map (λ f. l.pc + f) (drop l.index l.fars) ≡ map (λ f. l.pc + f) l.fars
