use Rattle.std.proofs.Common.{ℕ, [], subst, sym, take}
use Rattle.machine_store.specs.Text.{EndsIn}
use Rattle.machine_store.proofs.Checking.{nothing-cut}
use Rattle.machine_store.proofs.text.TextCheck.empty.Goals as goal

pub returns-clause-begins : goal.returns-clause-begins
returns-clause-begins c = subst (λ (n : ℕ). EndsIn (take n c.none.result.bytes) []) (sym c.none.ensures) nothing-cut
