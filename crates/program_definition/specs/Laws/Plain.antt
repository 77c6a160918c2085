-- Plain facts that several proofs need.
use Rattle.std.proofs.Common.{◌≡◌, ℕ, true, arith}
use Rattle.std.specs.Prelude.{◌==◌}

pub eq_is : (a b : ℕ) → (a == b) ≡ true → a ≡ b
eq_is a b h = grind arith
