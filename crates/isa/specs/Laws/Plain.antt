-- Plain facts that several proofs need.
use Rattle.std.proofs.Common.{◌≡◌, ℕ, ◌≤◌, false, arith, true, ◌<◌}
use Rattle.std.specs.Prelude.{nat_lt, nat_le}

pub lt_false : (a b : ℕ) → nat_lt a b ≡ false → b ≤ a
lt_false a b h = grind arith

pub lt_no : (a b : ℕ) → b ≤ a → nat_lt a b ≡ false
lt_no a b h = grind arith

pub le_is : (a b : ℕ) → a ≤ b → nat_le a b ≡ true
le_is a b h = grind arith

pub lt_is : (a b : ℕ) → a < b → nat_lt a b ≡ true
lt_is a b h = grind arith

pub is_lt : (a b : ℕ) → nat_lt a b ≡ true → a < b
is_lt a b h = grind arith
