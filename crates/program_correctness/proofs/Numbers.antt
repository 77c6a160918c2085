-- Tests of numbers, as what they say.
use Rattle.std.proofs.Common.{◌≡◌, ℕ, ◌+◌, ◌<◌, ◌≤◌, true, false, arith, min}
use Rattle.std.specs.Prelude.{nat_lt}
use Rattle.isa.specs.Laws.Plain.{lt_false, lt_no}

pub lt_true : (a b : ℕ) → nat_lt a b ≡ true → a < b
lt_true a b h = grind arith

pub lt_yes : (a b : ℕ) → a < b → nat_lt a b ≡ true
lt_yes a b h = grind arith

pub past : (m a b : ℕ) → a ≤ b → nat_lt m a ≡ true → nat_lt m b ≡ true
past m a b le h = grind arith

pub past_still : (m a b c d : ℕ) → a + b ≡ c → b ≤ d → nat_lt m c ≡ true → nat_lt m (a + d) ≡ true
past_still m a b c d e le h = grind arith

pub least_is_first : (a b : ℕ) → nat_lt a b ≡ true → min a b ≡ a
least_is_first a b h = grind arith

pub least_is_second : (a b : ℕ) → nat_lt a b ≡ false → min a b ≡ b
least_is_second a b h = grind arith

pub least_below : (a b : ℕ) → min a b ≤ b
least_below a b = omega arith
