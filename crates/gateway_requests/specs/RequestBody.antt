-- The body after a head (RFC 9112, section 6).
use Rattle.std.specs.Prelude.{◌≡◌, ◌<◌, ◌≤◌, ℕ, List, ◌++◌, length, take, Option, Some, None}

-- the first n bytes of those that were received with the head and those that the reader has left, or none where there
-- are fewer; nothing is said where what is left is not known
abbrev pub IsBodyOf : Option (List ℕ) → List ℕ → ℕ → Option (List ℕ) → Type 0
IsBodyOf None received n body = Unit {0}
IsBodyOf (Some left) received n None = length (received ++ left) < n
IsBodyOf (Some left) received n (Some body) = (n ≤ length (received ++ left)) × (body ≡ take n (received ++ left))
