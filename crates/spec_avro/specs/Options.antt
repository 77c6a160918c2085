-- What is made of a thing that there may be.
use Rattle.std.specs.Prelude.{Option, Some, None}

-- the thing, where there is one, and what is made of it
abbrev pub given : {X A : Type 0} → Option X → A → (X → A) → A
given None none some = none
given (Some x) none some = some x

-- the first, or else the second
abbrev pub or_else : {A : Type 0} → Option A → Option A → Option A
or_else (Some a) other = Some a
or_else None other = other
