-- What is seen of a node before its parts are known: enough for names, references, and branches of one type.
use Rattle.std.specs.Prelude.{◌≡◌, ℕ, List, Bool, true, false}
use Rattle.spec_schema.specs.Head.{Head, Named, defines}

abbrev pub is_named_head : Head → Bool
is_named_head (Named full) = true
is_named_head _ = false

abbrev pub IsUnnamed : Head → Type 0
IsUnnamed head = (full : List ℕ) → defines full head ≡ false
