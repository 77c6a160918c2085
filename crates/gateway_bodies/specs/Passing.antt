-- for private clauses: what is passed over
use Rattle.std.specs.Prelude.{◌≡◌, List, Option, Some}
use Rattle.json.specs.Token.{Token}
use Rattle.serde_json.specs.Read.{converted}

-- what was read has a value, and the tokens after it are these
abbrev pub IsRead : {A B : Type 0} → (A → Option B) → Option (A × List Token) → List Token → Type 0
IsRead {A} {B} f r rest = (b : B) × (converted f r ≡ Some (b, rest))
