-- The laws that tie the walk to what is declared.
use Rattle.std.specs.Prelude.{◌≡◌, ℕ, List, Ok}
use Rattle.serde_json.specs.Data.{Data}
use Rattle.spec_schema.specs.Declaring.{Declares}
use Rattle.spec_schema.specs.Definitions.{AreDefinedOnce}
use Rattle.spec_schema.specs.Draft.{Draft}
use Rattle.spec_schema.specs.Head.{heads_of}
use Rattle.spec_schema.specs.Walk.{walk}

-- what the walk gives is declared
abbrev pub DeclaresWhatIsGiven : Type 0
DeclaresWhatIsGiven = (d : Data) (enclosing : List ℕ) (before : List Draft) (n : ℕ) (added : List Draft)
    → walk d enclosing (heads_of before) ≡ Ok (n, added) → Declares d enclosing before n added

-- what is declared, the walk gives
abbrev pub GivesWhatIsDeclared : Type 0
GivesWhatIsDeclared = (d : Data) (enclosing : List ℕ) (before : List Draft) (n : ℕ) (added : List Draft)
    → AreDefinedOnce before → Declares d enclosing before n added → walk d enclosing (heads_of before) ≡ Ok (n, added)
