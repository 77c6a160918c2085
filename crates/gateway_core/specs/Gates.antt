-- What a gate was asked by who waits for a session, and what it said. All of this is this project's own.
use Rattle.std.specs.Prelude.{Bool, false}
use Rattle.gateway_core.specs.declared.gate.Place.{Place}
use Rattle.gateway_core.specs.declared.gate.Place.TheVariants.{Waiting}

module _ {G : Type 0} (says : G → Place → Bool → G → Type 0) where
  -- the gate was asked some times, one after another, and each time it said what it may say: from what it was at first
  -- to what it is in the end
  pub data Asked : G → G → Type 0 where
    never : {gate : G} → Asked gate gate
    once_more : {first before after : G} (answer : Bool) → Asked first before → says before Waiting answer after
        → Asked first after

  -- the gate was asked some times, and one of these times it said no
  pub record SaidNo (first last : G) : Type 0 where
    pub before : G
    pub after : G
    pub asked : Asked first before
    pub said_no : says before Waiting false after
    pub asked_more : Asked after last
