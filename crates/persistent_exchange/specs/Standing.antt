-- How the requests that were seen go with the calls that the server has made. This project's own; for private clauses.
use Rattle.std.specs.Prelude.{◌≡◌, ◌+◌, ℕ, List, length, drop}
use Rattle.spec_service.specs.StreamAnswering.{IsNext}
use Rattle.spec_service.specs.Persistent.{Persistent, received}
use Rattle.spec_service.specs.Stream.{Asked, Looks, asked_of, new_scouted, taken}
use Rattle.persistent_exchange.specs.declared.standing.Standing.{Standing}
use Rattle.persistent_exchange.specs.declared.standing.Standing.TheVariants.{Due, Even, Lost, Whole}

-- all that came was looked at, up to what was not seen, and this many more requests have ended than the server was
-- called for
pub record Saw (p : Persistent) (more : ℕ) : Type 0 where
  pub asked : List Asked
  pub looks : Looks (new_scouted p.config.limits p.config.max_body_len) (received p) asked p.scouted
      (drop p.seen p.held)
  pub count : length asked ≡ more + length p.history.calls

abbrev pub Holds : Standing → Persistent → Type 0
Holds Even p = Saw p 0
Holds Whole p = IsNext p (asked_of p.scouted) × Saw (record p { scouted = taken p.scouted }) 1
Holds Due p = Saw p 1
Holds Lost p = Unit {0}

-- the two go alike: all that `Holds` speaks of is as it was
pub record IsAlike (old new : Persistent) : Type 0 where
  pub config_is : new.config ≡ old.config
  pub scouted_is : new.scouted ≡ old.scouted
  pub received_is : received new ≡ received old
  pub unseen_is : drop new.seen new.held ≡ drop old.seen old.held
  pub calls_are : new.history.calls ≡ old.history.calls
