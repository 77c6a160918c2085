-- A request that is handed out: what it asks, and over which connection. This project's own.
use Rattle.std.specs.Prelude.{ℕ, List, [], Option, None, Some, Result, Err}
use Rattle.spec_service.specs.declared.fault.Fault.{Fault}
use Rattle.spec_service.specs.Asking.{IsAsked, asked_at}
use Rattle.spec_service.specs.Request.{Request}
use Rattle.spec_service.specs.StreamAnswering.{IsNext}
use Rattle.spec_service.specs.Persistent.{Persistent}
use Rattle.spec_service.specs.StreamRefused.{IsRefused}
use Rattle.spec_service.specs.Stream as streams

-- the connection of a request that is handed out: its requests and answers, where it stays, and the bytes that were
-- received of its one request, where it does not
pub record Handed : Type 0 where
  pub stream : Option Persistent
  pub received : List ℕ

-- what is asked over the connection: what the next request of its stream asks, or the fault for which that is refused;
-- or what the bytes ask that were received. Nothing is said where there are none
pub data IsAskedOver : Handed → Result Request Fault → Type 0 where
  next : (p : Persistent) (received : List ℕ) (a : streams.Asked) → IsNext p a
      → IsAskedOver (record { stream = Some p; received = received }) (asked_at a.method a.target a.content)
  refused : (p : Persistent) (received : List ℕ) (a : streams.Asked) (fault : Fault) → IsNext p a → IsRefused a fault
      → IsAskedOver (record { stream = Some p; received = received }) (Err fault)
  received : (bytes : List ℕ) (asked : Result Request Fault) → IsAsked bytes asked
      → IsAskedOver (record { stream = None; received = bytes }) asked
  nothing : (asked : Result Request Fault) → IsAskedOver (record { stream = None; received = [] }) asked
