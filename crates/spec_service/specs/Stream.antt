-- What is seen of a whole stream of bytes that comes in parts of any size. This project's own; which requests a stream
-- is, is the definition of `http1`.
use Rattle.std.specs.Prelude.{◌≡◌, ◌≢◌, ℕ, List, [], ◌∷◌, ◌++◌, map, drop}
use Rattle.http1.specs.Message.{ReadsRequests, Request}
use Rattle.http1.specs.Server.{new_server}
use Rattle.http1.specs.ServerTrace.{IsBetween}
use Rattle.http1.specs.declared.conn.Limits.{Limits}
use Rattle.spec_service.specs.Scouting.{Finds, Scouted}
use Rattle.spec_service.specs.declared.sighting.Sighting.{Sighting}
use Rattle.spec_service.specs.declared.sighting.Sighting.TheVariants.{End}

-- what a request asks
pub record Asked : Type 0 where
  pub method : List ℕ
  pub target : List ℕ
  pub content : List ℕ

abbrev pub asked_in : Request → Asked
asked_in m = record { method = m.head.method; target = m.head.target; content = m.body.bytes }

-- what was seen of a request at its end
abbrev pub asked_of : Scouted → Asked
asked_of s = record { method = s.method; target = s.target; content = s.content }

-- nothing has been seen
abbrev pub new_scouted : Limits → ℕ → Scouted
new_scouted limits most = record { server = new_server limits; most = most; method = []; target = []; content = [] }

-- a request that has ended was taken: what is seen next begins without content
abbrev pub taken : Scouted → Scouted
taken s = record s { content = [] }

-- Looks at a stream, each at some first part of what follows what was seen before: which requests have ended by them.
pub data Looks : Scouted → List ℕ → List Asked → Scouted → List ℕ → Type 0 where
  none : (s : Scouted) (stream : List ℕ) → Looks s stream [] s stream
  more : (s t u : Scouted) (input after rest : List ℕ) (asked : List Asked) (consumed : ℕ) (sighting : Sighting)
      → sighting ≢ End → Finds s input consumed sighting t → Looks t (drop consumed input ++ after) asked u rest
      → Looks s (input ++ after) asked u rest
  ended : (s t u : Scouted) (input after rest : List ℕ) (asked : List Asked) (consumed : ℕ)
      → Finds s input consumed End t → Looks (taken t) (drop consumed input ++ after) asked u rest
      → Looks s (input ++ after) (asked_of t ∷ asked) u rest

-- However a stream comes, the requests that were seen up to a point between two of them are its first ones.
abbrev pub SeenAreTheRequests : Type 0
SeenAreTheRequests = (limits : Limits) (most : ℕ) (stream rest : List ℕ) (asked : List Asked) (last : Scouted)
    → Looks (new_scouted limits most) stream asked last rest → IsBetween last.server.reading
    → (ms : List Request) × ReadsRequests limits stream ms rest × (map asked_in ms ≡ asked)
