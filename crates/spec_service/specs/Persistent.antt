-- What came over a connection that stays, and what was sent on it (RFC 9112, section 9.3). Which requests bytes are,
-- and what was answered to them, is the history of `http_server`; the last answer may be another one. This project's
-- own.
use Rattle.std.specs.Prelude.{ℕ, List, ◌++◌}
use Rattle.http_server.specs.declared.state.Config.{Config}
use Rattle.http_server.specs.History.{History}
use Rattle.spec_service.specs.Scouting.{Scouted}

pub record Persistent : Type 0 where
  -- what was handed on to the server of the connection, and what came of it
  pub history : History
  pub config : Config
  -- what was seen of the bytes that came
  pub scouted : Scouted
  -- the bytes that came and were not handed on, and how many of them were seen
  pub held : List ℕ
  pub seen : ℕ
  -- the last answer, where it is not the server's, and how many of its bytes were sent
  pub last : List ℕ
  pub last_sent : ℕ

-- all that came over the connection
abbrev pub received : Persistent → List ℕ
received p = p.history.received ++ p.held
