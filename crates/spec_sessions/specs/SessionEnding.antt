-- How a session ends, as a value of the code says it. All of this is this project's own.
use Rattle.spec_avro.specs.Outcome.{outcome_of}
use Rattle.spec_sessions.specs.declared.end.SessionEnd as rust
use Rattle.spec_sessions.specs.declared.end.SessionEnd.TheVariants as ends
use Rattle.spec_sessions.specs.Session.{OutOfMemory, Out, SessionEnd, Trapped}

-- the end that a value of the program represents
abbrev pub end_of : rust.SessionEnd → SessionEnd
end_of (ends.Out outcome) = Out (outcome_of outcome)
end_of (ends.Trap trap) = Trapped trap
end_of ends.NoMemory = OutOfMemory
