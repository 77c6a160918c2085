-- A client's right to a session. All of this is this project's own.
use Rattle.std.specs.Prelude.{◌≡◌, Some}
use Rattle.spec_sessions.specs.ProgramPair.{Pair}
use Rattle.spec_machine.specs.Simulation.{EachEndIsOutcome, EarlyEndIsOutcome}
use Rattle.spec_machine.specs.Code.{code_of}

-- The program is the pair's, and each end that it comes to, run alone, is the outcome: that of the bytes that came, and
-- where more may come of every continuation too.
pub record LeadsToOutcomes (pair : Pair) : Type 0 where
  pub code : code_of pair.writer.nodes pair.reader.nodes ≡ Some pair.program
  pub each_end : EachEndIsOutcome pair.writer.nodes pair.reader.nodes
  pub early_end : EarlyEndIsOutcome pair.writer.nodes pair.reader.nodes
