-- The numbers with which the program exits. This project's own.
use Rattle.std.specs.Prelude.{ℕ}
use Rattle.spec_lines.specs.declared.status.Status.{Status}
use Rattle.spec_lines.specs.declared.status.Status.TheVariants as statuses

abbrev pub exit_code_of : Status → ℕ
exit_code_of statuses.Answered = 0
exit_code_of statuses.Refused = 1
exit_code_of statuses.BadWords = 2
exit_code_of statuses.BadTraffic = 3
exit_code_of statuses.NoMemory = 4
