use Rattle.std.proofs.Common.{◌≡◌, length}
use Rattle.session_core.proofs.pair_row.PairRow.new.Given as goal

abbrev pub invariant-loop : goal.invariant-loop
invariant-loop l = length l.cells.items ≡ l.counter
