use Rattle.std.proofs.Common.{◌≡◌, vec_len, All}
use Rattle.session_pool_slots.specs.Seats as slots
use Rattle.session_pool.specs.Seats.{IsNewClient}
use Rattle.session_pool.proofs.pool.SessionPool.client_seats.Given as goal

abbrev pub invariant-loop : goal.invariant-loop
invariant-loop l = slots.IsSeatOf l.self.slots l.first × (vec_len l.seats ≡ l.counter) × All (IsNewClient l.self) l.seats.items
