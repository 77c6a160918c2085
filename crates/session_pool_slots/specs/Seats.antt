-- What contracts say of a seat.
use Rattle.std.specs.Prelude.{◌≡◌, ℕ, [], ◌∷◌, None}
use Rattle.session_pool_slots.specs.declared.slots.SessionSlots.{SessionSlots}
use Rattle.session_pool_slots.specs.declared.slots.SlotSeat.{SlotSeat}
use Rattle.session_pool_slots.specs.Known.{Known}

-- what the seat knows
abbrev pub knows : SlotSeat → Known
knows seat = seat.seat.me.0

-- the seat is of this table
abbrev pub IsSeatOf : SessionSlots → SlotSeat → Type 0
IsSeatOf table seat = seat.seat.table_id ≡ table.table.shared.table_id

-- no slot is out with the seat
abbrev pub HoldsNothing : SlotSeat → Type 0
HoldsNothing seat = seat.seat.me.1 ≡ []

-- this slot alone is out with the seat, and its content has been taken from it
abbrev pub HoldsEmpty : ℕ → SlotSeat → Type 0
HoldsEmpty slot seat = seat.seat.me.1 ≡ (slot, None) ∷ []

-- the seat is of this table, and no slot is out with it
abbrev pub Rests : SessionSlots → SlotSeat → Type 0
Rests table seat = IsSeatOf table seat × HoldsNothing seat
