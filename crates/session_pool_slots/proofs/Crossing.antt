-- That threads may share one table (`SessionSlots` is `Sync`), and that a seat may be given to a thread (`Send`). A
-- search at the whole table breaks off, so each field has its own.
use denote.Builtin.{unit}
use denote.Param.Send.{IsSend, IsSync, sendable}
use denote.Param.SendFields.{FieldsHave, declared_send, declared_sync}
use denote.Ref.{NamedLft}
use Rattle.std.proofs.Crossing.{crosses, send, sync, frees}
use Rattle.std.specs.contracts.alloc.Global as heap
use Rattle.std.specs.contracts.impls.GlobalAllocator.TheImpl as heap_ghosts
use Rattle.std.specs.contracts.option.Option as option
use Rattle.std.proofs.option.Option.TheSendSync as options
use Rattle.atomic_table.proofs.owned.Table.TheSendSync as tables
use Rattle.atomic_table.proofs.shared.Seat.TheSendSync as table_seats
use Rattle.session_core.specs.contracts.session.Session as session
use Rattle.session_core.proofs.Crossing.{session-send}
use Rattle.session_pool_slots.specs.contracts.slots.View as view
use Rattle.session_pool_slots.specs.contracts.slots.Order as order
use Rattle.session_pool_slots.specs.contracts.slots.OrderTableRuleOptionSessionViewUnit.TheImpl as order_ghosts
use Rattle.session_pool_slots.specs.contracts.slots.SessionSlots as slots
use Rattle.session_pool_slots.specs.contracts.slots.SlotSeat as seats

-- what a slot holds moves between threads
slot-send : (κ : NamedLft) → IsSend (option.the_row (session.the_row κ))
slot-send κ = search (options.the_send, session-send, crosses, sendable) depth 60 fits 20000

fields-sync : (κ : NamedLft) → FieldsHave IsSync (slots.the_type κ).parts
fields-sync κ = (
  sync,
  (tables.the_sync (option.the_row (session.the_row κ)) view.the_row unit order.the_row heap.the_row order_ghosts.ghosts heap_ghosts.ghosts (slot-send κ) send sync frees, tt),
)

pub slots-sync : (κ : NamedLft) → IsSync (slots.the_row κ)
slots-sync κ = declared_sync (slots.the_type κ) (fields-sync κ)

pub seat-send : (κ : NamedLft) → IsSend (seats.the_row κ)
seat-send κ = declared_send (seats.the_type κ) (table_seats.the_send (option.the_row (session.the_row κ)) view.the_row (slot-send κ), tt)
