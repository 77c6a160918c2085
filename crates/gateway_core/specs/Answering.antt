-- What the service may answer to what is asked, and the receipts that its answer rests on.
use Rattle.std.specs.Prelude.{◌≡◌, ◌⊎◌, ℕ, List, Ok}
use Rattle.spec_registry.specs.Command.{Command}
use Rattle.spec_registry.specs.Reply.{Reply, EntryReply, IdReply, CompatibleReply, NumbersReply, NamesReply, TextReply, LevelReply}
use Rattle.spec_service.specs.Answer.{Answer, Refused}
use Rattle.spec_service.specs.declared.fault.Fault.TheVariants as faults
use Rattle.spec_service.specs.Evidence.{Evidence}
use Rattle.spec_service.specs.RegistryReplies.{answer_to}
use Rattle.spec_service.specs.Answering.{IsEvident}

-- for a private clause: whether a reply shows a text beside an id
abbrev pub IsEntry : Reply → Type 0
IsEntry (EntryReply subject version id text) = Unit {0}
IsEntry (IdReply id) = ⊥
IsEntry (CompatibleReply is_compatible) = ⊥
IsEntry (NumbersReply numbers) = ⊥
IsEntry (NamesReply names) = ⊥
IsEntry (TextReply text) = ⊥
IsEntry (LevelReply level) = ⊥

-- for a private clause: a reply is answered as it is, or it is an entry without a receipt and answered as a clash
abbrev pub IsTold : List ℕ → Command → Reply → Evidence → Answer → Type 0
IsTold cells c reply evidence answer =
    ((answer ≡ answer_to c (Ok reply)) × IsEvident cells (Ok reply) evidence)
    ⊎ (IsEntry reply × (answer ≡ Refused faults.Clash))
