-- Replies and refusals of the registry as answers (Confluent Schema Registry API).
use Rattle.std.specs.Prelude.{ℕ, List, Result, Ok, Err}
use Rattle.serde_json.specs.Data.{Data}
use Rattle.serde_json.specs.Written.{compact_text}
use Rattle.spec_schema.specs.declared.schema_error.SchemaError.{SchemaError}
use Rattle.spec_schema.specs.declared.schema_error.SchemaError.TheVariants as errors
use Rattle.spec_registry.specs.Command.{Command, SetLevelCommand}
use Rattle.spec_registry.specs.Level.{level_name}
use Rattle.spec_registry.specs.Reply.{Reply, IdReply, EntryReply, CompatibleReply, NumbersReply, NamesReply, TextReply, LevelReply}
use Rattle.spec_registry.specs.declared.refusal.Refusal.{Refusal}
use Rattle.spec_registry.specs.declared.refusal.Refusal.TheVariants as refusals
use Rattle.spec_service.specs.Answer.{Answer, Replied, Refused}
use Rattle.spec_service.specs.Replies.{compatibility_data, entry_data, id_data, level_data, names_data, new_level_data, numbers_data, schema_data}
use Rattle.spec_service.specs.declared.fault.Fault.{Fault}
use Rattle.spec_service.specs.declared.fault.Fault.TheVariants as faults

-- what is wrong with a schema's text; want of memory is no fault of the text
abbrev pub fault_of_schema : SchemaError → Fault
fault_of_schema errors.NoMemory = faults.NoMemory
fault_of_schema error = faults.BadSchema error

abbrev pub fault_of : Refusal → Fault
fault_of refusals.BadSubject = faults.BadSubject
fault_of refusals.BadVersion = faults.BadVersion
fault_of (refusals.BadSchema error) = fault_of_schema error
fault_of refusals.BadLevel = faults.BadLevel
fault_of refusals.NoSubject = faults.NoSubject
fault_of refusals.NoVersion = faults.NoVersion
fault_of refusals.NoSchema = faults.NoSchema
fault_of refusals.Incompatible = faults.Incompatible
fault_of refusals.Full = faults.Full
fault_of refusals.Clash = faults.Clash
fault_of refusals.NotStored = faults.NotStored
fault_of refusals.NoMemory = faults.NoMemory

-- a level that was set, or one that was asked for
abbrev pub level_data_of : Command → List ℕ → Data
level_data_of (SetLevelCommand subject level) name = new_level_data name
level_data_of c name = level_data name

abbrev pub reply_data : Command → Reply → Data
reply_data c (IdReply id) = id_data id
reply_data c (EntryReply subject version id text) = entry_data id text subject version
reply_data c (CompatibleReply is_compatible) = compatibility_data is_compatible
reply_data c (NumbersReply numbers) = numbers_data numbers
reply_data c (NamesReply names) = names_data names
reply_data c (TextReply text) = schema_data text
reply_data c (LevelReply level) = level_data_of c (level_name level)

-- the answer for what the registry replies to a command
abbrev pub answer_to : Command → Result Reply Refusal → Answer
answer_to c (Ok reply) = Replied (compact_text (reply_data c reply))
answer_to c (Err refusal) = Refused (fault_of refusal)
