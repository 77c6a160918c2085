-- The names of the reasons for which an event is refused, and for which a pair has no program. All of this is this
-- project's own.
use Rattle.std.specs.Prelude.{ℕ, List, codes}
use Rattle.spec_registry.specs.Refusal as registry
use Rattle.spec_sessions.specs.declared.publish_error.PublishError.{PublishError}
use Rattle.spec_sessions.specs.declared.publish_error.PublishError.TheVariants as errors
use Rattle.spec_sessions.specs.declared.refusal.EventRefusal.{EventRefusal}
use Rattle.spec_sessions.specs.declared.refusal.EventRefusal.TheVariants as refusals

abbrev pub error_name : PublishError → List ℕ
error_name errors.ProgramTooLarge = codes "ProgramTooLarge"
error_name errors.Clash = codes "Clash"
error_name errors.NoMemory = codes "NoMemory"

abbrev pub refusal_name : EventRefusal → List ℕ
refusal_name refusals.NoSession = codes "NoSession"
refusal_name refusals.NotHeld = codes "NotHeld"
refusal_name refusals.NotPublished = codes "NotPublished"
refusal_name refusals.NoSchema = codes "NoSchema"
refusal_name refusals.TooLarge = codes "TooLarge"
refusal_name refusals.Ended = codes "Ended"
refusal_name refusals.BadAddress = codes "BadAddress"
refusal_name refusals.TooManyBreaks = codes "TooManyBreaks"
refusal_name refusals.NoMemory = codes "NoMemory"
refusal_name (refusals.OfRegistry refusal) = registry.refusal_name refusal
refusal_name (refusals.OfPublication error) = error_name error
