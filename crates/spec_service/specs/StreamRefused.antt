-- Why a request that has come whole is refused before its target is read. This project's own.
use Rattle.std.specs.Prelude.{◌<◌, length, ⊤}
use Rattle.std.specs.Str.{IsUtf8}
use Rattle.spec_service.specs.declared.fault.Fault.{Fault}
use Rattle.spec_service.specs.declared.fault.Fault.TheVariants as faults
use Rattle.spec_service.specs.declared.limits.TheConstants.{MOST_BODY}
use Rattle.spec_service.specs.Stream.{Asked}

-- its target is no text, its content is longer than the limit, or memory ran out
abbrev pub IsRefused : Asked → Fault → Type 0
IsRefused asked faults.BadRequest = ¬ (IsUtf8 asked.target)
IsRefused asked faults.TooLarge = MOST_BODY < length asked.content
IsRefused asked faults.NoMemory = ⊤
IsRefused asked fault = ⊥
