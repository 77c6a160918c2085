-- What resolving a datum answers. This project's own.
use Rattle.std.specs.Prelude.{◌≡◌, Result, Ok, Err}
use Rattle.spec_avro.specs.declared.mismatch.Mismatch.{Mismatch}
use Rattle.resolver.specs.declared.mismatch.ResolveError.{ResolveError}
use Rattle.resolver.specs.declared.mismatch.ResolveError.TheVariants as errors
use Rattle.spec_avro.specs.Resolution.{Resolved, resolved}

-- what is answered, seen by view, unless memory ran out
abbrev pub Resolves : {X A : Type 0} → (X → A) → Result X ResolveError → Resolved A → Type 0
Resolves view (Ok x) resolved = resolved ≡ Ok (view x)
Resolves view (Err (errors.Mismatch m)) resolved = resolved ≡ Err m
Resolves view (Err errors.NoMemory) resolved = Unit {0}
