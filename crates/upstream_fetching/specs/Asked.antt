-- What becomes of an id whose schema is wanted. This project's own.
use Rattle.std.specs.Prelude.{ℕ, Bool, List, ◌||◌, nat_eq, ⊤}
use Rattle.std.specs.List.{list_any}
use Rattle.spec_service.specs.declared.fault.Fault.{Fault}
use Rattle.upstream_fetching.specs.declared.fetch_list.Asked.{Asked}
use Rattle.upstream_fetching.specs.declared.fetch_list.Asked.TheVariants as variants

-- where its schema was not held, the reason is of this kind
abbrev pub IfFailed : Asked → (Fault → Type 0) → Type 0
IfFailed (variants.Failed fault) Is = Is fault
IfFailed variants.Waits Is = ⊤
IfFailed variants.Busy Is = ⊤

-- this holds where it is asked for
abbrev pub IfWaits : Asked → Type 0 → Type 0
IfWaits (variants.Failed fault) Holds = ⊤
IfWaits variants.Waits Holds = Holds
IfWaits variants.Busy Holds = ⊤

-- it is asked for: it waits for a thread, or a thread asks for it
abbrev pub is_asked : ℕ → List ℕ → List ℕ → Bool
is_asked id waiting under_way =
    list_any (λ other. nat_eq other id) waiting || list_any (λ other. nat_eq other id) under_way
