-- The command at which a listing stops.
use Rattle.std.proofs.Common.{◌≡◌, ◌∙◌, ◌+◌, ◌<◌, ℕ, List, ◌∷◌, ◌++◌, length, take, drop, take-append-drop, get_or, sym, ap, arith}
use Rattle.std.proofs.lemmas.List.{drop_more, length-map, length-take-le, map-append}
use Rattle.registry_store.specs.Store.{commands_of}
use Rattle.registry_store.specs.Stored.{stored_of}
use Rattle.registry_store.specs.declared.stored.StoredCommand.{StoredCommand}
use Rattle.store_commands.specs.Cause.{LacksNames}
use Rattle.store_commands.specs.Listing.{HasNames}

-- the command at this place, from 0, has other names
pub lacks_at : (commands : List StoredCommand) (at : ℕ) (command : StoredCommand) → at < length commands → command ≡ get_or commands at command → ¬ (HasNames (stored_of command)) → LacksNames (commands_of commands) (at + 1)
lacks_at commands at command within is lacks =
    let split : commands ≡ take at commands ++ command ∷ drop (at + 1) commands =
    sym (take-append-drop at commands) ∙ ap (λ (x : List StoredCommand). take at commands ++ x) (drop_more commands at command within ∙ ap (λ (x : StoredCommand). x ∷ drop (at + 1) commands) (sym is)) in
    let taken = length-take-le at commands (omega arith) in
    let mapped = length-map (take at commands) stored_of in
    record {
      before = commands_of (take at commands);
      command = stored_of command;
      after = commands_of (drop (at + 1) commands);
      whole = ap commands_of split ∙ map-append stored_of (take at commands) (command ∷ drop (at + 1) commands);
      place = omega (arith, taken, mapped);
      lacks = lacks;
    }
