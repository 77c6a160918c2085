-- What a start finds after a crash.
use Rattle.std.proofs.Common.{◌≡◌, ◌⊎◌, ◌++◌, [], ◌∷◌, inl, inr, ℕ, Bool, IsTrue, List, Result, Ok, Err, IfOk, OnOk, ⊎_elim}
use Rattle.registry_store.proofs.Stores.{kept_file, one_list}
use Rattle.registry_store.specs.Store.{HasCommands, Keeps, LeavesOneOf}
use Rattle.registry_store.specs.Stored.{Stored}
use Rattle.registry_store.specs.declared.store.CommandStore.{CommandStore}
use Rattle.registry_store.specs.Schemas.{registrations}
use Rattle.registry_store.specs.declared.upstream_fault.UpstreamStoreFault.{UpstreamStoreFault}
use Rattle.registry_store.specs.declared.upstream_opening.UpstreamStore.{UpstreamStore}
use Rattle.registry_store.specs.Laws.Plain.{on-ok}

-- a store, and the disk that its crash left
module _ {D : Type 0} (seen : D → List ℕ) (may_leave : D → List ℕ → Type 0) (is_clean : D → Bool) (url : List ℕ)
    (store : CommandStore D) (crashed : D) (before : IsTrue (is_clean crashed) → IsTrue (is_clean store.journal.disk))
    (left : may_leave store.journal.disk (seen crashed)) (commands : List Stored) where
  -- the start finds what the store has
  pub found-kept : (r : Result (UpstreamStore D) (UpstreamStoreFault × D))
      → IfOk r (λ u. IsTrue (is_clean u.store.journal.disk) → HasCommands (seen crashed) (registrations url u.schemas.items))
      → IfOk r (λ u. IsTrue (is_clean u.store.journal.disk) → IsTrue (is_clean crashed))
      → Keeps seen may_leave is_clean store commands
      → IfOk r (λ u. IsTrue (is_clean u.store.journal.disk) → registrations url u.schemas.items ≡ commands)
  found-kept (Ok u) has clean keeps = λ is.
      one_list seen may_leave is_clean (seen crashed) commands (registrations url u.schemas.items)
      (kept_file seen may_leave is_clean store commands keeps (before (clean is)) (seen crashed) left) (has is)
  found-kept (Err e) has clean keeps = tt

  -- the start finds what the store had, or one command more
  pub found-one : (command : Stored) → LeavesOneOf may_leave is_clean store commands command → (r : Result (UpstreamStore D) (UpstreamStoreFault × D))
      → IfOk r (λ u. IsTrue (is_clean u.store.journal.disk) → HasCommands (seen crashed) (registrations url u.schemas.items))
      → IfOk r (λ u. IsTrue (is_clean u.store.journal.disk) → IsTrue (is_clean crashed))
      → IfOk r (λ u. IsTrue (is_clean u.store.journal.disk)
      → (registrations url u.schemas.items ≡ commands) ⊎ (registrations url u.schemas.items ≡ commands ++ command ∷ []))
  found-one command files (Ok u) has clean = λ is.
      ⊎_elim
      (λ old. inl (one_list seen may_leave is_clean (seen crashed) commands (registrations url u.schemas.items) old (has is)))
      (λ new. inr (one_list seen may_leave is_clean (seen crashed) (commands ++ command ∷ []) (registrations url u.schemas.items) new (has is)))
      (files (before (clean is)) (seen crashed) left)
  found-one command files (Err e) has clean = tt
