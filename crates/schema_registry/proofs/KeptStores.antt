-- What a store of commands keeps of a registry, and what a crash leaves of it.
use Rattle.std.proofs.Common.{◌≡◌, ◌⊎◌, inl, inr, ℕ, Bool, IsTrue, List, [], ◌∷◌, ◌++◌, map, Result, Ok, Err, IfOk, IfErr, sym, ◌∙◌, subst}
use Rattle.std.specs.List.{AllByRecursion}
use Rattle.std.proofs.lemmas.List.{map-append}
use Rattle.line_journal.specs.Lines.{Line, lines_in}
use Rattle.line_journal.specs.declared.error.Damage.{Damage}
use Rattle.registry_store.specs.Cause.{HasOpenCause, IsBadLine, IsRefused}
use Rattle.registry_store.specs.Line.{body_of, line_of}
use Rattle.registry_store.specs.Store.{HasCommands, LeavesNoMore, LeavesOneOf, is_open, lines_for}
use Rattle.registry_store.specs.Stored.{MayBeStored, Stored}
use Rattle.registry_store.specs.declared.fault.LineFault.{LineFault}
use Rattle.registry_store.specs.declared.fault.LineFault.TheVariants as lines
use Rattle.registry_store.specs.declared.store.CommandStore.{CommandStore}
use Rattle.registry_store.specs.declared.store_fault.OpenFault.{OpenFault}
use Rattle.registry_store.specs.declared.store_fault.OpenFault.TheVariants as opening
use Rattle.schema_registry.specs.declared.kept_registry.opening.StartFault.{StartFault}
use Rattle.schema_registry.specs.declared.kept_registry.opening.StartFault.TheVariants.{File}
use Rattle.schema_registry.specs.declared.kept_registry.opening.Started.{Started}
use Rattle.spec_registry.specs.Answers.{AreAccepted, one_more}
use Rattle.spec_registry.specs.Command.{Command}
use Rattle.schema_registry.specs.Keeping.{IsKept, IsLeft, KeptCommand, kept_in}
use Rattle.spec_registry.specs.Lists.{no_lists}
use Rattle.schema_registry.specs.Replaying.{stored_as, stored_in}
use Rattle.spec_registry.specs.Storing.{IsFoundAfter}
use Rattle.schema_registry.specs.Storing.{IsOfFile, IsOfNoRegistry, KeepsStored, LeavesStored, Spoils}
use Rattle.schema_registry.proofs.Replayed.{kept-more}
use Rattle.schema_registry.proofs.Replays.{kept-are}
use Rattle.schema_registry.proofs.Restarts.{same_kept}

pub stored-more : (ks : List KeptCommand) (k : KeptCommand) → map stored_as (ks ++ k ∷ []) ≡ map stored_as ks ++ stored_as k ∷ []
stored-more ks k = map-append stored_as ks (k ∷ [])

pub left-one : (ks left : List KeptCommand) (k : KeptCommand) → (map stored_as left ≡ map stored_as ks) ⊎ (map stored_as left ≡ map stored_as ks ++ stored_as k ∷ [])
    → (left ≡ ks) ⊎ (left ≡ ks ++ k ∷ [])
left-one ks left k (inl same) = inl (kept-are left ks same)
left-one ks left k (inr more) = inr (kept-are left (ks ++ k ∷ []) (more ∙ sym (stored-more ks k)))

module _ {D : Type 0} (may_leave : D → List ℕ → Type 0) (is_clean : D → Bool) where
  pub not-spoilt : (store : CommandStore D) (ks : List KeptCommand) (k : KeptCommand) → LeavesOneOf may_leave is_clean store (map stored_as ks) (stored_as k)
      → Spoils may_leave is_clean store → ⊥
  not-spoilt store ks k one spoilt = elim (one spoilt.clean spoilt.file spoilt.left) [
    | inl has ↦ spoilt.none ks has
    | inr has ↦ spoilt.none (ks ++ k ∷ []) (subst (HasCommands spoilt.file) (sym (stored-more ks k)) has)
  ]

  pub spoilt-before : (old new : CommandStore D) → LeavesNoMore may_leave is_clean old new → Spoils may_leave is_clean new → Spoils may_leave is_clean old
  spoilt-before old new no_more spoilt = record { clean = no_more.0 spoilt.clean; file = spoilt.file; left = no_more.1 spoilt.file spoilt.left; none = spoilt.none }

-- ---- a file that is not opened is that of no registry

ok-same : (read : Result (List Line) Damage) (xs ys : List Line) → read ≡ Ok xs → read ≡ Ok ys → xs ≡ ys
ok-same read xs ys a b = let e : Read (Ok xs) (Ok ys) = sym a ∙ b in cc
  where
    Read : Result (List Line) Damage → Result (List Line) Damage → Type 0
    Read one other = one ≡ other

-- each line of a file of commands is that of one of them
line-in : (cs : List Stored) → AllByRecursion MayBeStored cs → (before : List Line) (bytes : Line) (after : List Line) → lines_for cs ≡ before ++ bytes ∷ after
    → (s : Stored) × MayBeStored s × (bytes ≡ line_of s)
line-in [] may [] bytes after same = let never : ⊥ = cc in absurd never
line-in [] may (b ∷ before) bytes after same = let never : ⊥ = cc in absurd never
line-in (c ∷ cs) may [] bytes after same = let is : bytes ≡ line_of c = cc in (c, may.0, is)
line-in (c ∷ cs) may (b ∷ before) bytes after same = let others : lines_for cs ≡ before ++ bytes ∷ after = cc in line-in cs may.1 before bytes after others

not-refused : (s : Stored) (bytes : Line) (fault : LineFault) → MayBeStored s → bytes ≡ line_of s → IsRefused bytes fault → ⊥
not-refused s bytes lines.NoMemory may is refused = refused
not-refused s bytes lines.BadCheck may is refused = refused (body_of s, is)
not-refused s bytes lines.BadLine may is refused = refused.1 s may is

no-bad-line : (cs : List Stored) → AllByRecursion MayBeStored cs → (number : ℕ) (fault : LineFault) → IsBadLine (lines_for cs) number fault → ⊥
no-bad-line cs may number fault bad =
    let it = line-in cs may bad.before bad.bytes bad.after bad.whole in
    not-refused it.0 bad.bytes fault it.1 it.2 bad.refused

module _ {D : Type 0} (seen : D → List ℕ) (is_clean is_mixing : D → Bool) (faults : D → ℕ) (old new : D) where
  pub no-registry : (fault : OpenFault) → HasOpenCause seen is_clean is_mixing faults old new fault → IsOfFile (File fault) → IsTrue (is_clean new) → IsOfNoRegistry (seen old)
  no-registry opening.NoMemory why of_file clean = absurd of_file
  no-registry (opening.Failed error) why of_file clean = absurd of_file
  no-registry (opening.Damaged damage) why of_file clean = λ commands accepted has.
      let e : Read (Ok (lines_for (stored_in commands))) (Err damage) = sym has.lines ∙ why clean in cc
    where
      Read : Result (List Line) Damage → Result (List Line) Damage → Type 0
      Read one other = one ≡ other
  no-registry (opening.BadLine number fault) why of_file clean = λ commands accepted has.
      let found = why clean in
      let same = ok-same (lines_in (seen old)) found.0 (lines_for (stored_in commands)) found.1 has.lines in
      no-bad-line (stored_in commands) has.may number fault (subst (λ (ls : List Line). IsBadLine ls number fault) same found.2)

-- ---- what a start finds

pub found-after : (commands found : List Command) → IsLeft commands (kept_in found) → IsFoundAfter commands found
found-after commands found (inl same) = inl (same_kept commands found same)
found-after commands found (inr (c, reply, accepted, is)) =
    inr (c, reply, accepted, same_kept (commands ++ c ∷ []) found (is ∙ sym (kept-more no_lists commands c)))

module _ {D : Type 0} (seen : D → List ℕ) (may_leave : D → List ℕ → Type 0) (is_clean : D → Bool) (keeper : CommandStore D) (commands : List Command)
    (kept : IsKept (KeepsStored seen may_leave is_clean) (LeavesStored may_leave is_clean) (Spoils may_leave is_clean) is_open keeper commands)
    (file : List ℕ) (left : may_leave keeper.journal.disk file) where
  -- the commands of the registry that starts are those, or with one more
  found-in : IsTrue (is_clean keeper.journal.disk) → (found : List Command) → HasCommands file (stored_in found) → IsFoundAfter commands found
  found-in clean found has = found-after commands found (kept.crash (kept_in found) (record { clean = clean; file = file; left = left; has = has }))

  pub after-crash : (crashed : D) → (IsTrue (is_clean crashed) → IsTrue (is_clean keeper.journal.disk)) → (r : Result (Started D) (StartFault × D))
      → IfOk r (λ started. IsTrue (is_clean started.store.journal.disk) → HasCommands file (stored_in started.registry))
      → IfOk r (λ started. IsTrue (is_clean started.store.journal.disk) → IsTrue (is_clean crashed))
      → IfOk r (λ started. IsTrue (is_clean started.store.journal.disk) → IsFoundAfter commands started.registry)
  after-crash crashed before (Ok started) has clean = λ is. found-in (before (clean is)) started.registry (has is)
  after-crash crashed before (Err e) has clean = tt

  -- the file is that of accepted commands
  whole-file : IsTrue (is_clean keeper.journal.disk) → AreAccepted commands → IsOfNoRegistry file → ⊥
  whole-file clean accepted none = kept.readable (record { clean = clean; file = file; left = left; none = λ ks has. of ks has (kept.crash ks (record { clean = clean; file = file; left = left; has = has })) })
    where
      of : (ks : List KeptCommand) → HasCommands file (map stored_as ks) → IsLeft commands ks → ⊥
      of ks has (inl same) = none commands accepted (subst (λ (js : List KeptCommand). HasCommands file (map stored_as js)) same has)
      of ks has (inr (c, reply, answer, is)) =
          none (commands ++ c ∷ []) (one_more commands c reply accepted answer)
          (subst (λ (js : List KeptCommand). HasCommands file (map stored_as js)) (is ∙ sym (kept-more no_lists commands c)) has)

  pub no-fault-named : (crashed : D) → (IsTrue (is_clean crashed) → IsTrue (is_clean keeper.journal.disk)) → AreAccepted commands → (r : Result (Started D) (StartFault × D))
      → IfErr r (λ e. IsOfFile e.0 → IsTrue (is_clean e.1) → IsOfNoRegistry file) → IfErr r (λ e. IsTrue (is_clean e.1) → IsTrue (is_clean crashed))
      → IfErr r (λ e. IsTrue (is_clean e.1) → ¬ (IsOfFile e.0))
  no-fault-named crashed before accepted (Ok started) why clean = tt
  no-fault-named crashed before accepted (Err e) why clean = λ is of_file. whole-file (before (clean is)) accepted (why of_file is)
