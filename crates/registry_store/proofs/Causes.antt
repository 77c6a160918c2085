-- Why a store refuses, from why its journal does.
use Rattle.std.proofs.Common.{◌≡◌, ◌≢◌, ◌∙◌, ◌+◌, ◌<◌, ℕ, Bool, List, [], ◌∷◌, ◌++◌, Vec, length, take, drop, take-append-drop, get_or, sym, ap, subst, refl, arith}
use Rattle.std.proofs.lemmas.List.{drop_more, length-map, length-take-le, map-append, map_more, map_push}
use Rattle.std.specs.Global.{Global}
use Rattle.std.specs.List.{AllByRecursion}
use Rattle.line_journal.specs.Cause.{HasCause as JournalCause}
use Rattle.line_journal.specs.Lines.{Line, lines_of}
use Rattle.line_journal.specs.declared.error.AppendError.{AppendError}
use Rattle.line_journal.specs.declared.error.AppendError.TheVariants as appends
use Rattle.line_journal.specs.declared.layout.TheConstants.{LONGEST}
use Rattle.registry_store.specs.Cause.{HasCause, HasReadCause, IsBadLine, IsRefused, SaysSame, bad_line}
use Rattle.registry_store.specs.Line.{HasCheck, line_of}
use Rattle.registry_store.specs.Reading.{IsNoCommand}
use Rattle.registry_store.specs.Store.{commands_of, lines_for}
use Rattle.registry_store.proofs.Stores.{may_push}
use Rattle.registry_store.specs.Stored.{MayBeStored, Stored, stored_of}
use Rattle.registry_store.specs.declared.fault.LineFault.{LineFault}
use Rattle.registry_store.specs.declared.fault.LineFault.TheVariants as faults_of_line
use Rattle.registry_store.specs.declared.stored.StoredCommand.{StoredCommand}
use Rattle.registry_store.specs.declared.store.CommandStore.{CommandStore}
use Rattle.registry_store.specs.declared.store_fault.StoreFault.{StoreFault}

pub cause_from : {D : Type 0} (is_usable is_mixing : D → Bool) (faults : D → ℕ) (old new : CommandStore D) (line : Line) (command : Stored) (error : AppendError) (fault : StoreFault)
    → line ≡ line_of command → SaysSame error fault → JournalCause is_usable is_mixing faults old.journal new.journal line error → HasCause is_usable is_mixing faults old new command fault
cause_from is_usable is_mixing faults old new line command appends.NoMemory fault is same cause = subst (HasCause is_usable is_mixing faults old new command) (sym same) tt
cause_from is_usable is_mixing faults old new line command appends.Closed fault is same cause = subst (HasCause is_usable is_mixing faults old new command) (sym same) cause
cause_from is_usable is_mixing faults old new line command appends.TooLong fault is same cause = subst (HasCause is_usable is_mixing faults old new command) (sym same) (subst (λ (l : Line). LONGEST < length l) is cause)
cause_from is_usable is_mixing faults old new line command appends.HasNewline fault is same cause = absurd same
cause_from is_usable is_mixing faults old new line command (appends.Failed error) fault is same cause = subst (HasCause is_usable is_mixing faults old new command) (sym same) cause

refused_from : (bytes : Line) (fault : LineFault) → (fault ≡ faults_of_line.BadCheck → ¬ (HasCheck bytes)) → (fault ≡ faults_of_line.BadLine → HasCheck bytes × IsNoCommand bytes) → fault ≢ faults_of_line.NoMemory → IsRefused bytes fault
refused_from bytes faults_of_line.NoMemory check line memory = memory refl
refused_from bytes faults_of_line.BadCheck check line memory = check refl
refused_from bytes faults_of_line.BadLine check line memory = line refl

-- the line at this place, from 0, is refused
bad_at : (vs : List (Vec ℕ Global)) (at : ℕ) (v : Vec ℕ Global) (fault : LineFault) → at < length vs → v ≡ get_or vs at v → IsRefused v.items fault → IsBadLine (lines_of vs) (at + 1) fault
bad_at vs at v fault within is refused =
    let split : vs ≡ take at vs ++ v ∷ drop (at + 1) vs =
    sym (take-append-drop at vs) ∙ ap (λ (x : List (Vec ℕ Global)). take at vs ++ x) (drop_more vs at v within ∙ ap (λ (x : Vec ℕ Global). x ∷ drop (at + 1) vs) (sym is)) in
    let taken = length-take-le at vs (omega arith) in
    let mapped = length-map (take at vs) (λ (x : Vec ℕ Global). x.items) in
    record {
      before = lines_of (take at vs);
      bytes = v.items;
      after = lines_of (drop (at + 1) vs);
      whole = ap lines_of split ∙ map-append (λ (x : Vec ℕ Global). x.items) (take at vs) (v ∷ drop (at + 1) vs);
      place = omega (arith, taken, mapped);
      refused = refused;
    }

pub read_cause : (vs : List (Vec ℕ Global)) (at : ℕ) (v : Vec ℕ Global) (bytes : Line) (fault : LineFault) → at < length vs → v ≡ get_or vs at v → bytes ≡ v.items
    → (fault ≡ faults_of_line.BadCheck → ¬ (HasCheck bytes)) → (fault ≡ faults_of_line.BadLine → HasCheck bytes × IsNoCommand bytes) → HasReadCause (lines_of vs) (bad_line (at + 1) fault)
read_cause vs at v bytes faults_of_line.NoMemory within is same check line = tt
read_cause vs at v bytes faults_of_line.BadCheck within is same check line = bad_at vs at v faults_of_line.BadCheck within is (subst (λ (b : Line). IsRefused b faults_of_line.BadCheck) same (check refl))
read_cause vs at v bytes faults_of_line.BadLine within is same check line = bad_at vs at v faults_of_line.BadLine within is (subst (λ (b : Line). IsRefused b faults_of_line.BadLine) same (line refl))

-- one more line is read
pub lines_more : (vs : List (Vec ℕ Global)) (at : ℕ) (v : Vec ℕ Global) (bytes : Line) (commands : List StoredCommand) (command : StoredCommand) → at < length vs → v ≡ get_or vs at v → bytes ≡ v.items → bytes ≡ line_of (stored_of command)
    → lines_of (take at vs) ≡ lines_for (commands_of commands) → lines_of (take (at + 1) vs) ≡ lines_for (commands_of (commands ++ command ∷ []))
lines_more vs at v bytes commands command within is same read front =
    let more = map_more (λ (x : Vec ℕ Global). x.items) vs at v within in
    let last : (get_or vs at v).items ≡ line_of (stored_of command) = ap (λ (x : Vec ℕ Global). x.items) (sym is) ∙ sym same ∙ read in
    more ∙ ap (λ (x : List Line). x ++ (get_or vs at v).items ∷ []) front ∙ ap (λ (x : Line). lines_for (commands_of commands) ++ x ∷ []) last
    ∙ sym (ap lines_for (map_push stored_of commands command) ∙ map_push line_of (commands_of commands) (stored_of command))

-- one more command may be stored
pub may_more : (commands : List StoredCommand) (command : StoredCommand) → AllByRecursion MayBeStored (commands_of commands) → MayBeStored (stored_of command) → AllByRecursion MayBeStored (commands_of (commands ++ command ∷ []))
may_more commands command all may = subst (AllByRecursion MayBeStored) (sym (map_push stored_of commands command)) (may_push (commands_of commands) (stored_of command) all may)
