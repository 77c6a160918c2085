-- A store, its file and what a crash leaves.
use Rattle.std.proofs.Common.{◌≡◌, ◌⊎◌, ℕ, Bool, IsTrue, List, [], ◌∷◌, ◌++◌, Result, Ok, sym, refl, ap, subst, ◌∙◌, inl, inr, ⊎_elim}
use Rattle.std.proofs.lemmas.List.{map_push}
use Rattle.std.specs.List.{AllByRecursion}
use Rattle.std.specs.Result.{result_unwrap_or}
use Rattle.line_journal.proofs.Steps.{at_rest-lines}
use Rattle.line_journal.specs.Journal.{IsAtRest, IsBeforeOrAfter}
use Rattle.line_journal.specs.declared.error.Damage.{Damage}
use Rattle.line_journal.specs.Lines.{Line, lines_in}
use Rattle.line_journal.specs.declared.journal.Journal.{Journal}
use Rattle.registry_store.proofs.Bodies.{line_injective}
use Rattle.registry_store.specs.Line.{line_of}
use Rattle.registry_store.specs.Store.{HasCommands, Keeps, Leaves, LeavesOneOf, lines_for}
use Rattle.registry_store.specs.Stored.{MayBeStored, Stored}
use Rattle.registry_store.specs.declared.store.CommandStore.{CommandStore}

-- ---- lists of commands

pub may_push : (commands : List Stored) (command : Stored) → AllByRecursion MayBeStored commands → MayBeStored command → AllByRecursion MayBeStored (commands ++ command ∷ [])
may_push [] command all may = (may, tt)
may_push (k ∷ ks) command all may = (all.0, may_push ks command all.1 may)

pub may_front : (commands : List Stored) (command : Stored) → AllByRecursion MayBeStored (commands ++ command ∷ []) → AllByRecursion MayBeStored commands × MayBeStored command
may_front [] command all = (tt, all.0)
may_front (k ∷ ks) command all = let rest = may_front ks command all.1 in ((all.0, rest.0), rest.1)

-- two lists of commands with the same lines are one
pub lines_injective : (ks ls : List Stored) → AllByRecursion MayBeStored ks → AllByRecursion MayBeStored ls → lines_for ks ≡ lines_for ls → ks ≡ ls
lines_injective [] [] may_k may_l e = refl
lines_injective [] (l ∷ ls) may_k may_l e = cc e
lines_injective (k ∷ ks) [] may_k may_l e = cc e
lines_injective (k ∷ ks) (l ∷ ls) may_k may_l e =
    let same_line : line_of k ≡ line_of l = cc in
    let same_lines : lines_for ks ≡ lines_for ls = cc in
    let first : k ≡ l = line_injective k l may_k.0 may_l.0 same_line in
    let rest : ks ≡ ls = lines_injective ks ls may_k.1 may_l.1 same_lines in
    cc

ok_same : (read : Result (List Line) Damage) (xs ys : List Line) → read ≡ Ok xs → read ≡ Ok ys → xs ≡ ys
ok_same read xs ys a b = ap (λ (r : Result (List Line) Damage). result_unwrap_or r []) (sym a ∙ b)

module _ {D : Type 0} (seen : D → List ℕ) (may_leave : D → List ℕ → Type 0) (is_clean : D → Bool) where
  -- a file at rest has the commands that are kept
  pub kept_file : (store : CommandStore D) (commands : List Stored) → Keeps seen may_leave is_clean store commands → IsTrue (is_clean store.journal.disk) → (file : List ℕ) → may_leave store.journal.disk file → HasCommands file commands
  kept_file store commands keeps clean file left =
      let rests = keeps.at_rest clean in
      record { may = keeps.may; lines = at_rest-lines (lines_for commands) file rests.are_lines (rests.durable file left ∙ rests.file) }

  -- a crash of a journal at rest leaves its lines
  pub at_rest_left : (journal : Journal D) (lines : List Line) → IsAtRest seen may_leave journal lines → (file : List ℕ) → may_leave journal.disk file → lines_in file ≡ Ok lines
  at_rest_left journal lines rests file left = at_rest-lines lines file rests.are_lines (rests.durable file left ∙ rests.file)

  -- a file has the commands of one list
  pub one_list : (file : List ℕ) (ks ls : List Stored) → HasCommands file ks → HasCommands file ls → ls ≡ ks
  one_list file ks ls has_k has_l = lines_injective ls ks has_l.may has_k.may (ok_same (lines_in file) (lines_for ls) (lines_for ks) has_l.lines has_k.lines)

  -- a crash leaves just what is kept
  pub only_these : (store : CommandStore D) (commands left : List Stored) → Keeps seen may_leave is_clean store commands → Leaves may_leave is_clean store left → left ≡ commands
  only_these store commands left keeps leaves =
      one_list leaves.file commands left (kept_file store commands keeps leaves.clean leaves.file leaves.left) leaves.has

  -- what a crash leaves, by the files that it may leave
  pub left_from_files : (store : CommandStore D) (commands left : List Stored) (command : Stored) → LeavesOneOf may_leave is_clean store commands command → Leaves may_leave is_clean store left → (left ≡ commands) ⊎ (left ≡ commands ++ command ∷ [])
  left_from_files store commands left command files leaves =
      ⊎_elim
      (λ has. inl (one_list leaves.file commands left has leaves.has))
      (λ has. inr (one_list leaves.file (commands ++ command ∷ []) left has leaves.has))
      (files leaves.clean leaves.file leaves.left)

  -- a store that did not change leaves the commands without one more
  pub unchanged_files : (store : CommandStore D) (commands : List Stored) (command : Stored) → Keeps seen may_leave is_clean store commands → LeavesOneOf may_leave is_clean store commands command
  unchanged_files store commands command keeps clean file left = inl (kept_file store commands keeps clean file left)

  module _ (old new : CommandStore D) (same_clean : is_clean new.journal.disk ≡ is_clean old.journal.disk) where
    was_clean : IsTrue (is_clean new.journal.disk) → IsTrue (is_clean old.journal.disk)
    was_clean clean = subst IsTrue same_clean clean

    -- the journal kept one more line
    pub keeps_next : (line : Line) (command : Stored) → MayBeStored command → line ≡ line_of command
        → ((lines : List Line) → IsAtRest seen may_leave old.journal lines → IsAtRest seen may_leave new.journal (lines ++ line ∷ []))
        → (commands : List Stored) → Keeps seen may_leave is_clean old commands → Keeps seen may_leave is_clean new (commands ++ command ∷ [])
    keeps_next line command may is kept commands keeps = record {
      may = may_push commands command keeps.may may;
      at_rest = λ clean. subst (λ (lines : List Line). IsAtRest seen may_leave new.journal lines)
          (ap (λ (l : Line). lines_for commands ++ l ∷ []) is ∙ sym (map_push line_of commands command))
          (kept (lines_for commands) (keeps.at_rest (was_clean clean)));
    }

    -- the journal kept the same lines
    pub keeps_same : ((lines : List Line) → IsAtRest seen may_leave old.journal lines → IsAtRest seen may_leave new.journal lines)
        → (commands : List Stored) → Keeps seen may_leave is_clean old commands → Keeps seen may_leave is_clean new commands
    keeps_same kept commands keeps = record { may = keeps.may; at_rest = λ clean. kept (lines_for commands) (keeps.at_rest (was_clean clean)) }

    -- a crash leaves the lines from before, or one more
    pub files_next : (line : Line) (command : Stored) → MayBeStored command → line ≡ line_of command
        → ((lines : List Line) → IsAtRest seen may_leave old.journal lines → (c : List ℕ) → may_leave new.journal.disk c → IsBeforeOrAfter lines line c)
        → (commands : List Stored) → Keeps seen may_leave is_clean old commands → LeavesOneOf may_leave is_clean new commands command
    files_next line command may is crash commands keeps clean file left =
        ⊎_elim
        (λ before. inl (record { may = keeps.may; lines = before }))
        (λ after. inr (record { may = may_push commands command keeps.may may; lines = after ∙ ap (λ (l : Line). Ok (lines_for commands ++ l ∷ [])) is ∙ ap Ok (sym (map_push line_of commands command)) }))
        (crash (lines_for commands) (keeps.at_rest (was_clean clean)) file left)

    -- a journal that leaves no more than before
    pub leaves_before : ((c : List ℕ) → may_leave new.journal.disk c → may_leave old.journal.disk c)
        → (left : List Stored) → Leaves may_leave is_clean new left → Leaves may_leave is_clean old left
    leaves_before less left leaves = record { clean = was_clean leaves.clean; file = leaves.file; left = less leaves.file leaves.left; has = leaves.has }

    lines_with : (commands : List Stored) (command : Stored) → Keeps seen may_leave is_clean old (commands ++ command ∷ []) → IsTrue (is_clean new.journal.disk)
        → IsAtRest seen may_leave old.journal (lines_for commands ++ line_of command ∷ [])
    lines_with commands command keeps clean =
        subst (λ (lines : List Line). IsAtRest seen may_leave old.journal lines) (map_push line_of commands command) (keeps.at_rest (was_clean clean))

    -- the journal took its last line back
    keeps_front : ((lines : List Line) (line : Line) → IsAtRest seen may_leave old.journal (lines ++ line ∷ []) → IsAtRest seen may_leave new.journal lines)
        → (commands : List Stored) (command : Stored) → Keeps seen may_leave is_clean old (commands ++ command ∷ []) → Keeps seen may_leave is_clean new commands
    keeps_front taken commands command keeps = record {
      may = (may_front commands command keeps.may).0;
      at_rest = λ clean. taken (lines_for commands) (line_of command) (lines_with commands command keeps clean);
    }

    -- a crash leaves the lines with the last one, or without it
    pub files_front : ((lines : List Line) (line : Line) → IsAtRest seen may_leave old.journal (lines ++ line ∷ []) → (c : List ℕ) → may_leave new.journal.disk c → IsBeforeOrAfter lines line c)
        → (commands : List Stored) (command : Stored) → Keeps seen may_leave is_clean old (commands ++ command ∷ []) → LeavesOneOf may_leave is_clean new commands command
    files_front crash commands command keeps clean file left =
        ⊎_elim
        (λ before. inl (record { may = (may_front commands command keeps.may).0; lines = before }))
        (λ after. inr (record { may = keeps.may; lines = after ∙ ap Ok (sym (map_push line_of commands command)) }))
        (crash (lines_for commands) (line_of command) (lines_with commands command keeps clean) file left)

  -- a store whose journal took its last line back, from what the store kept
  pub keeps_less : (old : CommandStore D) (commands : List Stored) (command : Stored) → Keeps seen may_leave is_clean old (commands ++ command ∷ [])
      → (new : CommandStore D) → is_clean new.journal.disk ≡ is_clean old.journal.disk
      → ((lines : List Line) (line : Line) → IsAtRest seen may_leave old.journal (lines ++ line ∷ []) → IsAtRest seen may_leave new.journal lines)
      → Keeps seen may_leave is_clean new commands
  keeps_less old commands command keeps new same taken = keeps_front old new same taken commands command keeps
