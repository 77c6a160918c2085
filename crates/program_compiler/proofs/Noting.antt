-- Misses of a pair of enums that was noted before: none is new, and those that are there stay.
use Rattle.std.proofs.Common.{◌≡◌, ℕ, Bool, true, false, cond, List, [], ◌∷◌, ◌++◌, refl, sym, ap, ◌∙◌, subst}
use Rattle.std.specs.Prelude.{not, if◌then◌else◌}
use Rattle.std.specs.List.{AllByRecursion}
use Rattle.std.specs.BTreeSet.{BTreeSet, contains}
use Rattle.std.specs.Ordering.{is_eq}
use Rattle.spec_avro.specs.declared.mismatch.Mismatch.{Mismatch}
use Rattle.spec_avro.specs.Node.{Node}
use Rattle.spec_machine.specs.Numbering.{adding, has, lacked, same_miss}
use Rattle.program_definition.proofs.Numbers.{added, all_more, miss_refl}
use Rattle.program_ir.specs.Statements.{targets_of}
use Rattle.program_ir.specs.Sections.{pair_cmp}
use Rattle.program_compiler.specs.Tables.{AreNoted}
use Rattle.program_compiler.proofs.Sharing.{pair_is}

pub was_there : (added had : Bool) → added ≡ not had → added ≡ false → had ≡ true
was_there added true e h = refl
was_there added false e h = sym h ∙ e

abbrev AllIn : List Mismatch → List Mismatch → Type 0
AllIn wanted ms = AllByRecursion (λ m. has same_miss m ms ≡ true) wanted

none_added : (wanted ms : List Mismatch) → AllIn wanted ms → ms ≡ adding same_miss ms wanted
none_added [] ms h = refl
none_added (m ∷ wanted) ms h = none_added wanted ms h.1 ∙ ap (λ b. if b then adding same_miss ms wanted else adding same_miss (ms ++ m ∷ []) wanted) (sym h.0)

all_stay : (wanted ms others : List Mismatch) → AllIn wanted ms → AllIn wanted (adding same_miss ms others)
all_stay wanted ms others h =
    let more = added same_miss miss_refl others ms in
    subst (λ l. AllIn wanted l) (sym more.0.1) (all_more same_miss miss_refl wanted ms more.0.0 h)

module _ (W R : List Node) where
  abbrev lacked_of : ℕ × ℕ → List Mismatch
  lacked_of pair = lacked (targets_of W R pair.0 pair.1)

  -- others come, and what is there stays
  pub noted_still : (pairs : BTreeSet (ℕ × ℕ)) (ms more others : List Mismatch) → AreNoted W R pairs ms → more ≡ adding same_miss ms others → AreNoted W R pairs more
  noted_still pairs ms more others noted h pair there = subst (λ l. AllIn (lacked_of pair) l) (sym h) (all_stay (lacked_of pair) ms others (noted pair there))

  -- a pair that was there adds none
  pub noted_before : (pairs : BTreeSet (ℕ × ℕ)) (ms : List Mismatch) (w r : ℕ) → AreNoted W R pairs ms → contains pair_cmp pairs (w, r) ≡ true → ms ≡ adding same_miss ms (lacked (targets_of W R w r))
  noted_before pairs ms w r noted there = none_added (lacked_of (w, r)) ms (noted (w, r) there)

  -- a pair that was not there, and its misses
  pub noted_on : (pairs further : BTreeSet (ℕ × ℕ)) (ms more : List Mismatch) (key : ℕ × ℕ) → AreNoted W R pairs ms → more ≡ adding same_miss ms (lacked (targets_of W R key.0 key.1))
      → ((pair : ℕ × ℕ) → contains pair_cmp further pair ≡ cond (is_eq (pair_cmp key pair)) true (contains pair_cmp pairs pair)) → AreNoted W R further more
  noted_on pairs further ms more key noted h updates pair there = at (is_eq (pair_cmp key pair)) refl (sym (updates pair) ∙ there)
    where
      at : (b : Bool) → is_eq (pair_cmp key pair) ≡ b → cond b true (contains pair_cmp pairs pair) ≡ true → AllIn (lacked_of pair) more
      at true is e = subst (λ l. AllIn (lacked_of pair) l) (sym h) (subst (λ p. AllIn (lacked_of p) (adding same_miss ms (lacked_of key))) (sym (pair_is key pair is)) (added same_miss miss_refl (lacked_of key) ms).1)
      at false is e = noted_still pairs ms more (lacked_of key) noted h pair e
